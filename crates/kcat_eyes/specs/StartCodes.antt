-- The codes that hold at the start, as far as worked lines need them.
use Rattle.std.specs.Prelude.{ℕ, ◌==◌, ◌&&◌, nat_le, if◌then◌else◌}
use Rattle.jis_codes.specs.Kuten.{Kuten}

abbrev pub start_cat : ℕ → ℕ
start_cat c =
    if c == 92 then 0 else (if c == 123 then 1 else (if c == 125 then 2 else (if c == 13 then 5 else (if c == 0 then 9 else (if c == 32 then 10
    else (if nat_le 97 c && nat_le c 122 then 11 else (if c == 126 then 13 else (if c == 37 then 14 else (if c == 127 then 15 else 12)))))))))

abbrev pub start_kcat : Kuten → ℕ
start_kcat k = if nat_le 3 k.row && nat_le k.row 6 then 17 else (if nat_le 16 k.row && nat_le k.row 84 then 16 else 18)
