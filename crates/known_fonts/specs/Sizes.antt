-- The size of a font (The TeXbook, chapter 4; TeX: The Program, sections 1258 and 1259).
use Rattle.std.specs.Prelude.{ℕ, ◌*◌, ◌/◌, ℤ, pos, negsuc, nat_le, nat_lt, ◌&&◌, if◌then◌else◌, Result, Ok, Err}
use Rattle.control_faults.specs.declared.kind.FaultKind.{FaultKind}
use Rattle.control_faults.specs.declared.kind.FaultKind.TheVariants.{FontSize}
use Rattle.known_fonts.specs.declared.sizes.Sizing.{Sizing}
use Rattle.known_fonts.specs.declared.sizes.Sizing.TheVariants.{Design, At, Scaled}

-- from 1 to 2^23 - 1 scaled points
abbrev pub whole_size : ℤ → Result ℕ FaultKind
whole_size (pos z) = if nat_le 1 z && nat_lt z 8388608 then Ok z else Err FontSize
whole_size (negsuc z) = Err FontSize

-- so many thousandths of the design size, rounded down, from 1 to 32768
abbrev pub scaled_size : ℕ → ℤ → Result ℕ FaultKind
scaled_size design (pos n) = if nat_le 1 n && nat_le n 32768 then whole_size (pos (design * n / 1000)) else Err FontSize
scaled_size design (negsuc n) = Err FontSize

-- the size of a font of this design size
abbrev pub font_size : ℕ → Sizing → Result ℕ FaultKind
font_size design Design = whole_size (pos design)
font_size design (At d) = whole_size d.0
font_size design (Scaled n) = scaled_size design n
