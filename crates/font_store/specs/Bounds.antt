-- How many fonts there are, and how large.
use Rattle.std.specs.Prelude.{ℕ, ◌≤◌, Bool, List, length, nat_lt, IsTrue}
use Rattle.std.specs.List.{list_all}
use Rattle.font_store.specs.declared.fonts.Font.{Font}

-- a size below 2^23 scaled points
abbrev pub has_size : Font → Bool
has_size font = nat_lt font.size 8388608

-- at most 255 fonts, each of such a size
pub record AreFew (fonts : List Font) : Type 0 where
  pub few : length fonts ≤ 255
  pub sizes : IsTrue (list_all has_size fonts)
