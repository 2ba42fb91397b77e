-- How far from 0 the numbers of registers and parameters lie (The TeXbook, chapters 10 and 24).
use Rattle.std.specs.Prelude.{ℕ, ℤ}
use Rattle.ts_geometry.specs.declared.glue.Glue.{Glue}
use Rattle.ts_geometry.specs.Numbers.{IsWithin}
use Rattle.box_tree.specs.Bounds.{IsDimen}

-- the greatest integer of a source, 2^31 - 1
abbrev pub max_int : ℕ
max_int = 2147483647

abbrev pub IsInt : ℤ → Type 0
IsInt z = IsWithin max_int z

-- the greatest penalty of a character
abbrev pub max_penalty : ℕ
max_penalty = 10000

abbrev pub IsPenalty : ℤ → Type 0
IsPenalty z = IsWithin max_penalty z

-- Each number of glue is a dimension of a source.
pub record HasSetDimens (g : Glue) : Type 0 where
  pub width : IsDimen g.width
  pub stretch : IsDimen g.stretch
  pub shrink : IsDimen g.shrink
