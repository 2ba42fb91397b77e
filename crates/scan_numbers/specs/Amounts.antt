-- Dimensions, and stretch and shrink of any order (The TeXbook, chapter 12).
use Rattle.std.specs.Prelude.{ℤ}
use Rattle.ts_geometry.specs.declared.glue.Order.{Order}

-- how much, in scaled points, and of which order; a dimension is of the order Normal
pub record Amount : Type 0 where
  pub size : ℤ
  pub order : Order

abbrev pub amount : ℤ → Order → Amount
amount size order = record { size = size; order = order }
