-- How far from 0 the measures of what is marked lie.
use Rattle.std.specs.Prelude.{pos, ◌<ℤ◌, ◌≤ℤ◌, ◌^◌}
use Rattle.ts_geometry.specs.declared.measure.Sp.{Sp}
use Rattle.box_tree.specs.Bounds.{IsDimen}
use Rattle.box_marks.specs.declared.placed.Piece.{Piece}
use Rattle.box_marks.specs.declared.placed.Piece.TheVariants.{Glyph, Rule}

-- a height with depth may pass a dimension
pub record IsSoundRule (height width : Sp) : Type 0 where
  pub high : pos 0 <ℤ height.0
  pub not_too_high : height.0 ≤ℤ pos (2 ^ 31)
  pub wide : pos 0 <ℤ width.0
  pub width_near : IsDimen width

abbrev pub IsSoundPiece : Piece → Type 0
IsSoundPiece (Glyph font code width) = IsDimen width
IsSoundPiece (Rule height width) = IsSoundRule height width
