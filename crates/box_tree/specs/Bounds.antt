-- How far from 0 the numbers of boxes lie.
use Rattle.std.specs.Prelude.{ℕ, Option, Some, None}
use Rattle.ts_geometry.specs.declared.measure.Measures.{Measures}
use Rattle.ts_geometry.specs.declared.measure.Point.{Point}
use Rattle.ts_geometry.specs.declared.measure.Sp.{Sp}
use Rattle.ts_geometry.specs.Numbers.{IsWithin, max_dimen}

abbrev pub IsDimen : Sp → Type 0
IsDimen s = IsWithin max_dimen s.0

pub record HasDimens (m : Measures) : Type 0 where
  pub wd : IsDimen m.wd
  pub ht : IsDimen m.ht
  pub dp : IsDimen m.dp

abbrev pub IsDimenIfThere : Option Sp → Type 0
IsDimenIfThere None = Unit {0}
IsDimenIfThere (Some s) = IsDimen s

pub record PointIsNear (n : ℕ) (p : Point) : Type 0 where
  pub x : IsWithin n p.x.0
  pub y : IsWithin n p.y.0
