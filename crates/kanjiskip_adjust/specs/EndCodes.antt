-- What is read of the codes at a list's end: the two skips, whether each is switched on, the
-- penalty before the last character of a paragraph, and which gaps a European and a Japanese
-- character allow.
use Rattle.std.specs.Prelude.{ℕ, Bool, ℤ}
use Rattle.ts_geometry.specs.declared.glue.Glue.{Glue}
use Rattle.jis_codes.specs.Kuten.{Kuten}

pub record Codes : Type 0 where
  pub kanjiskip : Glue
  pub xkanjiskip : Glue
  pub auto : Bool
  pub autox : Bool
  pub widow : ℤ
  pub xsp : ℕ → ℕ
  pub inhibit_xsp : Kuten → ℕ
