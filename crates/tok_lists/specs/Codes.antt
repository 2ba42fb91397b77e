-- The codes by which characters become tokens: the categories of characters of one byte (The TeXbook, chapter 7), and the
-- kinds of Japanese characters (pTeX).
use Rattle.std.specs.Prelude.{ℕ, ◌≤◌}
use Rattle.jis_codes.specs.Kuten.{Kuten}

-- the category of each code, and the kind of each cell
pub record Codes : Type 0 where
  pub cat : ℕ → ℕ
  pub kcat : Kuten → ℕ

-- Categories are from 0 to 15, and kinds from 16 to 18.
abbrev pub AreCodes : Codes → Type 0
AreCodes codes = ((code : ℕ) → codes.cat code ≤ 15) × ((cell : Kuten) → (16 ≤ codes.kcat cell) × (codes.kcat cell ≤ 18))
