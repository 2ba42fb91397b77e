-- Lines that are too loose: they are short, and worse than the threshold of their pass.
use Rattle.std.specs.Prelude.{◌≡◌, ℕ, ◌<◌, ◌≤◌, Bool, true, false, not, ◌&&◌, ℤ, pos, ◌-ℤ◌, ◌*ℤ◌, int_lt, int_le}
use Rattle.ts_geometry.specs.Numbers.{badness_of_ratio}
use Rattle.line_break.specs.declared.totals.Totals.{Totals}
use Rattle.line_break.specs.Lines.{Pass, closes, stretches_without_end}
use Rattle.line_break.specs.Codes.{fits}

-- short by at least so many 297ths of the stretch, which is finite
abbrev pub is_past : ℤ → Totals → ℕ → Bool
is_past hsize t limit = int_lt t.width.0 hsize
    && (not (stretches_without_end t)
    && int_le (pos limit *ℤ t.stretch.0) (pos 297 *ℤ (hsize -ℤ t.width.0)))

-- the least ratio, in units of 1 / 297, whose badness is above a threshold, if one is
pub record IsLimit (threshold : ℤ) (limit : ℕ) : Type 0 where
  pub high : limit ≤ 1291
  pub below : (n : ℕ) → n < limit → int_lt threshold (pos (badness_of_ratio n)) ≡ false
  pub above : int_lt threshold (pos 10000) ≡ true →
      int_lt threshold (pos (badness_of_ratio limit)) ≡ true

-- the line from s to b isn't admissible, and leaves s open
pub record IsTooLoose (p : Pass) (s b : ℕ) : Type 0 where
  pub unfit : fits p s b ≡ false
  pub stays : closes p s b ≡ false

-- what is remembered of an earlier line: its start, or b itself
abbrev pub IsKnown : Pass → ℕ → ℕ → Type 0
IsKnown p s b = s < b → IsTooLoose p s b
