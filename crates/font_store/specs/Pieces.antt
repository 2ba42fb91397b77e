-- Words for the reader alone: the first bytes of a file, read piece by piece.
use Rattle.std.specs.Prelude.{◌≡◌, ℕ, ◌*◌, List, length, take, drop, max, Option, Some, if◌then◌else◌}
use Rattle.metric_words.specs.Words.{halfword}
use Rattle.metric_words.specs.Lengths.{begins_as_jfm}

-- The bytes are the front of a whole, of which the rest is left.
pub record IsFront (whole bytes : List ℕ) (left : Option (List ℕ)) : Type 0 where
  pub front : bytes ≡ take (length bytes) whole
  pub rest : left ≡ Some (drop (length bytes) whole)

-- the halfword in which a metric file counts its words
abbrev pub count_place : List ℕ → ℕ
count_place bytes = if begins_as_jfm bytes then 2 else 0

-- the bytes that a metric file counts by the front of it, or 28 where these are more
abbrev pub size_of : List ℕ → ℕ
size_of bytes = max 28 (4 * halfword bytes (count_place bytes))

-- the bytes of a file that are read
abbrev pub first_bytes : List ℕ → List ℕ
first_bytes file = take (size_of (take 28 file)) file
