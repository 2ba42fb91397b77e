-- A file that is read into a block, and what is left of it.
use Rattle.std.specs.Prelude.{◌≡◌, ℕ, ◌<◌, ◌≤◌, ◌==◌, ◌++◌, Bool, true, false, List, [], length, take, Option, Some, None, IsSome}
use Rattle.std.specs.List.{position_or_len}
use Rattle.ts_outside.specs.declared.files.Got.{Got}
use Rattle.ts_outside.specs.declared.files.Got.TheVariants as got
use Rattle.input_codings.specs.declared.coding.Coding.{Coding}
use Rattle.input_codings.specs.Lines.{Unread}

-- the number of an open file, the bytes that were read of it and not yet used, and whether its end was met
pub record SourceView : Type 0 where
  pub file : ℕ
  pub buffered : List ℕ
  pub ended : Bool

-- the same, and which lines were given
pub record LinesView : Type 0 where
  pub file : ℕ
  pub coding : Coding
  pub line_no : ℕ
  pub buffered : List ℕ
  pub ended : Bool
  pub failed : Bool

-- Nothing of a file was taken.
abbrev pub IsAtStart : Coding → LinesView → Type 0
IsAtStart coding lines = (lines.coding ≡ coding) × (lines.line_no ≡ 0) × (lines.failed ≡ false)

-- Lines were taken of the same file, and counted.
abbrev pub IsReadOn : LinesView → LinesView → Type 0
IsReadOn old new = (new.file ≡ old.file) × (old.line_no ≤ new.line_no)

-- the bytes after those that were read, where they are told
abbrev pub after_block : Bool → Option (List ℕ) → List ℕ
after_block true left = []
after_block false None = []
after_block false (Some bytes) = bytes

-- what is left of a file to use: the bytes that were read, and what is left of it to read
abbrev pub left_to_use : SourceView → Option (List ℕ) → List ℕ
left_to_use s left = s.buffered ++ after_block s.ended left

-- what is left of a file to give as lines
abbrev pub unread : LinesView → Option (List ℕ) → Unread
unread lines left = record { coding = lines.coding; line_no = lines.line_no; bytes = lines.buffered ++ after_block lines.ended left }

-- more bytes stand after the old ones
abbrev pub Grows : List ℕ → List ℕ → Type 0
Grows old new = (length old < length new) × (take (length old) new ≡ old)

-- a read into a block: Bytes puts bytes after those that are there, and the others leave the block
abbrev pub Adds : Got → List ℕ → List ℕ → Type 0
Adds (got.Bytes n) old new = Grows old new
Adds got.End old new = new ≡ old
Adds got.Failed old new = new ≡ old

-- The bytes of the block and those after it stay the same bytes, where they are told.
abbrev pub Moves : List ℕ → Option (List ℕ) → List ℕ → Option (List ℕ) → Type 0
Moves old before new after = IsSome before → IsSome after × (new ++ after_block false after ≡ old ++ after_block false before)

-- End comes only at the end, where the bytes are told.
abbrev pub EndsAt : Got → Option (List ℕ) → Type 0
EndsAt (got.Bytes n) left = Unit {0}
EndsAt got.End left = after_block false left ≡ []
EndsAt got.Failed left = Unit {0}

-- What is left to use stays the same bytes, where they are told.
abbrev pub KeepsBytes : SourceView → Option (List ℕ) → SourceView → Option (List ℕ) → Type 0
KeepsBytes old before new after = IsSome before → IsSome after × (left_to_use new after ≡ left_to_use old before)

-- how many bytes stand before the first byte 10, or how many there are
abbrev pub before_ten : List ℕ → ℕ
before_ten bytes = position_or_len (λ b. b == 10) bytes
