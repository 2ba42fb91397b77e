-- Files and sinks in memory: which of their calls fail, and how their pieces are cut.
use Rattle.std.specs.Prelude.{ℕ, ◌+◌, ◌%◌, min, max, List, [], ◌∷◌, length, Bool, Option, Some, None, is_some, get_or, ◌==◌, if◌then◌else◌}
use Rattle.std.specs.List.{list_any}
use Rattle.ts_base.specs.Agreement.{last_count}
use Rattle.ts_outside.specs.States.{Held, FilesState}

-- a count, one later, which stops at its last value
abbrev pub next_count : ℕ → ℕ
next_count n = min (n + 1) last_count

-- the faults after a call
abbrev pub faults_after : Bool → ℕ → ℕ
faults_after fails faults = if fails then next_count faults else faults

-- whether the call of a number is one of those that fail
abbrev pub fails_at : List ℕ → ℕ → Bool
fails_at fails call = list_any (λ n. n == call) fails

-- how many bytes the piece of a number has at most, where there is room for so many: the cuts go round
abbrev pub cut_at : List ℕ → ℕ → ℕ → ℕ
cut_at [] piece room = room
cut_at (cut ∷ cuts) piece room = min room (max 1 (get_or (cut ∷ cuts) (piece % length (cut ∷ cuts)) 0))

-- files in memory, with what is left of each open one by its number, and how many calls and reads there were
pub record Shelf : Type 0 where
  pub held : List Held
  pub left : List (Option (List ℕ))
  pub cuts : List ℕ
  pub fails : List ℕ
  pub calls : ℕ
  pub reads : ℕ
  pub faults : ℕ

-- what is left of the file of a number
abbrev pub left_at : Shelf → ℕ → Option (List ℕ)
left_at shelf n = get_or shelf.left n None

-- what files in memory stand for
abbrev pub shelf_state : Shelf → FilesState
shelf_state shelf = record { held = Some shelf.held; is_open = λ n. is_some (left_at shelf n); left = left_at shelf; faults = shelf.faults }

-- a sink in memory, and how many puts there were
pub record Tray : Type 0 where
  pub bytes : List ℕ
  pub cuts : List ℕ
  pub fails : List ℕ
  pub puts : ℕ
  pub faults : ℕ
