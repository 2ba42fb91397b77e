-- What the mouth keeps in code, what it stands for over files, and what its calls leave of them.
use Rattle.std.specs.Prelude.{◌≡◌, ℕ, ◌≤◌, true, false, List, [], ◌∷◌, length, map, Option, Some, None, IsSome, Result}
use Rattle.ts_base.specs.Agreement.{Cause, Agrees, with_fault}
use Rattle.ts_outside.specs.States.{Held, FilesState, IsApart, AllOpen, AllTold, AllApart}
use Rattle.input_codings.specs.declared.coding.Coding.{Coding}
use Rattle.tok_lists.specs.declared.spelling.Spelling.{Spelling}
use Rattle.tok_lists.specs.declared.token.Token.{Token}
use Rattle.tok_lists.specs.Names.{IsHeld, AreHeld, IsNoParam}
use Rattle.kcat_eyes.specs.declared.seen.Seen.{Seen}
use Rattle.kcat_eyes.specs.declared.seen.Seen.TheVariants as seen
use Rattle.kcat_eyes.specs.Sights.{EyesView, sight_of}
use Rattle.mouth.specs.declared.allowed.Allowed.{Allowed}
use Rattle.mouth.specs.declared.place.Place.{Place}
use Rattle.mouth.specs.Reading.{OpenFile, Reading, Stop, at_place, stop_cause}

-- an open file: its name, its eyes, and its pending tokens
pub record FileView : Type 0 where
  pub name : List ℕ
  pub eyes : EyesView
  pub pending : List Token

pub record MouthView : Type 0 where
  pub innermost : FileView
  pub below : List FileView
  pub names : List Spelling
  pub units : ℕ
  pub begun : ℕ
  pub conditionals : List Allowed
  pub inside : ℕ
  pub coding : Coding

-- the eyes of a file that ends after its present line
abbrev pub ended_eyes : EyesView → EyesView
ended_eyes eyes = record { lines = eyes.lines; state = eyes.state; rest = eyes.rest; ends = true }

abbrev pub number_of : FileView → ℕ
number_of file = file.eyes.lines.file

-- the numbers of the open files
abbrev pub numbers : MouthView → List ℕ
numbers mouth = number_of mouth.innermost ∷ map number_of mouth.below

-- ---- what it stands for

abbrev pub file_of : FilesState → FileView → OpenFile
file_of state file = record { name = file.name; sight = sight_of file.eyes (state.left (number_of file)); pending = file.pending }

abbrev pub held_in : Option (List Held) → List Held
held_in None = []
held_in (Some held) = held

-- what is read over files
abbrev pub reading : MouthView → FilesState → Reading
reading mouth state = record { innermost = file_of state mouth.innermost; below = map (file_of state) mouth.below; names = mouth.names; units = mouth.units; begun = mouth.begun; conditionals = mouth.conditionals; inside = mouth.inside; coding = mouth.coding; held = held_in state.held }

-- the place of a fault
abbrev pub place_in : MouthView → Place
place_in mouth = record { file = mouth.innermost.name; line = mouth.innermost.eyes.lines.line_no }

-- What a call on the mouth answered is what is given, a fault with the place at which the mouth is then.
abbrev pub AgreesAt : {X Y E : Type 0} → (X → Y) → (E → Cause) → MouthView → Result X E → Result Y (Stop E) → Type 0
AgreesAt view cause mouth result given = Agrees view (stop_cause cause) (with_fault (at_place (place_in mouth)) result) given

-- ---- conditions

-- Its files are open.
abbrev pub AreOpen : MouthView → FilesState → Type 0
AreOpen mouth state = AllOpen (numbers mouth) state

-- The files that are held are told, and what is left of its open files.
abbrev pub AreTold : MouthView → FilesState → Type 0
AreTold mouth state = IsSome state.held × AllTold (numbers mouth) state

-- No line of a file was refused, so that it may be read on.
abbrev pub IsUnfailed : FileView → Type 0
IsUnfailed file = file.eyes.lines.failed ≡ false

abbrev pub AreUnfailed : List FileView → Type 0
AreUnfailed [] = Unit {0}
AreUnfailed (file ∷ files) = IsUnfailed file × AreUnfailed files

-- The innermost file may be read on.
abbrev pub IsReadable : MouthView → Type 0
IsReadable mouth = IsUnfailed mouth.innermost

-- Names hold the pending tokens of each file.
abbrev pub AreFilesHeld : List Spelling → List FileView → Type 0
AreFilesHeld names [] = Unit {0}
AreFilesHeld names (file ∷ files) = AreHeld names file.pending × AreFilesHeld names files

-- A token is no parameter, and its name is held by the names.
abbrev pub IsToken : List Spelling → Token → Type 0
IsToken names token = IsHeld names token × IsNoParam token

abbrev pub IsGiven : List Spelling → Seen → Type 0
IsGiven names (seen.Token token) = IsToken names token
IsGiven names seen.End = Unit {0}

-- ---- what calls leave

-- The same files are open, the innermost at the same line, with the same names.
abbrev pub KeepsFiles : MouthView → MouthView → Type 0
KeepsFiles old new = (numbers new ≡ numbers old) × (new.innermost.name ≡ old.innermost.name) × (new.innermost.eyes.lines ≡ old.innermost.eyes.lines)

-- a file that is open and isn't one of these
abbrev pub IsAnother : ℕ → List ℕ → FilesState → Type 0
IsAnother n ours state = (state.is_open n ≡ true) × IsApart n ours

-- A number is another's open file before a call where it is afterwards, and the file is then at its place.
abbrev pub LeavesOther : ℕ → List ℕ → FilesState → List ℕ → FilesState → Type 0
LeavesOther n ours old ours' new =
    (IsAnother n ours old → IsAnother n ours' new × (new.left n ≡ old.left n)) × (IsAnother n ours' new → IsAnother n ours old)

-- The other open files are the same, at their places, and the same files are held.
abbrev pub LeavesOthers : List ℕ → FilesState → List ℕ → FilesState → Type 0
LeavesOthers ours old ours' new = (new.held ≡ old.held) × ((n : ℕ) → LeavesOther n ours old ours' new)

-- ---- what is true of it at all times

pub record IsMouth (innermost : FileView) (below : List FileView) (names : List Spelling) (begun : ℕ) : Type 0 where
  pub few : length below ≤ 14
  pub apart : AllApart (number_of innermost ∷ map number_of below)
  pub unfailed : AreUnfailed below
  pub held : AreFilesHeld names (innermost ∷ below)
  pub most_begun : begun ≤ 200
