-- Files that are held, and what the calls on files tell of them.
use Rattle.std.specs.Prelude.{◌≡◌, ℕ, ◌≤◌, List, [], ◌∷◌, length, take, drop, Option, Some, None, if◌then◌else◌}
use Rattle.std.specs.Str.{bytes_eq}
use Rattle.ts_base.specs.Agreement.{Rose}
use Rattle.ts_outside.specs.declared.files.Opened.{Opened}
use Rattle.ts_outside.specs.declared.files.Opened.TheVariants as opened
use Rattle.ts_outside.specs.declared.files.Got.{Got}
use Rattle.ts_outside.specs.declared.files.Got.TheVariants as got
use Rattle.ts_outside.specs.States.{Held, FilesState, OpensNew, KeepsAll}

-- the bytes of the first file of a name
abbrev pub bytes_of : List Held → List ℕ → Option (List ℕ)
bytes_of [] name = None
bytes_of (file ∷ files) name = if bytes_eq file.name name then Some file.bytes else bytes_of files name

-- Found comes only where the name is held, and what is left of the file is then the whole of it; Missing only where the
-- name isn't held.
abbrev pub OpensHeld : Option (List ℕ) → Opened → (ℕ → Option (List ℕ)) → Type 0
OpensHeld (Some bytes) (opened.Found file) left = left file.0 ≡ Some bytes
OpensHeld None (opened.Found file) left = ⊥
OpensHeld (Some bytes) opened.Missing left = ⊥
OpensHeld None opened.Missing left = Unit {0}
OpensHeld bytes opened.Failed left = Unit {0}
OpensHeld bytes opened.NoMemory left = Unit {0}

-- the same, where the files that are held are told
abbrev pub Opens : Option (List Held) → List ℕ → Opened → (ℕ → Option (List ℕ)) → Type 0
Opens (Some files) name answer left = OpensHeld (bytes_of files name) answer left
Opens None name answer left = Unit {0}

-- Every answer but Failed leaves the count of faults.
abbrev pub CountsOpened : Opened → ℕ → ℕ → Type 0
CountsOpened (opened.Found file) old new = new ≡ old
CountsOpened opened.Missing old new = new ≡ old
CountsOpened opened.Failed old new = Rose old new
CountsOpened opened.NoMemory old new = new ≡ old

-- Bytes gives from one byte to as many as the buffer has room for.
abbrev pub Fills : Got → ℕ → Type 0
Fills (got.Bytes n) room = (1 ≤ n) × (n ≤ room)
Fills got.End room = Unit {0}
Fills got.Failed room = Unit {0}

-- Bytes gives the next bytes, End comes exactly at the end, and Failed leaves the place.
abbrev pub GivesLeft : List ℕ → Got → List ℕ → Option (List ℕ) → Type 0
GivesLeft left (got.Bytes n) buffer new = (n ≤ length left) × (take n buffer ≡ take n left) × (new ≡ Some (drop n left))
GivesLeft left got.End buffer new = (left ≡ []) × (new ≡ Some [])
GivesLeft left got.Failed buffer new = new ≡ Some left

-- the same, where what is left is told
abbrev pub Gives : Option (List ℕ) → Got → List ℕ → Option (List ℕ) → Type 0
Gives (Some left) answer buffer new = GivesLeft left answer buffer new
Gives None answer buffer new = Unit {0}

abbrev pub CountsGot : Got → ℕ → ℕ → Type 0
CountsGot (got.Bytes n) old new = new ≡ old
CountsGot got.End old new = new ≡ old
CountsGot got.Failed old new = Rose old new

-- What opening leaves: Found gives a number that no open file had, and every other answer opens nothing.
abbrev pub LeavesOpened : Opened → FilesState → FilesState → Type 0
LeavesOpened (opened.Found file) old new = OpensNew file.0 old new
LeavesOpened opened.Missing old new = KeepsAll old new
LeavesOpened opened.Failed old new = KeepsAll old new
LeavesOpened opened.NoMemory old new = KeepsAll old new
