-- What files stand for, and what a call on them leaves.
use Rattle.std.specs.Prelude.{◌≡◌, ◌≢◌, ℕ, List, [], ◌∷◌, Bool, true, false, Option, IsSome, Result, Ok, Err}

-- a file that is held
pub record Held : Type 0 where
  pub name : List ℕ
  pub bytes : List ℕ

-- The files that are held, where they are told, of equal names the first; whether a file is open under a number; what is
-- left of an open file to read, where that is told; and the faults of the outside so far, a number that never falls and
-- stops at its last value.
pub record FilesState : Type 0 where
  pub held : Option (List Held)
  pub is_open : ℕ → Bool
  pub left : ℕ → Option (List ℕ)
  pub faults : ℕ

-- The file of a number is open or closed as it was, and at its place where it is open.
abbrev pub Keeps : ℕ → FilesState → FilesState → Type 0
Keeps n old new = (new.is_open n ≡ old.is_open n) × (old.is_open n ≡ true → new.left n ≡ old.left n)

-- Every file is kept, and the same files are held.
abbrev pub KeepsAll : FilesState → FilesState → Type 0
KeepsAll old new = (new.held ≡ old.held) × ((n : ℕ) → Keeps n old new)

-- Every file but that of one number is kept, and the same files are held.
abbrev pub KeepsOthers : ℕ → FilesState → FilesState → Type 0
KeepsOthers file old new = (new.held ≡ old.held) × ((n : ℕ) → n ≢ file → Keeps n old new)

-- no number of the list
abbrev pub IsApart : ℕ → List ℕ → Type 0
IsApart n [] = Unit {0}
IsApart n (file ∷ files) = (n ≢ file) × IsApart n files

-- Every file but those of these numbers is kept, and the same files are held.
abbrev pub KeepsAllBut : List ℕ → FilesState → FilesState → Type 0
KeepsAllBut files old new = (new.held ≡ old.held) × ((n : ℕ) → IsApart n files → Keeps n old new)

-- A file was opened under a number that no open file had; all others are kept.
abbrev pub OpensNew : ℕ → FilesState → FilesState → Type 0
OpensNew file old new = (old.is_open file ≡ false) × (new.is_open file ≡ true) × KeepsOthers file old new

-- What opens a file on Ok, and else opens nothing.
abbrev pub OpensIfOk : {X E : Type 0} → (X → ℕ) → Result X E → FilesState → FilesState → Type 0
OpensIfOk file (Ok x) old new = OpensNew (file x) old new
OpensIfOk file (Err e) old new = KeepsAll old new

-- A file that was open still is, and what is left of it is told where it was; all others are kept.
abbrev pub ReadsOn : ℕ → FilesState → FilesState → Type 0
ReadsOn file old new = (new.is_open file ≡ true) × (IsSome (old.left file) → IsSome (new.left file)) × KeepsOthers file old new

-- A file is closed; all others are kept.
abbrev pub Closes : ℕ → FilesState → FilesState → Type 0
Closes file old new = (new.is_open file ≡ false) × KeepsOthers file old new

-- Each of these numbers has an open file.
abbrev pub AllOpen : List ℕ → FilesState → Type 0
AllOpen [] state = Unit {0}
AllOpen (file ∷ files) state = (state.is_open file ≡ true) × AllOpen files state

-- What is left is told of each of these numbers.
abbrev pub AllTold : List ℕ → FilesState → Type 0
AllTold [] state = Unit {0}
AllTold (file ∷ files) state = IsSome (state.left file) × AllTold files state

-- No number stands twice.
abbrev pub AllApart : List ℕ → Type 0
AllApart [] = Unit {0}
AllApart (file ∷ files) = IsApart file files × AllApart files
