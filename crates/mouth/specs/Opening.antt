-- Files that are opened: the main file, and a file whose tokens come before what is left of those that are open (The
-- TeXbook, chapter 20, \input).
use Rattle.std.specs.Prelude.{◌≡◌, ◌⊎◌, ℕ, ◌+◌, nat_le, if◌then◌else◌, List, [], ◌∷◌, length, Option, Result, Ok, Err}
use Rattle.ts_base.specs.Agreement.{◌>>=◌, with_fault}
use Rattle.ts_outside.specs.States.{Held}
use Rattle.ts_outside.specs.Reading.{bytes_of}
use Rattle.input_codings.specs.declared.coding.Coding.{Coding}
use Rattle.input_codings.specs.declared.fault.OpenFault.{OpenFault}
use Rattle.tok_lists.specs.StartNames.{start_names}
use Rattle.kcat_eyes.specs.Sights.{first_sight}
use Rattle.mouth.specs.declared.fault.MouthFault.{MouthFault}
use Rattle.mouth.specs.declared.fault.MouthFault.TheVariants.{FileMissing, InputsFull, ReadFault, NoMemory}
use Rattle.mouth.specs.declared.place.Place.{Place}
use Rattle.mouth.specs.Reading.{OpenFile, Reading, Stop, at_place, stop, of_open, with_files}

-- how many files may be open
abbrev pub most_files : ℕ
most_files = 15

-- a file before its first line, with no token pending
abbrev pub first_file : Coding → List ℕ → Option (List ℕ) → Result OpenFile OpenFault
first_file coding name bytes = first_sight coding bytes >>= λ sight. Ok (record { name = name; sight = sight; pending = [] })

-- a file is opened above the others, with no token pending: InputsFull where it would be one too many, else FileMissing
-- where its name isn't held
abbrev pub with_file : List ℕ → Reading → Result Reading (Stop MouthFault)
with_file name r =
    if nat_le most_files (1 + length r.below) then Err (stop InputsFull r)
    else with_fault (λ f. stop (of_open f) r) (first_file r.coding name (bytes_of r.held name))
    >>= λ file. Ok (with_files r file (r.innermost ∷ r.below))

-- before the first line of a file
abbrev pub before_lines : List ℕ → Place
before_lines name = record { file = name; line = 0 }

-- the main file alone, with the names of the start; or FileMissing
abbrev pub started : List Held → Coding → ℕ → List ℕ → Result Reading (Stop MouthFault)
started held coding units name =
    with_fault (λ f. at_place (before_lines name) (of_open f)) (first_file coding name (bytes_of held name))
    >>= λ file. Ok (record { innermost = file; below = []; names = start_names; units = units; begun = 0; conditionals = []; inside = 0; coding = coding; held = held })

-- what a start refuses with
abbrev pub IsStartFault : MouthFault → Type 0
IsStartFault fault = (fault ≡ FileMissing) ⊎ (fault ≡ ReadFault) ⊎ (fault ≡ NoMemory)
