-- What the mouth has before it: the open files with their pending tokens, the names, and what expansions have taken and
-- may take (The TeXbook, chapters 7, 8 and 20).
use Rattle.std.specs.Prelude.{ℕ, List}
use Rattle.ts_base.specs.Agreement.{Cause, Determined, Counted, Free}
use Rattle.ts_outside.specs.States.{Held}
use Rattle.input_codings.specs.declared.coding.Coding.{Coding}
use Rattle.input_codings.specs.declared.fault.OpenFault.{OpenFault}
use Rattle.input_codings.specs.declared.fault.OpenFault.TheVariants as open_faults
use Rattle.tok_lists.specs.declared.spelling.Spelling.{Spelling}
use Rattle.tok_lists.specs.declared.token.Token.{Token}
use Rattle.tok_lists.specs.declared.fault.NamesFault.{NamesFault}
use Rattle.tok_lists.specs.declared.fault.NamesFault.TheVariants as names_faults
use Rattle.tok_lists.specs.declared.pending_fault.PendingFault.{PendingFault}
use Rattle.tok_lists.specs.declared.pending_fault.PendingFault.TheVariants as pending_faults
use Rattle.kcat_eyes.specs.Eyes.{Sight}
use Rattle.kcat_eyes.specs.declared.fault.EyeFault.{EyeFault}
use Rattle.kcat_eyes.specs.declared.fault.EyeFault.TheVariants as eye_faults
use Rattle.mouth.specs.declared.allowed.Allowed.{Allowed}
use Rattle.mouth.specs.declared.place.Place.{Place}
use Rattle.mouth.specs.declared.fault.MouthFault.{MouthFault}
use Rattle.mouth.specs.declared.fault.MouthFault.TheVariants as faults

-- an open file: its name, what its eyes are about to read, and the tokens that are pending before that
pub record OpenFile : Type 0 where
  pub name : List ℕ
  pub sight : Sight
  pub pending : List Token

-- The open files, the innermost by itself and those below it, the inner ones first; the names; the units left; how many
-- expansions have begun and not ended; the open conditionals, the outermost first, so that each keeps its number; how many
-- texts are being read in which no file may end; the coding of the files; and the files that are held.
pub record Reading : Type 0 where
  pub innermost : OpenFile
  pub below : List OpenFile
  pub names : List Spelling
  pub units : ℕ
  pub begun : ℕ
  pub conditionals : List Allowed
  pub inside : ℕ
  pub coding : Coding
  pub held : List Held

-- a fault, and the place where it is met
pub record Stop (E : Type 0) : Type 0 where
  pub fault : E
  pub place : Place

abbrev pub at_place : {E : Type 0} → Place → E → Stop E
at_place place fault = record { fault = fault; place = place }

-- why a call refuses, where the fault has its place
abbrev pub stop_cause : {E : Type 0} → (E → Cause) → Stop E → Cause
stop_cause cause stop = cause stop.fault

-- the innermost open file, and the number of its last line that was needed and is there, 0 before the first
abbrev pub place_of : Reading → Place
place_of r = record { file = r.innermost.name; line = r.innermost.sight.lines.line_no }

abbrev pub stop : MouthFault → Reading → Stop MouthFault
stop fault r = at_place (place_of r) fault

-- what is determined: everything but a failed read and want of memory
abbrev pub mouth_cause : MouthFault → Cause
mouth_cause faults.FileEnded = Determined
mouth_cause faults.FileMissing = Determined
mouth_cause faults.InputsFull = Determined
mouth_cause faults.TokensFull = Determined
mouth_cause faults.NoEnd = Determined
mouth_cause faults.DepthFull = Determined
mouth_cause faults.Budget = Determined
mouth_cause faults.BadChar = Determined
mouth_cause faults.NamesFull = Determined
mouth_cause faults.TooManyLines = Determined
mouth_cause faults.LineTooLong = Determined
mouth_cause (faults.BadByte place) = Determined
mouth_cause faults.ReadFault = Counted
mouth_cause faults.NoMemory = Free

abbrev pub of_eyes : EyeFault → MouthFault
of_eyes eye_faults.BadChar = faults.BadChar
of_eyes eye_faults.NamesFull = faults.NamesFull
of_eyes eye_faults.TooManyLines = faults.TooManyLines
of_eyes eye_faults.LineTooLong = faults.LineTooLong
of_eyes (eye_faults.BadByte place) = faults.BadByte place
of_eyes eye_faults.ReadFault = faults.ReadFault
of_eyes eye_faults.NoMemory = faults.NoMemory

abbrev pub of_names : NamesFault → MouthFault
of_names names_faults.NamesFull = faults.NamesFull
of_names names_faults.NoMemory = faults.NoMemory

abbrev pub of_pending : PendingFault → MouthFault
of_pending pending_faults.TokensFull = faults.TokensFull
of_pending pending_faults.NoMemory = faults.NoMemory

abbrev pub of_open : OpenFault → MouthFault
of_open open_faults.Missing = faults.FileMissing
of_open open_faults.ReadFault = faults.ReadFault
of_open open_faults.NoMemory = faults.NoMemory

-- ---- the same with one part changed

abbrev pub with_pending : OpenFile → List Token → OpenFile
with_pending file pending = record { name = file.name; sight = file.sight; pending = pending }

abbrev pub with_files : Reading → OpenFile → List OpenFile → Reading
with_files r innermost below = record { innermost = innermost; below = below; names = r.names; units = r.units; begun = r.begun; conditionals = r.conditionals; inside = r.inside; coding = r.coding; held = r.held }

abbrev pub with_names : Reading → List Spelling → Reading
with_names r names = record { innermost = r.innermost; below = r.below; names = names; units = r.units; begun = r.begun; conditionals = r.conditionals; inside = r.inside; coding = r.coding; held = r.held }

abbrev pub with_units : Reading → ℕ → Reading
with_units r units = record { innermost = r.innermost; below = r.below; names = r.names; units = units; begun = r.begun; conditionals = r.conditionals; inside = r.inside; coding = r.coding; held = r.held }

abbrev pub with_begun : Reading → ℕ → Reading
with_begun r begun = record { innermost = r.innermost; below = r.below; names = r.names; units = r.units; begun = begun; conditionals = r.conditionals; inside = r.inside; coding = r.coding; held = r.held }

abbrev pub with_conditionals : Reading → List Allowed → Reading
with_conditionals r conditionals = record { innermost = r.innermost; below = r.below; names = r.names; units = r.units; begun = r.begun; conditionals = conditionals; inside = r.inside; coding = r.coding; held = r.held }

abbrev pub with_inside : Reading → ℕ → Reading
with_inside r inside = record { innermost = r.innermost; below = r.below; names = r.names; units = r.units; begun = r.begun; conditionals = r.conditionals; inside = inside; coding = r.coding; held = r.held }
