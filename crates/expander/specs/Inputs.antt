-- \input: files that are opened (The TeXbook, chapters 20 and 25; TeX: The Program, sections 378 and 537).
use Rattle.std.specs.Prelude.{ℕ, List, [], Result}
use Rattle.ts_base.specs.Agreement.{◌>>=◌, with_fault}
use Rattle.ts_outside.specs.Naming.{named}
use Rattle.ts_outside.specs.Endings.{with_ending, source_ending}
use Rattle.mouth.specs.Reading.{Reading}
use Rattle.mouth.specs.Opening.{with_file}
use Rattle.scan_numbers.specs.declared.fault.ScanKind.{ScanKind}
use Rattle.scan_numbers.specs.declared.fault.ScanKind.TheVariants.{NoName}
use Rattle.scan_syntax.specs.declared.want.Value.{Value}
use Rattle.scan_syntax.specs.declared.want.Value.TheVariants as values
use Rattle.expander.specs.declared.fault.StepFault.TheVariants as faults
use Rattle.expander.specs.Faults.{of_mouth, stopped}
use Rattle.expander.specs.Worlds.{Outcome}

abbrev pub name_in : Value → List ℕ
name_in (values.FileName name) = name
name_in _ = []

-- the name of a source, which gets the ending .tex where no dot stands in its part after the last slash
abbrev pub source_name : List ℕ → Result (List ℕ) ScanKind
source_name name = with_fault (λ _. NoName) (named (with_ending source_ending name))

-- A file is opened above the others.
abbrev pub file_opened : List ℕ → Reading → Outcome Reading
file_opened name r =
    with_fault (λ kind. stopped (faults.Scan kind) r) (source_name name) >>= λ n. with_fault of_mouth (with_file n r)
