-- The name of a font that \font reads (The TeXbook, chapter 4; TeX: The Program, section 1257).
use Rattle.std.specs.Prelude.{ℕ, List, Result, Err}
use Rattle.ts_base.specs.Agreement.{◌>>=◌}
use Rattle.scan_syntax.specs.declared.want.Value.{Value}
use Rattle.scan_syntax.specs.declared.want.Value.TheVariants as values
use Rattle.scan_syntax.specs.declared.want.Want.TheVariants as wants
use Rattle.expander.specs.Worlds.{World}
use Rattle.control_faults.specs.declared.kind.FaultKind.{FaultKind}
use Rattle.control_faults.specs.declared.kind.FaultKind.TheVariants.{NoName}
use Rattle.assignments.specs.Worlds.{Outcome, checked}
use Rattle.assignments.specs.Reads.{scanned}
use Rattle.known_fonts.specs.Names.{metric_name}

-- the name of a file, where also the one with the ending of a metric file is one
abbrev pub name_found : Value → Result (List ℕ) FaultKind
name_found (values.FileName name) = metric_name name
name_found _ = Err NoName

-- It is refused as soon as it is whole.
unfoldable pub font_name : World → Outcome (List ℕ × World)
font_name w = scanned wants.FileName w >>= checked name_found
