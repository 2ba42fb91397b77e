-- Token lists in braces (The TeXbook, chapters 20 and 24; TeX: The Program, sections 403 and 473).
use Rattle.std.specs.Prelude.{true, if◌then◌else◌, List, Result, Ok, Err}
use Rattle.ts_base.specs.Agreement.{◌>>=◌}
use Rattle.tok_lists.specs.declared.token.Token.{Token}
use Rattle.env_groups.specs.Environments.{Nest}
use Rattle.mouth.specs.Reading.{Reading, Stop}
use Rattle.raw_texts.specs.declared.fault.MacroFault.{MacroFault}
use Rattle.raw_texts.specs.declared.fault.MacroFault.TheVariants.{NoBrace}
use Rattle.raw_texts.specs.declared.passing.Past.TheVariants.{Blanks}
use Rattle.raw_texts.specs.Faults.{stopped}
use Rattle.raw_texts.specs.Meanings.{meaning_of, means_category}
use Rattle.raw_texts.specs.Passing.{past}
use Rattle.raw_texts.specs.Groups.{empty, step}
use Rattle.raw_texts.specs.Runs.{run_inside}

-- The list, and what is read after its }. Its { is looked for past spaces and \relax, and may be a name that means it; its }
-- is a character. No file may end between the two.
unfoldable pub braced : Nest → Reading → Result (List Token × Reading) (Stop MacroFault)
braced nest r =
    past nest Blanks r >>= λ t.
    if means_category 1 (meaning_of nest t.0)
    then (run_inside nest step (empty true) t.1 >>= λ p. Ok (p.0.tokens, p.1))
    else Err (stopped NoBrace t.1)
