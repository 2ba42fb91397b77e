use Rattle.macros.proofs.Bodied.{macro_is}
use Rattle.macros.proofs.definition.macro_of.Goals as goal

pub returns-clause-defined : goal.returns-clause-defined
returns-clause-defined c = λ names is. rw (c.in_ok-params.ensures, c.in_ok-text.ensures) (macro_is names c.args.body.now is)
