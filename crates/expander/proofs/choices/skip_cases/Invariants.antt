use Rattle.std.proofs.Common.{◌≡◌, ◌≤◌}
use Rattle.mouth.specs.Sizes.{size}
use Rattle.mouth.specs.Keeping.{reading, AreTold, IsReadable}
use Rattle.expander.specs.Holding.{Goes}
use Rattle.expander.specs.Choices.{case_after, cases_before}
use Rattle.expander.proofs.Cases.{CasesLeft}
use Rattle.expander.proofs.choices.skip_cases.Given as goal

abbrev pub invariant-loop-left : goal.invariant-loop-left
invariant-loop-left g l =
    let old = g.F.Files.state l.fn.files in
    let new = g.F.Files.state l.files in
    let first = reading l.fn.mouth old in
    record {
      cases : CasesLeft (AreTold l.fn.mouth old) l.env l.fn.number l.left (case_after l.env l.fn.number (cases_before l.fn.cases first) first) (reading l.mouth new);
      goes : Goes l.fn.mouth old l.mouth new;
      readable : IsReadable l.mouth;
      size : size (reading l.mouth new) ≤ size first;
      counted : new.faults ≡ old.faults;
    }

abbrev pub decreases-loop-left : goal.decreases-loop-left
decreases-loop-left g l = size (reading l.mouth (g.F.Files.state l.files))
