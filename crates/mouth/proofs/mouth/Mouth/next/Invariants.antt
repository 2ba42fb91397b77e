use Rattle.std.proofs.Common.{◌≡◌, ◌≤◌, length}
use Rattle.tok_lists.specs.Names.{Grew}
use Rattle.mouth.specs.Tokens.{next}
use Rattle.mouth.specs.Sizes.{kept_size}
use Rattle.mouth.specs.Keeping.{numbers, reading, AreOpen, AreTold, IsReadable, LeavesOthers}
use Rattle.mouth.proofs.mouth.Mouth.next.Given as goal

abbrev pub invariant-loop-token : goal.invariant-loop-token
invariant-loop-token g l =
    let codes = g.C.CodeTable.codes l.codes in
    let old = g.F.Files.state l.fn.files in
    let new = g.F.Files.state l.files in
    record {
      same : AreTold l.fn.self old → next codes (reading l.fn.self old) ≡ next codes (reading l.self new);
      opened : AreOpen l.self new;
      readable : IsReadable l.self;
      told : AreTold l.fn.self old → AreTold l.self new;
      others : LeavesOthers (numbers l.fn.self) old (numbers l.self) new;
      names : Grew l.fn.self.names l.self.names;
      units : l.self.units ≡ l.fn.self.units;
      lowers : kept_size l.self ≤ kept_size l.fn.self;
      counted : new.faults ≡ old.faults;
    }

abbrev pub decreases-loop-token : goal.decreases-loop-token
decreases-loop-token g l = length l.self.below
