use Rattle.std.proofs.Common.{◌≡◌, length, map, reverse}
use Rattle.ts_outside.specs.States.{AllOpen, AllApart}
use Rattle.mouth.specs.Keeping.{number_of, numbers, LeavesOthers}
use Rattle.mouth.proofs.mouth.Mouth.close_all.Given as goal

abbrev pub invariant-loop-file : goal.invariant-loop-file
invariant-loop-file g l =
    let old = g.F.Files.state l.fn.files in
    let new = g.F.Files.state l.files in
    let below = map number_of (reverse l.below.items) in
    record {
      opened : AllOpen below new;
      apart : AllApart below;
      others : LeavesOthers (numbers l.fn.self) old below new;
      counted : new.faults ≡ old.faults;
    }

abbrev pub decreases-loop-file : goal.decreases-loop-file
decreases-loop-file g l = length (reverse l.below.items)
