use Rattle.std.proofs.Common.{◌≡◌, ◌<◌, ◌≤◌, ◌+◌, ◌-◌, length, drop}
use Rattle.ts_base.specs.Agreement.{◌>>=◌}
use Rattle.mouth.specs.Sizes.{unread, size}
use Rattle.mouth.specs.Keeping.{reading, AreTold, IsReadable}
use Rattle.raw_texts.specs.Runs.{Leaves}
use Rattle.macros.specs.Calls.{parts, with_param, arguments_of, AreArguments}
use Rattle.macros.proofs.Gathering.{gathered}
use Rattle.macros.proofs.call.read_arguments.Given as goal

abbrev pub invariant-loop-at : goal.invariant-loop-at
invariant-loop-at g l =
    let old = g.F.Files.state l.fn.files in
    let new = g.F.Files.state l.files in
    record {
      same : AreTold l.fn.mouth old → arguments_of l.env l.long (parts (drop l.fn.from l.params)).delimiters (reading l.fn.mouth old)
          ≡ (arguments_of l.env l.long (parts (drop l.at l.params)).delimiters (reading l.mouth new) >>= gathered l.args);
      leaves : Leaves l.fn.mouth old l.mouth new;
      readable : IsReadable l.mouth;
      arguments : AreArguments l.mouth.names l.args;
      count : length l.args + length (parts (drop l.at l.params)).delimiters ≡ length (parts (drop l.fn.from l.params)).delimiters;
      most : l.at ≤ length l.params;
      here : l.at < length l.params → parts (drop l.at l.params) ≡ with_param (parts (drop (l.at + 1) l.params));
      unread : unread (reading l.mouth new) ≤ unread (reading l.fn.mouth old);
      size : size (reading l.mouth new) ≤ size (reading l.fn.mouth old);
      counted : new.faults ≡ old.faults;
    }

abbrev pub decreases-loop-at : goal.decreases-loop-at
decreases-loop-at g l = length l.params - l.at
