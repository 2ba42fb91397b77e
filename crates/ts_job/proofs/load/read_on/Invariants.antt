use Rattle.std.proofs.Common.{◌≡◌, ◌-◌, ◌≤◌, ℕ, List, Some, take, drop, length}
use Rattle.ts_outside.specs.States.{ReadsOn}
use Rattle.ts_job.proofs.load.read_on.Given as goal

abbrev pub invariant-loop-file : goal.invariant-loop-file
invariant-loop-file g l = record {
  within : length l.bytes.items ≤ l.most;
  told : (left : List ℕ) → (g.F.Files.state l.fn.files).left l.file.0 ≡ Some left → (l.bytes.items ≡ take (length l.bytes.items) left) × ((g.F.Files.state l.files).left l.file.0 ≡ Some (drop (length l.bytes.items) left));
  reads : ReadsOn l.file.0 (g.F.Files.state l.fn.files) (g.F.Files.state l.files);
  counted : (g.F.Files.state l.files).faults ≡ (g.F.Files.state l.fn.files).faults;
}

abbrev pub decreases-loop-file : goal.decreases-loop-file
decreases-loop-file g l = l.most - length l.bytes.items
