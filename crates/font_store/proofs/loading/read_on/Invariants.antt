use Rattle.std.proofs.Common.{◌≡◌, ◌-◌, ◌≤◌, ℕ, List, length}
use Rattle.ts_outside.specs.States.{ReadsOn}
use Rattle.font_store.specs.Pieces.{IsFront}
use Rattle.font_store.proofs.loading.read_on.Given as goal

abbrev pub invariant-loop-file : goal.invariant-loop-file
invariant-loop-file g l = record {
  within : length l.bytes.items ≤ l.most;
  front : (whole : List ℕ) → IsFront whole l.fn.bytes.items ((g.F.Files.state l.fn.files).left l.file.0) → IsFront whole l.bytes.items ((g.F.Files.state l.files).left l.file.0);
  reads : ReadsOn l.file.0 (g.F.Files.state l.fn.files) (g.F.Files.state l.files);
  counted : (g.F.Files.state l.files).faults ≡ (g.F.Files.state l.fn.files).faults;
}

abbrev pub decreases-loop-file : goal.decreases-loop-file
decreases-loop-file g l = l.most - length l.bytes.items
