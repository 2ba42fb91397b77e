use Rattle.std.proofs.Common.{◌≡◌, true, is_some}
use Rattle.ts_outside.specs.Memory.{left_at}
use Rattle.ts_outside.proofs.tests.files_in_memory.Given as goal

abbrev pub invariant-loop-want : goal.invariant-loop-want
invariant-loop-want g l = is_some (left_at l.files l.first.0) ≡ true
