use Rattle.std.proofs.Common.{◌≡◌, true, false}
use Rattle.std.specs.Prelude.{is_some}
use Rattle.ts_outside.specs.Memory.{left_at}
use Rattle.input_codings.proofs.tests.lines_one_after_another.Given as goal

abbrev pub invariant-loop-expected : goal.invariant-loop-expected
invariant-loop-expected g l = record {
  is_there : is_some (left_at l.files l.lines.file) ≡ true;
  unfailed : l.lines.failed ≡ false;
}
