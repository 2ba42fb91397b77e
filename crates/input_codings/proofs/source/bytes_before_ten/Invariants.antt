use Rattle.std.proofs.Common.{◌≡◌, ◌+◌, drop}
use Rattle.input_codings.specs.Reading.{before_ten}
use Rattle.input_codings.proofs.source.bytes_before_ten.Given as goal

abbrev pub invariant-loop-place : goal.invariant-loop-place
invariant-loop-place l = before_ten l.bytes ≡ l.place + before_ten (drop l.place l.bytes)
