use Rattle.std.proofs.Common.{◌≡◌, ◌++◌, replicate}
use Rattle.dvi_writer.proofs.ends.put_fill.Given as goal

abbrev pub invariant-loop : goal.invariant-loop
invariant-loop l = l.out.items ≡ l.fn.out.items ++ replicate l.counter 223
