use Rattle.std.proofs.Common.{◌≡◌, ◌++◌, replicate}
use Rattle.print_values.proofs.roman.push_repeated.Given as goal

abbrev pub invariant-loop : goal.invariant-loop
invariant-loop l = l.text.items ≡ l.initial.text.items ++ replicate l.counter l.letter
