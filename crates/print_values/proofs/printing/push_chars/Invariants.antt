use Rattle.std.proofs.Common.{◌≡◌, ◌++◌, map, take}
use Rattle.print_values.specs.Printing.{printed_char}
use Rattle.print_values.proofs.printing.push_chars.Given as goal

abbrev pub invariant-loop-c : goal.invariant-loop-c
invariant-loop-c l = l.tokens.items ≡ l.initial.tokens.items ++ map printed_char (take l.c-index l.chars)
