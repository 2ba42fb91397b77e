use Rattle.std.proofs.Common.{◌≡◌, map, take}
use Rattle.print_values.specs.Printing.{printed_byte}
use Rattle.print_values.proofs.printing.printed.Given as goal

abbrev pub invariant-loop-byte : goal.invariant-loop-byte
invariant-loop-byte l = l.tokens.items ≡ map printed_byte (take l.byte-index l.text)
