use Rattle.std.proofs.Common.{◌≡◌, map, take}
use Rattle.jis_codes.specs.declared.Char.TheVariants.{One}
use Rattle.tok_lists.proofs.names.control_word_of.Given as goal

abbrev pub invariant-loop-byte : goal.invariant-loop-byte
invariant-loop-byte l = l.chars ≡ map One (take l.byte-index l.byte-items)
