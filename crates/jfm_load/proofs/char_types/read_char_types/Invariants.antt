use Rattle.std.proofs.Common.{◌≡◌}
use Rattle.jfm_load.specs.CharTypes.{char_types_in}
use Rattle.jfm_load.proofs.Left.{types_left}
use Rattle.jfm_load.proofs.char_types.read_char_types.Given as goal

abbrev pub invariant-loop-i : goal.invariant-loop-i
invariant-loop-i l = char_types_in l.bytes l.lengths ≡ types_left l.bytes l.i l.end l.before l.lengths.ec l.types.items
