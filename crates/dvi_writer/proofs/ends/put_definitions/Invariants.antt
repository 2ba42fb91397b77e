use Rattle.std.proofs.Common.{◌≡◌, ◌+◌, ◌++◌, take}
use Rattle.std.specs.Prelude.{All}
use Rattle.dvi_writer.specs.Written.{HasNumbers, definitions_bytes}
use Rattle.dvi_writer.proofs.ends.put_definitions.Given as goal

abbrev pub invariant-loop-font : goal.invariant-loop-font
invariant-loop-font l = record {
  bytes : l.out.items ≡ l.fn.out.items ++ definitions_bytes l.fn.first (take l.font-index l.fonts);
  number : l.number ≡ l.fn.first + l.font-index;
  numbers : All HasNumbers (take l.font-index l.fonts);
}
