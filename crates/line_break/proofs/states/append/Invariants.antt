use Rattle.std.proofs.Common.{◌≡◌, ◌++◌, take, length}
use Rattle.std.specs.List.{range_with_len}
use Rattle.line_break.proofs.states.append.Given as goal

abbrev pub invariant-loop-r : goal.invariant-loop-r
invariant-loop-r l = record {
  states : l.states.items ≡ l.initial.states.items ++ take l.r-index l.new;
  left : l.left.items ≡ l.initial.left.items ++ range_with_len (length l.initial.states.items) l.r-index;
}
