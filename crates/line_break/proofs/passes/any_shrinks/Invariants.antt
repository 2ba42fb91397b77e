use Rattle.std.proofs.Common.{◌≡◌, drop}
use Rattle.line_break.specs.Paragraphs.{any_shrinks}
use Rattle.line_break.proofs.passes.any_shrinks.Given as goal

abbrev pub invariant-loop-item : goal.invariant-loop-item
invariant-loop-item l = any_shrinks (drop l.item-index l.items) ≡ any_shrinks l.items
