use Rattle.std.proofs.Common.{◌≡◌, ◌++◌, drop, None}
use Rattle.line_break.specs.Paragraphs.{lines_from}
use Rattle.line_break.proofs.line_items.lines.Given as goal

abbrev pub invariant-loop-end : goal.invariant-loop-end
invariant-loop-end l = l.lines.items ++ lines_from l.items l.shape l.start (drop l.end-index l.at) ≡ lines_from l.items l.shape None l.at
