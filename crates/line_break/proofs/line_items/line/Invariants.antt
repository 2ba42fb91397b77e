use Rattle.std.proofs.Common.{◌≡◌, ◌∷◌, take}
use Rattle.line_break.specs.Lines.{skip}
use Rattle.line_break.proofs.line_items.line.Given as goal

abbrev pub invariant-loop-item : goal.invariant-loop-item
invariant-loop-item l = l.line ≡ skip l.shape.left ∷ take l.item-index l.kept
