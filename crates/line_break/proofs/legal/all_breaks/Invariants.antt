use Rattle.std.proofs.Common.{◌≡◌, ◌≤◌, length, reverse}
use Rattle.line_break.specs.Running.{break_at, breaks_from}
use Rattle.line_break.proofs.legal.all_breaks.Given as goal

abbrev pub invariant-loop-here : goal.invariant-loop-here
invariant-loop-here l = record {
  inside : l.here.place ≤ length l.items;
  here : l.here ≡ break_at l.items l.here.place;
  breaks : reverse l.breaks.items ≡ breaks_from l.items l.here.place;
}

abbrev pub decreases-loop-here : goal.decreases-loop-here
decreases-loop-here l = l.here.place
