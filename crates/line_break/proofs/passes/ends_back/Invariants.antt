use Rattle.std.proofs.Common.{◌≡◌, ◌<◌, ◌++◌, length}
use Rattle.line_break.specs.Ready.{pass_of}
use Rattle.line_break.proofs.Ends.{back}
use Rattle.line_break.proofs.passes.ends_back.Given as goal

abbrev pub invariant-loop-i : goal.invariant-loop-i
invariant-loop-i l = record {
  inside : l.i < length l.states;
  same : l.ends.items ++ back (pass_of l.lines) l.states l.i ≡ back (pass_of l.lines) l.states l.fn.end;
}

abbrev pub decreases-loop-i : goal.decreases-loop-i
decreases-loop-i l = l.i
