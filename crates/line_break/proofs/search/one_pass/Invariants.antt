use Rattle.std.proofs.Common.{◌≡◌, ◌+◌}
use Rattle.line_break.specs.Ready.{Ready, pairs, pass_of}
use Rattle.line_break.proofs.search.one_pass.Given as goal

abbrev pub invariant-loop-k : goal.invariant-loop-k
invariant-loop-k g l = record {
  ready : Ready (pass_of l.lines) l.k l.states.items l.active.items;
  steps : l.steps ≡ l.initial.steps + pairs (pass_of l.lines) l.k;
}
