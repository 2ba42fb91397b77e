use Rattle.std.proofs.Common.{◌≡◌, ◌+◌, ◌≤◌, take, drop, length}
use Rattle.line_break.specs.Codes.{found_by, left_open, last_rescue}
use Rattle.line_break.specs.Loose.{IsKnown}
use Rattle.line_break.specs.Ready.{pass_of}
use Rattle.line_break.proofs.search.weigh_open.Given as goal

abbrev pub invariant-loop-k : goal.invariant-loop-k
invariant-loop-k g l = record {
  found : l.met.found ≡ found_by (pass_of l.lines) l.b l.states (take l.k l.initial.active.items);
  left : take l.left l.active.items ≡ left_open (pass_of l.lines) l.b l.states (take l.k l.initial.active.items);
  low : l.left ≤ l.k;
  rest : drop l.k l.active.items ≡ drop l.k l.initial.active.items;
  as_long : length l.active.items ≡ length l.initial.active.items;
  rescue : l.left ≡ 0 → l.met.rescue ≡ last_rescue (pass_of l.lines) l.b l.states (take l.k l.initial.active.items);
  known : IsKnown (pass_of l.lines) l.met.loose l.b;
  steps : l.steps ≡ l.initial.steps + l.k;
}
