use Rattle.std.proofs.Common.{◌≡◌, take}
use Rattle.std.specs.List.{list_any}
use Rattle.ts_outside.specs.Endings.{is_dot, last_part}
use Rattle.ts_outside.proofs.name.has_ending.Given as goal

abbrev pub invariant-loop-b : goal.invariant-loop-b
invariant-loop-b l = l.ending ≡ list_any is_dot (last_part (take l.b-index l.text))
