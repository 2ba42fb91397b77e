use Rattle.std.proofs.Common.{◌≡◌, ◌++◌, ◌<◌, ◌-◌}
use Rattle.print_values.specs.Texts.{fraction, fraction_digits}
use Rattle.print_values.proofs.points.push_fraction.Given as goal

abbrev pub invariant-loop : goal.invariant-loop
invariant-loop l = record {
  text : l.text.items ++ fraction_digits (5 - l.counter) l.rest l.scale ≡ l.initial.text.items ++ fraction l.part;
  near : l.rest < 655360;
  left : 10 < l.scale → l.scale < l.rest;
  scale : 0 < l.scale;
}
