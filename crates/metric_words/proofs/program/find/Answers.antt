use Rattle.std.proofs.Common.{◌≡◌, get_or, nat_le, true, false, arith, rules, sym, ◌∙◌}
use Rattle.std.proofs.lemmas.Bool.Decides.{nat_tests}
use Rattle.metric_words.specs.declared.program.Command.{Command}
use Rattle.metric_words.specs.Programs.{counts}
use Rattle.metric_words.proofs.Visits.{run-counts, run-ends, run-goes_on, run-none}
use Rattle.metric_words.proofs.program.find.Goals as goal

abbrev none : Command
none = record { skip = 0; next = 0; op = 0; remainder = 0 }

pub returns-then-counts : goal.returns-then-counts
returns-then-counts c =
    let is : counts c.args.next (get_or c.args.commands.now c.loop-at.at none) ≡ true = search rules in
    sym (c.loop-at.invariant ∙ run-counts c.args.next c.loop-at.at c.args.commands.now none c.loop-at-test.true is)

pub returns-then-command-ge128 : goal.returns-then-command-ge128
returns-then-command-ge128 c =
    let is : counts c.args.next (get_or c.args.commands.now c.loop-at.at none) ≡ false = search rules in
    let ends : nat_le 128 (let d = get_or c.args.commands.now c.loop-at.at none in d.skip) ≡ true = grind (arith, nat_tests) in
    sym (c.loop-at.invariant ∙ run-ends c.args.next c.loop-at.at c.args.commands.now none c.loop-at-test.true is ends)

pub loop-at-preserved : goal.loop-at-preserved
loop-at-preserved c =
    let is : counts c.args.next (get_or c.args.commands.now c.loop-at.at none) ≡ false = search rules in
    let ends : nat_le 128 (let d = get_or c.args.commands.now c.loop-at.at none in d.skip) ≡ false = grind (arith, nat_tests) in
    c.loop-at.invariant ∙ run-goes_on c.args.next c.loop-at.at _ c.args.commands.now none c.loop-at-test.true is ends (omega arith)

pub returns : goal.returns
returns c = sym (c.loop-at.invariant ∙ run-none c.args.next c.loop-at.at c.args.commands.now c.loop-at-test.false)
