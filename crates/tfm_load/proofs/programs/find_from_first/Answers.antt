use Rattle.std.proofs.Common.{arith, refl, sym, ◌∙◌}
use Rattle.tfm_load.proofs.Starts.{answer-none, answer-counts, answer-ends, answer-goes_on}
use Rattle.tfm_load.proofs.programs.find_from_first.Goals as goal

pub returns-then-commands-first : goal.returns-then-commands-first
returns-then-commands-first c = sym (answer-none c.args.commands.now c.args.first c.args.next c.if-commands-first.true)

pub returns-then-command-next : goal.returns-then-command-next
returns-then-command-next c =
    sym (answer-counts c.args.commands.now c.args.first c.args.next _ refl c.if-command-gt128.false c.if-commands-first.false c.if-command-next.true)

pub returns-then-command : goal.returns-then-command
returns-then-command c =
    sym (answer-ends c.args.commands.now c.args.first c.args.next _ refl c.if-command.true c.if-commands-first.false c.if-command-next.false)

pub returns : goal.returns
returns c =
    c.find-2.ensures
    ∙ sym (answer-goes_on c.args.commands.now c.args.first c.args.next _ _ refl (omega arith) c.if-commands-first.false c.if-command-next.false (omega arith))
