use Rattle.std.proofs.Common.{arith, sym, ◌∙◌, ◌≡◌, true, false}
use Rattle.std.proofs.lemmas.Result.{err_from_is_err_and}
use Rattle.dvi_commands.specs.Commands.{meant}
use Rattle.dvi_structure.specs.Places.{is_last}
use Rattle.dvi_structure.specs.Outline.{outline_of}
use Rattle.dvi_structure.proofs.Walking.{command_fault, step_fault, fill_fault, all_right, goes_on}
use Rattle.dvi_structure.proofs.structure.walked.Goals as goal

pub returns-in_err-command : goal.returns-in_err-command
returns-in_err-command c =
    let p = err_from_is_err_and c.from_residual.result c.from_residual.ensures.1 in
    rw (p.1, p.2) (command_fault c.in_err-command.field-0.0 c.args.bytes.now c.after_sets-place.result (outline_of c.commands.fonts c.commands.standing) (c.after_sets-place.ensures.same c.commands.fonts ∙ c.commands.invariant.same) c.in_err-command.ensures.exact)

pub returns-in_err-obey : goal.returns-in_err-obey
returns-in_err-obey c =
    let p = err_from_is_err_and c.from_residual-in_err-obey.result c.from_residual-in_err-obey.ensures.1 in
    let at = c.in_ok-command.ensures in
    rw (p.1, p.2) (step_fault c.in_err-obey.field-0.0 c.args.bytes.now c.after_sets-place.result c.in_ok-command.after (outline_of c.commands.fonts c.commands.standing) (meant c.args.bytes.now c.in_ok-command.command) (c.after_sets-place.ensures.same c.commands.fonts ∙ c.commands.invariant.same) at.exact at.on at.within c.in_err-obey.ensures.exact)

pub returns-in_err-fill_from : goal.returns-in_err-fill_from
returns-in_err-fill_from c =
    let p = err_from_is_err_and c.from_residual-in_err-fill_from.result c.from_residual-in_err-fill_from.ensures.1 in
    let at = c.in_ok-command.ensures in
    let last : is_last (meant c.args.bytes.now c.in_ok-command.command) ≡ true = sym (c.is_last.ensures c.args.bytes.now) ∙ c.if-is_last.true in
    rw (p.1, p.2) (fill_fault c.in_err-fill_from.field-0.0 c.args.bytes.now c.after_sets-place.result c.in_ok-command.after (outline_of c.commands.fonts c.commands.standing) (outline_of c.obey.new.fonts c.obey.new.standing) (meant c.args.bytes.now c.in_ok-command.command) (c.after_sets-place.ensures.same c.commands.fonts ∙ c.commands.invariant.same) at.exact at.on at.within last c.in_ok-obey.ensures.exact c.in_err-fill_from.ensures)

pub returns-then-is_last : goal.returns-then-is_last
returns-then-is_last c =
    let at = c.in_ok-command.ensures in
    let last : is_last (meant c.args.bytes.now c.in_ok-command.command) ≡ true = sym (c.is_last.ensures c.args.bytes.now) ∙ c.if-is_last.true in
    all_right c.args.bytes.now c.after_sets-place.result c.in_ok-command.after (outline_of c.commands.fonts c.commands.standing) (outline_of c.obey.new.fonts c.obey.new.standing) (meant c.args.bytes.now c.in_ok-command.command) c.in_ok-fill_from.field-0 (c.after_sets-place.ensures.same c.commands.fonts ∙ c.commands.invariant.same) at.exact at.on at.within last c.in_ok-obey.ensures.exact c.in_ok-fill_from.ensures

pub commands-preserved : goal.commands-preserved
commands-preserved c =
    let at = c.in_ok-command.ensures in
    let more = c.in_ok-obey.ensures in
    let last : is_last (meant c.args.bytes.now c.in_ok-command.command) ≡ false = sym (c.is_last.ensures c.args.bytes.now) ∙ c.if-is_last.false in
    record {
      within = at.within;
      pages = omega (arith, more.pages, at.on, c.after_sets-place.ensures.on);
      depth = omega (arith, more.depth, at.on, c.after_sets-place.ensures.on);
      same = goes_on c.args.bytes.now c.after_sets-place.result c.in_ok-command.after (outline_of c.commands.fonts c.commands.standing) (outline_of c.obey.new.fonts c.obey.new.standing) (meant c.args.bytes.now c.in_ok-command.command) (c.after_sets-place.ensures.same c.commands.fonts ∙ c.commands.invariant.same) at.exact at.on at.within last more.exact;
    }
