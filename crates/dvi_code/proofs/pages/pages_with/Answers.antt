use Rattle.std.proofs.Common.{refl, sym, ◌∙◌, ◌≡◌, true, false}
use Rattle.std.proofs.lemmas.Result.{err_from_is_err_and}
use Rattle.dvi_commands.specs.Commands.{meant}
use Rattle.dvi_code.specs.Straight.{reader_of, page_ended, ends_pages}
use Rattle.dvi_code.proofs.PageReads.{sets_fault, sets_go_on, read_command_fault, read_ends, read_fault, read_goes_on}
use Rattle.dvi_code.proofs.pages.pages_with.Goals as goal

pub returns-in_err-place : goal.returns-in_err-place
returns-in_err-place g c =
    let p = err_from_is_err_and c.from_residual.result c.from_residual.ensures.1 in
    rw (p.1, p.2) (sets_fault c.in_err-place.field-0.0 (g.W.Widths.width_of c.args.widths.now) c.args.fonts.now c.args.bytes.now c.commands.at (reader_of c.args.fonts.now c.commands.reader) c.commands.pages _ c.commands.invariant.same c.in_err-place.ensures.err)

pub returns-in_err-command : goal.returns-in_err-command
returns-in_err-command g c =
    let p = err_from_is_err_and c.from_residual-in_err-command.result c.from_residual-in_err-command.ensures.1 in
    let reader = reader_of c.args.fonts.now c.set_all.new.self in
    let going = sets_go_on (g.W.Widths.width_of c.args.widths.now) c.args.fonts.now c.args.bytes.now c.commands.at c.in_ok-place.place (reader_of c.args.fonts.now c.commands.reader) reader c.commands.pages _ c.commands.invariant.same c.in_ok-place.ensures.ok in
    rw (p.1, p.2) (read_command_fault c.in_err-command.field-0.0 (g.W.Widths.width_of c.args.widths.now) c.args.fonts.now c.args.bytes.now c.in_ok-place.place reader c.commands.pages _ going c.in_err-command.ensures.exact)

pub returns-then-ends_pages : goal.returns-then-ends_pages
returns-then-ends_pages g c =
    let at = c.in_ok-command.ensures in
    let cmd = meant c.args.bytes.now c.in_ok-command.command in
    let end : ends_pages cmd ≡ true = sym (c.ends_pages.ensures c.args.bytes.now) ∙ c.if-ends_pages.true in
    let reader = reader_of c.args.fonts.now c.set_all.new.self in
    let going = sets_go_on (g.W.Widths.width_of c.args.widths.now) c.args.fonts.now c.args.bytes.now c.commands.at c.in_ok-place.place (reader_of c.args.fonts.now c.commands.reader) reader c.commands.pages _ c.commands.invariant.same c.in_ok-place.ensures.ok in
    read_ends (g.W.Widths.width_of c.args.widths.now) c.args.fonts.now c.args.bytes.now c.in_ok-place.place c.in_ok-command.after reader cmd c.commands.pages _ going at.exact at.on at.within end

pub returns-in_err-read : goal.returns-in_err-read
returns-in_err-read g c =
    let p = err_from_is_err_and c.from_residual-in_err-read.result c.from_residual-in_err-read.ensures.1 in
    let at = c.in_ok-command.ensures in
    let cmd = meant c.args.bytes.now c.in_ok-command.command in
    let end : ends_pages cmd ≡ false = sym (c.ends_pages.ensures c.args.bytes.now) ∙ c.if-ends_pages.false in
    let reader = reader_of c.args.fonts.now c.set_all.new.self in
    let going = sets_go_on (g.W.Widths.width_of c.args.widths.now) c.args.fonts.now c.args.bytes.now c.commands.at c.in_ok-place.place (reader_of c.args.fonts.now c.commands.reader) reader c.commands.pages _ c.commands.invariant.same c.in_ok-place.ensures.ok in
    rw (p.1, p.2) (read_fault c.in_err-read.field-0.0 (g.W.Widths.width_of c.args.widths.now) c.args.fonts.now c.args.bytes.now c.in_ok-place.place c.in_ok-command.after reader cmd c.commands.pages _ going at.exact at.on at.within end (c.in_err-read.ensures.exact c.args.bytes.now))

pub commands-preserved : goal.commands-preserved
commands-preserved g c =
    let at = c.in_ok-command.ensures in
    let cmd = meant c.args.bytes.now c.in_ok-command.command in
    let end : ends_pages cmd ≡ false = sym (c.ends_pages.ensures c.args.bytes.now) ∙ c.if-ends_pages.false in
    let reader = reader_of c.args.fonts.now c.set_all.new.self in
    let going = sets_go_on (g.W.Widths.width_of c.args.widths.now) c.args.fonts.now c.args.bytes.now c.commands.at c.in_ok-place.place (reader_of c.args.fonts.now c.commands.reader) reader c.commands.pages _ c.commands.invariant.same c.in_ok-place.ensures.ok in
    record {
      within = at.within;
      same = read_goes_on (g.W.Widths.width_of c.args.widths.now) c.args.fonts.now c.args.bytes.now c.in_ok-place.place c.in_ok-command.after reader (reader_of c.args.fonts.now c.read.new.self) cmd c.commands.pages (page_ended reader cmd) _ _ going at.exact at.on at.within end (c.in_ok-read.ensures.exact c.args.bytes.now) refl (c.in_ok-read.ensures.pages c.args.bytes.now);
    }
