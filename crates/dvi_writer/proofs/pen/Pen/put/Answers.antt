use Rattle.std.proofs.Common.{◌≡◌, true, sym, ◌∙◌}
use Rattle.dvi_writer.specs.Saying.{fits}
use Rattle.dvi_writer.proofs.Said.{on_page, writes_one}
use Rattle.dvi_writer.proofs.pen.Pen.put.Goals as goal

pub after-self-requires-clause-there : goal.after-self-requires-clause-there
after-self-requires-clause-there c =
    let fit : fits c.args.p ≡ true = sym c.fits.ensures ∙ c.if-not-fits.false in
    on_page c.args.p fit

pub returns-clause-ok : goal.returns-clause-ok
returns-clause-ok c =
    let fit : fits c.args.p ≡ true = sym c.fits.ensures ∙ c.if-not-fits.false in
    writes_one c.args.self.now _ c.args.p c.in_ok-put_said.ensures.wrote c.after-self.ensures fit c.requires.sound c.in_ok-put_said.ensures.byte
