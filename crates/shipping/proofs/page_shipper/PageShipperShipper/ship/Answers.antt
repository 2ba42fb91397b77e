use Rattle.std.proofs.Common.{◌≡◌}
use Rattle.dvi_writer.specs.Reading.{asked_for}
use Rattle.shipping.specs.Boxes.{last_table}
use Rattle.shipping.proofs.Takes.{table_begins, took_part, took_more}
use Rattle.shipping.proofs.page_shipper.PageShipperShipper.ship.Goals as goal

pub page-requires-clause-begins : goal.page-requires-clause-begins
page-requires-clause-begins g c =
    table_begins c.args.fonts.now (last_table c.requires.begins.0) c.args.self.now.writer (c.requires.begins.1.fonts c.if-self.false) c.requires.begins.2

pub returns-in-Err-clause-kept : goal.returns-in-Err-clause-kept
returns-in-Err-clause-kept g c boxes took =
    let same : c.deref.result.now ≡ c.in_ok-page.page.items = c.deref.ensures.value in
    let part = c.in-Err.ensures.part in
    let less = rw same at part.1 in
    let gained = rw same at part.2 in
    let unbroken = rw c.if-self.false at took in
    rw part.3 (took_part (g.S.Sink.held c.args.self.now.out.now) (g.S.Sink.held c.put_counted.new.out) c.args.self.now.writer c.page.new.self c.args.self.now.put part.0 boxes c.in_ok-page.page.items less gained
    c.in_ok-page.ensures.partly unbroken)

pub returns-clause-took : goal.returns-clause-took
returns-clause-took g c boxes took =
    let same : c.deref.result.now ≡ c.in_ok-page.page.items = c.deref.ensures.value in
    let gained = rw same at c.in_default.ensures.all in
    let unbroken = rw c.if-self.false at took in
    rw (c.if-self.false, c.in_default.ensures.whole, same)
    (took_more c.pages_are_whole.ensures (g.S.Sink.held c.args.self.now.out.now) (g.S.Sink.held c.put_counted.new.out) c.args.self.now.writer c.page.new.self c.args.self.now.put boxes
    (asked_for c.args.counts.now c.args.fonts.now c.args.node.now) c.in_ok-page.page.items gained c.in_ok-page.ensures.counted c.in_ok-page.ensures.stands unbroken)
