use Rattle.shipping.proofs.Takes.{took_first}
use Rattle.shipping.proofs.page_shipper.PageShipper+S.new.Goals as goal

pub returns-clause-took : goal.returns-clause-took
returns-clause-took g c = took_first c.pages_are_whole.ensures (g.S.Sink.held c.args.out.now) c.new.result c.new.ensures.empty c.new.ensures.stands
