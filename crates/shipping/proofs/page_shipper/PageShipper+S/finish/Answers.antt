use Rattle.std.proofs.Common.{◌≡◌}
use Rattle.shipping.proofs.Takes.{on_refusal, file_put, nothing_put, part_put}
use Rattle.shipping.proofs.page_shipper.PageShipper+S.finish.Goals as goal

pub returns-in_err-end-clause-partly : goal.returns-in_err-end-clause-partly
returns-in_err-end-clause-partly g c =
    on_refusal c.from_residual.result (λ boxes took whole. nothing_put (g.S.Sink.held c.args.self.out.now) c.args.self.writer c.args.self.put c.args.self.broken boxes took)

pub returns-in_err-put_all-clause-partly : goal.returns-in_err-put_all-clause-partly
returns-in_err-put_all-clause-partly g c =
    on_refusal c.from_residual-in_err-put_all.result (λ boxes took whole.
    let same : c.deref.result.now ≡ c.in_ok-end.end.items = c.deref.ensures.value in
    let unbroken = rw whole at took in
    let part = rw same at c.in_err-put_all.ensures.part in
    part_put c.whole_pages_are_the_first.ensures (g.S.Sink.held c.args.self.out.now) (g.S.Sink.held c.put_all.new.sink) c.args.self.writer c.args.self.put part.0 boxes c.in_ok-end.end.items c.in_ok-end.ensures.bytes part.2
    c.in_ok-end.ensures.pages unbroken)

pub returns-clause-done : goal.returns-clause-done
returns-clause-done g c boxes took whole =
    let same : c.deref.result.now ≡ c.in_ok-end.end.items = c.deref.ensures.value in
    let unbroken = rw whole at took in
    let gained = rw same at c.in_ok-put_all.ensures.all in
    file_put (g.S.Sink.held c.args.self.out.now) (g.S.Sink.held c.put_all.new.sink) c.args.self.writer c.args.self.put boxes c.in_ok-end.end.items c.in_ok-end.ensures.bytes gained c.in_ok-end.ensures.pages unbroken
