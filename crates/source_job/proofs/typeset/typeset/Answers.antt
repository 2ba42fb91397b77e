use Rattle.std.proofs.Common.{◌≡◌, ◌∙◌, ap, sym, true, false, List, Option, ℕ}
use Rattle.std.specs.Borrow.{GName}
use Rattle.shipping.specs.Standing.{Took, held_before}
use Rattle.main_control.specs.Standing.{Holds}
use Rattle.source_job.specs.Asked.{request_seen}
use Rattle.source_job.specs.Promise.{request_meaning}
use Rattle.source_job.specs.Sets.{is_meant}
use Rattle.source_job.proofs.Puts.{first_before, taken_pages, taken_part, gains_put, gains_more, gains_part}
use Rattle.source_job.proofs.Jobs.{meant_whole, set_whole, set_part, set_unfinished}
use Rattle.source_job.proofs.typeset.typeset.Goals as goal

pub returns-then-not-is_meant-clause-sets : goal.returns-then-not-is_meant-clause-sets
returns-then-not-is_meant-clause-sets g c held told =
    let shipper = c.run-ending.new.shipper in
    let m = request_meaning held (request_seen c.args.asked.now) in
    let origin = c.run-ending.ensures.origin in
    let names = sym c.new-shipper.ensures.loan ∙ sym (ap (λ (p : GName × Option (List ℕ)). p.0) origin) in
    let after : c.out-1.given.0 ≡ shipper.out.now = c.out-1.given.1 names ∙ c.drop-shipper.ensures in
    let first : held_before (g.S.Sink.held c.new-shipper.result.out.now) c.new-shipper.result.put ≡ g.S.Sink.held c.args.out.now = rw (c.new-shipper.ensures.put, c.new-shipper.ensures.held) (first_before (g.S.Sink.held c.args.out.now)) in
    let before : held_before (g.S.Sink.held shipper.out.now) shipper.put ≡ g.S.Sink.held c.args.out.now = ap (λ (p : GName × Option (List ℕ)). p.1) origin ∙ first in
    let cut : is_meant c.run-ending.result ≡ false = sym c.is_meant.ensures ∙ c.if-not-is_meant.true in
    let runs = rw told at c.run-ending.ensures.exact in
    rw (after, ← before) (set_part (Holds (λ boxes. Took (g.S.Sink.held shipper.out.now) shipper.writer shipper.put shipper.broken boxes) held) m _ _ c.run-ending.result _ _ cut c.run-ending.ensures.breaks c.new-shipper.ensures.whole runs
    (λ boxes took begins whole. taken_pages c.pages_are_whole.ensures (g.S.Sink.held shipper.out.now) shipper.writer shipper.put shipper.broken boxes m.boxes took.0 begins whole)
    (λ boxes took begins. taken_part (g.S.Sink.held shipper.out.now) shipper.writer shipper.put shipper.broken boxes m.boxes took.0 begins))

pub returns-then-not-is_meant-clause-appends : goal.returns-then-not-is_meant-clause-appends
returns-then-not-is_meant-clause-appends g c =
    let shipper = c.run-ending.new.shipper in
    let origin = c.run-ending.ensures.origin in
    let names = sym c.new-shipper.ensures.loan ∙ sym (ap (λ (p : GName × Option (List ℕ)). p.0) origin) in
    let after : c.out-1.given.0 ≡ shipper.out.now = c.out-1.given.1 names ∙ c.drop-shipper.ensures in
    let first : held_before (g.S.Sink.held c.new-shipper.result.out.now) c.new-shipper.result.put ≡ g.S.Sink.held c.args.out.now = rw (c.new-shipper.ensures.put, c.new-shipper.ensures.held) (first_before (g.S.Sink.held c.args.out.now)) in
    let before : held_before (g.S.Sink.held shipper.out.now) shipper.put ≡ g.S.Sink.held c.args.out.now = ap (λ (p : GName × Option (List ℕ)). p.1) origin ∙ first in
    rw (after, ← before) (gains_put (g.S.Sink.held shipper.out.now) shipper.put)

pub returns-in-Ok-clause-sets : goal.returns-in-Ok-clause-sets
returns-in-Ok-clause-sets g c held told =
    let shipper = c.run-ending.new.shipper in
    let m = request_meaning held (request_seen c.args.asked.now) in
    let origin = c.run-ending.ensures.origin in
    let names = sym c.new-shipper.ensures.loan ∙ sym (ap (λ (p : GName × Option (List ℕ)). p.0) origin) in
    let after : c.out-2-1.given.0 ≡ c.finish.new.self.0 = c.out-2-1.given.1 names in
    let first : held_before (g.S.Sink.held c.new-shipper.result.out.now) c.new-shipper.result.put ≡ g.S.Sink.held c.args.out.now = rw (c.new-shipper.ensures.put, c.new-shipper.ensures.held) (first_before (g.S.Sink.held c.args.out.now)) in
    let before : held_before (g.S.Sink.held shipper.out.now) shipper.put ≡ g.S.Sink.held c.args.out.now = ap (λ (p : GName × Option (List ℕ)). p.1) origin ∙ first in
    let meant : is_meant c.run-ending.result ≡ true = sym c.is_meant.ensures ∙ c.if-not-is_meant.false in
    let whole = meant_whole c.run-ending.result _ _ meant c.run-ending.ensures.breaks c.new-shipper.ensures.whole in
    let runs = rw told at c.run-ending.ensures.exact in
    rw (after, ← before) (set_whole (Holds (λ boxes. Took (g.S.Sink.held shipper.out.now) shipper.writer shipper.put shipper.broken boxes) held) m _ _ c.run-ending.result meant runs
    (λ boxes took. c.in-Ok.ensures.done boxes took.0 whole))

pub returns-in-Err-clause-sets : goal.returns-in-Err-clause-sets
returns-in-Err-clause-sets g c held told =
    let shipper = c.run-ending.new.shipper in
    let m = request_meaning held (request_seen c.args.asked.now) in
    let origin = c.run-ending.ensures.origin in
    let names = sym c.new-shipper.ensures.loan ∙ sym (ap (λ (p : GName × Option (List ℕ)). p.0) origin) in
    let after : c.out-2-1.given.0 ≡ c.finish.new.self.0 = c.out-2-1.given.1 names in
    let first : held_before (g.S.Sink.held c.new-shipper.result.out.now) c.new-shipper.result.put ≡ g.S.Sink.held c.args.out.now = rw (c.new-shipper.ensures.put, c.new-shipper.ensures.held) (first_before (g.S.Sink.held c.args.out.now)) in
    let before : held_before (g.S.Sink.held shipper.out.now) shipper.put ≡ g.S.Sink.held c.args.out.now = ap (λ (p : GName × Option (List ℕ)). p.1) origin ∙ first in
    let meant : is_meant c.run-ending.result ≡ true = sym c.is_meant.ensures ∙ c.if-not-is_meant.false in
    let whole = meant_whole c.run-ending.result _ _ meant c.run-ending.ensures.breaks c.new-shipper.ensures.whole in
    let runs = rw told at c.run-ending.ensures.exact in
    rw (after, ← before, c.unfinished.ensures) (set_unfinished (Holds (λ boxes. Took (g.S.Sink.held shipper.out.now) shipper.writer shipper.put shipper.broken boxes) held) m _ _ c.run-ending.result c.in-Err.fault meant runs
    (λ boxes took. c.in-Err.ensures.partly boxes took.0 whole))

pub returns-in-Ok-clause-appends : goal.returns-in-Ok-clause-appends
returns-in-Ok-clause-appends g c =
    let shipper = c.run-ending.new.shipper in
    let origin = c.run-ending.ensures.origin in
    let names = sym c.new-shipper.ensures.loan ∙ sym (ap (λ (p : GName × Option (List ℕ)). p.0) origin) in
    let after : c.out-2-1.given.0 ≡ c.finish.new.self.0 = c.out-2-1.given.1 names in
    let first : held_before (g.S.Sink.held c.new-shipper.result.out.now) c.new-shipper.result.put ≡ g.S.Sink.held c.args.out.now = rw (c.new-shipper.ensures.put, c.new-shipper.ensures.held) (first_before (g.S.Sink.held c.args.out.now)) in
    let before : held_before (g.S.Sink.held shipper.out.now) shipper.put ≡ g.S.Sink.held c.args.out.now = ap (λ (p : GName × Option (List ℕ)). p.1) origin ∙ first in
    rw (after, ← before) (gains_more _ (g.S.Sink.held shipper.out.now) _ _ (gains_put (g.S.Sink.held shipper.out.now) shipper.put) c.in-Ok.ensures.all)

pub returns-in-Err-clause-appends : goal.returns-in-Err-clause-appends
returns-in-Err-clause-appends g c =
    let shipper = c.run-ending.new.shipper in
    let origin = c.run-ending.ensures.origin in
    let names = sym c.new-shipper.ensures.loan ∙ sym (ap (λ (p : GName × Option (List ℕ)). p.0) origin) in
    let after : c.out-2-1.given.0 ≡ c.finish.new.self.0 = c.out-2-1.given.1 names in
    let first : held_before (g.S.Sink.held c.new-shipper.result.out.now) c.new-shipper.result.put ≡ g.S.Sink.held c.args.out.now = rw (c.new-shipper.ensures.put, c.new-shipper.ensures.held) (first_before (g.S.Sink.held c.args.out.now)) in
    let before : held_before (g.S.Sink.held shipper.out.now) shipper.put ≡ g.S.Sink.held c.args.out.now = ap (λ (p : GName × Option (List ℕ)). p.1) origin ∙ first in
    rw (after, ← before) (gains_part _ (g.S.Sink.held shipper.out.now) _ _ (gains_put (g.S.Sink.held shipper.out.now) shipper.put) c.in-Err.ensures.part)
