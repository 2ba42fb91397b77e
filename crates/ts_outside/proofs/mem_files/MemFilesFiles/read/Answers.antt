use Rattle.std.proofs.Common.{rules, refl}
use Rattle.ts_outside.proofs.Held.{left_of_seat, opened_seat, keeps_seat, longer_buffer}
use Rattle.ts_outside.proofs.mem_files.MemFilesFiles.read.Goals as goal

pub returns-clause-gives : goal.returns-clause-gives
returns-clause-gives c =
    let held = c.self.inside.held.items in
    let gave = rw c.deref-3.ensures.value at c.give.ensures.gives in
    rw (← c.self.view_is, left_of_seat held c.self.inside.seats.items c.args.file.0, left_of_seat held c.give.new.seats.items c.args.file.0)
    (longer_buffer _ c.give.result c.give.new.buffer _ _ (search rules) gave)

pub returns-clause-leaves : goal.returns-clause-leaves
returns-clause-leaves c =
    let held = c.self.inside.held.items in
    let old = c.self.inside.seats.items in
    let new = c.give.new.seats.items in
    let still = opened_seat held old new c.args.file.0 c.give.ensures.number in
    rw (← c.self.view_is) (still, λ told. still, (refl, λ n other. keeps_seat held old new n (c.give.ensures.others n other)))
