use Rattle.std.proofs.Common.{refl, ap, is_some}
use Rattle.ts_outside.proofs.Held.{closed_seat, opened_seat, keeps_seat}
use Rattle.ts_outside.proofs.mem_files.MemFilesFiles.open.Goals as goal

pub returns-in_default-add_open-clause-leaves : goal.returns-in_default-add_open-clause-leaves
returns-in_default-add_open-clause-leaves c =
    rw (← c.self.view_is) (refl, λ n. keeps_seat c.self.inside.held.items c.self.inside.seats.items c.add_open.new.files.items n (c.in_default-add_open.ensures.err n))

pub returns-clause-leaves : goal.returns-clause-leaves
returns-clause-leaves c =
    let held = c.self.inside.held.items in
    let old = c.self.inside.seats.items in
    let new = c.add_open.new.files.items in
    rw (← c.self.view_is)
    (closed_seat held new old c.in-Ok.n c.in-Ok.ensures.fresh, opened_seat held old new c.in-Ok.n (ap is_some c.in-Ok.ensures.here), (refl, λ n other. keeps_seat held old new n (c.in-Ok.ensures.others n other)))
