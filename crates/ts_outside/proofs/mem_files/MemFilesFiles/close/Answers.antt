use Rattle.std.proofs.Common.{refl}
use Rattle.ts_outside.proofs.Held.{closed_seat, keeps_seat}
use Rattle.ts_outside.proofs.mem_files.MemFilesFiles.close.Goals as goal

pub returns-clause-leaves : goal.returns-clause-leaves
returns-clause-leaves c =
    let held = c.self.inside.held.items in
    let old = c.self.inside.seats.items in
    let new = c.set_open.new.files.items in
    rw (← c.self.view_is) (closed_seat held old new c.args.file.0 c.set_open.ensures.here, (refl, λ n other. keeps_seat held old new n (c.set_open.ensures.others n other)))
