use Rattle.std.proofs.Common.{arith, ap, length, ◌∙◌}
use Rattle.ts_job.specs.FormSeen.{seen}
use Rattle.ts_job.proofs.Names.{name-sound}
use Rattle.ts_job.proofs.setting.font_of.Goals as goal

pub returns-in-Ok-clause-sound : goal.returns-in-Ok-clause-sound
returns-in-Ok-clause-sound c =
    let same = c.in-Ok.ensures.name ∙ c.deref.ensures.value in
    c.short_names_are_sound.ensures _ (rw same (name-sound (seen c.args.form.now) c.requires)) (omega (arith, ap length same, c.requires.name_most)) (omega arith) (omega arith)
