use Rattle.kanjiskip_adjust.proofs.Soundness.{finished_sound}
use Rattle.kanjiskip_adjust.proofs.laws.finished_lists_are_sound.Goals as goal

pub returns-clause-list : goal.returns-clause-list
returns-clause-list c = finished_sound c.lists_of_sound_items_are_sound.ensures.joined

pub returns-clause-entries : goal.returns-clause-entries
returns-clause-entries c = λ dir codes para e skips s.
    finished_sound c.lists_of_sound_items_are_sound.ensures.joined dir codes para e skips (c.metric_lists_are_sound.ensures dir e s)
