use Rattle.kanjiskip_adjust.proofs.Coming.{finished_come}
use Rattle.kanjiskip_adjust.proofs.laws.finished_glyphs_come_from_entries.Goals as goal

pub returns : goal.returns
returns c = finished_come c.glyphs_come_from_entries.ensures
