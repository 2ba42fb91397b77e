use Rattle.std.proofs.Common.{sym, ◌∙◌}
use Rattle.metric_words.proofs.SoundParts.{good_design}
use Rattle.metric_words.proofs.fix_words.read_design.Goals as goal

pub returns-clause-sound : goal.returns-clause-sound
returns-clause-sound c = good_design c.word_at-design.result (sym c.design_kind.ensures ∙ c.in_default.is)
