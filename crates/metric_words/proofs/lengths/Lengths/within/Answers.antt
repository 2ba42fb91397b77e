use Rattle.std.proofs.Common.{length, arith, sym, ◌∙◌}
use Rattle.metric_words.proofs.SoundParts.{sound_lengths}
use Rattle.metric_words.proofs.lengths.Lengths.within.Goals as goal

pub returns-clause-sound : goal.returns-clause-sound
returns-clause-sound c =
    sound_lengths c.args.self (length c.args.bytes.now) (sym c.contradict.ensures ∙ c.if-contradict.false) (omega arith) (omega arith)
