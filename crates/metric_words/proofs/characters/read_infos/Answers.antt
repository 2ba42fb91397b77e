use Rattle.std.proofs.Common.{arith, sym, ◌∙◌}
use Rattle.metric_words.specs.Characters.{info_kind, char_info_of}
use Rattle.metric_words.proofs.PartsLeft.{left-more, left-bad, refused}
use Rattle.metric_words.proofs.characters.read_infos.Goals as goal

pub returns-in-Some : goal.returns-in-Some
returns-in-Some c =
    refused _ _ c.in-Some.kind c.loop-i.i c.bad.ensures
    (left-bad (info_kind c.args.lengths.now) char_info_of _ _ _ _ _ _ _ (omega arith) c.loop-i.invariant c.word_at-word.ensures (sym c.info_kind.ensures ∙ c.in-Some.is))

pub loop-i-preserved : goal.loop-i-preserved
loop-i-preserved c =
    left-more (info_kind c.args.lengths.now) char_info_of _ _ _ _ _ _ _ _ (omega arith) c.loop-i.invariant c.word_at-word.ensures
    (sym c.info_kind.ensures ∙ c.in_default.is) c.char_info_of.ensures c.in_ok-push.ensures.items
