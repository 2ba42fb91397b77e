use Rattle.std.proofs.Common.{arith, sym, ◌∙◌}
use Rattle.metric_words.specs.FixWords.{fix_kind}
use Rattle.metric_words.proofs.PartsLeft.{unchecked-more, unchecked-bad, refused}
use Rattle.metric_words.proofs.fix_words.check_table.Goals as goal

pub returns-in-Some-fix_kind : goal.returns-in-Some-fix_kind
returns-in-Some-fix_kind c =
    refused _ _ c.in-Some-fix_kind.kind c.loop-i.i c.bad-in-Some-fix_kind.ensures
    (unchecked-bad fix_kind _ _ _ _ _ _ _ (omega arith) c.loop-i.invariant c.word_at-word.ensures (sym c.fix_kind.ensures ∙ c.in-Some-fix_kind.is))

pub loop-i-preserved : goal.loop-i-preserved
loop-i-preserved c =
    unchecked-more fix_kind _ _ _ _ _ _ (omega arith) c.loop-i.invariant c.word_at-word.ensures (sym c.fix_kind.ensures ∙ c.in_default-fix_kind.is)
