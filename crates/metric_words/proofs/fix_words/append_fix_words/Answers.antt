use Rattle.std.proofs.Common.{arith, rules, sym, ◌∙◌, FitsSigned, w32, to_z-of_z}
use Rattle.metric_words.specs.FixWords.{fix_kind, fix_of}
use Rattle.metric_words.proofs.PartsLeft.{left-more, left-bad, refused}
use Rattle.metric_words.proofs.fix_words.append_fix_words.Goals as goal

pub returns-in-Some : goal.returns-in-Some
returns-in-Some c =
    refused _ _ c.in-Some.kind c.loop-i.i c.bad.ensures
    (left-bad fix_kind fix_of _ _ _ _ _ _ _ (omega arith) c.loop-i.invariant c.word_at-word.ensures (sym c.fix_kind.ensures ∙ c.in-Some.is))

pub loop-i-preserved : goal.loop-i-preserved
loop-i-preserved c =
    let fits : FitsSigned w32 c.cast_signed.result = search rules in
    left-more fix_kind fix_of _ _ _ _ _ _ _ _ (omega arith) c.loop-i.invariant c.word_at-word.ensures
    (sym c.fix_kind.ensures ∙ c.in_default.is) c.cast_signed.ensures (simp to_z-of_z at c.in_ok-push.ensures.items)
