use Rattle.std.proofs.Common.{arith, sym, ◌∙◌}
use Rattle.metric_words.proofs.PartsLeft.{refused}
use Rattle.jfm_load.proofs.Left.{types_left-more, types_left-bad}
use Rattle.jfm_load.proofs.char_types.read_char_types.Goals as goal

pub returns-in-Some-type_kind : goal.returns-in-Some-type_kind
returns-in-Some-type_kind c =
    refused _ _ c.in-Some-type_kind.kind c.loop-i.i c.bad-in-Some-type_kind.ensures
    (types_left-bad _ _ _ _ _ _ _ _ _ (omega arith) c.loop-i.invariant c.word_at-word.ensures (sym c.type_kind.ensures ∙ c.in-Some-type_kind.is))

pub loop-i-preserved : goal.loop-i-preserved
loop-i-preserved c =
    types_left-more _ _ _ _ _ _ _ _ _ _ (omega arith) c.loop-i.invariant c.word_at-word.ensures (sym c.type_kind.ensures ∙ c.in_default-type_kind.is)
    c.char_type_of-char_type.ensures c.in_ok-push-2.ensures.items
