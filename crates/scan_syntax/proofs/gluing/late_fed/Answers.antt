use Rattle.std.proofs.Common.{sym, subst, ap, ◌∙◌, [], ◌∷◌, Err}
use Rattle.scan_syntax.specs.declared.gluing.Late.{Late}
use Rattle.scan_numbers.specs.Tokens.{fed}
use Rattle.scan_numbers.specs.Amounts.{Amount}
use Rattle.scan_syntax.specs.Glues.{glue_of}
use Rattle.scan_numbers.specs.Machines.{amount_of}
use Rattle.scan_syntax.specs.Gluing.{GlueMoves, late_left}
use Rattle.scan_syntax.proofs.Stretches.{spread_on, spread_there, spread_not, minus_not, shrink_done, shrink_fault}
use Rattle.scan_syntax.proofs.gluing.late_fed.Goals as goal

pub returns-in-Ok-Not : goal.returns-in-Ok-Not
returns-in-Ok-Not c =
    let step = rw c.in-Ok-Not.field-0-is at c.in-Ok-Not.ensures in
    let is = c.glue_of-glue.ensures.value ∙ ap (λ (a : Amount). glue_of c.in-Minus.width.value (amount_of c.in-Minus.stretch) a) c.nothing.ensures in
    λ rest. rw c.in-Minus.is (minus_not _ _ _ _ _ _ rest (step rest) is)

pub returns-in-Ok : goal.returns-in-Ok
returns-in-Ok c =
    let step = rw c.in-Ok-Done.field-0-is at c.in-Ok-Done.ensures in
    λ rest. rw c.in-Shrink.is (shrink_done _ _ _ _ _ _ _ _ _ rest (step rest) c.in-Ok.ensures c.glue_of-glue-in-Ok.ensures.value)

pub returns-in-Err-feed : goal.returns-in-Err-feed
returns-in-Err-feed c =
    let x = fed c.args.token.now c.args.context.now in
    subst (λ (l : Late). GlueMoves late_left c.args.context.now (x ∷ []) (late_left l) (Err c.in-Err-feed.fault)) (sym c.in-Shrink.is)
    (shrink_fault _ _ _ x c.args.context.now c.in-Err-feed.fault c.in-Err-feed.ensures)

pub returns-in-Ok-On-feed : goal.returns-in-Ok-On-feed
returns-in-Ok-On-feed c =
    let step = rw c.in-Ok-On-feed.field-0-is at c.in-Ok-On-feed.ensures in
    λ rest. rw c.in-Spread.is (spread_on _ _ _ rest (step rest))

pub returns-in-Ok-There-feed : goal.returns-in-Ok-There-feed
returns-in-Ok-There-feed c =
    let step = rw c.in-Ok-There-feed.field-0-is at c.in-Ok-There-feed.ensures in
    λ rest. rw c.in-Spread.is (spread_there _ _ _ rest (step rest) c.new-in-Ok-There-feed.ensures)

pub returns-in-Ok-Not-feed : goal.returns-in-Ok-Not-feed
returns-in-Ok-Not-feed c =
    let step = rw c.in-Ok-Not-feed.field-0-is at c.in-Ok-Not-feed.ensures in
    λ rest. rw c.in-Spread.is (spread_not _ _ _ rest (step rest))
