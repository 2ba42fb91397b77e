use Rattle.std.proofs.Common.{[], ◌∷◌}
use Rattle.scan_syntax.specs.declared.gluing.Gluing.TheVariants as gluings
use Rattle.scan_syntax.specs.declared.gluing.Late.TheVariants as lates
use Rattle.scan_numbers.specs.Tokens.{fed, put_back}
use Rattle.scan_syntax.specs.Gluing.{late_left, glue_left}
use Rattle.scan_syntax.proofs.Stretches.{to_on, to_there, to_not, to_fault, glue_same}
use Rattle.scan_syntax.proofs.gluing.in_to.Goals as goal

pub returns-in-Ok-On : goal.returns-in-Ok-On
returns-in-Ok-On c =
    let step = rw c.in-Ok-On.field-0-is at c.in-Ok-On.ensures in
    λ rest. to_on _ _ _ rest (step rest)

pub returns-in-Ok-There : goal.returns-in-Ok-There
returns-in-Ok-There c =
    let step = rw c.in-Ok-There.field-0-is at c.in-Ok-There.ensures in
    λ rest. to_there _ _ _ rest (step rest) c.new.ensures

pub returns-in-Ok-Not : goal.returns-in-Ok-Not
returns-in-Ok-Not c =
    let x = fed c.args.token.now c.args.context.now in
    let late = lates.Spread c.new-in-Ok-Not.result in
    let back = put_back c.args.context.now c.in-Ok-Not.tokens.items in
    let step = rw c.in-Ok-Not.field-0-is at c.in-Ok-Not.ensures in
    let all = rw c.deref.ensures.value at c.late_fed_all.ensures in
    glue_same glue_left c.args.context.now back (x ∷ []) (late_left late) (glue_left (gluings.To c.args.keyword)) c.as_glue.result
    (λ rest. to_not _ _ _ _ rest (step rest) c.new-in-Ok-Not.ensures) (c.as_glue.ensures c.args.context.now back (late_left late) all)

pub returns-in-Err : goal.returns-in-Err
returns-in-Err c = to_fault c.args.keyword (fed c.args.token.now c.args.context.now) c.args.context.now c.in-Err.fault c.in-Err.ensures
