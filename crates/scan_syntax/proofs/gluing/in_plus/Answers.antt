use Rattle.std.proofs.Common.{[], ◌∷◌}
use Rattle.scan_syntax.specs.declared.gluing.Gluing.TheVariants as gluings
use Rattle.scan_syntax.specs.declared.gluing.Late.TheVariants as lates
use Rattle.scan_numbers.specs.Tokens.{fed, put_back}
use Rattle.scan_syntax.specs.Gluing.{late_left, glue_left}
use Rattle.scan_syntax.proofs.Stretches.{plus_on, plus_there, plus_not, glue_same}
use Rattle.scan_syntax.proofs.gluing.in_plus.Goals as goal

pub returns-in-Ok-On : goal.returns-in-Ok-On
returns-in-Ok-On c =
    let step = rw c.in-Ok-On.field-0-is at c.in-Ok-On.ensures in
    λ rest. plus_on _ _ _ _ rest (step rest)

pub returns-in-Ok-There : goal.returns-in-Ok-There
returns-in-Ok-There c =
    let step = rw c.in-Ok-There.field-0-is at c.in-Ok-There.ensures in
    λ rest. plus_there _ _ _ _ rest (step rest) c.new.ensures

pub returns-in-Ok-Not : goal.returns-in-Ok-Not
returns-in-Ok-Not c =
    let x = fed c.args.token.now c.args.context.now in
    let late = lates.Minus c.args.width c.nothing.result c.new-in-Ok-Not.result in
    let back = put_back c.args.context.now c.in-Ok-Not.tokens.items in
    let step = rw c.in-Ok-Not.field-0-is at c.in-Ok-Not.ensures in
    let all = rw c.deref.ensures.value at c.late_fed_all.ensures in
    glue_same glue_left c.args.context.now back (x ∷ []) (late_left late) (glue_left (gluings.Plus c.args.width c.args.keyword)) c.as_glue.result
    (λ rest. plus_not _ _ _ _ _ _ rest (step rest) c.nothing.ensures c.new-in-Ok-Not.ensures) (c.as_glue.ensures c.args.context.now back (late_left late) all)
