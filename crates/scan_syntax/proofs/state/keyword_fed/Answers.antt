use Rattle.scan_numbers.specs.Tokens.{fed}
use Rattle.scan_syntax.proofs.States.{keyword_form, keyword_further, keyword_there, keyword_not, keyword_fault}
use Rattle.scan_syntax.proofs.state.keyword_fed.Goals as goal

pub returns-in-Ok-On : goal.returns-in-Ok-On
returns-in-Ok-On c =
    let step = rw c.in-Ok-On.field-0-is at c.in-Ok-On.ensures in
    ((λ rest. keyword_further c.args.keyword c.in-Ok-On.keyword _ rest (step rest)), keyword_form c.in-Ok-On.keyword)

pub returns-in-Ok-There : goal.returns-in-Ok-There
returns-in-Ok-There c =
    let step = rw c.in-Ok-There.field-0-is at c.in-Ok-There.ensures in
    λ rest. keyword_there c.args.keyword _ _ rest (step rest) c.new.ensures.items

pub returns-in-Ok-Not : goal.returns-in-Ok-Not
returns-in-Ok-Not c =
    let step = rw c.in-Ok-Not.field-0-is at c.in-Ok-Not.ensures in
    λ rest. keyword_not c.args.keyword _ _ rest (step rest)

pub returns-in-Err : goal.returns-in-Err
returns-in-Err c = keyword_fault c.args.keyword (fed c.args.token.now c.args.context.now) c.in-Err.fault c.in-Err.ensures
