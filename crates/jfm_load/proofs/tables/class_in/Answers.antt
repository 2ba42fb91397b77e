use Rattle.std.proofs.Common.{rules, sym}
use Rattle.std.proofs.lemmas.List.Sorted.{answers_always}
use Rattle.jfm_load.proofs.Codes.{class_in-found, class_in-not_found}
use Rattle.jfm_load.proofs.tables.class_in.Goals as goal

-- the closure gives an entry's code
pub returns-in-Ok : goal.returns-in-Ok
returns-in-Ok c =
    let by_code = c.in-Ok.ensures.position (λ t. t.code) (answers_always _ _ _ (λ f a r g called. search rules)) in
    sym (class_in-found c.args.types.now c.requires c.args.code c.in-Ok.at c.in-Ok.ensures.bound by_code)

pub returns-in-Err : goal.returns-in-Err
returns-in-Err c =
    let by_code = c.in-Err.ensures.position (λ t. t.code) (answers_always _ _ _ (λ f a r g called. search rules)) in
    sym (class_in-not_found c.args.types.now c.requires c.args.code c.in-Err.field-0 c.in-Err.ensures.bound by_code)
