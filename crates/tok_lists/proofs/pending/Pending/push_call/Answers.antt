use Rattle.std.proofs.Common.{◌≡◌, sym, subst}
use Rattle.std.proofs.lemmas.Option.{cond_some}
use Rattle.tok_lists.specs.Names.{HasNoParam}
use Rattle.tok_lists.specs.Pending.{with_arguments}
use Rattle.tok_lists.proofs.Flat.{call_no_param}
use Rattle.tok_lists.proofs.pending.Pending.push_call.Goals as goal

pub put-requires-clause-no_param : goal.put-requires-clause-no_param
put-requires-clause-no_param c =
    let same = (cond_some _ _ _ (sym c.in-Some.ensures)).1 in
    subst HasNoParam same (call_no_param c.args.args c.args.body.now c.requires.no_param)

pub returns-in-Some-clause-answer : goal.returns-in-Some-clause-answer
returns-in-Some-clause-answer c =
    let same : with_arguments c.args.args c.args.body.now ≡ c.in-Some.cursor = (cond_some _ _ _ (sym c.in-Some.ensures)).1 in
    rw same c.put.ensures.answer
