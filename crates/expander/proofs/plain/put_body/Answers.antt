use Rattle.tok_lists.proofs.Growing.{all_held_still}
use Rattle.mouth.specs.Keeping.{place_in}
use Rattle.expander.proofs.Exits.{mouth_refuses}
use Rattle.expander.proofs.plain.put_body.Goals as goal

pub push_call-requires-clause-body_held : goal.push_call-requires-clause-body_held
push_call-requires-clause-body_held g c =
    all_held_still c.args.mouth.now.names c.read_call.new.mouth.names c.args.definition.now.body c.read_call.ensures.leaves.names c.requires.callable.body

pub returns-in_err-push_call-clause-exact : goal.returns-in_err-push_call-clause-exact
returns-in_err-push_call-clause-exact g c = λ told.
    rw (c.in_ok-args.ensures.exact told)
    (mouth_refuses _ (place_in c.push_call.new.self) c.from_residual-in_err-push_call.result c.in_err-push_call.field-0.0 _
    c.from_residual-in_err-push_call.ensures (c.in_err-push_call.ensures.exact (g.F.Files.state c.read_call.new.files)))
