use Rattle.macros.specs.StillHeld.{body_still}
use Rattle.expander.proofs.Defining.{plain_token}
use Rattle.expander.proofs.definition.take_part.Goals as goal

pub returns-then-is_expandable-clause-body : goal.returns-then-is_expandable-clause-body
returns-then-is_expandable-clause-body g c =
    body_still c.take.new.mouth.names c.expand.new.mouth.names c.args.body.now c.expand.ensures.goes.names
    (body_still c.args.mouth.now.names c.take.new.mouth.names c.args.body.now c.take.ensures.goes.names c.requires.body)

pub returns-clause-body : goal.returns-clause-body
returns-clause-body g c =
    c.feed.ensures.holds c.take.new.mouth.names (rw c.plain.ensures (plain_token c.take.new.mouth.names c.in_ok-token.token c.in_ok-token.ensures.token))
    (body_still c.args.mouth.now.names c.take.new.mouth.names c.args.body.now c.take.ensures.goes.names c.requires.body)

pub store_the-requires-clause-body : goal.store_the-requires-clause-body
store_the-requires-clause-body g c = body_still c.args.mouth.now.names c.take.new.mouth.names c.args.body.now c.take.ensures.goes.names c.requires.body
