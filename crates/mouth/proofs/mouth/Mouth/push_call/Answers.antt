use Rattle.std.proofs.Common.{ap}
use Rattle.tok_lists.proofs.Growing.{grew_itself}
use Rattle.tok_lists.proofs.Flat.{call_held}
use Rattle.mouth.specs.Keeping.{number_of}
use Rattle.mouth.proofs.Mouths.{kept_mouth}
use Rattle.mouth.proofs.mouth.Mouth.push_call.Goals as goal

pub invariant_of-self-2 : goal.invariant_of-self-2
invariant_of-self-2 c =
    let inside = c.self.inside in
    let body = rw (← c.self.view_is) at c.requires.body_held in
    let args = rw (← c.self.view_is) at c.requires.args_held in
    kept_mouth inside.innermost c.push_call.new.self _ inside.names inside.names inside.begun c.self.invariant
    (ap number_of c.push_call.ensures.rest) (c.push_call.ensures.held inside.names (call_held inside.names _ _ args body) c.self.invariant.held.0) (grew_itself inside.names)
