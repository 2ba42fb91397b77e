use Rattle.std.proofs.Common.{ap}
use Rattle.tok_lists.proofs.Growing.{grew_itself}
use Rattle.mouth.specs.Keeping.{number_of}
use Rattle.mouth.proofs.Mouths.{kept_mouth}
use Rattle.mouth.proofs.mouth.Mouth.push_list.Goals as goal

pub invariant_of-self-2 : goal.invariant_of-self-2
invariant_of-self-2 c =
    let inside = c.self.inside in
    let held = rw (← c.self.view_is) at c.requires.held in
    kept_mouth inside.innermost c.push_list.new.self _ inside.names inside.names inside.begun c.self.invariant
    (ap number_of c.push_list.ensures.rest) (c.push_list.ensures.held inside.names held c.self.invariant.held.0) (grew_itself inside.names)
