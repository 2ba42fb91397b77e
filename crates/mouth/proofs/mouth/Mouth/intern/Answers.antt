use Rattle.std.proofs.Common.{refl}
use Rattle.tok_lists.proofs.Growing.{all_held_still}
use Rattle.mouth.proofs.Mouths.{kept_mouth}
use Rattle.mouth.proofs.mouth.Mouth.intern.Goals as goal

pub invariant_of-self-2 : goal.invariant_of-self-2
invariant_of-self-2 c =
    let inside = c.self.inside in
    kept_mouth inside.innermost inside.innermost _ inside.names c.intern.new.self inside.begun c.self.invariant
    refl (all_held_still inside.names c.intern.new.self inside.innermost.pending c.intern.ensures.grew c.self.invariant.held.0) c.intern.ensures.grew
