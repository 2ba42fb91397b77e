use Rattle.std.proofs.Common.{arith}
use Rattle.env_groups.proofs.Whole.{whole_fonts}
use Rattle.env_groups.proofs.env.Env.add_font.Goals as goal

pub invariant_of-self-2 : goal.invariant_of-self-2
invariant_of-self-2 c =
    whole_fonts c.self.inside c.args.facts _ c.in_ok-push.ensures.ok (omega arith) c.self.invariant
