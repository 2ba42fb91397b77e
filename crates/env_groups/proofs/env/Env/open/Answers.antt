use Rattle.std.proofs.Common.{arith}
use Rattle.env_groups.proofs.Rows.{opens}
use Rattle.env_groups.proofs.env.Env.open.Goals as goal

pub returns-clause-exact : goal.returns-clause-exact
returns-clause-exact c =
    rw (← c.self.view_is, c.open.ensures, c.open-2.ensures, c.open-3.ensures, c.open-4.ensures, c.open-5.ensures, c.open-6.ensures, c.open-7.ensures, c.open-8.ensures, c.open-9.ensures, c.open-10.ensures, c.open-11.ensures)
    (opens c.self.inside c.args.kind c.push.new.self.items c.in_ok-push.ensures.items (omega arith) c.self.invariant.tall)
