use Rattle.std.proofs.Common.{◌≡◌, ◌∙◌, Some, None, arith}
use Rattle.mouth.specs.Reading.{at_place}
use Rattle.mouth.specs.Keeping.{place_in}
use Rattle.expander.proofs.Chains.{goes_then}
use Rattle.control_faults.specs.TurnFaults.{read_cause}
use Rattle.assignments.specs.Worlds.{world_of}
use Rattle.assignments.specs.Seeking.{passed, found}
use Rattle.assignments.proofs.Refusals.{refuses_as}
use Rattle.assignments.proofs.Beside.{beside_then}
use Rattle.assignments.proofs.Found.{found_on, found_done, found_refused}
use Rattle.assignments.proofs.seeking.seek.Goals as goal

pub returns-in_err-token-clause-exact : goal.returns-in_err-token-clause-exact
returns-in_err-token-clause-exact g c = λ told.
    let was = c.loop-token.invariant in
    let w = world_of c.loop-token.gullet (g.F.Files.state c.loop-token.files) c.loop-token.env in
    let e = c.in_err-token.field-0.0 in
    let place = place_in c.take.new.gullet in
    refuses_as _ place c.from_residual.result e _ (found c.loop-token.sought w) c.from_residual.ensures (was.same told)
    (found_refused (read_cause e) c.loop-token.sought w (at_place place e) (c.in_err-token.ensures.exact (was.goes.told told)))

pub returns-in-None-clause-exact : goal.returns-in-None-clause-exact
returns-in-None-clause-exact g c = λ told.
    let was = c.loop-token.invariant in
    let w = world_of c.loop-token.gullet (g.F.Files.state c.loop-token.files) c.loop-token.env in
    let v = world_of c.take.new.gullet (g.F.Files.state c.take.new.files) c.take.new.env in
    let stays : passed v.nest c.loop-token.sought c.in_ok-token.token ≡ None = cc in
    was.same told ∙ found_done c.loop-token.sought w v c.in_ok-token.token (c.in_ok-token.ensures.exact (was.goes.told told)) stays

pub loop-token-preserved : goal.loop-token-preserved
loop-token-preserved g c =
    let was = c.loop-token.invariant in
    let first = g.F.Files.state c.args.files.now in
    let before = g.F.Files.state c.loop-token.files in
    let after = g.F.Files.state c.take.new.files in
    let w = world_of c.loop-token.gullet before c.loop-token.env in
    let v = world_of c.take.new.gullet after c.take.new.env in
    let goes : passed v.nest c.loop-token.sought c.in_ok-token.token ≡ Some c.in-Some.next = cc in
    record {
      same = λ told. was.same told ∙ found_on c.loop-token.sought c.in-Some.next w v c.in_ok-token.token (c.in_ok-token.ensures.exact (was.goes.told told)) goes;
      goes = goes_then c.args.gullet.now c.loop-token.gullet c.take.new.gullet first before after was.goes c.take.ensures.goes;
      readable = c.in_ok-token.ensures.readable;
      fit = c.take.ensures.fit;
      beside = beside_then c.args.env.now c.loop-token.env c.take.new.env was.beside c.take.ensures.beside;
      size = omega (arith, c.in_ok-token.ensures.size, was.size);
      counted = c.in_ok-token.ensures.counted ∙ was.counted;
    }
