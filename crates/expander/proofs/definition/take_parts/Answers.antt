use Rattle.std.proofs.Common.{◌∙◌, arith}
use Rattle.mouth.specs.Reading.{at_place}
use Rattle.mouth.specs.Keeping.{reading, place_in}
use Rattle.expander.specs.Faults.{step_cause}
use Rattle.expander.specs.Worlds.{world}
use Rattle.expander.specs.Definitions.{expanded}
use Rattle.expander.proofs.Chains.{goes_then}
use Rattle.expander.proofs.Exits.{step_refuses}
use Rattle.expander.proofs.Defining.{part_on, part_done, part_refused}
use Rattle.expander.proofs.definition.take_parts.Goals as goal

pub returns-in_err-take_part-clause-exact : goal.returns-in_err-take_part-clause-exact
returns-in_err-take_part-clause-exact g c = λ told.
    let was = c.loop.invariant in
    let w = world (reading c.loop.mouth (g.F.Files.state c.loop.files)) c.loop.env in
    let e = c.in_err-take_part.field-0.0 in
    let place = place_in c.take_part.new.mouth in
    step_refuses _ place c.from_residual.result e _ (expanded c.loop.body w) c.from_residual.ensures (was.same told)
    (part_refused (step_cause e) c.loop.body w (at_place place e) (c.in_err-take_part.ensures.exact (was.goes.told told)))

pub returns-in-Done-clause-exact : goal.returns-in-Done-clause-exact
returns-in-Done-clause-exact g c = λ told.
    let was = c.loop.invariant in
    let w = world (reading c.loop.mouth (g.F.Files.state c.loop.files)) c.loop.env in
    let v = world (reading c.take_part.new.mouth (g.F.Files.state c.take_part.new.files)) c.take_part.new.env in
    let given = c.in_ok-take_part.ensures.exact (was.goes.told told) in
    was.same told ∙ part_done c.loop.body c.take_part.new.body w v (rw c.in-Done.is at given)

pub loop-preserved : goal.loop-preserved
loop-preserved g c =
    let was = c.loop.invariant in
    let first = g.F.Files.state c.args.files.now in
    let before = g.F.Files.state c.loop.files in
    let after = g.F.Files.state c.take_part.new.files in
    let w = world (reading c.loop.mouth before) c.loop.env in
    let v = world (reading c.take_part.new.mouth after) c.take_part.new.env in
    record {
      same = λ told.
          let given = c.in_ok-take_part.ensures.exact (was.goes.told told) in
          was.same told ∙ part_on c.loop.body c.take_part.new.body w v (rw c.in-On.is at given);
      goes = goes_then c.args.mouth.now c.loop.mouth c.take_part.new.mouth first before after was.goes c.take_part.ensures.goes;
      readable = c.in_ok-take_part.ensures.readable;
      fit = c.take_part.ensures.fit;
      kept = c.take_part.ensures.kept ∙ was.kept;
      body = c.in_ok-take_part.ensures.body;
      size = omega (arith, c.in_ok-take_part.ensures.size, was.size);
      counted = c.in_ok-take_part.ensures.counted ∙ was.counted;
    }
