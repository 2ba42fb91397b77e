use Rattle.std.proofs.Common.{arith, ◌∙◌}
use Rattle.mouth.specs.Reading.{at_place, mouth_cause}
use Rattle.mouth.specs.Keeping.{reading, place_in}
use Rattle.raw_texts.proofs.Chains.{reads_then}
use Rattle.raw_texts.specs.Faults.{macro_cause}
use Rattle.raw_texts.specs.Runs.{run}
use Rattle.raw_texts.specs.declared.fault.MacroFault.TheVariants.{Mouth}
use Rattle.raw_texts.proofs.Running.{refusal, run_unread, run_refused, run_done, run_on}
use Rattle.raw_texts.proofs.run.read_on.Goals as goal

pub returns-in_err-token-clause-exact : goal.returns-in_err-token-clause-exact
returns-in_err-token-clause-exact g c = λ told.
    let was = c.loop-token.invariant in
    let step = g.M.Machine.step in
    let nest = c.args.env.now in
    let machine = c.loop-token.machine in
    let r = reading c.loop-token.mouth (g.F.Files.state c.loop-token.files) in
    let e = c.in_err-token.field-0.0 in
    let place = place_in c.next_plain.new.self in
    let refuses = run_unread nest step (mouth_cause e) machine r (at_place place e) (c.in_err-token.ensures.exact (was.leaves.told told)) in
    refusal _ place c.from_residual.result (Mouth e) _ (run nest step machine r) c.from_residual.ensures (was.same told) refuses

pub returns-in_err-feed-clause-exact : goal.returns-in_err-feed-clause-exact
returns-in_err-feed-clause-exact g c = λ told.
    let was = c.loop-token.invariant in
    let step = g.M.Machine.step in
    let nest = c.args.env.now in
    let machine = c.loop-token.machine in
    let r = reading c.loop-token.mouth (g.F.Files.state c.loop-token.files) in
    let r1 = reading c.next_plain.new.self (g.F.Files.state c.next_plain.new.files) in
    let e = c.in_err-feed.field-0.0 in
    let refuses = run_refused nest step (macro_cause e) machine r r1 c.in_ok-token.token e (c.in_ok-token.ensures.exact (was.leaves.told told)) c.in_err-feed.ensures.exact in
    refusal _ (place_in c.next_plain.new.self) c.from_residual-in_err-feed.result e _ (run nest step machine r) c.from_residual-in_err-feed.ensures (was.same told) refuses

pub returns-in-Done-clause-exact : goal.returns-in-Done-clause-exact
returns-in-Done-clause-exact g c = λ told.
    let was = c.loop-token.invariant in
    let r = reading c.loop-token.mouth (g.F.Files.state c.loop-token.files) in
    let r1 = reading c.next_plain.new.self (g.F.Files.state c.next_plain.new.files) in
    was.same told ∙ run_done c.args.env.now g.M.Machine.step c.loop-token.machine c.feed.new.self r r1 c.in_ok-token.token
    (c.in_ok-token.ensures.exact (was.leaves.told told)) (rw c.in-Done.is at c.in_ok-feed.ensures.exact)

pub loop-token-preserved : goal.loop-token-preserved
loop-token-preserved g c =
    let was = c.loop-token.invariant in
    let token = c.in_ok-token.ensures in
    let r = reading c.loop-token.mouth (g.F.Files.state c.loop-token.files) in
    let r1 = reading c.next_plain.new.self (g.F.Files.state c.next_plain.new.files) in
    let names = c.next_plain.new.self.names in
    record {
      same = λ told. was.same told ∙ run_on c.args.env.now g.M.Machine.step c.loop-token.machine c.feed.new.self r r1 c.in_ok-token.token
          (token.exact (was.leaves.told told)) (rw c.in-On.is at c.in_ok-feed.ensures.exact);
      leaves = reads_then c.args.mouth.now c.loop-token.mouth c.next_plain.new.self (g.F.Files.state c.args.files.now) (g.F.Files.state c.loop-token.files) (g.F.Files.state c.next_plain.new.files)
          was.leaves (record { opened = token.opened; told = token.told; others = token.others; names = token.names; units = token.units });
      readable = token.readable;
      holds = c.in_ok-feed.ensures.holds names token.token (g.met.M.Machine.grows _ names c.loop-token.machine token.names was.holds);
      unread = omega (arith, token.unread, was.unread);
      size = omega (arith, token.size, was.size);
      counted = token.counted ∙ was.counted;
    }
