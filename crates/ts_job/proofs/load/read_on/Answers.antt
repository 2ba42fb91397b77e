use Rattle.std.proofs.Common.{arith, ◌≡◌, ◌++◌, ◌∙◌, take, refl, ℕ}
use Rattle.std.proofs.lemmas.Grind.{common_steps}
use Rattle.std.proofs.lemmas.List.{take-append-le}
use Rattle.ts_outside.proofs.Leaving.{reads_then}
use Rattle.ts_job.proofs.Loads.{read_more, read_all}
use Rattle.ts_job.proofs.load.read_on.Goals as goal

pub loop-file-preserved : goal.loop-file-preserved
loop-file-preserved g c =
    let fills = c.in-Bytes.ensures.fills in
    let items = c.in-Ok.ensures.items in
    let joined : c.extend_from_slice.new.self.items ≡ c.loop-file.bytes.items ++ take c.in-Bytes.n c.read.new.buffer = grind (arith, common_steps, take-append-le {A = ℕ}) in
    record {
      within = grind (arith, common_steps);
      told = λ left is.
          let so_far = c.loop-file.invariant.told left is in
          read_more _ _ left c.loop-file.bytes.items c.read.new.buffer _ c.in-Bytes.n so_far.1 so_far.0 c.in-Bytes.ensures.gives joined;
      reads = reads_then c.args.file.0 (g.F.Files.state c.args.files.now) (g.F.Files.state c.loop-file.files) (g.F.Files.state c.read.new.self) c.loop-file.invariant.reads c.read.ensures.leaves;
      counted = c.in-Bytes.ensures.counted ∙ c.loop-file.invariant.counted;
    }

pub returns-in-End-clause-exact : goal.returns-in-End-clause-exact
returns-in-End-clause-exact g c = λ left is.
    let so_far = c.loop-file.invariant.told left is in
    let all : take c.args.most left ≡ c.loop-file.bytes.items = read_all _ _ left c.loop-file.bytes.items c.read.new.buffer c.args.most c.loop-file.invariant.within so_far.1 so_far.0 c.in-End.ensures.gives in
    rw all refl
