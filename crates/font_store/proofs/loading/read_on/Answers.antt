use Rattle.std.proofs.Common.{arith, ◌≡◌, ◌++◌, ◌∙◌, take, refl, ℕ}
use Rattle.std.proofs.lemmas.Grind.{common_steps}
use Rattle.std.proofs.lemmas.List.{take-append-le}
use Rattle.ts_outside.proofs.Leaving.{reads_then}
use Rattle.font_store.proofs.Fronts.{read_more, read_all}
use Rattle.font_store.proofs.loading.read_on.Goals as goal

pub loop-file-preserved : goal.loop-file-preserved
loop-file-preserved g c =
    let fills = c.in-Bytes.ensures.fills in
    let items = c.in-Ok.ensures.items in
    let joined : c.extend_from_slice.new.self.items ≡ c.loop-file.bytes.items ++ take c.in-Bytes.n c.read.new.buffer = grind (arith, common_steps, take-append-le {A = ℕ}) in
    record {
      within = grind (arith, common_steps);
      front = λ whole is.
          read_more _ _ whole c.loop-file.bytes.items c.read.new.buffer _ c.in-Bytes.n (c.loop-file.invariant.front whole is) c.in-Bytes.ensures.gives joined;
      reads = reads_then c.args.file.0 (g.F.Files.state c.args.files.now) (g.F.Files.state c.loop-file.files) (g.F.Files.state c.read.new.self) c.loop-file.invariant.reads c.read.ensures.leaves;
      counted = c.in-Bytes.ensures.counted ∙ c.loop-file.invariant.counted;
    }

pub returns-in-End-clause-exact : goal.returns-in-End-clause-exact
returns-in-End-clause-exact g c = λ whole is.
    let all = read_all _ _ whole c.loop-file.bytes.items c.read.new.buffer c.args.most c.loop-file.invariant.within (c.loop-file.invariant.front whole is) c.in-End.ensures.gives in
    rw all.0 refl

pub returns-in-End-clause-front : goal.returns-in-End-clause-front
returns-in-End-clause-front g c = λ whole is.
    let all = read_all _ _ whole c.loop-file.bytes.items c.read.new.buffer c.args.most c.loop-file.invariant.within (c.loop-file.invariant.front whole is) c.in-End.ensures.gives in
    all.1
