use Rattle.std.proofs.Common.{◌≡◌, ◌+◌, ◌∙◌, ap, length, arith, Ok}
use Rattle.std.proofs.lemmas.Grind.{common_steps}
use Rattle.input_codings.specs.Reading.{Grows, before_ten}
use Rattle.ts_outside.proofs.Leaving.{reads_then}
use Rattle.input_codings.proofs.Ends.{scanned_more}
use Rattle.input_codings.proofs.Blocks.{keeps_more}
use Rattle.input_codings.proofs.source.Source.find_end.Goals as goal

pub find-preserved : goal.find-preserved
find-preserved g c =
    let grown : Grows c.find.self.buffered c.fill.new.self.buffered = c.fill.ensures.came (c.in_ok-fill.was ∙ ap Ok c.if-not-branch.false) in
    let all : c.find.seen + c.bytes_before_ten.result ≡ length c.find.self.buffered = grind (arith, common_steps) in
    let none : before_ten c.find.self.buffered ≡ length c.find.self.buffered = grind (arith, common_steps) in
    record {
      same = c.fill.ensures.same ∙ c.find.invariant.same;
      scanned = rw all (scanned_more c.find.self.buffered c.fill.new.self.buffered grown.1 none);
      within = omega (arith, grown.0, all);
      bytes = keeps_more c.args.self.now c.find.self c.fill.new.self (g.F.Files.state c.args.files.now).left (g.F.Files.state c.find.files).left (g.F.Files.state c.fill.new.files).left c.find.invariant.same c.find.invariant.bytes c.fill.ensures.bytes;
      reads = reads_then c.args.self.now.file (g.F.Files.state c.args.files.now) (g.F.Files.state c.find.files) (g.F.Files.state c.fill.new.files) c.find.invariant.reads (rw c.find.invariant.same at c.fill.ensures.reads);
      more = omega (arith, grown.0, c.find.invariant.more);
      counted = c.in_ok-fill.ensures.counted ∙ c.find.invariant.counted;
    }
