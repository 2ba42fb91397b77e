use Rattle.std.proofs.Common.{arith, subst}
use Rattle.std.proofs.lemmas.List.Elements.{All-more}
use Rattle.dvi_writer.specs.Written.{HasNumbers}
use Rattle.dvi_writer.proofs.Pieces.{wrote_font}
use Rattle.dvi_writer.proofs.ends.put_definitions.Goals as goal

pub loop-font-preserved : goal.loop-font-preserved
loop-font-preserved c =
    let put = rw c.loop-font.invariant.number at c.in_ok-put_definition.ensures.bytes in
    record {
      bytes = wrote_font _ _ _ c.args.first c.args.fonts.now c.loop-font.font-index _ c.loop-font-test.true c.font-item.is c.loop-font.invariant.bytes put;
      number = omega (arith, c.loop-font.invariant.number);
      numbers = All-more HasNumbers c.args.fonts.now c.loop-font.font-index c.font-item.result c.loop-font-test.true c.loop-font.invariant.numbers (subst HasNumbers c.font-item.is c.in_ok-put_definition.ensures.numbers);
    }
