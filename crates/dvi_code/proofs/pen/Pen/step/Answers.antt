use Rattle.std.proofs.Common.{[]}
use Rattle.dvi_code.specs.Pages.{stepped}
use Rattle.dvi_code.specs.Straight.{spot_of, pen_of}
use Rattle.dvi_code.proofs.Pens.{moved_still, moved_err}
use Rattle.dvi_code.proofs.pen.Pen.step.Goals as goal

pub returns-in-Ok : goal.returns-in-Ok
returns-in-Ok c = λ fonts. moved_still (pen_of fonts c.args.self.now) (stepped (spot_of c.args.spot) c.args.along.0 c.args.across.0) c.in-Ok.at c.in-Ok.ensures

pub returns-in-Err : goal.returns-in-Err
returns-in-Err c = λ fonts. moved_err c.in-Err.refusal (pen_of fonts c.args.self.now) (stepped (spot_of c.args.spot) c.args.along.0 c.args.across.0) [] c.in-Err.ensures
