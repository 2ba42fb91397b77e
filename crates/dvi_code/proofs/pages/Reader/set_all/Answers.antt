use Rattle.std.proofs.Common.{sym, arith}
use Rattle.std.proofs.lemmas.Result.{err_from_is_err_and}
use Rattle.dvi_code.specs.Straight.{reader_of}
use Rattle.dvi_code.proofs.PageReads.{set_goes_on, set_fault}
use Rattle.dvi_code.proofs.pages.Reader.set_all.Goals as goal

pub returns-in_err-set-clause-err : goal.returns-in_err-set-clause-err
returns-in_err-set-clause-err g c =
    let p = err_from_is_err_and c.from_residual.result c.from_residual.ensures.1 in
    let one = c.in-Some.ensures in
    rw (p.1, p.2) (set_fault c.in_err-set.field-0.0 (g.W.Widths.width_of c.args.widths.now) c.args.fonts.now c.args.bytes.now c.sets.place c.in-Some.after c.in-Some.code (reader_of c.args.fonts.now c.sets.self) _ (sym one.exact) one.on one.within c.in_err-set.ensures c.sets.invariant.same)

pub sets-preserved : goal.sets-preserved
sets-preserved g c =
    let one = c.in-Some.ensures in
    record {
      on = omega (arith, c.sets.invariant.on, one.on);
      within = one.within;
      same = set_goes_on (g.W.Widths.width_of c.args.widths.now) c.args.fonts.now c.args.bytes.now c.sets.place c.in-Some.after c.in-Some.code (reader_of c.args.fonts.now c.sets.self) (reader_of c.args.fonts.now c.set.new.self) _ (sym one.exact) one.on one.within c.in_ok-set.ensures c.sets.invariant.same;
    }
