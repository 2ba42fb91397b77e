use Rattle.std.proofs.Common.{rules, ◌≡◌, ◌+◌, ◌-◌, ◌≤◌, length, None, w32, FitsSigned, sym, ◌∙◌, refl, arith}
use Rattle.std.proofs.lemmas.Int.{to_z-of_z}
use Rattle.std.proofs.lemmas.Option.{slice_get_within}
use Rattle.kanjiskip_adjust.specs.Finished.{finished_list, widow_of}
use Rattle.kanjiskip_adjust.specs.Walks.{start}
use Rattle.kanjiskip_adjust.proofs.Passing.{none_past, end_of_walk, small_at_end, without_widow, without_place, with_both}
use Rattle.kanjiskip_adjust.proofs.spacing.adjust.Goals as goal

pub returns-in_default-clause-finished : goal.returns-in_default-clause-finished
returns-in_default-clause-finished g c = λ e entries is.
    let codes = g.E.EndCodes.codes c.args.codes.now in
    let none = none_past c.args.list.now.numbers 0 (sym c.first.ensures.first ∙ c.in_default.is) in
    let past : length c.args.list.now.items ≤ 0 = omega (arith, none, c.first.ensures.many) in
    without_place (widow_of codes c.args.para) None c.args.list.now.items (finished_list codes c.args.para e) refl
    (end_of_walk codes e start c.args.list.now.items c.args.list.now.items 0 past (λ widow. refl) entries is c.args.para)

pub loop-at-smaller : goal.loop-at-smaller
loop-at-smaller g c =
    let here = slice_get_within c.loop-at.list.numbers c.loop-at.place c.in-Some-at.number (sym c.loop-at.invariant.at ∙ c.in-Some-at.is) in
    omega (arith, here, c.loop-at.invariant.many, c.pass-place.ensures.left)

pub loop-at-preserved : goal.loop-at-preserved
loop-at-preserved g c =
    let here = slice_get_within c.loop-at.list.numbers c.loop-at.place c.in-Some-at.number (sym c.loop-at.invariant.at ∙ c.in-Some-at.is) in
    let old = c.loop-at.invariant in
    let pass = c.pass-place.ensures in
    let back : c.pass-place.result - 1 + 1 ≡ c.pass-place.result = omega (arith, pass.some) in
    record {
      same = λ widow. pass.same widow ∙ old.same widow;
      kept = pass.kept;
      at = rw back at (c.next-at.ensures.next (c.pass-place.result - 1) pass.here);
      many = pass.many;
      within = omega (arith, pass.left, here, old.many);
      most = omega (arith, old.most, pass.left, pass.most, here, old.many);
      room = omega (arith, old.room, pass.room);
      counted = omega (arith, old.counted, pass.counted, pass.left, pass.most, c.next-at.ensures.counted, here, old.many);
      some = old.some;
    }

pub returns-in_default-widow_penalty-clause-finished : goal.returns-in_default-widow_penalty-clause-finished
returns-in_default-widow_penalty-clause-finished g c = λ e entries is.
    let codes = g.E.EndCodes.codes c.args.codes.now in
    let none = none_past c.loop-at.list.numbers c.loop-at.place (sym c.loop-at.invariant.at ∙ c.in_default-at.is) in
    let past : length c.loop-at.list.items ≤ c.loop-at.place = omega (arith, none, c.loop-at.invariant.many) in
    without_widow (widow_of codes c.args.para) c.loop-at.walk.widow c.loop-at.list.items (finished_list codes c.args.para e)
    (sym c.widow_penalty.ensures ∙ c.in_default-widow_penalty.is)
    (end_of_walk codes e c.loop-at.walk c.loop-at.list.items c.args.list.now.items c.loop-at.place past c.loop-at.invariant.same entries is c.args.para)

pub returns-in-Some-widow-clause-finished : goal.returns-in-Some-widow-clause-finished
returns-in-Some-widow-clause-finished g c = λ e entries is.
    let codes = g.E.EndCodes.codes c.args.codes.now in
    let none = none_past c.loop-at.list.numbers c.loop-at.place (sym c.loop-at.invariant.at ∙ c.in_default-at.is) in
    let past : length c.loop-at.list.items ≤ c.loop-at.place = omega (arith, none, c.loop-at.invariant.many) in
    let small = small_at_end codes e c.loop-at.walk c.loop-at.list.items c.args.list.now.items c.loop-at.place past c.loop-at.invariant.same entries is c.in-Some-widow.gap in
    let narrow : FitsSigned w32 c.in-Some-widow_penalty.widow = search rules in
    let put = rw (to_z-of_z w32 c.in-Some-widow_penalty.widow narrow) at (c.add_penalty.ensures.items small) in
    with_both (widow_of codes c.args.para) c.loop-at.walk.widow c.in-Some-widow_penalty.widow c.in-Some-widow.gap c.loop-at.list.items c.add_penalty.new.list.items
    (finished_list codes c.args.para e) (sym c.in-Some-widow_penalty.ensures) c.in-Some-widow.is put
    (end_of_walk codes e c.loop-at.walk c.loop-at.list.items c.args.list.now.items c.loop-at.place past c.loop-at.invariant.same entries is c.args.para)

pub returns-in_default-widow-clause-finished : goal.returns-in_default-widow-clause-finished
returns-in_default-widow-clause-finished g c = λ e entries is.
    let codes = g.E.EndCodes.codes c.args.codes.now in
    let none = none_past c.loop-at.list.numbers c.loop-at.place (sym c.loop-at.invariant.at ∙ c.in_default-at.is) in
    let past : length c.loop-at.list.items ≤ c.loop-at.place = omega (arith, none, c.loop-at.invariant.many) in
    without_place (widow_of codes c.args.para) c.loop-at.walk.widow c.loop-at.list.items (finished_list codes c.args.para e) c.in_default-widow.is
    (end_of_walk codes e c.loop-at.walk c.loop-at.list.items c.args.list.now.items c.loop-at.place past c.loop-at.invariant.same entries is c.args.para)
