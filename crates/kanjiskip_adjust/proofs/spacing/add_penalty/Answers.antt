use Rattle.std.proofs.Common.{rules, ◌≡◌, ◌+◌, ◌-◌, slice_get, Some, ◌+ℤ◌, w32, w64, FitsSigned, sym, ◌∙◌, arith}
use Rattle.std.proofs.lemmas.Int.{to_z-of_z}
use Rattle.kanjiskip_adjust.proofs.Passing.{added_on, added_new, small_value}
use Rattle.kanjiskip_adjust.proofs.Sums.{sum_fits}
use Rattle.kanjiskip_adjust.proofs.spacing.add_penalty.Goals as goal

pub returns-in-Some-gap_value-clause-items : goal.returns-in-Some-gap_value-clause-items
returns-in-Some-gap_value-clause-items g c = λ small.
    let list = c.args.list.now in
    let value = c.in-Some-gap_value.value in
    let back : c.args.gap - 1 + 1 ≡ c.args.gap = omega (arith, c.requires.some) in
    let at : slice_get list.numbers c.args.gap ≡ Some c.in-Some.number = rw back at (sym (c.next.ensures.next (c.args.gap - 1) c.requires.here) ∙ c.in-Some.is) in
    let item = c.item.ensures c.args.gap at in
    let is = sym c.in-Some-gap_value.ensures in
    let within = small_value (slice_get list.items c.args.gap) c.item.result.now value small item is in
    let fits : FitsSigned w64 value = search rules in
    let narrow : FitsSigned w32 c.args.widow = search rules in
    let from = c.from.ensures ∙ to_z-of_z w32 c.args.widow narrow in
    let wide : FitsSigned w64 c.from.result = search rules in
    let total : c.saturating_add.result ≡ value +ℤ c.args.widow
    = (rw (to_z-of_z w64 value fits, to_z-of_z w64 c.from.result wide, from) at c.saturating_add.ensures) ∙ sum_fits value c.args.widow within narrow in
    let whole : FitsSigned w64 c.saturating_add.result = search rules in
    let put = rw (to_z-of_z w64 c.saturating_add.result whole, total) at (c.set_penalty.ensures.items c.args.gap at) in
    put ∙ added_on c.args.widow value c.args.gap list.items c.item.result.now item is

pub returns-in-None-clause-items : goal.returns-in-None-clause-items
returns-in-None-clause-items g c = λ small.
    let list = c.args.list.now in
    let back : c.args.gap - 1 + 1 ≡ c.args.gap = omega (arith, c.requires.some) in
    let at : slice_get list.numbers c.args.gap ≡ Some c.in-Some.number = rw back at (sym (c.next.ensures.next (c.args.gap - 1) c.requires.here) ∙ c.in-Some.is) in
    let item = c.item.ensures c.args.gap at in
    let narrow : FitsSigned w32 c.args.widow = search rules in
    let from = c.from-value.ensures ∙ to_z-of_z w32 c.args.widow narrow in
    let wide : FitsSigned w64 c.from-value.result = search rules in
    let put = rw (back, to_z-of_z w64 c.from-value.result wide, from) at (c.insert_after.ensures.items (c.args.gap - 1) c.requires.here) in
    put ∙ added_new c.args.widow c.args.gap list.items c.item.result.now item (sym c.in-None.ensures)
