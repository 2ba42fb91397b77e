use Rattle.std.proofs.Common.{◌≡◌, ◌<◌, Some, None, ap, ◌∙◌, arith, length, reverse}
use Rattle.line_break.specs.Codes.{best_end_of}
use Rattle.line_break.specs.Ready.{pass_of}
use Rattle.line_break.proofs.Ends.{back, small_demerits, ends_chosen, no_ends_chosen}
use Rattle.line_break.proofs.passes.pass_ends.Goals as goal

pub one_pass-requires-clause-small : goal.one_pass-requires-clause-small
one_pass-requires-clause-small g c = small_demerits (pass_of c.args.lines.now) c.requires.prepared.adj

pub returns-in-None-clause-ends : goal.returns-in-None-clause-ends
returns-in-None-clause-ends g c =
    let rs = c.in_ok-states.states.items in
    let is : None ≡ best_end_of rs c.last-n.result = grind (arith, c.in-None.ensures.value, c.deref.ensures.value) in
    no_ends_chosen (pass_of c.args.lines.now) rs c.last-n.result c.last-n.ensures.value c.in_ok-states.ensures.states is

pub returns-clause-ends : goal.returns-clause-ends
returns-clause-ends g c =
    let p = pass_of c.args.lines.now in
    let rs = c.in_ok-states.states.items in
    let is : Some c.in-Some.end ≡ best_end_of rs c.last-n.result = grind (arith, c.in-Some.ensures.value, c.deref.ensures.value) in
    let inside : c.in-Some.end < length rs = grind (arith, c.in-Some.ensures.inside, c.deref.ensures.value) in
    let walk : c.in_ok-ends-in-Some.ends.items ≡ reverse (back p rs c.in-Some.end) = grind (arith, c.in_ok-ends-in-Some.ensures, c.deref-in-Some.ensures.value) in
    ap Some walk ∙ ends_chosen p rs c.last-n.result c.in-Some.end c.last-n.ensures.value inside c.in_ok-states.ensures.states is
