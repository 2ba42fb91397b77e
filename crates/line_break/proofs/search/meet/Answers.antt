use Rattle.std.proofs.Common.{rules, SFits, w32}
use Rattle.std.proofs.lemmas.Int.{to_z-of_z}
use Rattle.line_break.specs.Codes.{left_open, new_codes}
use Rattle.line_break.specs.Ready.{pass_of}
use Rattle.line_break.proofs.Opened.{new_are, appended, still_open}
use Rattle.line_break.proofs.search.meet.Goals as goal

pub returns-clause-states : goal.returns-clause-states
returns-clause-states g c =
    let p = pass_of c.args.lines.now in
    let rs = c.args.states.now.items in
    let xs = c.args.active.now.items in
    let fits : SFits w32 c.adj_demerits.result = search rules in
    let keeps = rw (to_z-of_z w32 c.adj_demerits.result fits) at c.in_ok-kept.ensures in
    let is = c.deref.ensures.value in
    let open_is = rw is at c.weigh_open-met.ensures.active in
    let all = rw c.deref-2.ensures.value at c.in_ok-or_rescue.ensures in
    let new = new_are p c.args.b rs xs c.weigh_open-met.new.active.items c.adj_demerits.result c.is_last.result c.weigh_open-met.result.found c.weigh_open-met.result.rescue c.kept.new.new.items c.or_rescue.new.new.items (rw is at c.weigh_open-met.ensures.found) open_is (rw is at c.weigh_open-met.ensures.rescue) c.adj_demerits.ensures c.is_last.ensures keeps all in
    appended rs c.append.new.states.items c.or_rescue.new.new.items (new_codes p c.args.b rs xs) (rw c.deref-3.ensures.value at c.in_ok-append.ensures.states) new

pub returns-clause-active : goal.returns-clause-active
returns-clause-active g c =
    let p = pass_of c.args.lines.now in
    let rs = c.args.states.now.items in
    let xs = c.args.active.now.items in
    let fits : SFits w32 c.adj_demerits.result = search rules in
    let keeps = rw (to_z-of_z w32 c.adj_demerits.result fits) at c.in_ok-kept.ensures in
    let is = c.deref.ensures.value in
    let open_is = rw is at c.weigh_open-met.ensures.active in
    let all = rw c.deref-2.ensures.value at c.in_ok-or_rescue.ensures in
    let new = new_are p c.args.b rs xs c.weigh_open-met.new.active.items c.adj_demerits.result c.is_last.result c.weigh_open-met.result.found c.weigh_open-met.result.rescue c.kept.new.new.items c.or_rescue.new.new.items (rw is at c.weigh_open-met.ensures.found) open_is (rw is at c.weigh_open-met.ensures.rescue) c.adj_demerits.ensures c.is_last.ensures keeps all in
    still_open rs c.or_rescue.new.new.items (new_codes p c.args.b rs xs) c.weigh_open-met.new.active.items (left_open p c.args.b rs xs) c.append.new.left.items (rw c.deref-3.ensures.value at c.in_ok-append.ensures.left) open_is new
