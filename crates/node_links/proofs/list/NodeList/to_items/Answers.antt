use Rattle.std.proofs.Common.{◌≤◌, length, sym, ◌∙◌, arith}
use Rattle.std.proofs.lemmas.List.{take_all}
use Rattle.std.proofs.lemmas.Option.{slice_get_within}
use Rattle.node_links.specs.Lists.{IsAt}
use Rattle.node_links.proofs.Taken.{ends_at, with_next}
use Rattle.node_links.proofs.list.NodeList.to_items.Goals as goal

pub loop-at-preserved : goal.loop-at-preserved
loop-at-preserved c =
    let list = c.args.self.now in
    let taken = c.loop-at.items in
    let here : IsAt list (length taken) c.in-Some.number = sym c.loop-at.invariant.next ∙ c.in-Some.is in
    let item = c.item.ensures (length taken) here in
    let put = with_next list.items taken c.push.new.self c.item.result.now c.loop-at.invariant.so_far item (rw (← c.same_copy.ensures) c.in_ok-push.ensures.ok) in
    let within = slice_get_within list.items (length taken) c.item.result.now item in
    record {
      many = c.loop-at.invariant.many;
      within = omega (arith, put.0, within);
      so_far = put.1;
      next = rw put.0 (c.after-at.ensures (length taken) here);
    }

pub returns : goal.returns
returns c =
    let list = c.args.self.now in
    let taken = c.loop-at.items in
    let none = ends_at list.numbers (length taken) (sym c.loop-at.invariant.next ∙ c.in_default.is) in
    let all : length list.items ≤ length taken = omega (arith, none, c.loop-at.invariant.many) in
    c.loop-at.invariant.so_far ∙ take_all (length taken) list.items all
