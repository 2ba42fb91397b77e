use Rattle.std.proofs.Common.{[], ◌∷◌, List, ◌≡◌, ◌+◌, length, arith, length-append, subst, sym, ◌∙◌, ap}
use Rattle.box_tree.specs.declared.item.Item.{Item}
use Rattle.box_tree.specs.Nodes.{tree_items}
use Rattle.box_tree.specs.Sound.{AreSound}
use Rattle.box_tree.proofs.Lists.{joined_are_sound}
use Rattle.line_break.proofs.break_tests.items_of.Goals as goal

pub loop-letter-preserved : goal.loop-letter-preserved
loop-letter-preserved c =
    let old = c.loop-letter.items.items in
    let more = c.item_of.result ∷ [] in
    let is = c.in_ok-push.ensures.items in
    let P : List Item → Type 0 = λ xs. AreSound c.args._dir (tree_items xs) in
    let e = length-append old more in
    let n : length c.push.new.self.items ≡ length old + 1 = ap (λ (xs : List Item). length xs) is ∙ e in
    record {
      sound = subst P (sym is) ((joined_are_sound c.args._dir old more).1 (c.loop-letter.invariant.sound, (c.item_of.ensures c.args._dir, tt)));
      few = let f = c.loop-letter.invariant.few in omega (arith, n, f);
    }
