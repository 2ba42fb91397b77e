-- What is added up is no farther from 0 than 2^32 for each item.
use Rattle.std.proofs.Common.{ℕ, ◌+◌, ◌^◌, ◌≤◌, ℤ, pos, ◌+ℤ◌, arith}
use Rattle.std.proofs.lemmas.Int.{ints}
use Rattle.ts_geometry.specs.declared.direction.Dir.{Dir}
use Rattle.ts_geometry.specs.declared.glue.Order.{Order}
use Rattle.ts_geometry.specs.declared.glue.Order.TheVariants.{Normal, Fil, Fill, Filll}
use Rattle.ts_geometry.specs.declared.measure.Sp.{Sp}
use Rattle.ts_geometry.specs.Numbers.{IsWithin}
use Rattle.box_tree.specs.declared.node.BoxKind.{BoxKind}
use Rattle.box_tree.specs.Bounds.{IsDimen}
use Rattle.box_tree.specs.Trees.{glyph, kanji, rule, glue, kern, penalty, TreeItem, plain, box, crossed}
use Rattle.box_tree.specs.Sound.{IsSoundItem}
use Rattle.box_tree.proofs.Near.{item_extent_near}
use Rattle.packaging.specs.declared.flex.Flex.{Flex}
use Rattle.packaging.specs.declared.long.Long.{Long}
use Rattle.packaging.specs.declared.totals.Totals.{Totals}
use Rattle.packaging.specs.Running.{plus, none, added, stretched, shrunk, no_totals, totals_with, IsFlexNear, AreNear}

farther : (k n : ℕ) (z : ℤ) → k ≤ n → IsWithin k z → IsWithin n z
farther k n z l h = (omega (arith, ints), omega (arith, ints))

pub flex_farther : (k n : ℕ) (t : Flex) → k ≤ n → IsFlexNear k t → IsFlexNear n t
flex_farther k n t l h = record { normal = farther k n _ l h.normal; fil = farther k n _ l h.fil; fill = farther k n _ l h.fill; filll = farther k n _ l h.filll }

pub are_farther : (k n : ℕ) (t : Totals) → k ≤ n → AreNear k t → AreNear n t
are_farther k n t l h = record { natural = farther k n _ l h.natural; stretch = flex_farther k n _ l h.stretch; shrink = flex_farther k n _ l h.shrink }

plus_near : (k : ℕ) (z : Long) (s : Sp) → IsWithin k z.0 → IsDimen s → IsWithin (k + 2 ^ 32) (plus z s).0
plus_near k z s h d = (omega (arith, ints), omega (arith, ints))

added_near : (k : ℕ) (t : Flex) (o : Order) (s : Sp) → IsFlexNear k t → IsDimen s → IsFlexNear (k + 2 ^ 32) (added t o s)
added_near k t Normal s h d = let f = flex_farther k (k + 2 ^ 32) t (omega arith) h in record { normal = plus_near k _ _ h.normal d; fil = f.fil; fill = f.fill; filll = f.filll }
added_near k t Fil s h d = let f = flex_farther k (k + 2 ^ 32) t (omega arith) h in record { normal = f.normal; fil = plus_near k _ _ h.fil d; fill = f.fill; filll = f.filll }
added_near k t Fill s h d = let f = flex_farther k (k + 2 ^ 32) t (omega arith) h in record { normal = f.normal; fil = f.fil; fill = plus_near k _ _ h.fill d; filll = f.filll }
added_near k t Filll s h d = let f = flex_farther k (k + 2 ^ 32) t (omega arith) h in record { normal = f.normal; fil = f.fil; fill = f.fill; filll = plus_near k _ _ h.filll d }

stretched_near : (k : ℕ) (dir : Dir) (t : Flex) (x : TreeItem) → IsFlexNear k t → IsSoundItem dir x → IsFlexNear (k + 2 ^ 32) (stretched t x)
stretched_near k dir t (plain (glyph font code size shift first last)) h s = flex_farther k (k + 2 ^ 32) t (omega arith) h
stretched_near k dir t (plain (kanji font cell size kind)) h s = flex_farther k (k + 2 ^ 32) t (omega arith) h
stretched_near k dir t (plain (rule wd ht dp)) h s = flex_farther k (k + 2 ^ 32) t (omega arith) h
stretched_near k dir t (plain (glue g from)) h s = added_near k t g.stretch_order g.stretch h s.stretch
stretched_near k dir t (plain (kern width from)) h s = flex_farther k (k + 2 ^ 32) t (omega arith) h
stretched_near k dir t (plain (penalty value auto)) h s = flex_farther k (k + 2 ^ 32) t (omega arith) h
stretched_near k dir t (box b shift) h s = flex_farther k (k + 2 ^ 32) t (omega arith) h
stretched_near k dir t (crossed b shift seen) h s = flex_farther k (k + 2 ^ 32) t (omega arith) h

shrunk_near : (k : ℕ) (dir : Dir) (t : Flex) (x : TreeItem) → IsFlexNear k t → IsSoundItem dir x → IsFlexNear (k + 2 ^ 32) (shrunk t x)
shrunk_near k dir t (plain (glyph font code size shift first last)) h s = flex_farther k (k + 2 ^ 32) t (omega arith) h
shrunk_near k dir t (plain (kanji font cell size kind)) h s = flex_farther k (k + 2 ^ 32) t (omega arith) h
shrunk_near k dir t (plain (rule wd ht dp)) h s = flex_farther k (k + 2 ^ 32) t (omega arith) h
shrunk_near k dir t (plain (glue g from)) h s = added_near k t g.shrink_order g.shrink h s.shrink
shrunk_near k dir t (plain (kern width from)) h s = flex_farther k (k + 2 ^ 32) t (omega arith) h
shrunk_near k dir t (plain (penalty value auto)) h s = flex_farther k (k + 2 ^ 32) t (omega arith) h
shrunk_near k dir t (box b shift) h s = flex_farther k (k + 2 ^ 32) t (omega arith) h
shrunk_near k dir t (crossed b shift seen) h s = flex_farther k (k + 2 ^ 32) t (omega arith) h

longer_near : (k : ℕ) (z w : ℤ) → IsWithin k z → IsWithin (2 ^ 32) w → IsWithin (k + 2 ^ 32) (z +ℤ w)
longer_near k z w h d = (omega (arith, ints), omega (arith, ints))

pub totals_near : (k : ℕ) (kind : BoxKind) (dir : Dir) (t : Totals) (x : TreeItem) → AreNear k t → IsSoundItem dir x → AreNear (k + 2 ^ 32) (totals_with kind t x)
totals_near k kind dir t x h s = record {
  natural = longer_near k _ _ h.natural (item_extent_near kind dir x s);
  stretch = stretched_near k dir t.stretch x h.stretch s;
  shrink = shrunk_near k dir t.shrink x h.shrink s;
}

at_0 : IsWithin 0 (pos 0)
at_0 = (omega (arith, ints), omega (arith, ints))

none_near : IsFlexNear 0 none
none_near = record { normal = at_0; fil = at_0; fill = at_0; filll = at_0 }

pub nothing_near : AreNear 0 no_totals
nothing_near = record { natural = at_0; stretch = none_near; shrink = none_near }
