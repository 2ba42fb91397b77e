-- How the logic stores a box, its items and an item: an `impl Model` whose value holds one of these says so by `coded`.
use Rattle.std.specs.Prelude.{◌≡◌, ◌≢◌, ℕ, ℤ, Bool, Option, refl, ◌⊎◌}
use Rattle.std.proofs.Common.{ap, arith, subst, sym}
use Rattle.std.specs.Coded.{Coded, code_by, coded×, coded⊎, coded_ℕ, coded_ℤ, coded_bool, coded_option}
use mathlib.Core.Logic.{inl, inr}
use base.Stored.{Gv, gnil, gnum, gcons}
use Rattle.jis_codes.specs.Kuten.{Kuten}
use Rattle.jis_codes.specs.contracts.cell.Cell as cell
use Rattle.ts_geometry.specs.declared.glue.Glue.{Glue}
use Rattle.ts_geometry.specs.declared.measure.Measures.{Measures}
use Rattle.ts_geometry.specs.declared.measure.Sp.{Sp}
use Rattle.ts_geometry.specs.contracts.direction.Dir as dir
use Rattle.ts_geometry.specs.contracts.glue.Glue as glues
use Rattle.ts_geometry.specs.contracts.measure.Measures as measures
use Rattle.ts_geometry.specs.contracts.measure.Sp as sp
use Rattle.box_tree.specs.declared.item.FontNo.{FontNo}
use Rattle.box_tree.specs.declared.item.GlueFrom.{GlueFrom}
use Rattle.box_tree.specs.declared.item.KernFrom.{KernFrom}
use Rattle.box_tree.specs.contracts.node.BoxKind as kind
use Rattle.box_tree.specs.contracts.item.FontNo as font
use Rattle.box_tree.specs.contracts.item.GlueFrom as glue_from
use Rattle.box_tree.specs.contracts.item.KernFrom as kern_from
use Rattle.box_tree.specs.contracts.node.SetGlue as set_glue
use Rattle.box_tree.specs.Trees.{Plain, glyph, kanji, rule, glue, kern, penalty, BoxTree, node, TreeItems, no_items, item, TreeItem, plain, box, crossed}

-- ---- items without a box, by their variants

abbrev OfGlyph : Type 0
OfGlyph = FontNo × (ℕ × (Measures × (Sp × (ℕ × ℕ))))

abbrev OfKanji : Type 0
OfKanji = FontNo × (Kuten × (Measures × ℕ))

abbrev OfRule : Type 0
OfRule = Option Sp × (Option Sp × Option Sp)

abbrev Variants : Type 0
Variants = OfGlyph ⊎ (OfKanji ⊎ (OfRule ⊎ ((Glue × GlueFrom) ⊎ ((Sp × KernFrom) ⊎ (ℤ × Bool)))))

abbrev variant : Plain → Variants
variant (glyph f c m s a b) = inl (f, (c, (m, (s, (a, b)))))
variant (kanji f c m k) = inr (inl (f, (c, (m, k))))
variant (rule w h d) = inr (inr (inl (w, (h, d))))
variant (glue g from) = inr (inr (inr (inl (g, from))))
variant (kern w from) = inr (inr (inr (inr (inl (w, from)))))
variant (penalty v auto) = inr (inr (inr (inr (inr (v, auto)))))

abbrev of_variant : Variants → Plain
of_variant (inl v) = glyph v.0 v.1.0 v.1.1.0 v.1.1.1.0 v.1.1.1.1.0 v.1.1.1.1.1
of_variant (inr (inl v)) = kanji v.0 v.1.0 v.1.1.0 v.1.1.1
of_variant (inr (inr (inl v))) = rule v.0 v.1.0 v.1.1
of_variant (inr (inr (inr (inl v)))) = glue v.0 v.1
of_variant (inr (inr (inr (inr (inl v))))) = kern v.0 v.1
of_variant (inr (inr (inr (inr (inr v))))) = penalty v.0 v.1

pub of_variant-variant : (p : Plain) → of_variant (variant p) ≡ p
of_variant-variant (glyph f c m s a b) = refl
of_variant-variant (kanji f c m k) = refl
of_variant-variant (rule w h d) = refl
of_variant-variant (glue g from) = refl
of_variant-variant (kern w from) = refl
of_variant-variant (penalty v auto) = refl

abbrev coded_variants : Coded Variants
coded_variants =
    coded⊎ (coded× font.the_row.coded (coded× coded_ℕ (coded× measures.the_row.coded (coded× sp.the_row.coded (coded× coded_ℕ coded_ℕ)))))
    (coded⊎ (coded× font.the_row.coded (coded× cell.the_row.coded (coded× measures.the_row.coded coded_ℕ)))
    (coded⊎ (coded× (coded_option sp.the_row.coded) (coded× (coded_option sp.the_row.coded) (coded_option sp.the_row.coded)))
    (coded⊎ (coded× glues.the_row.coded glue_from.the_row.coded)
    (coded⊎ (coded× sp.the_row.coded kern_from.the_row.coded)
    (coded× coded_ℤ coded_bool)))))

abbrev coded_plain : Coded Plain
coded_plain = code_by Variants coded_variants variant of_variant of_variant-variant

-- ---- boxes

abbrev head : Gv → Gv
head gnil = gnil
head (gnum n) = gnil
head (gcons a b) = a

abbrev tail : Gv → Gv
tail gnil = gnil
tail (gnum n) = gnil
tail (gcons a b) = b

apart : (m n : ℕ) {a b : Gv} → gcons (gnum m) a ≡ gcons (gnum n) b → m ≢ n → ⊥
apart m n p other = other (cc)

abbrev mutual
  pub tree_code : BoxTree → Gv
  tree_code (node k d m s xs) =
      gcons (kind.the_row.coded.code k) (gcons (dir.the_row.coded.code d) (gcons (measures.the_row.coded.code m) (gcons (set_glue.the_row.coded.code s) (items_code xs))))

  pub items_code : TreeItems → Gv
  items_code no_items = gnil
  items_code (item x xs) = gcons (item_code x) (items_code xs)

  pub item_code : TreeItem → Gv
  item_code (plain p) = gcons (gnum 0) (coded_plain.code p)
  item_code (box b s) = gcons (gnum 1) (gcons (tree_code b) (sp.the_row.coded.code s))
  item_code (crossed b s m) = gcons (gnum 2) (gcons (tree_code b) (gcons (sp.the_row.coded.code s) (measures.the_row.coded.code m)))

abbrev IsPair : Gv → Type 0
IsPair gnil = ⊥
IsPair (gnum n) = ⊥
IsPair (gcons a b) = Unit {0}

mutual
  pub tree_inj : (x y : BoxTree) → tree_code x ≡ tree_code y → x ≡ y
  tree_inj (node k d m s xs) (node k' d' m' s' ys) p = λ i.
      node (kind.the_row.coded.inj k k' (ap (λ g. head g) p) i) (dir.the_row.coded.inj d d' (ap (λ g. head (tail g)) p) i)
      (measures.the_row.coded.inj m m' (ap (λ g. head (tail (tail g))) p) i) (set_glue.the_row.coded.inj s s' (ap (λ g. head (tail (tail (tail g)))) p) i)
      (items_inj xs ys (ap (λ g. tail (tail (tail (tail g)))) p) i)

  pub items_inj : (x y : TreeItems) → items_code x ≡ items_code y → x ≡ y
  items_inj no_items no_items p = refl
  items_inj no_items (item y ys) p = absurd (subst IsPair (sym p) tt)
  items_inj (item x xs) no_items p = absurd (subst IsPair p tt)
  items_inj (item x xs) (item y ys) p = λ i. item (item_inj x y (ap (λ g. head g) p) i) (items_inj xs ys (ap (λ g. tail g) p) i)

  pub item_inj : (x y : TreeItem) → item_code x ≡ item_code y → x ≡ y
  item_inj (plain a) (plain b) p = λ i. plain (coded_plain.inj a b (ap (λ g. tail g) p) i)
  item_inj (plain a) (box b s) p = absurd (apart 0 1 p (omega arith))
  item_inj (plain a) (crossed b s m) p = absurd (apart 0 2 p (omega arith))
  item_inj (box a s) (plain b) p = absurd (apart 1 0 p (omega arith))
  item_inj (box a s) (box b t) p = λ i. box (tree_inj a b (ap (λ g. head (tail g)) p) i) (sp.the_row.coded.inj s t (ap (λ g. tail (tail g)) p) i)
  item_inj (box a s) (crossed b t m) p = absurd (apart 1 2 p (omega arith))
  item_inj (crossed a s m) (plain b) p = absurd (apart 2 0 p (omega arith))
  item_inj (crossed a s m) (box b t) p = absurd (apart 2 1 p (omega arith))
  item_inj (crossed a s m) (crossed b t n) p = λ i. crossed (tree_inj a b (ap (λ g. head (tail g)) p) i)
      (sp.the_row.coded.inj s t (ap (λ g. head (tail (tail g))) p) i) (measures.the_row.coded.inj m n (ap (λ g. tail (tail (tail g))) p) i)

abbrev pub coded_tree : Coded BoxTree
coded_tree = record { code = tree_code; inj = tree_inj }

abbrev pub coded_items : Coded TreeItems
coded_items = record { code = items_code; inj = items_inj }

abbrev pub coded_item : Coded TreeItem
coded_item = record { code = item_code; inj = item_inj }
