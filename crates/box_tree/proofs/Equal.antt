-- The test for the same tree.
use Rattle.std.proofs.Common.{◌≡◌, ℕ, Bool, true, false, ◌&&◌, nat_eq, refl, ap, subst, arith}
use Rattle.std.proofs.lemmas.Bool.Decides.{nat_tests}
use base.Stored.{Gv, gnil, gnum, gcons}
use Rattle.box_tree.specs.Codes.{tree_code, items_code, tree_inj, items_inj}
use Rattle.box_tree.specs.Equality.{alike}
use Rattle.box_tree.specs.Laws.{TreesAreTested, ItemsAreTested}

both : (a b : Bool) → (a && b) ≡ true → (a ≡ true) × (b ≡ true)
both true true e = (refl, refl)
both true false e = (refl, e)
both false b e = cc

number_is : (m n : ℕ) → nat_eq m n ≡ true → m ≡ n
number_is m n e = grind (arith, nat_tests)

alike_same : (a b : Gv) → alike a b ≡ true → a ≡ b
alike_same gnil gnil e = refl
alike_same gnil (gnum n) e = cc
alike_same gnil (gcons c d) e = cc
alike_same (gnum m) gnil e = cc
alike_same (gnum m) (gnum n) e = ap gnum (number_is m n e)
alike_same (gnum m) (gcons c d) e = cc
alike_same (gcons a b) gnil e = cc
alike_same (gcons a b) (gnum n) e = cc
alike_same (gcons a b) (gcons c d) e = let h = both _ _ e in λ i. gcons (alike_same a c h.0 i) (alike_same b d h.1 i)

number_itself : (n : ℕ) → nat_eq n n ≡ true
number_itself n = grind (arith, nat_tests)

alike_itself : (a : Gv) → alike a a ≡ true
alike_itself gnil = refl
alike_itself (gnum n) = number_itself n
alike_itself (gcons a b) = let p = alike_itself a in let q = alike_itself b in rw (p, q)

alike_of : (a b : Gv) → a ≡ b → alike a b ≡ true
alike_of a b e = subst (λ (g : Gv). alike a g ≡ true) e (alike_itself a)

pub trees_are_tested : TreesAreTested
trees_are_tested b c = (λ e. tree_inj b c (alike_same _ _ e), λ e. alike_of _ _ (ap tree_code e))

pub items_are_tested : ItemsAreTested
items_are_tested xs ys = (λ e. items_inj xs ys (alike_same _ _ e), λ e. alike_of _ _ (ap items_code e))
