-- A definition stands at the place of its number.
use Rattle.std.proofs.Common.{◌≡◌, ℕ, ◌+◌, List, [], ◌∷◌, ◌++◌, length, refl, sym, ap, ◌∙◌, arith, ℤ, Option, Some, None, Ok, Err, Bool, true, false, cond, add-one, subst}
use Rattle.std.specs.Prelude.{is_some, if◌then◌else◌}
use Rattle.std.specs.Ordering.{int_eq}
use Rattle.std.proofs.lemmas.Bool.Decides.{Decides-int_eq}
use Rattle.dvi_commands.specs.declared.font.FontDef.{FontDef}
use Rattle.dvi_commands.specs.declared.fault.DviKind.TheVariants as kinds
use Rattle.dvi_structure.specs.Structure.{font_of, is_same_font, is_sound_font, defined, defined_beside}
use Rattle.dvi_structure.specs.FontPlaces.{compared, place_from, place_of, at_place}

abbrev later : Option ℕ → Option ℕ
later None = None
later (Some k) = Some (k + 1)

later_if : (b : Bool) (k : ℕ) (r s : Option ℕ) → s ≡ later r → cond b (Some (k + 1)) s ≡ later (cond b (Some k) r)
later_if true k r s e = refl
later_if false k r s e = e

shifted : (k : ℕ) (fs : List FontDef) (n : ℤ) → place_from (k + 1) fs n ≡ later (place_from k fs n)
shifted k [] n = refl
shifted k (f ∷ fs) n = later_if (int_eq f.number n) k _ _ (shifted (k + 1) fs n)

at_later : (f : FontDef) (fs : List FontDef) (r : Option ℕ) → at_place (f ∷ fs) (later r) ≡ at_place fs r
at_later f fs None = refl
at_later f fs (Some k) = rw add-one refl

found_if : (b : Bool) (f : FontDef) (fs : List FontDef) (r : Option ℕ) (x : Option FontDef) → at_place (f ∷ fs) r ≡ x → at_place (f ∷ fs) (cond b (Some 0) r) ≡ cond b (Some f) x
found_if true f fs r x e = refl
found_if false f fs r x e = e

pub found : (fs : List FontDef) (n : ℤ) → at_place fs (place_of fs n) ≡ font_of fs n
found [] n = refl
found (f ∷ fs) n = found_if (int_eq f.number n) f fs _ _ (ap (at_place (f ∷ fs)) (shifted 0 fs n) ∙ at_later f fs (place_of fs n) ∙ found fs n)

-- the same places tell whether there is one
some_later : (r : Option ℕ) → is_some (later r) ≡ is_some r
some_later None = refl
some_later (Some k) = refl

some_if : (b : Bool) (k : ℕ) (f : FontDef) (r : Option ℕ) (x : Option FontDef) → is_some r ≡ is_some x → is_some (cond b (Some k) r) ≡ is_some (cond b (Some f) x)
some_if true k f r x e = refl
some_if false k f r x e = e

pub has_place : (fs : List FontDef) (n : ℤ) → is_some (place_of fs n) ≡ is_some (font_of fs n)
has_place [] n = refl
has_place (f ∷ fs) n = some_if (int_eq f.number n) 0 f _ _ (ap (λ (r : Option ℕ). is_some r) (shifted 0 fs n) ∙ some_later (place_of fs n) ∙ has_place fs n)

-- ---- one more

abbrev or_else : Option ℕ → Option ℕ → Option ℕ
or_else None y = y
or_else (Some x) y = Some x

or_if : (b : Bool) (k : ℕ) (r s y : Option ℕ) → s ≡ or_else r y → cond b (Some k) s ≡ or_else (cond b (Some k) r) y
or_if true k r s y e = refl
or_if false k r s y e = e

appended : (k : ℕ) (fs : List FontDef) (f : FontDef) (n : ℤ) → place_from k (fs ++ f ∷ []) n ≡ or_else (place_from k fs n) (if int_eq f.number n then Some (k + length fs) else None)
appended k [] f n = let e : k + 0 ≡ k = omega arith in rw e refl
appended k (g ∷ gs) f n =
    let e : k + 1 + length gs ≡ k + length (g ∷ gs) = omega arith in
    or_if (int_eq g.number n) k _ _ _ (subst (λ (m : ℕ). place_from (k + 1) (gs ++ f ∷ []) n ≡ or_else (place_from (k + 1) gs n) (if int_eq f.number n then Some m else None)) e (appended (k + 1) gs f n))

more_if : (b : Bool) (len : ℕ) (r : Option ℕ) → (b ≡ true → r ≡ None) → cond b (Some len) r ≡ or_else r (cond b (Some len) None)
more_if true len None e = refl
more_if true len (Some k) e = let none = e refl in absurd cc
more_if false len None e = refl
more_if false len (Some k) e = refl

same_int : (a b : ℤ) → int_eq a b ≡ true → a ≡ b
same_int a b e = grind (arith, Decides-int_eq)

pub places_more : (fs : List FontDef) (f : FontDef) (n : ℤ) → place_of fs f.number ≡ None → cond (int_eq f.number n) (Some (length fs)) (place_of fs n) ≡ place_of (fs ++ f ∷ []) n
places_more fs f n none =
    let zero_more : 0 + length fs ≡ length fs = omega arith in
    let all : place_of (fs ++ f ∷ []) n ≡ or_else (place_of fs n) (if int_eq f.number n then Some (length fs) else None) = subst (λ (m : ℕ). place_of (fs ++ f ∷ []) n ≡ or_else (place_of fs n) (if int_eq f.number n then Some m else None)) zero_more (appended 0 fs f n) in
    more_if (int_eq f.number n) (length fs) (place_of fs n) (λ same. ap (place_of fs) (sym (same_int f.number n same)) ∙ none) ∙ sym all

-- ---- beside the definition that a number has

none_or_not : (r : Option FontDef) (fs : List FontDef) (n : ℤ) → is_some (place_of fs n) ≡ is_some r → r ≡ None → place_of fs n ≡ None
none_or_not r fs n e none = none_is (place_of fs n) (e ∙ ap (λ (x : Option FontDef). is_some x) none)
  where
    none_is : (p : Option ℕ) → is_some p ≡ false → p ≡ None
    none_is None e = refl
    none_is (Some k) e = absurd cc

pub no_place : (fs : List FontDef) (n : ℤ) → font_of fs n ≡ None → place_of fs n ≡ None
no_place fs n none = none_or_not (font_of fs n) fs n (has_place fs n) none

compared_same : (f : FontDef) (fs : List FontDef) (r : Option FontDef) (b : Bool) → compared f r ≡ Some b → defined_beside r fs f ≡ cond b (Ok fs) (Err kinds.FontDef)
compared_same f fs None b e = absurd cc
compared_same f fs (Some g) b e = let same : is_same_font f g ≡ b = cc in rw same refl

pub define_same : (f : FontDef) (fs : List FontDef) → compared f (font_of fs f.number) ≡ Some true → defined fs f ≡ Ok fs
define_same f fs e = compared_same f fs (font_of fs f.number) true e

pub define_other : (f : FontDef) (fs : List FontDef) → compared f (font_of fs f.number) ≡ Some false → defined fs f ≡ Err kinds.FontDef
define_other f fs e = compared_same f fs (font_of fs f.number) false e

none_compared : (f : FontDef) (r : Option FontDef) → compared f r ≡ None → r ≡ None
none_compared f None e = refl
none_compared f (Some g) e = absurd cc

pub compared_none : (f : FontDef) (fs : List FontDef) → compared f (font_of fs f.number) ≡ None → font_of fs f.number ≡ None
compared_none f fs e = none_compared f (font_of fs f.number) e

pub define_new : (f : FontDef) (fs : List FontDef) → compared f (font_of fs f.number) ≡ None → defined fs f ≡ (if is_sound_font f then Ok (fs ++ f ∷ []) else Err kinds.FontDef)
define_new f fs e = rw (compared_none f fs e) refl

pub compared_at : (f : FontDef) (fs : List FontDef) (r : Option ℕ) → at_place fs r ≡ font_of fs f.number → compared f (font_of fs f.number) ≡ compared f (at_place fs r)
compared_at f fs r e = ap (compared f) (sym e)
