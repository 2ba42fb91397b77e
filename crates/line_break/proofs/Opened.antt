-- What one more of the open states adds at a break.
use Rattle.std.proofs.Common.{◌≡◌, ℕ, zero, suc, ◌+◌, ◌≤◌, ◌<◌, Bool, true, false, not, cond, List, [], ◌∷◌, ◌++◌, length, get_or, set, ◌||◌, ℤ, pos, take, drop, ◌&&◌, Option, Some, None, refl, subst, sym, ◌∙◌, ap, arith, append-nil, int_le, neg_ℤ}
use Rattle.std.specs.List.{All, range_with_len}
use Rattle.std.proofs.Math.Seq.{take-length, take-suc, take-suc-set}
use Rattle.std.proofs.lemmas.List.{drop-set-lt, length-set, get_or-drop, get_or_default}
use Rattle.std.proofs.lemmas.List.Elements.{All-get_or, filter-append}
use Rattle.std.proofs.lemmas.List.Sums.{fold-append}
use Rattle.line_break.specs.declared.states.Found.{Found}
use Rattle.line_break.specs.declared.states.Reached.{Reached}
use Rattle.line_break.specs.declared.weight.Class.TheVariants.{VeryLoose}
use Rattle.line_break.specs.declared.weight.Weight.{Weight}
use Rattle.line_break.specs.Codes.{at_index, first, found_with, found_by, nothing, left_open, last_rescue, rescue_by, rescue_from, kept_codes, found_list, or_rescue_code, is_empty, new_codes, with_open, open_count}
use Rattle.line_break.specs.Lines.{Pass, closes, is_forced, penalty, weight}
use Rattle.line_break.proofs.Prepared.{drop_drop_any}

pub found_more : (p : Pass) (b : ℕ) (rs : List Reached) (xs : List ℕ) (i : ℕ) (found : Found) → found ≡ found_by p b rs xs → found_with p b found i (at_index rs i) ≡ found_by p b rs (xs ++ i ∷ [])
found_more p b rs xs i found e =
    ap (λ (f : Found). found_with p b f i (at_index rs i)) e
    ∙ sym (fold-append (λ (f : Found) (j : ℕ). found_with p b f j (at_index rs j)) nothing xs (i ∷ []))

pub rescue_more : (p : Pass) (b : ℕ) (rs : List Reached) (xs : List ℕ) (i : ℕ) → Some (rescue_by p b rs i) ≡ last_rescue p b rs (xs ++ i ∷ [])
rescue_more p b rs xs i = sym (fold-append (λ found j. Some (rescue_by p b rs j)) None xs (i ∷ []))

abbrev if_open : Bool → ℕ → List ℕ
if_open stays i = cond stays (i ∷ []) []

left_more : (p : Pass) (b : ℕ) (rs : List Reached) (xs : List ℕ) (i : ℕ) → left_open p b rs (xs ++ i ∷ []) ≡ left_open p b rs xs ++ if_open (not (closes p (at_index rs i).at b)) i
left_more p b rs xs i = filter-append (λ j. not (closes p (at_index rs j).at b)) xs (i ∷ [])

put_more : (active : List ℕ) (left i : ℕ) (stays : Bool) → left < length active → take (open_count left stays) (with_open active left i stays) ≡ take left active ++ if_open stays i
put_more active left i true h = let e : left + 1 ≡ suc left = omega arith in ap (λ n. take n (set active left i)) e ∙ take-suc-set active left i h
put_more active left i false h = sym (append-nil (take left active))

-- the open states once one more of them was weighed
pub open_more : (p : Pass) (b : ℕ) (rs : List Reached) (xs active : List ℕ) (left i : ℕ) (stays : Bool) → left < length active → stays ≡ not (closes p (at_index rs i).at b) → take left active ≡ left_open p b rs xs → take (open_count left stays) (with_open active left i stays) ≡ left_open p b rs (xs ++ i ∷ [])
open_more p b rs xs active left i stays h s e =
    put_more active left i stays h
    ∙ ap (λ ys. ys ++ if_open stays i) e
    ∙ ap (λ t. left_open p b rs xs ++ if_open t i) s
    ∙ sym (left_more p b rs xs i)

pub count_low : (left k : ℕ) (stays : Bool) → left ≤ k → open_count left stays ≤ k + 1
count_low left k true h = omega (arith, h)
count_low left k false h = omega (arith, h)

-- where none is left open, the last one closes
pub closed : (left now : ℕ) (stays : Bool) → now ≡ open_count left stays → now ≡ 0 → stays ≡ false
closed left now true e f = absurd (omega (arith, e, f))
closed left now false e f = refl

pub rest_is : (xs active : List ℕ) (left k i : ℕ) (stays : Bool) → left ≤ k → drop k active ≡ drop k xs → drop (k + 1) (with_open active left i stays) ≡ drop (k + 1) xs
rest_is xs active left k i stays h e = front stays ∙ sym (drop_drop_any k 1 active) ∙ ap (λ (ys : List ℕ). drop 1 ys) e ∙ drop_drop_any k 1 xs
  where
    front : (t : Bool) → drop (k + 1) (with_open active left i t) ≡ drop (k + 1) active
    front true = drop-set-lt (k + 1) active left i (omega (arith, h))
    front false = refl

pub still_as_long : (active : List ℕ) (left i : ℕ) (stays : Bool) → length (with_open active left i stays) ≡ length active
still_as_long active left i true = length-set active left i
still_as_long active left i false = refl

-- the index that the code reads is that of the list before the walk
pub same_at : (xs active : List ℕ) (k d : ℕ) → drop k active ≡ drop k xs → get_or active k d ≡ get_or xs k d
same_at xs active k d e =
    let z : k + 0 ≡ k = omega arith in
    ap (λ n. get_or active n d) (sym z) ∙ sym (get_or-drop k active 0 d) ∙ ap (λ (ys : List ℕ). get_or ys 0 d) e ∙ get_or-drop k xs 0 d ∙ ap (λ n. get_or xs n d) z

pub one_more : (xs : List ℕ) (k i d : ℕ) → k < length xs → i ≡ get_or xs k d → take (k + 1) xs ≡ take k xs ++ i ∷ []
one_more xs k i d h e = let s : k + 1 ≡ suc k = omega arith in ap (λ n. take n xs) s ∙ take-suc xs k d h ∙ ap (λ j. take k xs ++ j ∷ []) (sym e)

pub index_within : (xs active : List ℕ) (k i n : ℕ) → k < length xs → i ≡ get_or active k i → drop k active ≡ drop k xs → All (λ j. j < n) xs → i < n
index_within xs active k i n h e rest all =
    let P : ℕ → Type 0 = λ j. j < n in
    subst P (sym (e ∙ same_at xs active k i rest)) (All-get_or P xs k i h all)

-- what the compiler takes where nothing is read
abbrev pub unread : Reached
unread = record { at = 0; class = VeryLoose; sum = pos 0; from = 0 }

pub read_at : (rs : List Reached) (i : ℕ) → i < length rs → get_or rs i unread ≡ at_index rs i
read_at rs i h = get_or_default rs i unread first h

pub stays_is : (p : Pass) (b : ℕ) (x : Reached) (line : Weight) (q : ℤ) (forced stays : Bool) → line ≡ weight p x.at b → q ≡ penalty p b → forced ≡ int_le q (neg_ℤ (pos 10000)) → stays ≡ not (line.overfull || forced) → stays ≡ not (closes p x.at b)
unfolding closes
stays_is p b x line q forced stays w e f s =
    s
    ∙ ap (λ t. not (line.overfull || t)) (f ∙ ap (λ z. int_le z (neg_ℤ (pos 10000))) e)
    ∙ ap (λ (v : Weight). not (v.overfull || is_forced p b)) w

pub stays_at : (p : Pass) (b : ℕ) (x y : Reached) (stays : Bool) → x ≡ y → stays ≡ not (closes p x.at b) → stays ≡ not (closes p y.at b)
stays_at p b x y stays e s = s ∙ ap (λ (z : Reached). not (closes p z.at b)) e

no_place : (active : List ℕ) (left : ℕ) → left ≤ length active → is_empty (take left active) ≡ true → left ≡ 0
no_place active zero h e = refl
no_place [] (suc left) h e = absurd (omega (arith, h))
no_place (i ∷ active) (suc left) h e = absurd (cc)

-- what the last line leads to, where it leaves nothing open
pub last_closed : (p : Pass) (b : ℕ) (rs : List Reached) (xs active now : List ℕ) (left k : ℕ) (r : Option Reached) → now ≡ take left active → left ≤ k → k ≡ length xs → length active ≡ length xs → (left ≡ 0 → r ≡ last_rescue p b rs (take k xs)) → is_empty now ≡ true → r ≡ last_rescue p b rs xs
last_closed p b rs xs active now left k r e low all long rescue none =
    let P : List ℕ → Type 0 = λ is. is_empty is ≡ true in
    rescue (no_place active left (omega (arith, low, all, long)) (subst P e none))
    ∙ ap (λ (is : List ℕ). last_rescue p b rs is) (ap (λ n. take n xs) all ∙ take-length xs)

pub rescue_is : (p : Pass) (b : ℕ) (rs : List Reached) (xs : List ℕ) (i : ℕ) (x : Reached) (r : Option Reached) → x ≡ at_index rs i → r ≡ Some (rescue_from p b i x) → r ≡ last_rescue p b rs (xs ++ i ∷ [])
rescue_is p b rs xs i x r e f =
    f
    ∙ ap (λ (y : Reached). Some (rescue_from p b i y)) e
    ∙ rescue_more p b rs xs i

-- what is taken where nothing is left open
rescued_is : (t empties : Bool) (r s : Option Reached) (kept : List Reached) → (empties ≡ true → r ≡ s) → or_rescue_code (t && empties) r kept ≡ or_rescue_code (t && empties) s kept
rescued_is t true r s kept h = ap (λ o. or_rescue_code (t && true) o kept) (h refl)
rescued_is t empties r s (k ∷ kept) h = refl
rescued_is true false r s [] h = refl
rescued_is false false r s [] h = refl

-- the states that are new at a break, by what the code puts together
pub new_are : (p : Pass) (b : ℕ) (rs : List Reached) (xs left : List ℕ) (adj : ℤ) (last : Bool) (found : Found) (rescue : Option Reached) (kept all : List Reached) → found ≡ found_by p b rs xs → left ≡ left_open p b rs xs → (is_empty left ≡ true → rescue ≡ last_rescue p b rs xs) → adj ≡ p.shape.adj_demerits → last ≡ p.is_last → kept ≡ kept_codes adj (found_list found) → all ≡ or_rescue_code (last && is_empty left) rescue kept → all ≡ new_codes p b rs xs
new_are p b rs xs left adj last found rescue kept all f l r a t k e =
    let keeps : kept ≡ kept_codes p.shape.adj_demerits (found_list (found_by p b rs xs)) =
    k ∙ ap (λ z. kept_codes z (found_list found)) a ∙ ap (λ (g : Found). kept_codes p.shape.adj_demerits (found_list g)) f in
    e
    ∙ ap (λ ks. or_rescue_code (last && is_empty left) rescue ks) keeps
    ∙ rescued_is last (is_empty left) rescue (last_rescue p b rs xs) (kept_codes p.shape.adj_demerits (found_list (found_by p b rs xs))) r
    ∙ ap (λ (is : List ℕ). or_rescue_code (last && is_empty is) (last_rescue p b rs xs) (kept_codes p.shape.adj_demerits (found_list (found_by p b rs xs)))) l
    ∙ ap (λ u. or_rescue_code (u && is_empty (left_open p b rs xs)) (last_rescue p b rs xs) (kept_codes p.shape.adj_demerits (found_list (found_by p b rs xs)))) t

pub appended : (rs now new codes : List Reached) → now ≡ rs ++ new → new ≡ codes → now ≡ rs ++ codes
appended rs now new codes e f = e ∙ ap (λ ys. rs ++ ys) f

pub still_open : (rs new codes : List Reached) (left open_ now : List ℕ) → now ≡ left ++ range_with_len (length rs) (length new) → left ≡ open_ → new ≡ codes → now ≡ open_ ++ range_with_len (length rs) (length codes)
still_open rs new codes left open_ now e l f =
    e ∙ ap (λ ys. ys ++ range_with_len (length rs) (length new)) l ∙ ap (λ (ys : List Reached). open_ ++ range_with_len (length rs) (length ys)) f
