-- One break of the active list is one break of the definition.
use Rattle.std.proofs.Common.{◌≡◌, ℕ, zero, suc, ◌+◌, ◌-◌, ◌*◌, ◌^◌, ◌<◌, ◌≤◌, ◌==◌, Bool, true, false, not, ◌&&◌, if◌then◌else◌, cond, List, [], ◌∷◌, ◌++◌, length, get_or, map, Option, Some, None, inl, inr, refl, subst, sym, ◌∙◌, ap, arith, ℤ, int_lt, append_assoc, append-nil, length-append, add-one, nat_le}
use Rattle.std.proofs.lemmas.Bool.{le-leb, lt-leb, ne_eqb, cases_lt}
use Rattle.std.specs.List.{fold, filter, filter_map, cons_option, All, AllByRecursion, range_with_len}
use Rattle.std.proofs.lemmas.Int.{ints}
use Rattle.std.proofs.lemmas.List.Sums.{fold-append}
use Rattle.std.proofs.lemmas.List.{map-append, get_or_append_left, get_or_at, get_or-append_right, length-map}
use Rattle.std.proofs.lemmas.List.Elements.{recursion_from_All, All-from_recursion, filter-append}
use Rattle.ts_geometry.specs.Numbers.{IsWithin}
use Rattle.line_break.specs.declared.weight.Class.{Class}
use Rattle.line_break.specs.declared.weight.Class.TheVariants.{VeryLoose, Loose, Decent, Tight}
use Rattle.line_break.specs.Lines.{Pass, weight, closes, demerits, rank}
use Rattle.line_break.specs.Best.{State, start, is_open, classes, states_to, new_states, or_rescue, rescued, last_open, all_close, earlier_least, chosen, last_break}
use Rattle.line_break.specs.declared.states.Reached.{Reached}
use Rattle.line_break.specs.declared.states.Found.{Found}
use Rattle.line_break.specs.Codes.{better_end, best_end_of, walk_to, seen, and_seen, meaning, first, nothing, pick, later_of, offered, reach, fits, found_with, at_index, found_by, left_open, found_list, kept_codes, is_empty, rescue_by, last_rescue, to_list, or_rescue_code, new_codes, IsChain}
use Rattle.line_break.specs.Ready.{open_states, HasSmallDemerits, Ready, pairs, walk_of, chosen_walk}
use Rattle.line_break.proofs.Meaning.{heads-meaning, head_of, code_head, Head, head-at, length-meaning, states_at, finds, kept-seen, last-along, close-along, pick-offered_as}

-- ---- what every new one is

-- from one of the first n states, at b, with a small sum
pub record Fresh (n b lim : ℕ) (r : Reached) : Type 0 where
  pub inside : r.from < n
  pub here : r.at ≡ b
  pub small : IsWithin lim r.sum

abbrev OptionHas : (Reached → Type 0) → Option Reached → Type 0
OptionHas P None = Unit {0}
OptionHas P (Some r) = P r

later-has : (P : Reached → Type 0) (o : Option Reached) (r : Reached) → OptionHas P o → P r → OptionHas P (later_of o r)
later-has P None r h k = k
later-has P (Some x) r h k = elim (int_lt x.sum r.sum) as (λ t. OptionHas P (cond t (Some x) (Some r))) [ true ↦ h | false ↦ k ]

offered-has : (P : Reached → Type 0) (f : Found) (r : Reached) (c : Class) → OptionHas P (pick f c) → P r → OptionHas P (pick (offered f r) c)
unfolding offered
offered-has P f r c h k =
    let Q : Option Reached → Type 0 = OptionHas P in
    subst Q (sym (pick-offered_as r.class c f r)) (
    elim (rank r.class == rank c) as (λ t. OptionHas P (cond t (later_of (pick f c) r) (pick f c))) [ true ↦ later-has P (pick f c) r h k | false ↦ h ])

found_with-has : (P : Reached → Type 0) (p : Pass) (b i : ℕ) (f : Found) (x : Reached) (c : Class) → OptionHas P (pick f c) → P (reach p b i x) → OptionHas P (pick (found_with p b f i x) c)
unfolding found_with
found_with-has P p b i f x c h k = elim (fits p x.at b) as (λ t. OptionHas P (pick (cond t (offered f (reach p b i x)) f) c)) [ true ↦ offered-has P f (reach p b i x) c h k | false ↦ h ]

found_along-has : (P : Reached → Type 0) (p : Pass) (b : ℕ) (rs : List Reached) (c : Class) (f : Found) (active : List ℕ) → OptionHas P (pick f c) → AllByRecursion (λ i. P (reach p b i (at_index rs i))) active → OptionHas P (pick (fold (λ g i. found_with p b g i (at_index rs i)) f active) c)
found_along-has P p b rs c f [] h all = h
found_along-has P p b rs c f (i ∷ active) h all = found_along-has P p b rs c (found_with p b f i (at_index rs i)) active (found_with-has P p b i f (at_index rs i) c h all.0) all.1

filter_map-has : (P : Reached → Type 0) (g : Class → Option Reached) (cs : List Class) → ((c : Class) → OptionHas P (g c)) → AllByRecursion P (filter_map g cs)
filter_map-has P g [] all = tt
filter_map-has P g (c ∷ cs) all =
    elim (g c) as (λ o. OptionHas P o → AllByRecursion P (cons_option o (filter_map g cs))) [
      | None ↦ λ h. filter_map-has P g cs all
      | Some r ↦ λ h. (h, filter_map-has P g cs all)
    ] (all c)

filter-has : (P : Reached → Type 0) (t : Reached → Bool) (rs : List Reached) → AllByRecursion P rs → AllByRecursion P (filter t rs)
filter-has P t [] all = tt
filter-has P t (r ∷ rs) all = elim (t r) as (λ b. AllByRecursion P (cond b (r ∷ filter t rs) (filter t rs))) [ true ↦ (all.0, filter-has P t rs all.1) | false ↦ filter-has P t rs all.1 ]

last-has : (P : Reached → Type 0) (p : Pass) (b : ℕ) (rs : List Reached) (o : Option Reached) (active : List ℕ) → OptionHas P o → AllByRecursion (λ i. P (rescue_by p b rs i)) active → OptionHas P (fold (λ found i. Some (rescue_by p b rs i)) o active)
last-has P p b rs o [] h all = h
last-has P p b rs o (i ∷ active) h all = last-has P p b rs (Some (rescue_by p b rs i)) active all.0 all.1

or_rescue-has : (P : Reached → Type 0) (t : Bool) (o : Option Reached) (kept : List Reached) → OptionHas P o → AllByRecursion P kept → AllByRecursion P (or_rescue_code t o kept)
or_rescue-has P true None [] h all = tt
or_rescue-has P true (Some r) [] h all = (h, tt)
or_rescue-has P false o [] h all = tt
or_rescue-has P t o (r ∷ rs) h all = all

pick-none : (P : Reached → Type 0) (c : Class) → OptionHas P (pick nothing c)
pick-none P VeryLoose = tt
pick-none P Loose = tt
pick-none P Decent = tt
pick-none P Tight = tt

-- what holds of each line from an active state holds of all that is found, and of all that is new
pub found-have : (P : Reached → Type 0) (p : Pass) (b : ℕ) (rs : List Reached) (active : List ℕ) → AllByRecursion (λ i. P (reach p b i (at_index rs i))) active → AllByRecursion P (found_list (found_by p b rs active))
found-have P p b rs active all = filter_map-has P (pick (found_by p b rs active)) classes (λ c. found_along-has P p b rs c nothing active (pick-none P c) all)

pub new-have : (P : Reached → Type 0) (p : Pass) (b : ℕ) (rs : List Reached) (active : List ℕ) → AllByRecursion (λ i. P (reach p b i (at_index rs i))) active → AllByRecursion (λ i. P (rescue_by p b rs i)) active → AllByRecursion P (new_codes p b rs active)
new-have P p b rs active all rescues =
    or_rescue-has P (p.is_last && is_empty (left_open p b rs active)) (last_rescue p b rs active) (kept_codes p.shape.adj_demerits (found_list (found_by p b rs active)))
    (last-has P p b rs None active tt rescues)
    (filter-has P _ (found_list (found_by p b rs active)) (found-have P p b rs active all))

-- ---- the meaning of what is appended

append-seen : (before after : List State) (new : List Reached) → AllByRecursion (λ r. r.from < length before) new → fold and_seen (before ++ after) new ≡ (before ++ after) ++ map (seen before) new
append-seen before after [] all = sym (append-nil (before ++ after))
append-seen before after (r ∷ new) all =
    let inside : r.from < length before = all.0 in
    let same : seen (before ++ after) r ≡ seen before r = ap (λ (x : State). record { at = r.at; class = r.class; sum = r.sum; walk = if r.at == 0 then [] else (x.at ∷ x.walk) }) (get_or_append_left before after start r.from inside) in
    ap (λ (y : State). fold and_seen ((before ++ after) ++ y ∷ []) new) same
    ∙ ap (λ (ys : List State). fold and_seen ys new) (append_assoc before after (seen before r ∷ []))
    ∙ append-seen before (after ++ seen before r ∷ []) new all.1
    ∙ ap (λ (ys : List State). ys ++ map (seen before) new) (sym (append_assoc before after (seen before r ∷ [])))
    ∙ append_assoc (before ++ after) (seen before r ∷ []) (map (seen before) new)

pub meaning-append : (rs new : List Reached) → AllByRecursion (λ r. r.from < length (meaning rs)) new → meaning (rs ++ new) ≡ meaning rs ++ map (seen (meaning rs)) new
unfolding meaning
meaning-append rs new all =
    fold-append and_seen [] rs new
    ∙ ap (λ (xs : List State). fold and_seen xs new) (sym (append-nil (fold and_seen [] rs)))
    ∙ append-seen (fold and_seen [] rs) [] new all
    ∙ ap (λ (xs : List State). xs ++ map (seen (fold and_seen [] rs)) new) (append-nil (fold and_seen [] rs))

-- ---- the rescue and what is new, as meant

left-along : (p : Pass) (b : ℕ) (rs : List Reached) (active : List ℕ) → AllByRecursion (λ i. i < length rs) active → filter (λ x. not (closes p x.at b)) (states_at (meaning rs) active) ≡ states_at (meaning rs) (left_open p b rs active)
left-along p b rs [] inside = refl
left-along p b rs (i ∷ active) inside =
    let same : (get_or (meaning rs) i start).at ≡ (at_index rs i).at = ap (λ (h : Head). h.at) (head-at rs i inside.0) in
    let P : ℕ → Type 0 = λ n. cond (not (closes p n b)) (get_or (meaning rs) i start ∷ filter (λ x. not (closes p x.at b)) (states_at (meaning rs) active)) (filter (λ x. not (closes p x.at b)) (states_at (meaning rs) active)) ≡ states_at (meaning rs) (cond (not (closes p (at_index rs i).at b)) (i ∷ left_open p b rs active) (left_open p b rs active)) in
    subst P (sym same) (
    elim (not (closes p (at_index rs i).at b)) as (λ t. cond t (get_or (meaning rs) i start ∷ filter (λ x. not (closes p x.at b)) (states_at (meaning rs) active)) (filter (λ x. not (closes p x.at b)) (states_at (meaning rs) active)) ≡ states_at (meaning rs) (cond t (i ∷ left_open p b rs active) (left_open p b rs active))) [
      | true ↦ ap (λ (xs : List State). get_or (meaning rs) i start ∷ xs) (left-along p b rs active inside.1)
      | false ↦ left-along p b rs active inside.1
    ])

is_empty-map : {X Y : Type 0} (f : X → Y) (xs : List X) → is_empty (map f xs) ≡ is_empty xs
is_empty-map f [] = refl
is_empty-map f (x ∷ xs) = refl

seen-rescue : (p : Pass) (b i : ℕ) (before : List State) (rs : List Reached) → (b == 0) ≡ false → head_of (get_or before i start) ≡ code_head (at_index rs i) → rescued p b (Some (get_or before i start)) ≡ seen before (rescue_by p b rs i) ∷ []
seen-rescue p b i before rs e h =
    let x = get_or before i start in
    let at : (at_index rs i).at ≡ x.at = sym (ap (λ (k : Head). k.at) h) in
    let sum : (at_index rs i).sum ≡ x.sum = sym (ap (λ (k : Head). k.sum) h) in
    let P : ℕ → Type 0 = λ n. rescued p b (Some x) ≡ record { at = b; class = (weight p n b).class; sum = (at_index rs i).sum; walk = if b == 0 then [] else (x.at ∷ x.walk) } ∷ [] in
    let Q : ℤ → Type 0 = λ z. rescued p b (Some x) ≡ record { at = b; class = (weight p x.at b).class; sum = z; walk = if b == 0 then [] else (x.at ∷ x.walk) } ∷ [] in
    subst P (sym at) (subst Q (sym sum) (rw e refl))

rescue-along : (p : Pass) (b : ℕ) (rs : List Reached) (o : Option State) (r : Option Reached) (active : List ℕ) → (b == 0) ≡ false → AllByRecursion (λ i. i < length rs) active → rescued p b o ≡ map (seen (meaning rs)) (to_list r) → rescued p b (fold (λ found x. Some x) o (states_at (meaning rs) active)) ≡ map (seen (meaning rs)) (to_list (fold (λ found i. Some (rescue_by p b rs i)) r active))
rescue-along p b rs o r [] e inside was = was
rescue-along p b rs o r (i ∷ active) e inside was = rescue-along p b rs (Some (get_or (meaning rs) i start)) (Some (rescue_by p b rs i)) active e inside.1 (seen-rescue p b i (meaning rs) rs e (head-at rs i inside.0))

or_rescue-seen : (p : Pass) (b : ℕ) (before : List State) (t : Bool) (r : Option Reached) (kept : List Reached) → (p.is_last && all_close p b before) ≡ t → rescued p b (last_open p b before) ≡ map (seen before) (to_list r) → or_rescue p b before (map (seen before) kept) ≡ map (seen before) (or_rescue_code t r kept)
or_rescue-seen p b before t r (k ∷ kept) e f = refl
or_rescue-seen p b before t r [] e f =
    rw e (elim t as (λ u. cond u (rescued p b (last_open p b before)) [] ≡ map (seen before) (cond u (to_list r) [])) [ true ↦ f | false ↦ refl ])

pub new-seen : (p : Pass) (b : ℕ) (rs : List Reached) (active : List ℕ) → (b == 0) ≡ false → All (λ i. i < length rs) active → states_at (meaning rs) active ≡ open_states p b (meaning rs) → new_states p b (meaning rs) ≡ map (seen (meaning rs)) (new_codes p b rs active)
unfolding new_states
new-seen p b rs active e within same =
    let inside = recursion_from_All (λ i. i < length rs) active within in
    let empties : all_close p b (meaning rs) ≡ is_empty (left_open p b rs active) =
    close-along p b (meaning rs)
    ∙ ap (λ (xs : List State). is_empty (filter (λ x. not (closes p x.at b)) xs)) (sym same)
    ∙ ap (λ (xs : List State). is_empty xs) (left-along p b rs active inside)
    ∙ is_empty-map (λ i. get_or (meaning rs) i start) (left_open p b rs active) in
    let rescue : rescued p b (last_open p b (meaning rs)) ≡ map (seen (meaning rs)) (to_list (last_rescue p b rs active)) =
    ap (rescued p b) (last-along p b None (meaning rs) ∙ ap (λ (xs : List State). fold (λ found x. Some x) None xs) (sym same))
    ∙ rescue-along p b rs None None active e inside refl in
    ap (or_rescue p b (meaning rs)) (kept-seen p b (meaning rs) (found_by p b rs active) (λ c. finds p b rs active c e within same))
    ∙ or_rescue-seen p b (meaning rs) (p.is_last && is_empty (left_open p b rs active)) (last_rescue p b rs active) (kept_codes p.shape.adj_demerits (found_list (found_by p b rs active))) (ap (λ t. p.is_last && t) empties) rescue

-- ---- the indices of the open states

states_at-left : (before after : List State) (is : List ℕ) → AllByRecursion (λ i. i < length before) is → states_at (before ++ after) is ≡ states_at before is
states_at-left before after [] inside = refl
states_at-left before after (i ∷ is) inside =
    let here : i < length before = inside.0 in
    ap (λ (x : State). x ∷ states_at (before ++ after) is) (get_or_append_left before after start i here)
    ∙ ap (λ (xs : List State). get_or before i start ∷ xs) (states_at-left before after is inside.1)

states_at-range : (before after : List State) (n : ℕ) → length before ≡ n → states_at (before ++ after) (range_with_len n (length after)) ≡ after
states_at-range before [] n e = refl
states_at-range before (y ∷ after) n e =
    let next : length (before ++ y ∷ []) ≡ n + 1 = length-append before (y ∷ []) ∙ ap (λ m. m + 1) e in
    ap (λ (x : State). x ∷ states_at (before ++ y ∷ after) (range_with_len (n + 1) (length after))) (get_or_at before y after start n e)
    ∙ ap (λ (xs : List State). y ∷ states_at xs (range_with_len (n + 1) (length after))) (sym (append_assoc before (y ∷ []) after))
    ∙ ap (λ (xs : List State). y ∷ xs) (states_at-range (before ++ y ∷ []) after (n + 1) next)

is_open-here : (p : Pass) (b n : ℕ) → n ≤ suc b → is_open p b n ≡ true
unfolding is_open
is_open-here p b zero h = refl
is_open-here p b (suc n) h =
    let low : n ≤ b = omega arith in
    let t : nat_le n b ≡ true = le-leb n b low in
    let u : is_open p b n ≡ true = is_open-here p b n (omega arith) in
    rw (t, u) refl

open-next : (p : Pass) (s b : ℕ) → s < b → is_open p s (suc b) ≡ (not (closes p s b) && is_open p s b)
unfolding is_open
open-next p s b h = let t : nat_le b s ≡ false = lt-leb b s h in rw t refl

opened-old : (p : Pass) (b : ℕ) (xs : List State) → AllByRecursion (λ x. x.at < b) xs → open_states p (suc b) xs ≡ filter (λ x. not (closes p x.at b)) (open_states p b xs)
opened-old p b [] all = refl
opened-old p b (x ∷ xs) all =
    rw (open-next p x.at b all.0) (
    elim (is_open p x.at b) as (λ o. cond (not (closes p x.at b) && o) (x ∷ open_states p (suc b) xs) (open_states p (suc b) xs) ≡ filter (λ y. not (closes p y.at b)) (cond o (x ∷ open_states p b xs) (open_states p b xs))) [
      | true ↦ elim (not (closes p x.at b)) as (λ t. cond (t && true) (x ∷ open_states p (suc b) xs) (open_states p (suc b) xs) ≡ cond t (x ∷ filter (λ y. not (closes p y.at b)) (open_states p b xs)) (filter (λ y. not (closes p y.at b)) (open_states p b xs))) [
        | true ↦ ap (λ (ys : List State). x ∷ ys) (opened-old p b xs all.1)
        | false ↦ opened-old p b xs all.1
      ]
      | false ↦ elim (not (closes p x.at b)) as (λ t. cond (t && false) (x ∷ open_states p (suc b) xs) (open_states p (suc b) xs) ≡ filter (λ y. not (closes p y.at b)) (open_states p b xs)) [ true ↦ opened-old p b xs all.1 | false ↦ opened-old p b xs all.1 ]
    ])

opened-new : (p : Pass) (b : ℕ) (xs : List State) → AllByRecursion (λ x. x.at ≡ b) xs → open_states p (suc b) xs ≡ xs
opened-new p b [] all = refl
opened-new p b (x ∷ xs) all =
    let P : ℕ → Type 0 = λ n. is_open p n (suc b) ≡ true in
    let t : is_open p x.at (suc b) ≡ true = subst P (sym all.0) (is_open-here p b (suc b) (omega arith)) in
    rw t (ap (λ (ys : List State). x ∷ ys) (opened-new p b xs all.1))

all_map : {X Y : Type 0} (f : X → Y) (P : Y → Type 0) (xs : List X) → AllByRecursion (λ x. P (f x)) xs → AllByRecursion P (map f xs)
all_map f P [] all = tt
all_map f P (x ∷ xs) all = (all.0, all_map f P xs all.1)

all_unmap : {X Y : Type 0} (f : X → Y) (P : Y → Type 0) (xs : List X) → AllByRecursion P (map f xs) → AllByRecursion (λ x. P (f x)) xs
all_unmap f P [] all = tt
all_unmap f P (x ∷ xs) all = (all.0, all_unmap f P xs all.1)

pub all_filter : {X : Type 0} (P : X → Type 0) (t : X → Bool) (xs : List X) → AllByRecursion P xs → AllByRecursion P (filter t xs)
all_filter P t [] all = tt
all_filter P t (x ∷ xs) all = elim (t x) as (λ b. AllByRecursion P (cond b (x ∷ filter t xs) (filter t xs))) [ true ↦ (all.0, all_filter P t xs all.1) | false ↦ all_filter P t xs all.1 ]

all_weaker : {X : Type 0} (P Q : X → Type 0) → ((x : X) → P x → Q x) → (xs : List X) → AllByRecursion P xs → AllByRecursion Q xs
all_weaker P Q f [] all = tt
all_weaker P Q f (x ∷ xs) all = (f x all.0, all_weaker P Q f xs all.1)

all_append : {X : Type 0} (P : X → Type 0) (xs ys : List X) → AllByRecursion P xs → AllByRecursion P ys → AllByRecursion P (xs ++ ys)
all_append P [] ys a b = b
all_append P (x ∷ xs) ys a b = (a.0, all_append P xs ys a.1 b)

pub all_range : (a n top : ℕ) → a + n ≤ top → AllByRecursion (λ i. i < top) (range_with_len a n)
all_range a zero top h = tt
all_range a (suc n) top h = (omega arith, all_range (a + 1) n top (omega arith))

-- what holds of the breaks of the code's states holds of the definition's
at-meaning : (rs : List Reached) (b : ℕ) → AllByRecursion (λ r. r.at < b) rs → AllByRecursion (λ x. x.at < b) (meaning rs)
at-meaning rs b all =
    let P : Head → Type 0 = λ h. h.at < b in
    let Q : List Head → Type 0 = λ hs. AllByRecursion P hs in
    all_unmap head_of P (meaning rs) (subst Q (sym (heads-meaning rs)) (all_map code_head P rs all))

-- ---- one break

fresh-reach : (p : Pass) (k i n : ℕ) (x : Reached) → HasSmallDemerits p → i < n → IsWithin (2 ^ 33 * k) x.sum → Fresh n (suc k) (2 ^ 33 * suc k) (reach p (suc k) i x)
fresh-reach p k i n x small h w =
    let d : IsWithin (2 ^ 33) (demerits p x.class x.at (suc k)) = small x.class x.at (suc k) in
    record { inside = h; here = refl; small = (omega (arith, ints), omega (arith, ints)) }

fresh-rescue : (p : Pass) (k i n : ℕ) (rs : List Reached) → i < n → IsWithin (2 ^ 33 * k) (at_index rs i).sum → Fresh n (suc k) (2 ^ 33 * suc k) (rescue_by p (suc k) rs i)
fresh-rescue p k i n rs h w = record { inside = h; here = refl; small = (omega (arith, ints), omega (arith, ints)) }

all_fresh : (p : Pass) (k : ℕ) (rs : List Reached) (is : List ℕ) → HasSmallDemerits p → All (λ r. IsWithin (2 ^ 33 * k) r.sum) rs → AllByRecursion (λ i. i < length rs) is → AllByRecursion (λ i. Fresh (length rs) (suc k) (2 ^ 33 * suc k) (reach p (suc k) i (at_index rs i))) is
all_fresh p k rs [] small sums inside = tt
all_fresh p k rs (i ∷ is) small sums inside = (fresh-reach p k i (length rs) (at_index rs i) small inside.0 (sums i first inside.0), all_fresh p k rs is small sums inside.1)

all_fresh-rescue : (p : Pass) (k : ℕ) (rs : List Reached) (is : List ℕ) → All (λ r. IsWithin (2 ^ 33 * k) r.sum) rs → AllByRecursion (λ i. i < length rs) is → AllByRecursion (λ i. Fresh (length rs) (suc k) (2 ^ 33 * suc k) (rescue_by p (suc k) rs i)) is
all_fresh-rescue p k rs [] sums inside = tt
all_fresh-rescue p k rs (i ∷ is) sums inside = (fresh-rescue p k i (length rs) rs inside.0 (sums i first inside.0), all_fresh-rescue p k rs is sums inside.1)

chain-append : (rs new : List Reached) → IsChain rs → AllByRecursion (λ r. r.from < length rs) new → IsChain (rs ++ new)
chain-append rs new chain all i h t =
    elim (cases_lt i (length rs)) as (λ _. (at_index (rs ++ new) i).from < i) [
      | inl old ↦
          let same : at_index (rs ++ new) i ≡ at_index rs i = get_or_append_left rs new first i old in
          let P : Reached → Type 0 = λ r. (r.at == 0) ≡ false → r.from < i in
          subst P (sym same) (chain i old) t
      | inr later ↦
          let more : length (rs ++ new) ≡ length rs + length new = length-append rs new in
          let same : at_index (rs ++ new) i ≡ at_index new (i - length rs) = get_or-append_right rs new (length rs) i first refl later in
          let inside : (i - length rs) < length new = omega (arith, more, h, later) in
          let low : (at_index new (i - length rs)).from < length rs = All-from_recursion (λ r. r.from < length rs) new all (i - length rs) first inside in
          let P : Reached → Type 0 = λ r. r.from < i in
          subst P (sym same) (omega (arith, low, later))
    ]

wider : (k : ℕ) (z : ℤ) → IsWithin (2 ^ 33 * k) z → IsWithin (2 ^ 33 * suc k) z
wider k z w = (omega (arith, ints), omega (arith, ints))

abbrev pub still_open : Pass → ℕ → List Reached → List ℕ → List ℕ
still_open p b rs active = left_open p b rs active ++ range_with_len (length rs) (length (new_codes p b rs active))

pub meets : (p : Pass) (k : ℕ) (rs : List Reached) (active : List ℕ) → HasSmallDemerits p → Ready p k rs active → Ready p (suc k) (rs ++ new_codes p (suc k) rs active) (still_open p (suc k) rs active)
unfolding states_to
meets p k rs active small h =
    let new = new_codes p (suc k) rs active in
    let inside = recursion_from_All (λ i. i < length rs) active h.within in
    let fresh = new-have (Fresh (length rs) (suc k) (2 ^ 33 * suc k)) p (suc k) rs active (all_fresh p k rs active small h.small inside) (all_fresh-rescue p k rs active h.small inside) in
    let nonzero : (suc k == 0) ≡ false = ne_eqb (suc k) 0 (λ e. omega (arith, e)) in
    let S = meaning rs in
    let N = map (seen S) new in
    let opens : states_at S active ≡ open_states p (suc k) S = let P : List State → Type 0 = λ xs. states_at xs active ≡ open_states p (suc k) xs in subst P (sym h.states) h.opened in
    let from : AllByRecursion (λ r. r.from < length S) new = rw (length-meaning rs) (all_weaker (Fresh (length rs) (suc k) (2 ^ 33 * suc k)) (λ r. r.from < length rs) (λ r f. f.inside) new fresh) in
    let grown : meaning (rs ++ new) ≡ S ++ N = meaning-append rs new from in
    let means : S ++ N ≡ states_to p (suc k) =
    ap (λ (ys : List State). S ++ ys) (sym (new-seen p (suc k) rs active nonzero h.within opens))
    ∙ ap (λ (xs : List State). xs ++ new_states p (suc k) xs) h.states in
    let b = suc k in
    let left = left_open p b rs active in
    let left_in : AllByRecursion (λ i. i < length rs) left = all_filter (λ i. i < length rs) (λ i. not (closes p (at_index rs i).at b)) active inside in
    let left_in_S : AllByRecursion (λ i. i < length S) left = rw (length-meaning rs) left_in in
    let befores : AllByRecursion (λ r. r.at < b) rs = recursion_from_All (λ r. r.at < b) rs h.before in
    let here : AllByRecursion (λ x. x.at ≡ b) N = all_map (seen S) (λ x. x.at ≡ b) new (all_weaker (Fresh (length rs) b (2 ^ 33 * b)) (λ r. r.at ≡ b) (λ r f. f.here) new fresh) in
    let olds : states_at (S ++ N) left ≡ open_states p (suc b) S =
    states_at-left S N left left_in_S
    ∙ sym (left-along p b rs active inside)
    ∙ ap (λ (xs : List State). filter (λ x. not (closes p x.at b)) xs) opens
    ∙ sym (opened-old p b S (at-meaning rs b befores)) in
    let news : states_at (S ++ N) (range_with_len (length rs) (length new)) ≡ open_states p (suc b) N =
    ap (λ n. states_at (S ++ N) (range_with_len (length rs) n)) (sym (length-map new (seen S)))
    ∙ states_at-range S N (length rs) (length-meaning rs)
    ∙ sym (opened-new p b N here) in
    let both : states_at (S ++ N) (still_open p b rs active) ≡ open_states p (suc b) (S ++ N) =
    map-append (λ i. get_or (S ++ N) i start) left (range_with_len (length rs) (length new))
    ∙ ap (λ (xs : List State). xs ++ states_at (S ++ N) (range_with_len (length rs) (length new))) olds
    ∙ ap (λ (xs : List State). open_states p (suc b) S ++ xs) news
    ∙ sym (filter-append (λ x. is_open p x.at (suc b)) S N) in
    let Q : List State → Type 0 = λ xs. states_at xs (still_open p b rs active) ≡ open_states p (suc b) xs in
    let more : length (rs ++ new) ≡ length rs + length new = length-append rs new in
    let indices : AllByRecursion (λ i. i < length (rs ++ new)) (still_open p b rs active) =
    all_append (λ i. i < length (rs ++ new)) left (range_with_len (length rs) (length new))
    (all_weaker (λ i. i < length rs) (λ i. i < length (rs ++ new)) (λ i le. omega (arith, more, le)) left left_in)
    (all_range (length rs) (length new) (length (rs ++ new)) (omega (arith, more))) in
    record {
      states = grown ∙ means;
      opened = subst Q means both;
      within = All-from_recursion (λ i. i < length (rs ++ new)) (still_open p b rs active) indices;
      before = All-from_recursion (λ r. r.at < suc b) (rs ++ new) (all_append (λ r. r.at < suc b) rs new
          (all_weaker (λ r. r.at < b) (λ r. r.at < suc b) (λ r lt. omega (arith, lt)) rs befores)
          (all_weaker (Fresh (length rs) b (2 ^ 33 * b)) (λ r. r.at < suc b) (λ r f. omega (arith, f.here)) new fresh));
      chain = chain-append rs new h.chain (all_weaker (Fresh (length rs) b (2 ^ 33 * b)) (λ r. r.from < length rs) (λ r f. f.inside) new fresh);
      small = All-from_recursion (λ r. IsWithin (2 ^ 33 * b) r.sum) (rs ++ new) (all_append (λ r. IsWithin (2 ^ 33 * b) r.sum) rs new
          (all_weaker (λ r. IsWithin (2 ^ 33 * k) r.sum) (λ r. IsWithin (2 ^ 33 * b) r.sum) (λ r w. wider k r.sum w) rs (recursion_from_All (λ r. IsWithin (2 ^ 33 * k) r.sum) rs h.small))
          (all_weaker (Fresh (length rs) b (2 ^ 33 * b)) (λ r. IsWithin (2 ^ 33 * b) r.sum) (λ r f. f.small) new fresh));
    }

within_60 : (k : ℕ) (z : ℤ) → k < 700000 → IsWithin (2 ^ 33 * k) z → IsWithin (2 ^ 60) z
within_60 k z h w = (omega (arith, ints), omega (arith, ints))

within_61 : (k : ℕ) (z : ℤ) → k < 700000 → IsWithin (2 ^ 33 * suc k) z → IsWithin (2 ^ 61) z
within_61 k z h w = (omega (arith, ints), omega (arith, ints))

pub sums_within : (p : Pass) (k : ℕ) (rs : List Reached) (active : List ℕ) → k < 700000 → Ready p k rs active → All (λ r. IsWithin (2 ^ 60) r.sum) rs
sums_within p k rs active few h i d inside = within_60 k (get_or rs i d).sum few (h.small i d inside)

pub found_within : (p : Pass) (k : ℕ) (rs : List Reached) (active : List ℕ) → k < 700000 → HasSmallDemerits p → Ready p k rs active → All (λ r. IsWithin (2 ^ 61) r.sum) (found_list (found_by p (suc k) rs active))
found_within p k rs active few small h =
    let inside = recursion_from_All (λ i. i < length rs) active h.within in
    All-from_recursion (λ r. IsWithin (2 ^ 61) r.sum) (found_list (found_by p (suc k) rs active))
    (all_weaker (Fresh (length rs) (suc k) (2 ^ 33 * suc k)) (λ r. IsWithin (2 ^ 61) r.sum) (λ r f. within_61 k r.sum few f.small) (found_list (found_by p (suc k) rs active))
    (found-have (Fresh (length rs) (suc k) (2 ^ 33 * suc k)) p (suc k) rs active (all_fresh p k rs active small h.small inside)))

pub steps_next : (p : Pass) (k : ℕ) (rs : List Reached) (active : List ℕ) → Ready p k rs active → pairs p (suc k) ≡ pairs p k + length active
unfolding pairs
steps_next p k rs active h = ap (λ n. pairs p k + n) (sym (ap (λ (xs : List State). length xs) h.opened) ∙ length-map active (λ i. get_or (states_to p k) i start))

start-at : (i : ℕ) → ((at_index (first ∷ []) i).at == 0) ≡ false → i ≡ 0 → ⊥
start-at i t e = let P : ℕ → Type 0 = λ n. ((at_index (first ∷ []) n).at == 0) ≡ false in let u : (0 == 0) ≡ false = subst P e t in cc

pub ready-start : (p : Pass) → Ready p 0 (first ∷ []) (0 ∷ [])
unfolding meaning states_to is_open
ready-start p = record {
  states = refl;
  opened = refl;
  within = All-from_recursion (λ i. i < 1) (0 ∷ []) (omega arith, tt);
  before = All-from_recursion (λ (r : Reached). r.at < 1) (first ∷ []) (omega arith, tt);
  chain = λ i h t. elim (cases_lt 0 i) as (λ _. (at_index (first ∷ []) i).from < i) [ inl more ↦ absurd (omega (arith, h, more)) | inr none ↦ absurd (start-at i t (omega (arith, none))) ];
  small = All-from_recursion (λ (r : Reached). IsWithin (2 ^ 33 * 0) r.sum) (first ∷ []) ((omega (arith, ints), omega (arith, ints)), tt);
}

-- the same at `k + 1`, as the code has it
pub meets_plus : (p : Pass) (k : ℕ) (rs next : List Reached) (active still : List ℕ) → HasSmallDemerits p → Ready p k rs active → next ≡ rs ++ new_codes p (k + 1) rs active → still ≡ left_open p (k + 1) rs active ++ range_with_len (length rs) (length (new_codes p (k + 1) rs active)) → Ready p (k + 1) next still
meets_plus p k rs next active still small h e f =
    let one : k + 1 ≡ suc k = add-one k in
    let P : ℕ → Type 0 = λ b. Ready p b (rs ++ new_codes p b rs active) (still_open p b rs active) in
    let Q : List Reached → Type 0 = λ xs. Ready p (k + 1) xs still in
    let R : List ℕ → Type 0 = λ is. Ready p (k + 1) (rs ++ new_codes p (k + 1) rs active) is in
    subst Q (sym e) (subst R (sym f) (subst P (sym one) (meets p k rs active small h)))

pub found_within_plus : (p : Pass) (k : ℕ) (rs : List Reached) (active : List ℕ) → k < 700000 → HasSmallDemerits p → Ready p k rs active → All (λ r. IsWithin (2 ^ 61) r.sum) (found_list (found_by p (k + 1) rs active))
found_within_plus p k rs active few small h =
    let one : k + 1 ≡ suc k = add-one k in
    let P : ℕ → Type 0 = λ b. All (λ r. IsWithin (2 ^ 61) r.sum) (found_list (found_by p b rs active)) in
    subst P (sym one) (found_within p k rs active few small h)

pub steps_plus : (p : Pass) (k : ℕ) (rs : List Reached) (active : List ℕ) (m n : ℕ) → Ready p k rs active → n ≡ m + length active → n + pairs p k ≡ m + pairs p (k + 1)
steps_plus p k rs active m n h e =
    let one : k + 1 ≡ suc k = add-one k in
    let next : pairs p (k + 1) ≡ pairs p k + length active = ap (pairs p) one ∙ steps_next p k rs active h in
    omega (arith, next, e)

pairs_more : (p : Pass) (k n : ℕ) → pairs p k ≤ pairs p (k + n)
unfolding pairs
pairs_more p k zero = let e : k + 0 ≡ k = omega arith in rw e (omega arith)
pairs_more p k (suc n) =
    let h = pairs_more p k n in
    let e : k + suc n ≡ suc (k + n) = omega arith in
    rw e (omega (arith, h))

pub pairs_grow : (p : Pass) (k n : ℕ) → k ≤ n → pairs p k ≤ pairs p n
pairs_grow p k n h = let e : k + (n - k) ≡ n = omega (arith, h) in subst (λ m. pairs p k ≤ pairs p m) e (pairs_more p k (n - k))

-- ---- the end of the walk

abbrev pub state_of : List State → Option ℕ → Option State
state_of before None = None
state_of before (Some i) = Some (get_or before i start)

IndexIn : ℕ → Option ℕ → Type 0
IndexIn n None = Unit {0}
IndexIn n (Some i) = i < n

step-end : (rs : List Reached) (n i : ℕ) (o : Option ℕ) → i < length rs → IndexIn (length rs) o → IndexIn (length rs) (better_end rs n o i) × (state_of (meaning rs) (better_end rs n o i) ≡ cond ((get_or (meaning rs) i start).at == n) (earlier_least (state_of (meaning rs) o) (get_or (meaning rs) i start)) (state_of (meaning rs) o))
unfolding IndexIn
step-end rs n i None h k =
    let at : (get_or (meaning rs) i start).at ≡ (at_index rs i).at = ap (λ (x : Head). x.at) (head-at rs i h) in
    rw at (elim ((at_index rs i).at == n) as (λ t. IndexIn (length rs) (cond t (Some i) None) × (state_of (meaning rs) (cond t (Some i) None) ≡ cond t (Some (get_or (meaning rs) i start)) None)) [ true ↦ (h, refl) | false ↦ (tt, refl) ])
step-end rs n i (Some j) h k =
    let at : (get_or (meaning rs) i start).at ≡ (at_index rs i).at = ap (λ (x : Head). x.at) (head-at rs i h) in
    let sum_i : (get_or (meaning rs) i start).sum ≡ (at_index rs i).sum = ap (λ (x : Head). x.sum) (head-at rs i h) in
    let sum_j : (get_or (meaning rs) j start).sum ≡ (at_index rs j).sum = ap (λ (x : Head). x.sum) (head-at rs j k) in
    rw (at, sum_i, sum_j) (
    elim ((at_index rs i).at == n) as (λ t. IndexIn (length rs) (cond (t && int_lt (at_index rs i).sum (at_index rs j).sum) (Some i) (Some j)) × (state_of (meaning rs) (cond (t && int_lt (at_index rs i).sum (at_index rs j).sum) (Some i) (Some j)) ≡ cond t (cond (int_lt (at_index rs i).sum (at_index rs j).sum) (Some (get_or (meaning rs) i start)) (Some (get_or (meaning rs) j start))) (Some (get_or (meaning rs) j start)))) [
      | true ↦ elim (int_lt (at_index rs i).sum (at_index rs j).sum) as (λ u. IndexIn (length rs) (cond u (Some i) (Some j)) × (state_of (meaning rs) (cond u (Some i) (Some j)) ≡ cond u (Some (get_or (meaning rs) i start)) (Some (get_or (meaning rs) j start)))) [ true ↦ (h, refl) | false ↦ (k, refl) ]
      | false ↦ (k, refl)
    ])

ends-along : (rs : List Reached) (n : ℕ) (o : Option ℕ) (is : List ℕ) → AllByRecursion (λ i. i < length rs) is → IndexIn (length rs) o → state_of (meaning rs) (fold (better_end rs n) o is) ≡ fold earlier_least (state_of (meaning rs) o) (filter (λ x. x.at == n) (states_at (meaning rs) is))
ends-along rs n o [] inside k = refl
ends-along rs n o (i ∷ is) inside k =
    let one = step-end rs n i o inside.0 k in
    let x = get_or (meaning rs) i start in
    let rest = filter (λ y. y.at == n) (states_at (meaning rs) is) in
    ends-along rs n (better_end rs n o i) is inside.1 one.0
    ∙ ap (λ (s : Option State). fold earlier_least s rest) one.1
    ∙ elim (x.at == n) as (λ t. fold earlier_least (cond t (earlier_least (state_of (meaning rs) o) x) (state_of (meaning rs) o)) rest ≡ fold earlier_least (state_of (meaning rs) o) (cond t (x ∷ rest) rest)) [ true ↦ refl | false ↦ refl ]

-- the end that the code takes is the state that the definition chooses
pub ends : (p : Pass) (rs : List Reached) → meaning rs ≡ states_to p (last_break p) → state_of (meaning rs) (best_end_of rs (last_break p)) ≡ chosen p
unfolding chosen IndexIn
ends p rs e =
    let all : states_at (meaning rs) (range_with_len 0 (length rs)) ≡ meaning rs = ap (λ n. states_at (meaning rs) (range_with_len 0 n)) (sym (length-meaning rs)) ∙ states_at-range [] (meaning rs) 0 refl in
    ends-along rs (last_break p) None (range_with_len 0 (length rs)) (all_range 0 (length rs) (length rs) (omega arith)) tt
    ∙ ap (λ (xs : List State). fold earlier_least None (filter (λ x. x.at == last_break p) xs)) (all ∙ e)

pub walk_chosen : (p : Pass) (rs : List Reached) (n end : ℕ) → n ≡ last_break p → meaning rs ≡ states_to p n → Some end ≡ best_end_of rs n → Some (walk_to rs end) ≡ chosen_walk p
walk_chosen p rs n end e same is =
    let P : ℕ → Type 0 = λ m. meaning rs ≡ states_to p m in
    let Q : ℕ → Type 0 = λ m. Some end ≡ best_end_of rs m in
    ap (λ (o : Option ℕ). walk_of (state_of (meaning rs) o)) (subst Q e is) ∙ ap walk_of (ends p rs (subst P e same))

pub none_chosen : (p : Pass) (rs : List Reached) (n : ℕ) → n ≡ last_break p → meaning rs ≡ states_to p n → None ≡ best_end_of rs n → None ≡ chosen_walk p
none_chosen p rs n e same is =
    let P : ℕ → Type 0 = λ m. meaning rs ≡ states_to p m in
    let Q : ℕ → Type 0 = λ m. None ≡ best_end_of rs m in
    ap (λ (o : Option ℕ). walk_of (state_of (meaning rs) o)) (subst Q e is) ∙ ap walk_of (ends p rs (subst P e same))
