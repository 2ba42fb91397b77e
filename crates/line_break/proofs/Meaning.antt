-- What the code's states stand for, and what it finds from them.
use Rattle.std.proofs.Common.{◌≡◌, ℕ, zero, suc, ◌+◌, ◌<◌, ◌==◌, ◌≢◌, Bool, true, false, not, ◌&&◌, ◌||◌, if◌then◌else◌, cond, List, [], ◌∷◌, ◌++◌, length, get_or, map, Option, Some, None, refl, subst, sym, ◌∙◌, ap, arith, ℤ, int_lt, append_assoc, append-nil, length-append}
use Rattle.std.specs.List.{fold, filter, filter_map, cons_option, list_all, All, AllByRecursion}
use Rattle.std.proofs.lemmas.List.Elements.{recursion_from_All, filter_passes}
use Rattle.std.proofs.lemmas.List.Sums.{fold-append}
use Rattle.std.proofs.lemmas.List.{map-append, get_or-map, length-map, get_or_append_left, get_or_at, get_or_default}
use Rattle.std.proofs.lemmas.Bool.{ne_eqb, eq-eqb}
use Rattle.line_break.specs.declared.weight.Class.{Class}
use Rattle.line_break.specs.declared.weight.Class.TheVariants.{VeryLoose, Loose, Decent, Tight}
use Rattle.line_break.specs.Lines.{Pass, weight, closes, rank}
use Rattle.line_break.specs.Best.{State, start, is_open, is_admissible, later_least, with_line, least, after_line, classes, reached, earlier_least, best_of, is_near}
use Rattle.line_break.specs.declared.states.Reached.{Reached}
use Rattle.line_break.specs.declared.states.Found.{Found}
use Rattle.line_break.specs.Codes.{seen, and_seen, meaning, first, nothing, pick, later_of, offered_as, offered, reach, fits, found_with, at_index, found_by, lower_sum, near_code, found_list, kept_codes, is_empty, IsChain, walk_to}

pub meaning-push : (rs : List Reached) (r : Reached) → meaning (rs ++ r ∷ []) ≡ meaning rs ++ seen (meaning rs) r ∷ []
unfolding meaning
meaning-push rs r = fold-append and_seen [] rs (r ∷ [])

-- a state without its walk
pub record Head : Type 0 where
  pub at : ℕ
  pub class : Class
  pub sum : ℤ

abbrev pub head_of : State → Head
head_of x = record { at = x.at; class = x.class; sum = x.sum }

abbrev pub code_head : Reached → Head
code_head r = record { at = r.at; class = r.class; sum = r.sum }

heads : (before : List State) (rs : List Reached) → map head_of (fold and_seen before rs) ≡ map head_of before ++ map code_head rs
heads before [] = sym (append-nil (map head_of before))
heads before (r ∷ rs) =
    heads (and_seen before r) rs
    ∙ ap (λ hs. hs ++ map code_head rs) (map-append head_of before (seen before r ∷ []))
    ∙ append_assoc (map head_of before) (code_head r ∷ []) (map code_head rs)

pub heads-meaning : (rs : List Reached) → map head_of (meaning rs) ≡ map code_head rs
unfolding meaning
heads-meaning rs = heads [] rs

pub length-meaning : (rs : List Reached) → length (meaning rs) ≡ length rs
length-meaning rs = sym (length-map (meaning rs) head_of) ∙ ap length (heads-meaning rs) ∙ length-map rs code_head

pub head-at : (rs : List Reached) (i : ℕ) → i < length rs → head_of (get_or (meaning rs) i start) ≡ code_head (get_or rs i first)
head-at rs i h =
    let inside : i < length (meaning rs) = rw (length-meaning rs) h in
    sym (get_or-map head_of (meaning rs) i start (code_head first) inside)
    ∙ ap (λ (hs : List Head). get_or hs i (code_head first)) (heads-meaning rs)
    ∙ get_or-map code_head rs i first (code_head first) h

-- ---- what is found

abbrev pub seen_option : List State → Option Reached → Option State
seen_option before None = None
seen_option before (Some r) = Some (seen before r)

pub pick-offered_as : (k c : Class) (f : Found) (r : Reached) → pick (offered_as k f r) c ≡ cond (rank k == rank c) (later_of (pick f c) r) (pick f c)
pick-offered_as VeryLoose VeryLoose f r = refl
pick-offered_as VeryLoose Loose f r = refl
pick-offered_as VeryLoose Decent f r = refl
pick-offered_as VeryLoose Tight f r = refl
pick-offered_as Loose VeryLoose f r = refl
pick-offered_as Loose Loose f r = refl
pick-offered_as Loose Decent f r = refl
pick-offered_as Loose Tight f r = refl
pick-offered_as Decent VeryLoose f r = refl
pick-offered_as Decent Loose f r = refl
pick-offered_as Decent Decent f r = refl
pick-offered_as Decent Tight f r = refl
pick-offered_as Tight VeryLoose f r = refl
pick-offered_as Tight Loose f r = refl
pick-offered_as Tight Decent f r = refl
pick-offered_as Tight Tight f r = refl

seen-later : (before : List State) (o : Option Reached) (r : Reached) → seen_option before (later_of o r) ≡ later_least (seen_option before o) (seen before r)
seen-later before None r = refl
seen-later before (Some x) r =
    elim (int_lt x.sum r.sum) as (λ t. seen_option before (cond t (Some x) (Some r)) ≡ cond t (Some (seen before x)) (Some (seen before r))) [ true ↦ refl | false ↦ refl ]

seen-cond : (before : List State) (t : Bool) (x y : Option Reached) → seen_option before (cond t x y) ≡ cond t (seen_option before x) (seen_option before y)
seen-cond before true x y = refl
seen-cond before false x y = refl

same_line : (p : Pass) (b n m : ℕ) (c d : Class) (u v : ℤ) → n ≡ m → c ≡ d → u ≡ v → after_line p b (record { at = n; class = c; sum = u; walk = [] }) ≡ after_line p b (record { at = m; class = d; sum = v; walk = [] })
same_line p b n m c d u v e f h = cc

with_walk : List ℕ → State → State
with_walk w x = record x { walk = w }

-- the state with an index, as the code has it and as it is meant
seen-reach : (p : Pass) (b i : ℕ) (before : List State) (r : Reached) → (b == 0) ≡ false → head_of (get_or before i start) ≡ code_head r → seen before (reach p b i r) ≡ after_line p b (get_or before i start)
unfolding with_walk
seen-reach p b i before r e h =
    let x = get_or before i start in
    let at : r.at ≡ x.at = sym (ap (λ (k : Head). k.at) h) in
    let class : r.class ≡ x.class = sym (ap (λ (k : Head). k.class) h) in
    let sum : r.sum ≡ x.sum = sym (ap (λ (k : Head). k.sum) h) in
    rw e (ap (with_walk (x.at ∷ x.walk)) (same_line p b r.at x.at r.class x.class r.sum x.sum at class sum))

-- what is found by some of the states, as meant
record Finds (p : Pass) (b : ℕ) (before xs : List State) (found : Found) : Type 0 where
  pub each : (c : Class) → seen_option before (pick found c) ≡ fold (with_line p b c) None xs

fits-admissible : (p : Pass) (s b : ℕ) → is_open p s b ≡ true → is_admissible p s b ≡ fits p s b
fits-admissible p s b e = rw e refl

finds-offer : (before : List State) (best : Option State) (found : Found) (new : Reached) (y : State) (c : Class) → seen_option before (pick found c) ≡ best → seen before new ≡ y → seen_option before (pick (offered found new) c) ≡ cond (rank new.class == rank c) (later_least best y) best
unfolding offered
finds-offer before best found new y c was is =
    ap (seen_option before) (pick-offered_as new.class c found new)
    ∙ seen-cond before (rank new.class == rank c) (later_of (pick found c) new) (pick found c)
    ∙ ap (λ o. cond (rank new.class == rank c) o (seen_option before (pick found c))) (seen-later before (pick found c) new)
    ∙ ap (λ o. cond (rank new.class == rank c) (later_least o (seen before new)) o) was
    ∙ ap (λ z. cond (rank new.class == rank c) (later_least best z) best) is

-- one more open state
finds-one : (p : Pass) (b i : ℕ) (before : List State) (best : Option State) (found : Found) (r : Reached) (c : Class) → (b == 0) ≡ false → head_of (get_or before i start) ≡ code_head r → is_open p (get_or before i start).at b ≡ true → seen_option before (pick found c) ≡ best → seen_option before (pick (found_with p b found i r) c) ≡ with_line p b c best (get_or before i start)
unfolding found_with offered
finds-one p b i before best found r c e h o was =
    let x = get_or before i start in
    let at : r.at ≡ x.at = sym (ap (λ (k : Head). k.at) h) in
    let P : ℕ → Type 0 = λ n. seen_option before (pick (cond (fits p n b) (offered found (reach p b i r)) found) c) ≡ cond (fits p x.at b && rank (weight p x.at b).class == rank c) (later_least best (after_line p b x)) best in
    let step : seen_option before (pick (cond (fits p x.at b) (offered found (reach p b i r)) found) c) ≡ cond (fits p x.at b && rank (weight p x.at b).class == rank c) (later_least best (after_line p b x)) best =
    elim (fits p x.at b) as (λ t. seen_option before (pick (cond t (offered found (reach p b i r)) found) c) ≡ cond (t && rank (weight p x.at b).class == rank c) (later_least best (after_line p b x)) best) [
      | true ↦ finds-offer before best found (reach p b i r) (after_line p b x) c was (seen-reach p b i before r e h) ∙ ap (λ n. cond (rank (weight p n b).class == rank c) (later_least best (after_line p b x)) best) at
      | false ↦ was
    ] in
    rw o (subst P (sym at) step)

abbrev pub states_at : List State → List ℕ → List State
states_at before active = map (λ i. get_or before i start) active

pub finds-along : (p : Pass) (b : ℕ) (rs : List Reached) (c : Class) (found : Found) (best : Option State) (active : List ℕ) → (b == 0) ≡ false → AllByRecursion (λ i. i < length rs) active → AllByRecursion (λ x. is_open p x.at b ≡ true) (states_at (meaning rs) active) → seen_option (meaning rs) (pick found c) ≡ best → seen_option (meaning rs) (pick (fold (λ f i. found_with p b f i (at_index rs i)) found active) c) ≡ fold (with_line p b c) best (states_at (meaning rs) active)
finds-along p b rs c found best [] e inside opened was = was
finds-along p b rs c found best (i ∷ active) e inside opened was =
    finds-along p b rs c (found_with p b found i (at_index rs i)) (with_line p b c best (get_or (meaning rs) i start)) active e inside.1 opened.1
    (finds-one p b i (meaning rs) best found (at_index rs i) c e (head-at rs i inside.0) opened.0 was)

with_line-closed : (p : Pass) (b : ℕ) (c : Class) (best : Option State) (x : State) → is_open p x.at b ≡ false → with_line p b c best x ≡ best
with_line-closed p b c best x e = rw e refl

-- only open states count
fold-open : (p : Pass) (b : ℕ) (c : Class) (best : Option State) (xs : List State) → fold (with_line p b c) best (filter (λ x. is_open p x.at b) xs) ≡ fold (with_line p b c) best xs
fold-open p b c best [] = refl
fold-open p b c best (x ∷ xs) =
    elim (is_open p x.at b) as (λ t. is_open p x.at b ≡ t → fold (with_line p b c) best (cond t (x ∷ filter (λ y. is_open p y.at b) xs) (filter (λ y. is_open p y.at b) xs)) ≡ fold (with_line p b c) (with_line p b c best x) xs) [
      | true ↦ λ e. fold-open p b c (with_line p b c best x) xs
      | false ↦ λ e. rw (with_line-closed p b c best x e) (fold-open p b c best xs)
    ] refl

-- the indices name the open states
abbrev pub opened : Pass → ℕ → List State → List State
opened p b xs = filter (λ x. is_open p x.at b) xs

pick-nothing : (before : List State) (c : Class) → seen_option before (pick nothing c) ≡ None
pick-nothing before VeryLoose = refl
pick-nothing before Loose = refl
pick-nothing before Decent = refl
pick-nothing before Tight = refl

pub finds : (p : Pass) (b : ℕ) (rs : List Reached) (active : List ℕ) (c : Class) → (b == 0) ≡ false → All (λ i. i < length rs) active → states_at (meaning rs) active ≡ opened p b (meaning rs) → seen_option (meaning rs) (pick (found_by p b rs active) c) ≡ least p b (meaning rs) c
finds p b rs active c e inside same =
    let passes : All (λ x. is_open p x.at b ≡ true) (opened p b (meaning rs)) = filter_passes (λ x. is_open p x.at b) (meaning rs) in
    let P : List State → Type 0 = λ xs. AllByRecursion (λ x. is_open p x.at b ≡ true) xs in
    let each = subst P (sym same) (recursion_from_All (λ x. is_open p x.at b ≡ true) (opened p b (meaning rs)) passes) in
    finds-along p b rs c nothing None active e (recursion_from_All (λ i. i < length rs) active inside) each (pick-nothing (meaning rs) c)
    ∙ ap (λ xs. fold (with_line p b c) None xs) same
    ∙ fold-open p b c None (meaning rs)

-- ---- what is kept

-- the same answers give the same list, as it is meant
filter_map-seen : (before : List State) (g : Class → Option Reached) (h : Class → Option State) (cs : List Class) → ((c : Class) → seen_option before (g c) ≡ h c) → filter_map h cs ≡ map (seen before) (filter_map g cs)
filter_map-seen before g h [] same = refl
filter_map-seen before g h (c ∷ cs) same =
    rw (← (same c)) (
    elim (g c) as (λ o. cons_option (seen_option before o) (filter_map h cs) ≡ map (seen before) (cons_option o (filter_map g cs))) [
      | None ↦ filter_map-seen before g h cs same
      | Some r ↦ ap (λ xs. seen before r ∷ xs) (filter_map-seen before g h cs same)
    ])

filter-seen : (before : List State) (t : State → Bool) (u : Reached → Bool) (rs : List Reached) → ((r : Reached) → t (seen before r) ≡ u r) → filter t (map (seen before) rs) ≡ map (seen before) (filter u rs)
filter-seen before t u [] same = refl
filter-seen before t u (r ∷ rs) same =
    rw (same r) (
    elim (u r) as (λ b. cond b (seen before r ∷ filter t (map (seen before) rs)) (filter t (map (seen before) rs)) ≡ map (seen before) (cond b (r ∷ filter u rs) (filter u rs))) [
      | true ↦ ap (λ xs. seen before r ∷ xs) (filter-seen before t u rs same)
      | false ↦ filter-seen before t u rs same
    ])

abbrev sum_option : Option State → Option ℤ
sum_option None = None
sum_option (Some x) = Some x.sum

least-sum : (before : List State) (best : Option State) (rs : List Reached) → sum_option (fold earlier_least best (map (seen before) rs)) ≡ fold lower_sum (sum_option best) rs
least-sum before best [] = refl
least-sum before None (r ∷ rs) = least-sum before (Some (seen before r)) rs
least-sum before (Some x) (r ∷ rs) =
    elim (int_lt r.sum x.sum) as (λ t. sum_option (fold earlier_least (cond t (Some (seen before r)) (Some x)) (map (seen before) rs)) ≡ fold lower_sum (cond t (Some r.sum) (Some x.sum)) rs) [
      | true ↦ least-sum before (Some (seen before r)) rs
      | false ↦ least-sum before (Some x) rs
    ]

near-seen : (p : Pass) (before : List State) (best : Option State) (r : Reached) → is_near p best (seen before r) ≡ near_code p.shape.adj_demerits (sum_option best) r
near-seen p before None r = refl
near-seen p before (Some x) r = refl

-- what is kept of the states found, as meant
pub kept-seen : (p : Pass) (b : ℕ) (before : List State) (found : Found) → ((c : Class) → seen_option before (pick found c) ≡ least p b before c) → reached p b before ≡ map (seen before) (kept_codes p.shape.adj_demerits (found_list found))
kept-seen p b before found each =
    let list : filter_map (least p b before) classes ≡ map (seen before) (found_list found) = filter_map-seen before (pick found) (least p b before) classes each in
    let best = best_of (map (seen before) (found_list found)) in
    let sums : sum_option best ≡ fold lower_sum None (found_list found) = least-sum before None (found_list found) in
    ap (λ xs. filter (is_near p (best_of xs)) xs) list
    ∙ filter-seen before (is_near p best) (near_code p.shape.adj_demerits (fold lower_sum None (found_list found))) (found_list found)
    (λ r. near-seen p before best r ∙ ap (λ o. near_code p.shape.adj_demerits o r) sums)

-- ---- the rescue

pub last-along : (p : Pass) (b : ℕ) (acc : Option State) (xs : List State) → fold (λ found x. if is_open p x.at b then Some x else found) acc xs ≡ fold (λ found x. Some x) acc (opened p b xs)
last-along p b acc [] = refl
last-along p b acc (x ∷ xs) =
    elim (is_open p x.at b) as (λ t. fold (λ found y. if is_open p y.at b then Some y else found) (cond t (Some x) acc) xs ≡ fold (λ found y. Some y) acc (cond t (x ∷ opened p b xs) (opened p b xs))) [
      | true ↦ last-along p b (Some x) xs
      | false ↦ last-along p b acc xs
    ]

pub close-along : (p : Pass) (b : ℕ) (xs : List State) → list_all (λ x. not (is_open p x.at b) || closes p x.at b) xs ≡ is_empty (filter (λ x. not (closes p x.at b)) (opened p b xs))
close-along p b [] = refl
close-along p b (x ∷ xs) =
    elim (is_open p x.at b) as (λ t. ((not t || closes p x.at b) && list_all (λ y. not (is_open p y.at b) || closes p y.at b) xs) ≡ is_empty (filter (λ y. not (closes p y.at b)) (cond t (x ∷ opened p b xs) (opened p b xs)))) [
      | true ↦ elim (closes p x.at b) as (λ u. (u && list_all (λ y. not (is_open p y.at b) || closes p y.at b) xs) ≡ is_empty (cond (not u) (x ∷ filter (λ y. not (closes p y.at b)) (opened p b xs)) (filter (λ y. not (closes p y.at b)) (opened p b xs)))) [
        | true ↦ close-along p b xs
        | false ↦ refl
      ]
      | false ↦ close-along p b xs
    ]

-- ---- the walk back

get-prefix : (before : List State) (rs : List Reached) (j : ℕ) → j < length before → get_or (fold and_seen before rs) j start ≡ get_or before j start
get-prefix before [] j h = refl
get-prefix before (r ∷ rs) j h =
    let more : length (before ++ seen before r ∷ []) ≡ length before + 1 = length-append before (seen before r ∷ []) in
    get-prefix (and_seen before r) rs j (omega (arith, more, h)) ∙ get_or_append_left before (seen before r ∷ []) start j h

abbrev walk_by : Bool → State → List ℕ
walk_by t x = cond t [] (x.at ∷ x.walk)

walk-at : (before : List State) (rs : List Reached) (i n : ℕ) → length before + i ≡ n → i < length rs → (((at_index rs i).at == 0) ≡ false → (at_index rs i).from < n) → (get_or (fold and_seen before rs) n start).walk ≡ walk_by ((at_index rs i).at == 0) (get_or (fold and_seen before rs) (at_index rs i).from start)
walk-at before [] i n e h back = absurd (omega (arith, h))
walk-at before (r ∷ rs) zero n e h back =
    let len : length before ≡ n = omega (arith, e) in
    let more : length (before ++ seen before r ∷ []) ≡ length before + 1 = length-append before (seen before r ∷ []) in
    let here : get_or (fold and_seen (and_seen before r) rs) n start ≡ seen before r = get-prefix (and_seen before r) rs n (omega (arith, more, len)) ∙ get_or_at before (seen before r) [] start n len in
    ap (λ (x : State). x.walk) here
    ∙ elim (r.at == 0) as (λ t. (t ≡ false → r.from < n) → walk_by t (get_or before r.from start) ≡ walk_by t (get_or (fold and_seen (and_seen before r) rs) r.from start)) [
      | true ↦ λ b. refl
      | false ↦ λ b.
          let low : r.from < n = b refl in
          let old : get_or (fold and_seen (and_seen before r) rs) r.from start ≡ get_or before r.from start = get-prefix (and_seen before r) rs r.from (omega (arith, more, len, low)) ∙ get_or_append_left before (seen before r ∷ []) start r.from (omega (arith, len, low)) in
          ap (walk_by false) (sym old)
    ] back
walk-at before (r ∷ rs) (suc i) n e h back =
    let more : length (before ++ seen before r ∷ []) ≡ length before + 1 = length-append before (seen before r ∷ []) in
    walk-at (and_seen before r) rs i n (omega (arith, more, e)) (omega (arith, h)) back

pub walk_end : (rs : List Reached) (i : ℕ) → IsChain rs → i < length rs → (at_index rs i).at ≡ 0 → (get_or (meaning rs) i start).walk ≡ []
unfolding meaning
walk_end rs i chain h e = let t : ((at_index rs i).at == 0) ≡ true = eq-eqb (at_index rs i).at 0 e in walk-at [] rs i i (omega arith) h (chain i h) ∙ ap (λ b. walk_by b (get_or (fold and_seen [] rs) (at_index rs i).from start)) t

walk-here : (rs : List Reached) (i : ℕ) → (((at_index rs i).at == 0) ≡ false → (at_index rs i).from < i) → i < length rs → ((at_index rs i).at == 0) ≡ false → (get_or (meaning rs) i start).walk ≡ (get_or (meaning rs) (at_index rs i).from start).at ∷ (get_or (meaning rs) (at_index rs i).from start).walk
unfolding meaning
walk-here rs i back h t = walk-at [] rs i i (omega arith) h back ∙ ap (λ b. walk_by b (get_or (fold and_seen [] rs) (at_index rs i).from start)) t

pub walk_next : (rs : List Reached) (i : ℕ) → IsChain rs → i < length rs → (at_index rs i).at ≢ 0 → (get_or (meaning rs) i start).walk ≡ (at_index rs (at_index rs i).from).at ∷ (get_or (meaning rs) (at_index rs i).from start).walk
walk_next rs i chain h e =
    let t : ((at_index rs i).at == 0) ≡ false = ne_eqb (at_index rs i).at 0 e in
    let low : (at_index rs i).from < i = chain i h t in
    let at : (get_or (meaning rs) (at_index rs i).from start).at ≡ (at_index rs (at_index rs i).from).at = ap (λ (k : Head). k.at) (head-at rs (at_index rs i).from (omega (arith, low, h))) in
    walk-here rs i (chain i h) h t ∙ ap (λ n. n ∷ (get_or (meaning rs) (at_index rs i).from start).walk) at

-- one step back, at whatever default the code reads with
pub walk_step : (rs : List Reached) (i : ℕ) (d : Reached) (w xs ys : List ℕ) → IsChain rs → i < length rs → (get_or rs i d).at ≢ 0 → xs ≡ w ++ (get_or rs (get_or rs i d).from d).at ∷ [] → w ++ walk_to rs i ≡ ys → ((get_or rs i d).from < length rs) × (xs ++ walk_to rs (get_or rs i d).from ≡ ys)
walk_step rs i d w xs ys chain h ne is same =
    let e : at_index rs i ≡ get_or rs i d = get_or_default rs i first d h in
    let r = get_or rs i d in
    let ne' : (at_index rs i).at ≢ 0 = rw e ne in
    let low' : (at_index rs i).from < i = chain i h (ne_eqb (at_index rs i).at 0 ne') in
    let low : r.from < i = rw e at low' in
    let next = walk_next rs i chain h ne' in
    let f : (at_index rs (at_index rs i).from).at ≡ (get_or rs r.from d).at = rw e (ap (λ (x : Reached). x.at) (get_or_default rs r.from first d (omega (arith, low, h)))) in (
      omega (arith, low, h),
      ap (λ (l : List ℕ). l ++ walk_to rs r.from) is
          ∙ append_assoc w ((get_or rs r.from d).at ∷ []) (walk_to rs r.from)
          ∙ ap (λ (l : List ℕ). w ++ l) (ap (λ n. n ∷ walk_to rs r.from) (sym f) ∙ ap (λ (x : Reached). (at_index rs (at_index rs i).from).at ∷ walk_to rs x.from) (sym e) ∙ sym next)
          ∙ same,
    )
