-- One step of the walk over linked nodes, and its end.
use Prim.Native.Nat.{zero, suc}
use Rattle.std.proofs.Common.{◌≡◌, ℕ, ◌+◌, ◌-◌, ◌≤◌, List, [], ◌∷◌, ◌++◌, length, take, drop, get_or, slice_get, Bool, true, false, if◌then◌else◌, Option, Some, None, ℤ, ◌+ℤ◌, ap, sym, ◌∙◌, refl, append_assoc, arith, length-append, length-take}
use Rattle.std.specs.Prelude.{IfSome, ◌^◌}
use Rattle.std.specs.List.{insert}
use Rattle.std.proofs.Math.Seq.{take-append_seam, drop-append_seam, drop-cons}
use Rattle.std.proofs.lemmas.List.{append-nil, take-append-drop, take_all, drop_all}
use Rattle.std.proofs.lemmas.Option.{slice_get_within}
use Rattle.ts_geometry.specs.declared.glue.Glue.{Glue}
use Rattle.ts_geometry.specs.Numbers.{IsWithin}
use Rattle.box_tree.specs.declared.item.GlueFrom.TheVariants as glues
use Rattle.box_tree.specs.declared.item.Item.{Item}
use Rattle.box_tree.specs.declared.item.Item.TheVariants as items
use Rattle.node_links.specs.declared.node.NodeNo.{NodeNo}
use Rattle.node_links.specs.Lists.{with_value, IsPenalty}
use Rattle.jlist_builder.specs.Entries.{Entry, AreEntries}
use Rattle.jlist_builder.specs.Pieces.{joined}
use Rattle.jlist_builder.specs.Gaps.{metric_list}
use Rattle.kanjiskip_adjust.specs.EndCodes.{Codes}
use Rattle.kanjiskip_adjust.specs.Finished.{skip_items, finished, finished_list, widow_of}
use Rattle.kanjiskip_adjust.specs.Walks.{look_of, skip_before, walk_after, walked, with_penalty, added, concluded, gap_value, IsSmall, start}
use Rattle.kanjiskip_adjust.specs.declared.look.Look.{Look}
use Rattle.kanjiskip_adjust.specs.declared.look.Look.TheVariants as looks
use Rattle.kanjiskip_adjust.specs.Nodes.{AreKept, marks_after}
use Rattle.kanjiskip_adjust.specs.declared.nodes.Marks.{Marks}
use Rattle.kanjiskip_adjust.specs.declared.walk.Walk.{Walk}
use Rattle.kanjiskip_adjust.proofs.Keeping.{kept_after, kept_inserted, next_inserted}
use Rattle.kanjiskip_adjust.proofs.Widows.{walked_metric_list}
use Rattle.kanjiskip_adjust.proofs.Sums.{finished_small}

-- ---- one item

seam :
    (codes : Codes) (widow : Option ℤ) (w : Walk) (front rest skips : List Item) (i : Item)
    → skips ≡ skip_items (skip_before codes w (look_of i))
    → (let now = (front ++ skips) ++ i ∷ [] in
    walked codes widow (walk_after w (look_of i) (length now)) (take (length now) (now ++ rest)) (drop (length now) (now ++ rest))
    ≡ walked codes widow w front (i ∷ rest))
seam codes widow w front rest skips i is = rw (take-append_seam, drop-append_seam, is) refl

pass_with :
    (codes : Codes) (widow : Option ℤ) (w : Walk) (xs ys : List Item) (k n : ℕ) (i : Item) (rest skips : List Item)
    → skips ≡ skip_items (skip_before codes w (look_of i)) → drop k xs ≡ i ∷ rest
    → ys ≡ ((take k xs ++ skips) ++ i ∷ []) ++ rest → n ≡ length ((take k xs ++ skips) ++ i ∷ [])
    → walked codes widow (walk_after w (look_of i) n) (take n ys) (drop n ys) ≡ walked codes widow w (take k xs) (drop k xs)
pass_with codes widow w xs ys k n i rest skips is tail whole count =
    rw (count, whole, tail) (seam codes widow w (take k xs) rest skips i is)

read_at : {X : Type 0} (xs : List X) (k : ℕ) (x : X) → slice_get xs k ≡ Some x → x ≡ get_or xs k x
read_at [] k x h = cc
read_at (y ∷ ys) zero x h = cc
read_at (y ∷ ys) (suc k) x h = read_at ys k x h

tail_at : (xs : List Item) (k : ℕ) (i : Item) → slice_get xs k ≡ Some i → drop k xs ≡ i ∷ drop (k + 1) xs
tail_at xs k i is =
    let e : k + 1 ≡ suc k = omega arith in
    let r = read_at xs k i is in
    let d = drop-cons xs k i (slice_get_within xs k i is) in cc

-- an item that has no skip before it
pub pass_plain :
    (codes : Codes) (widow : Option ℤ) (w : Walk) (xs : List Item) (k : ℕ) (i : Item)
    → slice_get xs k ≡ Some i → skip_before codes w (look_of i) ≡ None
    → walked codes widow (walk_after w (look_of i) (k + 1)) (take (k + 1) xs) (drop (k + 1) xs) ≡ walked codes widow w (take k xs) (drop k xs)
pass_plain codes widow w xs k i is none =
    let tail = tail_at xs k i is in
    let there = slice_get_within xs k i is in
    pass_with codes widow w xs xs k (k + 1) i (drop (k + 1) xs) [] (rw none refl) tail
    (sym (take-append-drop k xs) ∙ (rw tail (simp (append_assoc, append-nil))))
    (simp (length-append, length-take) (omega arith))

-- an item that has a skip before it
pub pass_skip :
    (codes : Codes) (widow : Option ℤ) (w : Walk) (xs : List Item) (k n : ℕ) (i : Item) (glue : Glue)
    → slice_get xs k ≡ Some i → skip_before codes w (look_of i) ≡ Some glue → n ≡ k + 1 + 1
    → (let ys = insert xs k (items.Glue glue glues.Skip) in
    walked codes widow (walk_after w (look_of i) n) (take n ys) (drop n ys) ≡ walked codes widow w (take k xs) (drop k xs))
pass_skip codes widow w xs k n i glue is some two =
    let tail = tail_at xs k i is in
    let there = slice_get_within xs k i is in
    rw two (pass_with codes widow w xs (insert xs k (items.Glue glue glues.Skip)) k (k + 1 + 1) i (drop (k + 1) xs) (items.Glue glue glues.Skip ∷ []) (rw some refl) tail
    (rw tail (simp append_assoc))
    (simp (length-append, length-take) (omega arith)))

no_choice : (b : Bool) → (let none : Option Glue = None in (if b then none else none) ≡ none)
no_choice true = refl
no_choice false = refl

-- An item with a skip before it has something on its left.
skip_has_left : (codes : Codes) (w : Walk) (look : Look) → w.left ≡ None → skip_before codes w look ≡ None
skip_has_left codes w (looks.Letter first last) none = rw none (no_choice w.is_spaced)
skip_has_left codes w (looks.Kanji cell text) none = rw none (no_choice w.is_spaced)
skip_has_left codes w looks.Gap none = refl
skip_has_left codes w looks.Space none = refl
skip_has_left codes w looks.Skip none = refl
skip_has_left codes w looks.Penalty none = refl
skip_has_left codes w looks.Blank none = refl
skip_has_left codes w looks.Solid none = refl

pub has_before :
    (codes : Codes) (w : Walk) (look : Look) (glue : Glue) (place : ℕ) → (place ≡ 0 → w.left ≡ None) → skip_before codes w look ≡ Some glue → 1 ≤ place
has_before codes w look glue zero first some = let none = skip_has_left codes w look (first refl) in cc
has_before codes w look glue (suc place) first some = omega arith

-- ---- one node

pub linked_plain :
    (codes : Codes) (widow : Option ℤ) (w w' : Walk) (xs : List Item) (place : ℕ) (look : Look) (i : Item)
    → slice_get xs place ≡ Some i → look ≡ look_of i → skip_before codes w look ≡ None → w' ≡ walk_after w look (place + 1)
    → walked codes widow w' (take (place + 1) xs) (drop (place + 1) xs) ≡ walked codes widow w (take place xs) (drop place xs)
linked_plain codes widow w w' xs place look i is of none after =
    rw (after, of) (pass_plain codes widow w xs place i is (rw of at none))

pub linked_skip :
    (codes : Codes) (widow : Option ℤ) (w w' : Walk) (xs ys : List Item) (place n : ℕ) (look : Look) (i : Item) (glue : Glue)
    → slice_get xs place ≡ Some i → look ≡ look_of i → skip_before codes w look ≡ Some glue → w' ≡ walk_after w look n
    → n ≡ place + 1 + 1 → ys ≡ insert xs place (items.Glue glue glues.Skip)
    → walked codes widow w' (take n ys) (drop n ys) ≡ walked codes widow w (take place xs) (drop place xs)
linked_skip codes widow w w' xs ys place n look i glue is of some after two put =
    rw (after, of, put) (pass_skip codes widow w xs place n i glue is (rw of at some) two)

module _ (numbers numbers' : List NodeNo) (place n : ℕ) (number new : NodeNo) (here : slice_get numbers place ≡ Some number)
    (put : numbers' ≡ insert numbers place new) (two : n ≡ place + 1 + 1) where
  pub linked_here : slice_get numbers' (n - 1) ≡ Some number
  linked_here =
      let within = slice_get_within numbers place number here in
      rw put (next_inserted numbers place place (n - 1) new (omega arith) (omega (arith, within)) (omega (arith, two)) ∙ here)

  pub linked_next : slice_get numbers' n ≡ slice_get numbers (place + 1)
  linked_next =
      let within = slice_get_within numbers place number here in
      rw put (next_inserted numbers place (place + 1) n new (omega arith) (omega (arith, within)) two)

  pub linked_kept :
      (w w' : Walk) (m m' : Marks) (look : Look) → AreKept numbers w m place
      → w' ≡ walk_after w look n → m' ≡ marks_after (record m { before = new }) look number → AreKept numbers' w' m' n
  linked_kept w w' m m' look k after marks =
      let within = slice_get_within numbers place number here in
      let inserted = kept_inserted numbers w m place new k (omega (arith, within)) in
      let at = next_inserted numbers place place (place + 1) new (omega arith) (omega (arith, within)) refl ∙ here in
      rw (put, after, marks, two) (kept_after (insert numbers place new) w (record m { before = new }) (place + 1) inserted number at look)

-- ---- the widow penalty

some_is_not_none : {X : Type 0} (x : X) → Some x ≡ None → ⊥
some_is_not_none x is = cc

valued_on : (w z : ℤ) (i : Item) (xs : List Item) → gap_value i ≡ Some z → with_value (z +ℤ w) (i ∷ xs) 0 ≡ with_penalty w i xs
valued_on w z (items.Glyph font code size shift first last) xs is = absurd (some_is_not_none z (sym is))
valued_on w z (items.Kanji font cell size kind) xs is = absurd (some_is_not_none z (sym is))
valued_on w z (items.Box tree shift) xs is = absurd (some_is_not_none z (sym is))
valued_on w z (items.Crossed tree shift seen) xs is = absurd (some_is_not_none z (sym is))
valued_on w z (items.Rule wd ht dp) xs is = absurd (some_is_not_none z (sym is))
valued_on w z (items.Glue glue from) xs is = absurd (some_is_not_none z (sym is))
valued_on w z (items.Kern width from) xs is = absurd (some_is_not_none z (sym is))
valued_on w z (items.Penalty y true) xs is = let same : y ≡ z = cc in rw same refl
valued_on w z (items.Penalty y false) xs is = absurd (some_is_not_none z (sym is))

-- the widow penalty on a penalty
pub added_on :
    (w z : ℤ) (n : ℕ) (xs : List Item) (i : Item) → slice_get xs n ≡ Some i → gap_value i ≡ Some z
    → with_value (z +ℤ w) xs n ≡ added w n xs
added_on w z n [] i is some = cc
added_on w z zero (x ∷ xs) i is some = let same : x ≡ i = cc in rw same (valued_on w z i xs some)
added_on w z (suc n) (x ∷ xs) i is some = ap (λ t. x ∷ t) (added_on w z n xs i is some)

put_before : (w : ℤ) (i : Item) (xs : List Item) → gap_value i ≡ None → items.Penalty w true ∷ i ∷ xs ≡ with_penalty w i xs
put_before w (items.Glyph font code size shift first last) xs is = refl
put_before w (items.Kanji font cell size kind) xs is = refl
put_before w (items.Box tree shift) xs is = refl
put_before w (items.Crossed tree shift seen) xs is = refl
put_before w (items.Rule wd ht dp) xs is = refl
put_before w (items.Glue glue from) xs is = refl
put_before w (items.Kern width from) xs is = refl
put_before w (items.Penalty y true) xs is = absurd (some_is_not_none y is)
put_before w (items.Penalty y false) xs is = refl

-- the widow penalty where no penalty is
pub added_new :
    (w : ℤ) (n : ℕ) (xs : List Item) (i : Item) → slice_get xs n ≡ Some i → gap_value i ≡ None
    → insert xs n (items.Penalty w true) ≡ added w n xs
added_new w n [] i is none = cc
added_new w zero (x ∷ xs) i is none = let same : x ≡ i = cc in rw same (put_before w i xs none)
added_new w (suc n) (x ∷ xs) i is none = ap (λ t. x ∷ t) (added_new w n xs i is none)

pub is_penalty : (i : Item) (z : ℤ) → gap_value i ≡ Some z → IsPenalty i
is_penalty (items.Glyph font code size shift first last) z is = some_is_not_none z (sym is)
is_penalty (items.Kanji font cell size kind) z is = some_is_not_none z (sym is)
is_penalty (items.Box tree shift) z is = some_is_not_none z (sym is)
is_penalty (items.Crossed tree shift seen) z is = some_is_not_none z (sym is)
is_penalty (items.Rule wd ht dp) z is = some_is_not_none z (sym is)
is_penalty (items.Glue glue from) z is = some_is_not_none z (sym is)
is_penalty (items.Kern width from) z is = some_is_not_none z (sym is)
is_penalty (items.Penalty value auto) z is = tt

-- A small item has a small value.
pub small_value : (o : Option Item) (i : Item) (z : ℤ) → IfSome o IsSmall → o ≡ Some i → gap_value i ≡ Some z → IsWithin (2 ^ 40) z
small_value None i z small is some = absurd (some_is_not_none i (sym is))
small_value (Some j) i z small is some =
    let same : j ≡ i = cc in
    let has : IfSome (gap_value i) (IsWithin (2 ^ 40)) = rw same at small in
    rw some at has

-- ---- the end of the walk

module _ (codes : Codes) (e : List Entry) (w : Walk) (xs old : List Item) (at : ℕ) (past : length xs ≤ at)
    (same : (widow : Option ℤ) → walked codes widow w (take at xs) (drop at xs) ≡ walked codes widow start [] old)
    (entries : AreEntries e) (is : old ≡ metric_list e) where
  at_end : (widow : Option ℤ) → concluded widow w.widow xs ≡ finished codes widow (joined e)
  at_end widow =
      let front : take at xs ≡ xs = take_all at xs past in
      let rest : drop at xs ≡ [] = drop_all at xs past in
      let all : walked codes widow w xs [] ≡ walked codes widow start [] old = rw (front, rest) at (same widow) in
      all ∙ (ap (walked codes widow start []) is ∙ walked_metric_list codes widow e entries)

  pub end_of_walk : (para : Bool) → concluded (widow_of codes para) w.widow xs ≡ finished_list codes para e
  end_of_walk para = at_end (widow_of codes para)

  pub small_at_end : (n : ℕ) → IfSome (slice_get xs n) IsSmall
  small_at_end n = let plain : xs ≡ finished codes None (joined e) = at_end None in rw plain (finished_small codes e n entries)

-- ---- the list at the end

pub none_past : {X : Type 0} (xs : List X) (k : ℕ) → slice_get xs k ≡ None → length xs ≤ k
none_past [] k is = omega arith
none_past (x ∷ xs) zero is = absurd (some_is_not_none x is)
none_past (x ∷ xs) (suc k) is = let past = none_past xs k is in omega (arith, past)

pub without_widow : (o : Option ℤ) (p : Option ℕ) (xs ys : List Item) → o ≡ None → concluded o p xs ≡ ys → xs ≡ ys
without_widow o p xs ys none is = rw none at is

without_place_of : (o : Option ℤ) (xs ys : List Item) → concluded o None xs ≡ ys → xs ≡ ys
without_place_of None xs ys is = is
without_place_of (Some w) xs ys is = is

pub without_place : (o : Option ℤ) (p : Option ℕ) (xs ys : List Item) → p ≡ None → concluded o p xs ≡ ys → xs ≡ ys
without_place o p xs ys none is = without_place_of o xs ys (rw none at is)

pub with_both : (o : Option ℤ) (p : Option ℕ) (w : ℤ) (n : ℕ) (xs new ys : List Item) → o ≡ Some w → p ≡ Some n
    → new ≡ added w n xs → concluded o p xs ≡ ys → new ≡ ys
with_both o p w n xs new ys some at put is = put ∙ (rw (some, at) at is)
