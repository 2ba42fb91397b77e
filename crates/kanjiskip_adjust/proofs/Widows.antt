-- The widow penalty is put where the walk remembers, so that the walk over a metric list gives the finished list.
use Prim.Native.Nat.{zero, suc}
use Rattle.std.proofs.Common.{◌≡◌, ℕ, ◌<◌, List, [], ◌∷◌, ◌++◌, length, Bool, true, false, not, ◌&&◌, if◌then◌else◌, Option, Some, None, ℤ, ap, sym, ◌∙◌, refl, append_assoc, arith, length-append}
use Rattle.std.proofs.lemmas.List.{append-nil}
use Rattle.ts_geometry.specs.declared.glue.Glue.{Glue}
use Rattle.box_tree.specs.declared.item.Item.{Item}
use Rattle.box_tree.specs.declared.item.Item.TheVariants as items
use Rattle.jlist_builder.specs.declared.space.Space.{Space}
use Rattle.jlist_builder.specs.declared.space.Space.TheVariants as spaces
use Rattle.jlist_builder.specs.Entries.{JapaneseCharacter, Entry, AreEntries}
use Rattle.jlist_builder.specs.Pieces.{Piece, Kanji, Glyph, Thing, CutHere, InhibitHere, joined}
use Rattle.jlist_builder.specs.Gaps.{neighbour, gap_penalty, penalty_items, space_before_kanji, own, kanji_item, metric_list}
use Rattle.kanjiskip_adjust.specs.EndCodes.{Codes}
use Rattle.kanjiskip_adjust.specs.Finished.{facing, end_skip, space_or, with_widow, finally_before, may_follow_item, may_follow, is_japanese, is_text, widow_at, finished}
use Rattle.kanjiskip_adjust.specs.Walks.{with_penalty, added, concluded, walked, start}
use Rattle.kanjiskip_adjust.specs.declared.look.End.TheVariants as ends
use Rattle.kanjiskip_adjust.proofs.Sorts.{joined_pieces}
use Rattle.kanjiskip_adjust.proofs.Walking.{plain, place, past_pieces}

with_penalty-append : (w : ℤ) (x : Item) (xs ys : List Item) → with_penalty w x (xs ++ ys) ≡ with_penalty w x xs ++ ys
with_penalty-append w (items.Glyph font code size shift first last) xs ys = refl
with_penalty-append w (items.Kanji font cell size kind) xs ys = refl
with_penalty-append w (items.Box tree shift) xs ys = refl
with_penalty-append w (items.Crossed tree shift seen) xs ys = refl
with_penalty-append w (items.Rule wd ht dp) xs ys = refl
with_penalty-append w (items.Glue glue from) xs ys = refl
with_penalty-append w (items.Kern width from) xs ys = refl
with_penalty-append w (items.Penalty z true) xs ys = refl
with_penalty-append w (items.Penalty z false) xs ys = refl

-- a penalty more within the front of a list
added-append : (w : ℤ) (n : ℕ) (xs ys : List Item) → n < length xs → added w n (xs ++ ys) ≡ added w n xs ++ ys
added-append w n [] ys h = absurd (omega arith)
added-append w zero (x ∷ xs) ys h = with_penalty-append w x xs ys
added-append w (suc n) (x ∷ xs) ys h = ap (λ t. x ∷ t) (added-append w n xs ys (omega arith))

-- a penalty more at the end of a front
added-at_length : (w : ℤ) (xs ys : List Item) → added w (length xs) (xs ++ ys) ≡ xs ++ added w 0 ys
added-at_length w [] ys = refl
added-at_length w (x ∷ xs) ys = ap (λ t. x ∷ t) (added-at_length w xs ys)

-- the widow penalty in a gap before a Japanese character
added-gap :
    (w : ℤ) (penalty : Option ℤ) (space : Space) (skip : Option Glue) (k : JapaneseCharacter)
    → added w 0 ((penalty_items penalty ++ space_or space skip) ++ kanji_item k ∷ [])
    ≡ (penalty_items (with_widow (Some w) penalty) ++ space_or space skip) ++ kanji_item k ∷ []
added-gap w (Some z) space skip k = refl
added-gap w None (spaces.Glue z) skip k = refl
added-gap w None (spaces.Kern z) skip k = refl
added-gap w None spaces.Nothing None k = refl
added-gap w None spaces.Nothing (Some z) k = refl

-- The end of the walk leaves alone what stands after the place.
concluded-append :
    (w : ℤ) (o : Option ℕ) (xs ys : List Item) → ((n : ℕ) → o ≡ Some n → n < length xs)
    → concluded (Some w) o (xs ++ ys) ≡ concluded (Some w) o xs ++ ys
concluded-append w None xs ys within = refl
concluded-append w (Some n) xs ys within = added-append w n xs ys (within n refl)

no_widow : (b : Bool) → (let none : Option ℤ = None in (if b then none else none) ≡ none)
no_widow true = refl
no_widow false = refl

no_widow_at : (past : List Piece) (x : Piece) → widow_at None past x ≡ None
no_widow_at past (Kanji k) = no_widow (is_text k.kind && is_japanese (neighbour past))
no_widow_at past (Glyph w) = refl
no_widow_at past (Thing i) = refl
no_widow_at past CutHere = refl
no_widow_at past InhibitHere = refl

pub finished_plain : (codes : Codes) (p : List Piece) → finished codes None p ≡ plain codes p
finished_plain codes [] = refl
finished_plain codes (x ∷ past) =
    ap (λ (o : Option ℤ). finished codes o past ++ finally_before codes (widow_at None past x) past x ++ own x) (no_widow (may_follow x))
    ∙ (ap (λ (o : Option ℤ). finished codes None past ++ finally_before codes o past x ++ own x) (no_widow_at past x)
    ∙ ap (λ (t : List Item). t ++ finally_before codes None past x ++ own x) (finished_plain codes past))

within_more : (o : Option ℕ) (xs ys : List Item) → ((n : ℕ) → o ≡ Some n → n < length xs) → (n : ℕ) → o ≡ Some n → n < length (xs ++ ys)
within_more o xs ys within n is = let h = within n is in simp length-append (omega arith)

place_within : (codes : Codes) (p : List Piece) (n : ℕ) → place codes p ≡ Some n → n < length (plain codes p)
place_within codes [] n is = cc
place_within codes (Kanji k ∷ past) n is = text (is_text k.kind) (is_japanese (neighbour past)) (place_within codes past n) is
  where
    text : (t j : Bool) → (place codes past ≡ Some n → n < length (plain codes past))
        → (if t then (if j then Some (length (plain codes past)) else None) else place codes past) ≡ Some n
        → n < length (plain codes past ++ finally_before codes None past (Kanji k) ++ own (Kanji k))
    text true true early h = let same : length (plain codes past) ≡ n = cc in simp length-append (omega arith)
    text true false early h = cc
    text false j early h = let within = early h in simp length-append (omega arith)
place_within codes (Glyph w ∷ past) n is = cc
place_within codes (Thing i ∷ past) n is = follows (may_follow_item i) (place_within codes past n) is
  where
    follows : (b : Bool) → (place codes past ≡ Some n → n < length (plain codes past))
        → (if b then place codes past else None) ≡ Some n
        → n < length (plain codes past ++ finally_before codes None past (Thing i) ++ own (Thing i))
    follows true early h = let within = early h in simp length-append (omega arith)
    follows false early h = cc
place_within codes (CutHere ∷ past) n is = simp append-nil (place_within codes past n is)
place_within codes (InhibitHere ∷ past) n is = simp append-nil (place_within codes past n is)

concluded-two :
    (w : ℤ) (o : Option ℕ) (xs ys zs : List Item) → ((n : ℕ) → o ≡ Some n → n < length xs)
    → (concluded (Some w) o xs ++ ys) ++ zs ≡ concluded (Some w) o ((xs ++ ys) ++ zs)
concluded-two w o xs ys zs within =
    ap (λ (t : List Item). t ++ zs) (sym (concluded-append w o xs ys within))
    ∙ sym (concluded-append w o (xs ++ ys) zs (within_more o xs ys within))

kanji_widowed :
    (w : ℤ) (t j : Bool) (front : Option ℤ → List Item) (done : List Item) (o : Option ℕ)
    (penalty : Option ℤ) (space : Space) (skip : Option Glue) (k : JapaneseCharacter)
    → front None ≡ done → front (Some w) ≡ concluded (Some w) o done → ((n : ℕ) → o ≡ Some n → n < length done)
    → (front (if not t then Some w else None) ++ (penalty_items (with_widow (if t && j then Some w else None) penalty) ++ space_or space skip))
    ++ kanji_item k ∷ []
    ≡ concluded (Some w) (if t then (if j then Some (length done) else None) else o)
    ((done ++ (penalty_items penalty ++ space_or space skip)) ++ kanji_item k ∷ [])
kanji_widowed w true true front done o penalty space skip k bare full within =
    ap (λ (xs : List Item). (xs ++ (penalty_items (with_widow (Some w) penalty) ++ space_or space skip)) ++ kanji_item k ∷ []) bare
    ∙ (append_assoc done (penalty_items (with_widow (Some w) penalty) ++ space_or space skip) (kanji_item k ∷ [])
    ∙ (ap (λ (xs : List Item). done ++ xs) (sym (added-gap w penalty space skip k))
    ∙ (sym (added-at_length w done ((penalty_items penalty ++ space_or space skip) ++ kanji_item k ∷ []))
    ∙ ap (added w (length done)) (sym (append_assoc done (penalty_items penalty ++ space_or space skip) (kanji_item k ∷ []))))))
kanji_widowed w true false front done o penalty space skip k bare full within = rw bare refl
kanji_widowed w false j front done o penalty space skip k bare full within =
    rw full (concluded-two w o done (penalty_items penalty ++ space_or space skip) (kanji_item k ∷ []) within)

-- The widow penalty is put where the walk remembers.
widowed : (codes : Codes) (w : ℤ) (p : List Piece) → finished codes (Some w) p ≡ concluded (Some w) (place codes p) (plain codes p)
widowed codes w [] = refl
widowed codes w (Kanji k ∷ past) =
    kanji_widowed w (is_text k.kind) (is_japanese (neighbour past)) (λ o. finished codes o past) (plain codes past) (place codes past)
    (gap_penalty (neighbour past) true k.kinsoku.pre) (space_before_kanji past k)
    (end_skip codes (facing past) (Some (ends.Japanese k.cell))) k
    (finished_plain codes past) (widowed codes w past) (place_within codes past)
widowed codes w (Glyph v ∷ past) = rw (finished_plain codes past) refl
widowed codes w (Thing i ∷ past) = follows (may_follow_item i) (widowed codes w past)
  where
    follows : (b : Bool) → finished codes (Some w) past ≡ concluded (Some w) (place codes past) (plain codes past)
        → finished codes (if b then Some w else None) past ++ finally_before codes None past (Thing i) ++ own (Thing i)
        ≡ concluded (Some w) (if b then place codes past else None) (plain codes past ++ finally_before codes None past (Thing i) ++ own (Thing i))
    follows true early =
        rw early (concluded-two w (place codes past) (plain codes past) (finally_before codes None past (Thing i)) (own (Thing i)) (place_within codes past))
    follows false early = rw (finished_plain codes past) refl
widowed codes w (CutHere ∷ past) = simp append-nil (widowed codes w past)
widowed codes w (InhibitHere ∷ past) = simp append-nil (widowed codes w past)

concluded_finished :
    (codes : Codes) (widow : Option ℤ) (p : List Piece) → concluded widow (place codes p) (plain codes p) ≡ finished codes widow p
concluded_finished codes None p = sym (finished_plain codes p)
concluded_finished codes (Some w) p = sym (widowed codes w p)

-- the whole walk over a metric list
pub walked_metric_list :
    (codes : Codes) (widow : Option ℤ) (e : List Entry) → AreEntries e
    → walked codes widow start [] (metric_list e) ≡ finished codes widow (joined e)
walked_metric_list codes widow e entries =
    ap (walked codes widow start []) (sym (append-nil (metric_list e)))
    ∙ (past_pieces codes widow (joined e) [] (joined_pieces e entries)
    ∙ concluded_finished codes widow (joined e))
