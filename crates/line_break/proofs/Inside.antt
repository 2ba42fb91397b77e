-- The places at which lines end are those of items, and the end of a paragraph is forced.
use Rattle.std.proofs.Common.{◌≡◌, ℕ, zero, suc, ◌+◌, ◌-◌, ◌<◌, true, false, cond, List, [], ◌∷◌, ◌++◌, length, get_or, drop, Option, Some, None, sym, true≢false, ◌∙◌, ap, arith, length-append, pos, int_lt, int_le}
use Rattle.std.specs.List.{All, AllByRecursion, range_with_len}
use Rattle.std.proofs.lemmas.List.Elements.{All-nil, All-from_recursion}
use mathlib.Core.List.{reverse_aux}
use Rattle.std.proofs.Math.Seq.{drop-append-add}
use Rattle.box_tree.specs.declared.item.Item.{Item}
use Rattle.line_break.specs.declared.shape.BreakAt.{BreakAt}
use Rattle.line_break.specs.declared.shape.ParaShape.{ParaShape}
use Rattle.line_break.specs.Best.{State, chosen}
use Rattle.line_break.specs.Laws.{PlacesAreInside, EndIsForced}
use Rattle.line_break.specs.Lines.{Pass, is_legal, legal_breaks, place_in}
use Rattle.line_break.specs.Paragraphs.{begins_forced, ends_forced, without_last_glue, ends_before, ends_of, ends_option, or_ends, deciding_ends, first_pass, second_pass, third_pass, emergency_passes, later_passes}
use Rattle.line_break.proofs.Step.{all_range, all_filter}

abbrev IsInside : ℕ → BreakAt → Type 0
IsInside n b = b.0 < n

abbrev AreInside : ℕ → List BreakAt → Type 0
AreInside n bs = All (IsInside n) bs

-- no list without items has a forced end
some_items : (xs : List Item) → ends_forced xs ≡ true → 0 < length xs
some_items [] h = absurd (true≢false (sym h))
some_items (x ∷ xs) h = omega arith

at_any : (P : ℕ → Type 0) (xs : List ℕ) (b : ℕ) → AllByRecursion P xs → P 0 → P (get_or xs b 0)
at_any P [] zero all z = z
at_any P [] (suc b) all z = z
at_any P (x ∷ xs) zero all z = all.0
at_any P (x ∷ xs) (suc b) all z = at_any P xs b all.1 z

legal_places : (xs : List Item) → AllByRecursion (λ i. i < length xs) (legal_breaks xs)
legal_places xs = all_filter (λ i. i < length xs) (is_legal xs) (range_with_len 0 (length xs)) (all_range 0 (length xs) (length xs) (omega arith))

-- each break of a list with items is at one of them
place_somewhere : (xs : List Item) (b : ℕ) → 0 < length xs → place_in xs b < length xs
place_somewhere xs b h = at_any (λ i. i < length xs) (0 ∷ legal_breaks xs) b (h, legal_places xs) h

walk_inside : (p : Pass) (b : ℕ) (walk : List ℕ) → 0 < length p.items → AllByRecursion (IsInside (length p.items)) (ends_before p b walk)
walk_inside p b [] h = tt
walk_inside p b (s ∷ earlier) h = (place_somewhere p.items b h, walk_inside p s earlier h)

turned : (n : ℕ) (bs cs : List BreakAt) → AllByRecursion (IsInside n) bs → AllByRecursion (IsInside n) cs → AllByRecursion (IsInside n) (reverse_aux bs cs)
turned n [] cs h k = k
turned n (b ∷ bs) cs h k = turned n bs (b ∷ cs) h.1 (h.0, k)

option_inside : (p : Pass) (x : Option State) (later : List BreakAt) → 0 < length p.items → AreInside (length p.items) later → AreInside (length p.items) (or_ends (ends_option p x) later)
option_inside p None later h l = l
option_inside p (Some x) later h l = All-from_recursion (IsInside (length p.items)) (ends_of p x) (turned (length p.items) (ends_before p x.at x.walk) [] (walk_inside p x.at x.walk h) tt)

emergency_inside : (xs : List Item) (shape : ParaShape) → 0 < length xs → AreInside (length xs) (deciding_ends (emergency_passes xs shape))
emergency_inside xs shape h = elim (int_lt (pos 0) shape.emergency.0) as (λ t. AreInside (length xs) (deciding_ends (cond t (third_pass xs shape ∷ []) []))) [
  | true ↦ option_inside (third_pass xs shape) (chosen (third_pass xs shape)) [] h (All-nil (IsInside (length xs)))
  | false ↦ All-nil (IsInside (length xs))
]

later_inside : (xs : List Item) (shape : ParaShape) → 0 < length xs → AreInside (length xs) (deciding_ends (later_passes xs shape))
later_inside xs shape h = option_inside (second_pass xs shape) (chosen (second_pass xs shape)) (deciding_ends (emergency_passes xs shape)) h (emergency_inside xs shape h)

pub places_are_inside : PlacesAreInside
places_are_inside xs shape f = let h = some_items xs f in elim (int_le (pos 0) shape.pretolerance) as (λ t. AreInside (length xs) (deciding_ends (cond t (first_pass xs shape ∷ later_passes xs shape) (later_passes xs shape)))) [
  | true ↦ option_inside (first_pass xs shape) (chosen (first_pass xs shape)) (deciding_ends (later_passes xs shape)) h (later_inside xs shape h)
  | false ↦ later_inside xs shape h
]

last_of_three : (xs : List Item) (x y z : Item) → drop (length (xs ++ x ∷ y ∷ z ∷ []) - 1) (xs ++ x ∷ y ∷ z ∷ []) ≡ z ∷ []
last_of_three xs x y z =
    let e : length (xs ++ x ∷ y ∷ z ∷ []) - 1 ≡ length xs + 2 = let l = length-append xs (x ∷ y ∷ z ∷ []) in omega (arith, l) in
    ap (λ n. drop n (xs ++ x ∷ y ∷ z ∷ [])) e ∙ drop-append-add xs (x ∷ y ∷ z ∷ []) 2

pub end_is_forced : EndIsForced
end_is_forced items fill = ap (λ (ys : List Item). begins_forced ys) (last_of_three (without_last_glue items) _ _ _)
