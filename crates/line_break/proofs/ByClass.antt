-- What the code keeps of the four classes.
use Rattle.std.proofs.Common.{arith, ◌≡◌, ℕ, ◌+◌, true, false, cond, List, [], ◌∷◌, ◌++◌, Option, Some, None, refl, sym, ◌∙◌, ap, ℤ, pos, ◌+ℤ◌, int_le, int_lt, unsigned_abs, append-nil, append_assoc}
use Rattle.std.specs.List.{fold, filter, cons_option, All, AllByRecursion, range_with_len}
use Rattle.std.proofs.lemmas.List.Sums.{fold-append}
use Rattle.std.proofs.lemmas.List.Elements.{filter-append, recursion_from_All}
use Rattle.std.proofs.lemmas.List.FromFn.{map-range_with_len_more}
use Rattle.std.proofs.lemmas.List.{map-id}
use Rattle.ts_geometry.specs.Numbers.{IsWithin}
use Rattle.line_break.specs.declared.states.Reached.{Reached}
use Rattle.line_break.specs.declared.states.Found.{Found}
use Rattle.line_break.specs.Codes.{better_end, to_list, found_list, lower_sum, near_code, kept_codes}

cons_option-is : {X : Type 0} (o : Option X) (xs : List X) → cons_option o xs ≡ to_list o ++ xs
cons_option-is None xs = refl
cons_option-is (Some x) xs = refl

pub found_list-is : (f : Found) → found_list f ≡ to_list f.very_loose ++ (to_list f.loose ++ (to_list f.decent ++ to_list f.tight))
found_list-is f =
    cons_option-is f.very_loose _
    ∙ ap (λ xs. to_list f.very_loose ++ xs) (cons_option-is f.loose _
    ∙ ap (λ xs. to_list f.loose ++ xs) (cons_option-is f.decent _
    ∙ ap (λ xs. to_list f.decent ++ xs) (cons_option-is f.tight [] ∙ append-nil (to_list f.tight))))

-- the least sum, class by class
pub in_order : (f : Found) (a b c d : Option ℤ) → a ≡ fold lower_sum None (to_list f.very_loose) → b ≡ fold lower_sum a (to_list f.loose) → c ≡ fold lower_sum b (to_list f.decent) → d ≡ fold lower_sum c (to_list f.tight) → d ≡ fold lower_sum None (found_list f)
in_order f a b c d p q r s =
    rw (found_list-is f, fold-append, fold-append, fold-append) (s ∙ ap (λ o. fold lower_sum o (to_list f.tight)) (r ∙ ap (λ o. fold lower_sum o (to_list f.decent)) (q ∙ ap (λ o. fold lower_sum o (to_list f.loose)) p)))

-- what is kept, class by class
pub kept_in_order : (f : Found) (limit : ℤ) → ((([] ++ filter (λ r. int_le r.sum limit) (to_list f.very_loose)) ++ filter (λ r. int_le r.sum limit) (to_list f.loose)) ++ filter (λ r. int_le r.sum limit) (to_list f.decent)) ++ filter (λ r. int_le r.sum limit) (to_list f.tight) ≡ filter (λ r. int_le r.sum limit) (found_list f)
kept_in_order f limit =
    let near = λ (r : Reached). int_le r.sum limit in
    rw (found_list-is f, filter-append near (to_list f.very_loose), filter-append near (to_list f.loose), filter-append near (to_list f.decent), append_assoc, append_assoc) refl

pub near_kept : (f : Found) (adj v limit : ℤ) (xs : List Reached) → xs ≡ filter (λ r. int_le r.sum limit) (found_list f) → Some v ≡ fold lower_sum None (found_list f) → limit ≡ v +ℤ pos (unsigned_abs adj) → xs ≡ kept_codes adj (found_list f)
near_kept f adj v limit xs is least at =
    is ∙ ap (λ l. filter (λ r. int_le r.sum l) (found_list f)) at ∙ ap (λ o. filter (near_code adj o) (found_list f)) least

filter_none : (xs : List Reached) → filter (λ _. false) xs ≡ []
filter_none [] = refl
filter_none (x ∷ xs) = filter_none xs

pub nothing_kept : (f : Found) (adj : ℤ) → None ≡ fold lower_sum None (found_list f) → [] ≡ kept_codes adj (found_list f)
nothing_kept f adj least = sym (ap (λ o. filter (near_code adj o) (found_list f)) (sym least) ∙ filter_none (found_list f))

OptionWithin : ℕ → Option ℤ → Type 0
OptionWithin n None = Unit {0}
OptionWithin n (Some v) = IsWithin n v

lowest : (n : ℕ) (o : Option ℤ) (xs : List Reached) → OptionWithin n o → AllByRecursion (λ r. IsWithin n r.sum) xs → OptionWithin n (fold lower_sum o xs)
unfolding OptionWithin
lowest n o [] h all = h
lowest n None (x ∷ xs) h all = lowest n (Some x.sum) xs all.0 all.1
lowest n (Some v) (x ∷ xs) h all =
    elim (int_lt x.sum v) as (λ t. OptionWithin n (fold lower_sum (cond t (Some x.sum) (Some v)) xs)) [
      | true ↦ lowest n (Some x.sum) xs all.0 all.1
      | false ↦ lowest n (Some v) xs h all.1
    ]

pub lowest_within : (n : ℕ) (v : ℤ) (xs : List Reached) → Some v ≡ fold lower_sum None xs → All (λ r. IsWithin n r.sum) xs → IsWithin n v
unfolding OptionWithin
lowest_within n v xs e all = rw (← e) at (lowest n None xs tt (recursion_from_All (λ r. IsWithin n r.sum) xs all))

pub range_more : (a n j : ℕ) → a + n ≡ j → range_with_len a (n + 1) ≡ range_with_len a n ++ j ∷ []
range_more a n j e = sym (map-id (range_with_len a (n + 1))) ∙ map-range_with_len_more (λ x. x) a n j e ∙ ap (λ xs. xs ++ j ∷ []) (map-id (range_with_len a n))

-- one place more of the search for the end
pub end_more : (rs : List Reached) (n i : ℕ) (was now : Option ℕ) → was ≡ fold (better_end rs n) None (range_with_len 0 i) → now ≡ better_end rs n was i → now ≡ fold (better_end rs n) None (range_with_len 0 (i + 1))
end_more rs n i was now e f =
    f
    ∙ ap (λ (o : Option ℕ). better_end rs n o i) e
    ∙ sym (fold-append (better_end rs n) None (range_with_len 0 i) (i ∷ []))
    ∙ ap (λ (is : List ℕ). fold (better_end rs n) None is) (sym (range_more 0 i i (omega arith)))
