-- What the code keeps: reached states that name the state before them by its index.
use Rattle.std.specs.Prelude.{◌≡◌, ℕ, ◌+◌, ◌<◌, slice_set, Bool, true, false, not, ◌&&◌, List, [], ◌∷◌, ◌++◌, length, slice_index_or, Option, Some, None, if◌then◌else◌, ◌==◌, ℤ, pos, ◌+ℤ◌, int_lt, int_le, unsigned_abs}
use Rattle.std.specs.List.{range_with_len, fold, filter, filter_map}
use Rattle.line_break.specs.declared.weight.Class.{Class}
use Rattle.line_break.specs.declared.weight.Class.TheVariants.{VeryLoose, Loose, Decent, Tight}
use Rattle.line_break.specs.declared.weight.Weight.{Weight}
use Rattle.line_break.specs.Lines.{Pass, weight, closes, demerits}
use Rattle.line_break.specs.Best.{State, start, classes}
use Rattle.line_break.specs.declared.states.Reached.{Reached}
use Rattle.line_break.specs.declared.states.Found.{Found}

-- the state that a reached one stands for, after the states `before`
abbrev pub seen : List State → Reached → State
seen before r = let x = slice_index_or before r.from start in record {
  at = r.at;
  class = r.class;
  sum = r.sum;
  walk = if r.at == 0 then [] else (x.at ∷ x.walk);
}

abbrev pub and_seen : List State → Reached → List State
and_seen before r = before ++ seen before r ∷ []

-- the states that a list of reached ones stands for
unfoldable pub meaning : List Reached → List State
meaning reached = fold and_seen [] reached

abbrev pub first : Reached
first = record { at = 0; class = Decent; sum = pos 0; from = 0 }

abbrev pub nothing : Found
nothing = record { very_loose = None; loose = None; decent = None; tight = None }

abbrev pub pick : Found → Class → Option Reached
pick f VeryLoose = f.very_loose
pick f Loose = f.loose
pick f Decent = f.decent
pick f Tight = f.tight

abbrev pub later_of : Option Reached → Reached → Option Reached
later_of None y = Some y
later_of (Some x) y = if int_lt x.sum y.sum then Some x else Some y

abbrev pub offered_as : Class → Found → Reached → Found
offered_as VeryLoose f r = record f { very_loose = later_of f.very_loose r }
offered_as Loose f r = record f { loose = later_of f.loose r }
offered_as Decent f r = record f { decent = later_of f.decent r }
offered_as Tight f r = record f { tight = later_of f.tight r }

-- what is found once r is offered
unfoldable pub offered : Found → Reached → Found
offered f r = offered_as r.class f r

abbrev pub made : ℕ → Weight → Reached → ℤ → ℕ → Reached
made b line x d i = record { at = b; class = line.class; sum = x.sum +ℤ d; from = i }

-- at no cost
abbrev pub taken : ℕ → Weight → Reached → ℕ → Reached
taken b line x i = record { at = b; class = line.class; sum = x.sum; from = i }

-- by the line from the state with the index i, which is x
abbrev pub reach : Pass → ℕ → ℕ → Reached → Reached
reach p b i x = record {
  at = b;
  class = (weight p x.at b).class;
  sum = x.sum +ℤ demerits p x.class x.at b;
  from = i;
}

abbrev pub fits : Pass → ℕ → ℕ → Bool
fits p s b = not (weight p s b).overfull && int_le (pos (weight p s b).badness) p.threshold

unfoldable pub found_with : Pass → ℕ → Found → ℕ → Reached → Found
found_with p b found i x = if fits p x.at b then offered found (reach p b i x) else found

abbrev pub at_index : List Reached → ℕ → Reached
at_index states i = slice_index_or states i first

-- what the open states find at b
abbrev pub found_by : Pass → ℕ → List Reached → List ℕ → Found
found_by p b states active =
    fold (λ found i. found_with p b found i (at_index states i)) nothing active

-- those that stay open after b
abbrev pub left_open : Pass → ℕ → List Reached → List ℕ → List ℕ
left_open p b states active = filter (λ i. not (closes p (at_index states i).at b)) active

-- an index put after the first `left` ones, if it stays
abbrev pub with_open : List ℕ → ℕ → ℕ → Bool → List ℕ
with_open active left i stays = if stays then slice_set active left i else active

abbrev pub open_count : ℕ → Bool → ℕ
open_count left stays = if stays then left + 1 else left

abbrev pub found_list : Found → List Reached
found_list found = filter_map (pick found) classes

abbrev pub lower_sum : Option ℤ → Reached → Option ℤ
lower_sum None r = Some r.sum
lower_sum (Some v) r = if int_lt r.sum v then Some r.sum else Some v

abbrev pub near_code : ℤ → Option ℤ → Reached → Bool
near_code adj None r = false
near_code adj (Some v) r = int_le r.sum (v +ℤ pos (unsigned_abs adj))

abbrev pub kept_codes : ℤ → List Reached → List Reached
kept_codes adj found = filter (near_code adj (fold lower_sum None found)) found

abbrev pub is_empty : {X : Type 0} → List X → Bool
is_empty [] = true
is_empty (x ∷ xs) = false

-- the line from the state with the index i, which is x, at no cost
abbrev pub rescue_from : Pass → ℕ → ℕ → Reached → Reached
rescue_from p b i x =
    record { at = b; class = (weight p x.at b).class; sum = x.sum; from = i }

abbrev pub rescue_by : Pass → ℕ → List Reached → ℕ → Reached
rescue_by p b states i = rescue_from p b i (at_index states i)

abbrev pub last_rescue : Pass → ℕ → List Reached → List ℕ → Option Reached
last_rescue p b states active = fold (λ found i. Some (rescue_by p b states i)) None active

abbrev pub to_list : {X : Type 0} → Option X → List X
to_list None = []
to_list (Some x) = x ∷ []

abbrev pub or_rescue_code : Bool → Option Reached → List Reached → List Reached
or_rescue_code rescues r [] = if rescues then to_list r else []
or_rescue_code rescues r (y ∷ ys) = y ∷ ys

-- the states that are new at b
abbrev pub new_codes : Pass → ℕ → List Reached → List ℕ → List Reached
new_codes p b states active =
    or_rescue_code (p.is_last && is_empty (left_open p b states active))
    (last_rescue p b states active)
    (kept_codes p.shape.adj_demerits (found_list (found_by p b states active)))

-- each state but the start names an earlier one
abbrev pub IsChain : List Reached → Type 0
IsChain rs = (i : ℕ) → i < length rs → ((at_index rs i).at == 0) ≡ false → (at_index rs i).from < i

-- the breaks before the state with the index i, the latest first
abbrev pub walk_to : List Reached → ℕ → List ℕ
walk_to rs i = (slice_index_or (meaning rs) i start).walk

-- the better end of two, the earlier where sums are equal
abbrev pub better_end : List Reached → ℕ → Option ℕ → ℕ → Option ℕ
better_end rs n None i = if (at_index rs i).at == n then Some i else None
better_end rs n (Some j) i =
    if (at_index rs i).at == n && int_lt (at_index rs i).sum (at_index rs j).sum then Some i
    else Some j

abbrev pub best_end_of : List Reached → ℕ → Option ℕ
best_end_of rs n = fold (better_end rs n) None (range_with_len 0 (length rs))
