-- The best breaks of one pass: the states met up to each break, and the walk of least sum (TeX:
-- The Program, sections 829 to 859).
use Rattle.std.specs.Prelude.{ℕ, zero, suc, Bool, true, false, not, ◌&&◌, ◌||◌, List, [], ◌∷◌, ◌++◌, length, Option, Some, None, if◌then◌else◌, nat_le, ◌==◌, ℤ, pos, ◌+ℤ◌, int_lt, int_le, unsigned_abs}
use Rattle.std.specs.List.{fold, filter, filter_map, list_all}
use Rattle.line_break.specs.declared.weight.Class.{Class}
use Rattle.line_break.specs.declared.weight.Class.TheVariants.{VeryLoose, Loose, Decent, Tight}
use Rattle.line_break.specs.Lines.{Pass, weight, closes, demerits, rank, legal_breaks}

-- a break that is reached, the class of the line that ends there, the least sum of demerits with
-- which it is, and the breaks before it, the latest first
pub record State : Type 0 where
  pub at : ℕ
  pub class : Class
  pub sum : ℤ
  pub walk : List ℕ

abbrev pub start : State
start = record { at = 0; class = Decent; sum = pos 0; walk = [] }

-- no break strictly between s and b closes s
unfoldable pub is_open : Pass → ℕ → ℕ → Bool
is_open p s zero = true
is_open p s (suc d) = (nat_le d s || not (closes p s d)) && is_open p s d

-- whether the line from s to b is admissible
abbrev pub is_admissible : Pass → ℕ → ℕ → Bool
is_admissible p s b = is_open p s b
    && (not (weight p s b).overfull && int_le (pos (weight p s b).badness) p.threshold)

-- the state that a line from x to b leads to
abbrev pub after_line : Pass → ℕ → State → State
after_line p b x = record {
  at = b;
  class = (weight p x.at b).class;
  sum = x.sum +ℤ demerits p x.class x.at b;
  walk = x.at ∷ x.walk;
}

-- the one of less sum, the later where sums are equal
abbrev pub later_least : Option State → State → Option State
later_least None y = Some y
later_least (Some x) y = if int_lt x.sum y.sum then Some x else Some y

-- the one of less sum, the earlier where sums are equal
abbrev pub earlier_least : Option State → State → Option State
earlier_least None y = Some y
earlier_least (Some x) y = if int_lt y.sum x.sum then Some y else Some x

abbrev pub leads_to : Pass → ℕ → Class → State → Bool
leads_to p b c x = is_admissible p x.at b && rank (weight p x.at b).class == rank c

abbrev pub with_line : Pass → ℕ → Class → Option State → State → Option State
with_line p b c best x = if leads_to p b c x then later_least best (after_line p b x) else best

-- the state of least sum of the class c at b
abbrev pub least : Pass → ℕ → List State → Class → Option State
least p b states c = fold (with_line p b c) None states

abbrev pub classes : List Class
classes = VeryLoose ∷ Loose ∷ Decent ∷ Tight ∷ []

-- the first of least sum
abbrev pub best_of : List State → Option State
best_of states = fold earlier_least None states

-- not more than |\adjdemerits| above the best
abbrev pub is_near : Pass → Option State → State → Bool
is_near p None y = false
is_near p (Some best) y = int_le y.sum (best.sum +ℤ pos (unsigned_abs p.shape.adj_demerits))

-- what is reached at b by admissible lines
abbrev pub reached : Pass → ℕ → List State → List State
reached p b states = let found = filter_map (least p b states) classes in
    filter (is_near p (best_of found)) found

-- every state that is open at b closes there
abbrev pub all_close : Pass → ℕ → List State → Bool
all_close p b states = list_all (λ x. not (is_open p x.at b) || closes p x.at b) states

abbrev pub last_open : Pass → ℕ → List State → Option State
last_open p b states = fold (λ found x. if is_open p x.at b then Some x else found) None states

-- the line is taken at no cost
abbrev pub rescued : Pass → ℕ → Option State → List State
rescued p b None = []
rescued p b (Some x) =
    record { at = b; class = (weight p x.at b).class; sum = x.sum; walk = x.at ∷ x.walk } ∷ []

-- where no admissible line leads to b
abbrev pub or_rescue : Pass → ℕ → List State → List State → List State
or_rescue p b states [] =
    if p.is_last && all_close p b states then rescued p b (last_open p b states) else []
or_rescue p b states (y ∷ ys) = y ∷ ys

unfoldable pub new_states : Pass → ℕ → List State → List State
new_states p b states = or_rescue p b states (reached p b states)

-- the states once the first k breaks have been met, in order
unfoldable pub states_to : Pass → ℕ → List State
states_to p zero = start ∷ []
states_to p (suc k) = states_to p k ++ new_states p (suc k) (states_to p k)

abbrev pub last_break : Pass → ℕ
last_break p = length (legal_breaks p.items)

-- the state that the pass ends with, if it reaches the last break
unfoldable pub chosen : Pass → Option State
chosen p = best_of (filter (λ x. x.at == last_break p) (states_to p (last_break p)))
