-- What the active list stands for between two breaks.
use Rattle.std.specs.Prelude.{true, false, ℤ, pos, neg_ℤ, int_lt, int_le, [], ◌∷◌, ◌≤◌, Option, Some, None, ◌≡◌, ℕ, zero, suc, ◌+◌, ◌*◌, ◌^◌, ◌<◌, List, map, length, slice_index_or}
use Rattle.std.specs.List.{filter, All}
use Rattle.line_break.specs.declared.weight.Class.{Class}
use Rattle.ts_geometry.specs.declared.direction.Dir.{Dir}
use Rattle.box_tree.specs.declared.item.Item.{Item}
use Rattle.box_tree.specs.Bounds.{IsDimen}
use Rattle.box_tree.specs.Nodes.{tree_items}
use Rattle.box_tree.specs.Sound.{IsSoundGlue, AreSound}
use Rattle.line_break.specs.declared.shape.ParaShape.{ParaShape}
use Rattle.line_break.specs.Lines.{Pass, demerits, penalty, skip, totals, with_extra}
use Rattle.line_break.specs.Best.{State, start, is_open, states_to, chosen, last_break}
use Rattle.line_break.specs.declared.states.Reached.{Reached}
use Rattle.ts_geometry.specs.Numbers.{IsWithin}
use Rattle.line_break.specs.declared.search.End.{End}
use Rattle.line_break.specs.declared.search.Lines.{Lines as PassLines}
use Rattle.line_break.specs.Codes.{meaning, IsChain}
use Rattle.line_break.specs.Loose.{IsLimit}
use Rattle.line_break.specs.declared.legal.Break.{Break}
use Rattle.line_break.specs.declared.totals.Totals.{Totals}
use Rattle.line_break.specs.Running.{minus, all_breaks}

-- the pass of the lines that the code asks of
abbrev pub pass_of : PassLines → Pass
pass_of l = record {
  items = l.items.now;
  shape = l.shape;
  threshold = l.threshold;
  extra = l.extra.0;
  is_last = l.is_last;
}

abbrev pub AreSoundItems : List Item → Type 0
AreSoundItems items = (dir : Dir) × AreSound dir (tree_items items)

-- numbers of less than 16384pt
pub record IsSoundShape (shape : ParaShape) : Type 0 where
  pub hsize : IsDimen shape.hsize
  pub left : IsSoundGlue shape.left
  pub right : IsSoundGlue shape.right
  pub emergency : IsDimen shape.emergency

-- the breaks are those of the items, and the background that of the shape
pub record IsPrepared (l : PassLines) : Type 0 where
  pub breaks : l.breaks.now ≡ all_breaks l.items.now
  pub background : l.background
      ≡ with_extra l.extra.0 (totals (skip l.shape.left ∷ skip l.shape.right ∷ []))
  pub sound : AreSoundItems l.items.now
  pub shape_sound : IsSoundShape l.shape
  pub extra : IsDimen l.extra
  pub few : length l.items.now ≤ 700000
  pub adj : IsWithin (2 ^ 31) l.shape.adj_demerits
  pub limit : IsLimit l.threshold l.limit

-- the background less the totals of the items from break b on
abbrev pub IsBeforeEnd : PassLines → ℕ → Totals → Type 0
IsBeforeEnd l b t = (d : Break) → t ≡ minus l.background (slice_index_or l.breaks.now b d).from

-- 0, or the place of break b
abbrev pub IsUntil : PassLines → ℕ → ℕ → Type 0
IsUntil l b n = (d : Break) → n ≤ (slice_index_or l.breaks.now b d).place

-- a line that is worse than the threshold, and isn't overfull, changes nothing at a break of this
-- penalty
abbrev pub MayPass : ℤ → ℤ → Type 0
MayPass threshold penalty =
    (int_lt threshold (pos 10000) ≡ true) × (int_le penalty (neg_ℤ (pos 10000)) ≡ false)

-- what the lines to a break have in common
pub record IsEnd (l : PassLines) (e : End) : Type 0 where
  pub start : 0 < e.at
  pub inside : e.at ≤ last_break (pass_of l)
  pub before : IsBeforeEnd l e.at e.before
  pub penalty : e.penalty ≡ penalty (pass_of l) e.at
  pub until : IsUntil l e.at e.until
  pub passes : 0 < e.until → MayPass l.threshold e.penalty

-- the states that are open at b
abbrev pub open_states : Pass → ℕ → List State → List State
open_states p b states = filter (λ x. is_open p x.at b) states

-- no line has more demerits than this, or fewer than minus this
abbrev pub HasSmallDemerits : Pass → Type 0
HasSmallDemerits p = (c : Class) (s b : ℕ) → IsWithin (2 ^ 33) (demerits p c s b)

-- the code has met the first k breaks
pub record Ready (p : Pass) (k : ℕ) (reached : List Reached) (active : List ℕ) : Type 0 where
  pub states : meaning reached ≡ states_to p k
  pub opened : map (λ i. slice_index_or (states_to p k) i start) active
      ≡ open_states p (suc k) (states_to p k)
  pub within : All (λ i. i < length reached) active
  pub before : All (λ r. r.at < suc k) reached
  pub chain : IsChain reached
  pub small : All (λ r. IsWithin (2 ^ 33 * k) r.sum) reached

-- how many pairs there are of a state and one of the first k breaks at which it is open
unfoldable pub pairs : Pass → ℕ → ℕ
pairs p zero = 0
pairs p (suc k) = pairs p k + length (open_states p (suc k) (states_to p k))

-- the walk of the state that the pass chooses, if it chooses one
abbrev pub walk_of : Option State → Option (List ℕ)
walk_of None = None
walk_of (Some x) = Some x.walk

abbrev pub chosen_walk : Pass → Option (List ℕ)
chosen_walk p = walk_of (chosen p)
