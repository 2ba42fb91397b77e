-- What a list with numbered nodes stands for: its items in order, the numbers of their nodes, and how many insertions can't
-- fail.
use Prim.Native.Nat.{zero, suc}
use Rattle.std.specs.Prelude.{◌≡◌, ◌≢◌, ℕ, ℤ, List, [], ◌∷◌, ◌++◌, length, nat_lt, slice_get, Some, Result, Ok, Err, IfSome, if◌then◌else◌}
use Rattle.ts_base.specs.Agreement.{Cause, Determined, Free}
use Rattle.box_tree.specs.declared.item.Item.{Item}
use Rattle.box_tree.specs.declared.item.Item.TheVariants as items
use Rattle.node_links.specs.declared.node.NodeNo.{NodeNo}
use Rattle.node_links.specs.declared.fault.ListFault.{ListFault}
use Rattle.node_links.specs.declared.fault.ListFault.TheVariants as faults

pub record Linked : Type 0 where
  pub items : List Item
  pub numbers : List NodeNo
  pub spare : ℕ

-- how many items a list may have before one more is appended
abbrev pub most_items : ℕ
most_items = 200000

-- the items with one more at the end
abbrev pub appended : List Item → Item → Result (List Item) ListFault
appended list item = if nat_lt (length list) most_items then Ok (list ++ item ∷ []) else Err faults.ListFull

abbrev pub list_cause : ListFault → Cause
list_cause faults.ListFull = Determined
list_cause faults.NoMemory = Free

-- The node of this number is at this place of the list.
abbrev pub IsAt : Linked → ℕ → NodeNo → Type 0
IsAt list place number = slice_get list.numbers place ≡ Some number

-- A node of the list has this number.
abbrev pub IsNode : Linked → NodeNo → Type 0
IsNode list number = (place : ℕ) × IsAt list place number

abbrev pub IsNoneOf : NodeNo → List NodeNo → Type 0
IsNoneOf n [] = Unit {0}
IsNoneOf n (m ∷ numbers) = (n.0 ≢ m.0) × IsNoneOf n numbers

-- No number stands twice.
abbrev pub AreApart : List NodeNo → Type 0
AreApart [] = Unit {0}
AreApart (n ∷ numbers) = IsNoneOf n numbers × AreApart numbers

abbrev pub IsPenalty : Item → Type 0
IsPenalty (items.Glyph font code size shift first last) = ⊥
IsPenalty (items.Kanji font cell size kind) = ⊥
IsPenalty (items.Box tree shift) = ⊥
IsPenalty (items.Crossed tree shift seen) = ⊥
IsPenalty (items.Rule wd ht dp) = ⊥
IsPenalty (items.Glue glue from) = ⊥
IsPenalty (items.Kern width from) = ⊥
IsPenalty (items.Penalty value auto) = Unit {0}

-- The node of this number holds a penalty.
abbrev pub IsPenaltyAt : Linked → NodeNo → Type 0
IsPenaltyAt list number = (place : ℕ) × (IsAt list place number × IfSome (slice_get list.items place) IsPenalty)

-- a penalty with another value; any other item as it is
abbrev pub valued : ℤ → Item → Item
valued value (items.Glyph font code size shift first last) = items.Glyph font code size shift first last
valued value (items.Kanji font cell size kind) = items.Kanji font cell size kind
valued value (items.Box tree shift) = items.Box tree shift
valued value (items.Crossed tree shift seen) = items.Crossed tree shift seen
valued value (items.Rule wd ht dp) = items.Rule wd ht dp
valued value (items.Glue glue from) = items.Glue glue from
valued value (items.Kern width from) = items.Kern width from
valued value (items.Penalty old auto) = items.Penalty value auto

-- the items, with another value of the penalty at a place
abbrev pub with_value : ℤ → List Item → ℕ → List Item
with_value value [] place = []
with_value value (item ∷ list) zero = valued value item ∷ list
with_value value (item ∷ list) (suc place) = item ∷ with_value value list place
