-- The lists that are open, and what each call makes of them (The TeXbook, chapters 13 and 24; TeX: The Program, sections 211 to
-- 219 and 1073 to 1086).
use Rattle.std.specs.Prelude.{ℕ, suc, List, [], ◌∷◌, length, Option, Some, None, Result, Ok, Err, nat_le, Bool, false, if◌then◌else◌}
use Rattle.ts_base.specs.Agreement.{Cause, Determined, Free, ◌>>=◌}
use Rattle.ts_geometry.specs.declared.direction.Dir.{Dir}
use Rattle.ts_geometry.specs.declared.direction.Dir.TheVariants.{Yoko}
use Rattle.box_tree.specs.Bounds.{IsDimen}
use Rattle.box_tree.specs.Nodes.{tree_items}
use Rattle.box_tree.specs.Trees.{TreeItems}
use Rattle.env_groups.specs.declared.situation.Situation.{Situation}
use Rattle.env_groups.specs.declared.situation.Mode.{Mode}
use Rattle.env_groups.specs.declared.situation.Mode.TheVariants as modes
use Rattle.node_links.specs.declared.fault.ListFault.{ListFault}
use Rattle.node_links.specs.declared.fault.ListFault.TheVariants.{ListFull}
use Rattle.packaging.specs.declared.fault.PackFault.{PackFault}
use Rattle.packaging.specs.declared.fault.PackFault.TheVariants.{NoMemory}
use Rattle.packaging.specs.Packing.{hpacked, IsSoundSize}
use Rattle.jlist_builder.specs.Entries.{Entry}
use Rattle.jlist_builder.specs.Stands.{is_full}
use Rattle.kanjiskip_adjust.specs.EndCodes.{Codes}
use Rattle.kanjiskip_adjust.specs.Finished.{finished_list}
use Rattle.open_lists.specs.declared.plan.BoxContext.{BoxContext}
use Rattle.open_lists.specs.declared.plan.BoxContext.TheVariants as contexts
use Rattle.open_lists.specs.declared.plan.BoxPlan.{BoxPlan}
use Rattle.open_lists.specs.declared.plan.EndedBox.{EndedBox}
use Rattle.open_lists.specs.declared.fault.OpenFault.{OpenFault}
use Rattle.open_lists.specs.declared.fault.OpenFault.TheVariants as faults

-- ---- open lists

-- What a list that isn't the main one has; lists of other modes get constructors of their own.
pub data Contents : Type 0 where
  -- that of an \hbox: what becomes of its box, and its entries, the newest first
  Restricted : BoxPlan → List Entry → Contents

pub record OpenList : Type 0 where
  pub dir : Dir
  pub contents : Contents

-- the direction of the main vertical list, of which nothing else is kept so far, and the lists above it, the innermost first
pub record OpenLists : Type 0 where
  pub main : Dir
  pub inner : List OpenList

-- at the start
abbrev pub start : OpenLists
start = record { main = Yoko; inner = [] }

-- ---- the mode and the direction of the innermost list

abbrev pub mode_of : Contents → Mode
mode_of (Restricted plan entries) = modes.Restricted

abbrev pub situation_over : Dir → List OpenList → Situation
situation_over main [] = record { mode = modes.Outer; dir = main }
situation_over main (l ∷ ls) = record { mode = mode_of l.contents; dir = l.dir }

abbrev pub situation_of : OpenLists → Situation
situation_of lists = situation_over lists.main lists.inner

-- ---- a list begins

-- how many lists may be open, the main one counted
abbrev pub most_lists : ℕ
most_lists = 200

abbrev pub is_deep : OpenLists → Bool
is_deep lists = nat_le most_lists (suc (length lists.inner))

-- the list of an \hbox is the innermost one
abbrev pub with_hbox : BoxPlan → OpenLists → OpenLists
with_hbox plan lists = record {
  main = lists.main;
  inner = record { dir = (situation_of lists).dir; contents = Restricted plan [] } ∷ lists.inner;
}

abbrev pub hbox_begun : BoxPlan → OpenLists → Result OpenLists OpenFault
hbox_begun plan lists = if is_deep lists then Err faults.DepthFull else Ok (with_hbox plan lists)

abbrev pub open_cause : OpenFault → Cause
open_cause faults.DepthFull = Determined
open_cause faults.NoMemory = Free

-- A shift is a dimension.
abbrev pub IsSoundContext : BoxContext → Type 0
IsSoundContext (contexts.Append shift) = IsDimen shift
IsSoundContext (contexts.Register number global) = Unit {0}
IsSoundContext contexts.ShipOut = Unit {0}

pub record IsSoundPlan (plan : BoxPlan) : Type 0 where
  pub size : IsSoundSize plan.size
  pub context : IsSoundContext plan.context

-- ---- what comes into the innermost list

-- a further entry, or the list would have too many items
abbrev pub with_entry : Entry → List Entry → Result (List Entry) ListFault
with_entry x entries = if is_full (x ∷ entries) then Err ListFull else Ok (x ∷ entries)

-- what is no entry changes nothing
abbrev pub with_entry_if : Option Entry → List Entry → Result (List Entry) ListFault
with_entry_if None entries = Ok entries
with_entry_if (Some x) entries = with_entry x entries

abbrev pub put_into : Option Entry → Contents → Result Contents ListFault
put_into x (Restricted plan entries) = with_entry_if x entries >>= λ more. Ok (Restricted plan more)

-- what may be an entry by the direction of the list
abbrev pub put_in_list : (Dir → Option Entry) → OpenList → Result OpenList ListFault
put_in_list entry l = put_into (entry l.dir) l.contents >>= λ contents. Ok (record { dir = l.dir; contents = contents })

abbrev pub put_in_first : (Dir → Option Entry) → List OpenList → Result (List OpenList) ListFault
put_in_first entry [] = Ok []
put_in_first entry (l ∷ ls) = put_in_list entry l >>= λ more. Ok (more ∷ ls)

abbrev pub put : (Dir → Option Entry) → OpenLists → Result OpenLists ListFault
put entry lists = put_in_first entry lists.inner >>= λ inner. Ok (record { main = lists.main; inner = inner })

-- a cut or an inhibit, for which there always is room
abbrev pub mark_in : Entry → Contents → Contents
mark_in x (Restricted plan entries) = Restricted plan (x ∷ entries)

abbrev pub marked_list : Entry → OpenList → OpenList
marked_list x l = record { dir = l.dir; contents = mark_in x l.contents }

abbrev pub mark_first : Entry → List OpenList → List OpenList
mark_first x [] = []
mark_first x (l ∷ ls) = marked_list x l ∷ ls

abbrev pub marked : Entry → OpenLists → OpenLists
marked x lists = record { main = lists.main; inner = mark_first x lists.inner }

-- ---- an \hbox ends

-- the box that items become in a direction, and what is done with it
abbrev pub box_of_items : TreeItems → Dir → BoxPlan → Result EndedBox PackFault
box_of_items items dir plan = hpacked items dir plan.size >>= λ node. Ok (record { node = node; context = plan.context })

-- that of a list, with the codes at its end
abbrev pub box_of : Codes → Dir → Contents → Result EndedBox PackFault
box_of codes dir (Restricted plan entries) = box_of_items (tree_items (finished_list codes false entries)) dir plan

-- that of the first list; of none where there is none, of which nothing is asked
abbrev pub box_of_first : Codes → List OpenList → Result EndedBox PackFault
box_of_first codes [] = Err NoMemory
box_of_first codes (l ∷ ls) = box_of codes l.dir l.contents

-- the box of the innermost list, when its \hbox ends
abbrev pub hbox_ended : Codes → OpenLists → Result EndedBox PackFault
hbox_ended codes lists = box_of_first codes lists.inner

abbrev pub rest : {X : Type 0} → List X → List X
rest [] = []
rest (x ∷ xs) = xs

-- the lists around the innermost one
abbrev pub around : OpenLists → OpenLists
around lists = record { main = lists.main; inner = rest lists.inner }
