-- How the tables below are kept: by what has to be put back as groups close. No public clause cites this module.
use Rattle.std.specs.Prelude.{◌≡◌, ◌⊎◌, ◌<◌, ◌≤◌, ◌^◌, ℕ, zero, suc, ◌+◌, List, [], ◌∷◌, length, Option, Some, None, if◌then◌else◌, nat_eq, nat_lt}
use Rattle.std.specs.FinMap as map
use Rattle.layered_tables.specs.declared.kept.Kept.{Kept}
use Rattle.layered_tables.specs.declared.layers.Saved.{Saved}
use Rattle.layered_tables.specs.Tables.{Table, member_of, member_at}

module _ {X : Type 0} where
  -- a table with a cell as it is given, which may be one that was never set
  abbrev pub write : ℕ → Option (Kept X) → Table X → Table X
  write n None t = map.remove t n
  write n (Some kept) t = map.insert t n kept

  -- the table of cells, the first of which has this number
  abbrev pub table_from : ℕ → List (Option (Kept X)) → Table X
  table_from n [] = map.empty
  table_from n (cell ∷ cells) = write n cell (table_from (n + 1) cells)

  -- A cell that was saved is put back, unless it was set globally since.
  abbrev pub put_back : Saved X → Table X → Table X
  put_back saved t = if nat_eq (member_at t saved.place) 1 then t else write saved.place saved.old t

  -- the table of an environment: all is put back that was saved in those after it. The newest comes first.
  abbrev pub undone : ℕ → List (Saved X) → Table X → Table X
  undone member [] t = t
  undone member (saved ∷ older) t =
      if nat_lt member saved.member then undone member older (put_back saved t) else t

  -- the tables of the first environments, up to a number, the innermost of them first
  abbrev pub tables_to : ℕ → List (Saved X) → Table X → List (Table X)
  tables_to zero saves t = []
  tables_to (suc n) saves t = undone (suc n) saves t ∷ tables_to n saves t

  -- a cell as it is saved
  abbrev pub saved_at : ℕ → Table X → ℕ → Saved X
  saved_at place t member = record { place = place; old = map.get t place; member = member }

  -- the tables of all environments, by the cells, the saves and how many groups are open
  abbrev pub all_tables : List (Option (Kept X)) → List (Saved X) → ℕ → List (Table X)
  all_tables cells saves groups = table_from 0 cells ∷ tables_to groups saves (table_from 0 cells)

  -- in which environment a cell was saved last
  abbrev pub home : List (Saved X) → ℕ → ℕ
  home [] n = 1
  home (saved ∷ older) n = if nat_eq saved.place n then saved.member else home older n

  -- a cell was set globally, or else where it was saved last
  abbrev pub IsHome : List (Saved X) → ℕ → ℕ → Type 0
  IsHome saves n member = (member ≡ 1) ⊎ (member ≡ home saves n)

  -- each cell that was saved is one of the cells
  abbrev pub AreWithin : ℕ → List (Saved X) → Type 0
  AreWithin room [] = Unit {0}
  AreWithin room (saved ∷ older) = (saved.place < room) × AreWithin room older

  -- what is true of the saves in an environment
  abbrev pub AreSaves : ℕ → List (Saved X) → Type 0
  AreSaves member [] = Unit {0}
  AreSaves member (saved ∷ older) =
      (1 < saved.member) × (saved.member ≤ member) × IsHome older saved.place (member_of saved.old) × AreSaves saved.member older

  -- the newest save wasn't made after this environment
  abbrev pub ArePast : ℕ → List (Saved X) → Type 0
  ArePast member [] = Unit {0}
  ArePast member (saved ∷ older) = saved.member ≤ member

-- what is true of a table and its saves, in the environment of this number
pub record IsSound {X : Type 0} (cells : List (Option (Kept X))) (saves : List (Saved X)) (member : ℕ) : Type 0 where
  pub places : AreWithin (length cells) saves
  pub homes : (n : ℕ) → IsHome saves n (member_at (table_from 0 cells) n)
  pub saved : AreSaves member saves

abbrev pub IsSoundAt : {X : Type 0} → List (Option (Kept X)) → List (Saved X) → ℕ → Type 0
IsSoundAt cells saves groups = IsSound cells saves (groups + 1) × (groups < 2 ^ 31)
