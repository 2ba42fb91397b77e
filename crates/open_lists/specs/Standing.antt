-- The lists for which what is kept stands. It has no entries: these are given for each list above the main one, the innermost first.
use Rattle.std.specs.Prelude.{◌≡◌, ◌≤◌, List, [], ◌∷◌, length, map, Option, Some, None, Result, Ok, Err}
use Rattle.ts_base.specs.Agreement.{Cause, AgreesFault}
use Rattle.ts_geometry.specs.declared.direction.Dir.{Dir}
use Rattle.env_groups.specs.declared.situation.Situation.{Situation}
use Rattle.env_groups.specs.declared.situation.Mode.{Mode}
use Rattle.env_groups.specs.declared.situation.Mode.TheVariants as modes
use Rattle.jlist_builder.specs.declared.builder.HBuilder.{HBuilder}
use Rattle.jlist_builder.specs.Entries.{Entry}
use Rattle.jlist_builder.specs.Stands.{StandsFor}
use Rattle.open_lists.specs.declared.contents.KeptContents.{KeptContents}
use Rattle.open_lists.specs.declared.contents.KeptContents.TheVariants as kept
use Rattle.jlist_builder.specs.Sound.{AreSoundEntries}
use Rattle.open_lists.specs.Lists.{Contents, Restricted, OpenList, OpenLists, IsSoundPlan, rest}
use Rattle.open_lists.specs.Kept.{KeptList, Kept}

-- ---- one list

abbrev pub contents_of : KeptContents → List Entry → Contents
contents_of (kept.Restricted plan builder) entries = Restricted plan entries

abbrev pub list_of : KeptList → List Entry → OpenList
list_of k entries = record { dir = k.dir; contents = contents_of k.contents entries }

-- It stands for what has these entries.
abbrev pub IsListOf : KeptContents → List Entry → Type 0
IsListOf (kept.Restricted plan builder) entries = StandsFor builder entries

-- the entries of a list
abbrev pub entries_of : Contents → List Entry
entries_of (Restricted plan entries) = entries

-- There are entries for which a builder stands, and of which a list of this direction can be packed.
pub record IsBuilt (dir : Dir) (builder : HBuilder) : Type 0 where
  pub entries : List Entry
  pub stands : StandsFor builder entries
  pub sound : AreSoundEntries dir entries

-- ---- all lists

abbrev pub first : List (List Entry) → List Entry
first [] = []
first (e ∷ es) = e

abbrev pub inner_of : List KeptList → List (List Entry) → List OpenList
inner_of [] entries = []
inner_of (k ∷ ks) entries = list_of k (first entries) ∷ inner_of ks (rest entries)

-- the lists for which what is kept stands with these entries
abbrev pub lists_of : Kept → List (List Entry) → OpenLists
lists_of k entries = record { main = k.main; inner = inner_of k.inner entries }

abbrev pub AreListsOf : List KeptList → List (List Entry) → Type 0
AreListsOf [] entries = Unit {0}
AreListsOf (k ∷ ks) entries = IsListOf k.contents (first entries) × AreListsOf ks (rest entries)

-- It stands for lists with these entries.
abbrev pub StandFor : Kept → List (List Entry) → Type 0
StandFor k entries = AreListsOf k.inner entries

-- ---- calls

abbrev pub entries_in_all : List OpenList → List (List Entry)
entries_in_all lists = map (λ l. entries_of l.contents) lists

-- the entries of lists that are given
abbrev pub entries_in : {E : Type 0} → Result OpenLists E → List (List Entry)
entries_in (Ok lists) = entries_in_all lists.inner
entries_in (Err e) = []

-- What is kept then stands for the lists that are given; or these are refused so.
abbrev pub Becomes : {X E : Type 0} → (E → Cause) → Kept → Result X E → Result OpenLists E → Type 0
Becomes cause k (Ok x) given = (given ≡ Ok (lists_of k (entries_in given))) × StandFor k (entries_in given)
Becomes cause k (Err e) given = AgreesFault (cause e) e given

-- What is kept stands for these lists.
pub record IsNow (k : Kept) (lists : OpenLists) : Type 0 where
  pub are : lists ≡ lists_of k (entries_in_all lists.inner)
  pub stands : StandFor k (entries_in_all lists.inner)

-- the same of one list
abbrev pub entries_given : {E : Type 0} → Result OpenList E → List Entry
entries_given (Ok l) = entries_of l.contents
entries_given (Err e) = []

abbrev pub ListBecomes : {X E : Type 0} → (E → Cause) → KeptList → Result X E → Result OpenList E → Type 0
ListBecomes cause k (Ok x) given = (given ≡ Ok (list_of k (entries_given given))) × IsListOf k.contents (entries_given given)
ListBecomes cause k (Err e) given = AgreesFault (cause e) e given

-- ---- the innermost list

-- It is that of an \hbox.
abbrev pub IsRestricted : KeptContents → Type 0
IsRestricted (kept.Restricted plan builder) = Unit {0}

abbrev pub IsInHbox : List KeptList → Type 0
IsInHbox [] = ⊥
IsInHbox (k ∷ ks) = IsRestricted k.contents

-- without it
abbrev pub kept_around : Kept → Kept
kept_around k = record { main = k.main; inner = rest k.inner }

-- the mode and the direction of the innermost list
abbrev pub kept_mode : KeptContents → Mode
kept_mode (kept.Restricted plan builder) = modes.Restricted

abbrev pub situation_by : Dir → List KeptList → Situation
situation_by main [] = record { mode = modes.Outer; dir = main }
situation_by main (k ∷ ks) = record { mode = kept_mode k.contents; dir = k.dir }

abbrev pub kept_situation : Kept → Situation
kept_situation k = situation_by k.main k.inner

-- ---- what is kept, in code

abbrev pub IsKept : Dir → KeptContents → Type 0
IsKept dir (kept.Restricted plan builder) = IsSoundPlan plan × IsBuilt dir builder

-- the innermost list, where there is one, and those around it
abbrev pub with_innermost : Option KeptList → List KeptList → List KeptList
with_innermost None lists = lists
with_innermost (Some k) lists = k ∷ lists

-- Lists are around an innermost one alone, and they are few.
pub record IsTopped (innermost : Option KeptList) (lists : List KeptList) : Type 0 where
  pub none : innermost ≡ None → lists ≡ []
  pub few : length lists ≤ 198
