-- The environments of a job (The TeXbook, chapter 24). An environment is finite maps; each open group has one of its own, a
-- copy of the one around it when it was opened, and only a global setting reaches through all.
use Rattle.std.specs.Prelude.{ℕ, ℤ, pos, List, [], ◌∷◌, length, drop, Option, None, Result, Ok, Err, Bool, false, nat_le, if◌then◌else◌}
use Rattle.std.specs.Option.{unwrap_or, ok_or}
use Rattle.std.specs.FinMap as map
use Rattle.ts_base.specs.Agreement.{Cause, Determined, Free, ◌>>=◌}
use Rattle.ts_geometry.specs.declared.direction.Dir.TheVariants.{Yoko}
use Rattle.ts_geometry.specs.declared.glue.Glue.{Glue}
use Rattle.ts_geometry.specs.declared.measure.Sp.{Sp}
use Rattle.jis_codes.specs.Kuten.{Kuten}
use Rattle.jis_codes.specs.declared.Char.{Char}
use Rattle.tok_lists.specs.declared.token.Token.{Token}
use Rattle.tok_lists.specs.Codes.{Codes}
use Rattle.box_tree.specs.declared.item.FontNo.{FontNo}
use Rattle.box_tree.specs.Trees.{BoxTree}
use Rattle.layered_tables.specs.Environments.{opened, closed, set, in_those_from}
use Rattle.layered_tables.specs.Tables.{Table, value_at, member_at, put}
use Rattle.env_groups.specs.declared.fault.EnvFault.{EnvFault}
use Rattle.env_groups.specs.declared.fault.EnvFault.TheVariants.{RegisterRange, CodeRange, FontsFull, GroupsFull, GroupEnd, NoMemory}
use Rattle.env_groups.specs.declared.group.GroupKind.{GroupKind}
use Rattle.env_groups.specs.declared.font.FontSlot.{FontSlot}
use Rattle.env_groups.specs.declared.font.FontFacts.{FontFacts}
use Rattle.env_groups.specs.declared.situation.Situation.{Situation}
use Rattle.env_groups.specs.declared.situation.Mode.TheVariants.{Outer}
use Rattle.env_groups.specs.declared.key.IntKey.{IntKey}
use Rattle.env_groups.specs.declared.key.DimKey.{DimKey}
use Rattle.env_groups.specs.declared.key.GlueKey.{GlueKey}
use Rattle.env_groups.specs.declared.key.ToksKey.{ToksKey}
use Rattle.env_groups.specs.declared.code.Category.{Category}
use Rattle.env_groups.specs.declared.code.Kind.{Kind}
use Rattle.env_groups.specs.declared.code.CharPenalty.{CharPenalty}
use Rattle.env_groups.specs.declared.code.CharPenalty.TheVariants as penalties
use Rattle.env_groups.specs.declared.code.CodeKey.{CodeKey}
use Rattle.env_groups.specs.declared.code.CodeKey.TheVariants.{Cat, Kcat, Xsp, InhibitXsp, Pre, Post}
use Rattle.env_groups.specs.declared.meaning.Meaning.{Meaning}
use Rattle.env_groups.specs.Groups.{same_kind}
use Rattle.env_groups.specs.Fonts.{slot_place}
use Rattle.env_groups.specs.Places.{int_place, dim_place, glue_place, toks_place, box_place, int_start, dim_start, glue_start}
use Rattle.env_groups.specs.CharCodes.{category_of, category_number, start_category, kind_of, kind_number, start_kind, spacing_of, start_xsp, start_inhibit_xsp, penalty_of, pre_of, post_of, char_place, cell_place}
use Rattle.env_groups.specs.StartMeanings.{start_meaning}

-- Integers, dimensions, glue and lists of tokens, each by its place; boxes by registers; categories by bytes, kinds by rows,
-- where space comes and penalties by characters; meanings by the numbers of names; selected fonts by slots. What was never set
-- has its start value.
pub record Environment : Type 0 where
  pub ints : Table ℤ
  pub dims : Table Sp
  pub glues : Table Glue
  pub toks : Table (List Token)
  pub boxes : Table (Option BoxTree)
  pub cats : Table Category
  pub kinds : Table Kind
  pub spacings : Table ℕ
  pub penalties : Table CharPenalty
  pub meanings : Table Meaning
  pub selected : Table FontNo

-- in which nothing was set
abbrev pub blank : Environment
blank = record {
  ints = map.empty;
  dims = map.empty;
  glues = map.empty;
  toks = map.empty;
  boxes = map.empty;
  cats = map.empty;
  kinds = map.empty;
  spacings = map.empty;
  penalties = map.empty;
  meanings = map.empty;
  selected = map.empty;
}

-- the environments and the kinds of the open groups, both innermost first; beside them the fonts in the order in which they
-- were added, and the mode and direction of the innermost list
pub record Nest : Type 0 where
  pub environments : List Environment
  pub groups : List GroupKind
  pub fonts : List FontFacts
  pub situation : Situation

-- at the start
abbrev pub start : Nest
start = record { environments = blank ∷ []; groups = []; fonts = []; situation = record { mode = Outer; dir = Yoko } }

-- the innermost environment
abbrev pub present : Nest → Environment
present nest = elim nest.environments [ [] ↦ blank | e ∷ es ↦ e ]

-- ---- what is looked up

abbrev pub int_at : Nest → IntKey → Result ℤ EnvFault
int_at nest key = int_place key >>= λ place. Ok (unwrap_or (value_at (present nest).ints place) (int_start key))

abbrev pub dim_at : Nest → DimKey → Result Sp EnvFault
dim_at nest key = dim_place key >>= λ place. Ok (unwrap_or (value_at (present nest).dims place) (dim_start key))

abbrev pub glue_at : Nest → GlueKey → Result Glue EnvFault
glue_at nest key = glue_place key >>= λ place. Ok (unwrap_or (value_at (present nest).glues place) (glue_start key))

abbrev pub toks_at : Nest → ToksKey → Result (List Token) EnvFault
toks_at nest key = toks_place key >>= λ place. Ok (unwrap_or (value_at (present nest).toks place) [])

abbrev pub box_at : Nest → ℕ → Result (Option BoxTree) EnvFault
box_at nest n = box_place n >>= λ place. Ok (unwrap_or (value_at (present nest).boxes place) None)

abbrev pub category_at : Nest → ℕ → Category
category_at nest c = unwrap_or (value_at (present nest).cats c) (start_category c)

abbrev pub kind_at : Nest → Kuten → Kind
kind_at nest k = unwrap_or (value_at (present nest).kinds k.row) (start_kind k.row)

abbrev pub xsp_at : Nest → ℕ → ℕ
xsp_at nest c = unwrap_or (value_at (present nest).spacings c) (start_xsp c)

abbrev pub inhibit_xsp_at : Nest → Kuten → ℕ
inhibit_xsp_at nest k = unwrap_or (value_at (present nest).spacings (cell_place k)) start_inhibit_xsp

abbrev pub penalty_at : Nest → Char → Option CharPenalty
penalty_at nest c = value_at (present nest).penalties (char_place c)

abbrev pub code_at : Nest → CodeKey → ℤ
code_at nest (Cat c) = pos (category_number (category_at nest c))
code_at nest (Kcat k) = pos (kind_number (kind_at nest k))
code_at nest (Xsp c) = pos (xsp_at nest c)
code_at nest (InhibitXsp k) = pos (inhibit_xsp_at nest k)
code_at nest (Pre c) = pre_of (penalty_at nest c)
code_at nest (Post c) = post_of (penalty_at nest c)

-- the codes by which characters become tokens
abbrev pub codes_of : Nest → Codes
codes_of nest = record { cat = λ c. category_number (category_at nest c); kcat = λ k. kind_number (kind_at nest k) }

abbrev pub meaning_at : Nest → ℕ → Meaning
meaning_at nest name = unwrap_or (value_at (present nest).meanings name) (start_meaning name)

-- none where no font is selected
abbrev pub font_at : Nest → FontSlot → Option FontNo
font_at nest slot = value_at (present nest).selected (slot_place slot)

-- ---- what is set: in each environment where it is global, else in the innermost

abbrev pub setting : Bool → (ℕ → Environment → Environment) → Nest → Nest
setting is_global change nest = record nest { environments = set is_global change nest.environments }

abbrev pub int_set : Nest → IntKey → ℤ → Bool → Result Nest EnvFault
int_set nest key value is_global =
    int_place key >>= λ place. Ok (setting is_global (λ m e. record e { ints = put place value m e.ints }) nest)

abbrev pub dim_set : Nest → DimKey → Sp → Bool → Result Nest EnvFault
dim_set nest key value is_global =
    dim_place key >>= λ place. Ok (setting is_global (λ m e. record e { dims = put place value m e.dims }) nest)

abbrev pub glue_set : Nest → GlueKey → Glue → Bool → Result Nest EnvFault
glue_set nest key value is_global =
    glue_place key >>= λ place. Ok (setting is_global (λ m e. record e { glues = put place value m e.glues }) nest)

abbrev pub toks_set : Nest → ToksKey → List Token → Bool → Result Nest EnvFault
toks_set nest key value is_global =
    toks_place key >>= λ place. Ok (setting is_global (λ m e. record e { toks = put place value m e.toks }) nest)

abbrev pub box_set : Nest → ℕ → Option BoxTree → Bool → Result Nest EnvFault
box_set nest n value is_global =
    box_place n >>= λ place. Ok (setting is_global (λ m e. record e { boxes = put place value m e.boxes }) nest)

-- A present box is changed: in the environment in which it was set, and in all after it.
abbrev pub box_replaced : Nest → ℕ → Option BoxTree → Result Nest EnvFault
box_replaced nest n value =
    box_place n >>= λ place. let m = member_at (present nest).boxes place in
    Ok (record nest { environments = in_those_from m (λ e. record e { boxes = put place value m e.boxes }) nest.environments })

abbrev pub category_set : Nest → ℕ → ℤ → Bool → Result Nest EnvFault
category_set nest c value is_global =
    ok_or (category_of value) CodeRange >>= λ v. Ok (setting is_global (λ m e. record e { cats = put c v m e.cats }) nest)

-- a kind is that of the whole row
abbrev pub kind_set : Nest → Kuten → ℤ → Bool → Result Nest EnvFault
kind_set nest k value is_global =
    ok_or (kind_of value) CodeRange >>= λ v. Ok (setting is_global (λ m e. record e { kinds = put k.row v m e.kinds }) nest)

abbrev pub spacing_set : Nest → ℕ → ℤ → Bool → Result Nest EnvFault
spacing_set nest place value is_global =
    ok_or (spacing_of value) CodeRange >>= λ v. Ok (setting is_global (λ m e. record e { spacings = put place v m e.spacings }) nest)

-- Setting one of the two penalties of a character takes the other away.
abbrev pub penalty_set : Nest → Char → CharPenalty → Bool → Nest
penalty_set nest c penalty is_global = setting is_global (λ m e. record e { penalties = put (char_place c) penalty m e.penalties }) nest

abbrev pub code_set : Nest → CodeKey → ℤ → Bool → Result Nest EnvFault
code_set nest (Cat c) value is_global = category_set nest c value is_global
code_set nest (Kcat k) value is_global = kind_set nest k value is_global
code_set nest (Xsp c) value is_global = spacing_set nest c value is_global
code_set nest (InhibitXsp k) value is_global = spacing_set nest (cell_place k) value is_global
code_set nest (Pre c) value is_global = ok_or (penalty_of value) CodeRange >>= λ v. Ok (penalty_set nest c (penalties.Pre v) is_global)
code_set nest (Post c) value is_global = ok_or (penalty_of value) CodeRange >>= λ v. Ok (penalty_set nest c (penalties.Post v) is_global)

abbrev pub meaning_set : Nest → ℕ → Meaning → Bool → Nest
meaning_set nest name meaning is_global = setting is_global (λ m e. record e { meanings = put name meaning m e.meanings }) nest

abbrev pub font_set : Nest → FontSlot → FontNo → Bool → Nest
font_set nest slot font is_global = setting is_global (λ m e. record e { selected = put (slot_place slot) font m e.selected }) nest

-- ---- groups

abbrev pub most_groups : ℕ
most_groups = 1000

abbrev pub group_opened : Nest → GroupKind → Result Nest EnvFault
group_opened nest kind =
    if nat_le most_groups (length nest.groups) then Err GroupsFull
    else Ok (record nest { environments = opened nest.environments; groups = kind ∷ nest.groups })

abbrev pub is_innermost : GroupKind → List GroupKind → Bool
is_innermost kind [] = false
is_innermost kind (g ∷ gs) = same_kind kind g

abbrev pub group_closed : Nest → GroupKind → Result Nest EnvFault
group_closed nest kind =
    if is_innermost kind nest.groups then Ok (record nest { environments = closed nest.environments; groups = drop 1 nest.groups })
    else Err GroupEnd

-- ---- fonts

abbrev pub most_fonts : ℕ
most_fonts = 255

abbrev pub font_no : ℕ → FontNo
font_no n = record { 0 = n }

-- the number that the next font gets
abbrev pub next_font : Nest → Result FontNo EnvFault
next_font nest = if nat_le most_fonts (length nest.fonts) then Err FontsFull else Ok (font_no (length nest.fonts))

-- ---- faults

abbrev pub env_cause : EnvFault → Cause
env_cause RegisterRange = Determined
env_cause CodeRange = Determined
env_cause FontsFull = Determined
env_cause GroupsFull = Determined
env_cause GroupEnd = Determined
env_cause NoMemory = Free
