-- What comes into a horizontal list. A list of entries has the newest first, so what stands
-- after an entry in such a list is all that came before it.
use Rattle.std.specs.Prelude.{◌≡◌, ℕ, Bool, true, false, List, [], ◌∷◌, FitsSigned}
use Rattle.std.specs.Int.{w32}
use Rattle.ts_geometry.specs.declared.measure.Sp.{Sp}
use Rattle.jis_codes.specs.Kuten.{Kuten}
use Rattle.box_tree.specs.declared.item.FontNo.{FontNo}
use Rattle.box_tree.specs.declared.item.GlueFrom.{GlueFrom}
use Rattle.box_tree.specs.declared.item.GlueFrom.TheVariants as glues
use Rattle.box_tree.specs.declared.item.KernFrom.{KernFrom}
use Rattle.box_tree.specs.declared.item.KernFrom.TheVariants as kerns
use Rattle.box_tree.specs.declared.item.Item.{Item}
use Rattle.box_tree.specs.declared.item.Item.TheVariants as items
use Rattle.tfm_load.specs.Metrics as tfm
use Rattle.jfm_load.specs.Metrics as jfm
use Rattle.jlist_builder.specs.declared.character.Kinsoku.{Kinsoku}

-- a Japanese character: its font with the metric, the number and the size in scaled points, its
-- cell, its kind from 16 to 18, and the penalties before and after it
pub record JapaneseCharacter : Type 0 where
  pub metric : jfm.Metric
  pub font : FontNo
  pub z : ℕ
  pub cell : Kuten
  pub kind : ℕ
  pub kinsoku : Kinsoku

-- a European character: its font as above, its code, by how much it is moved across, and its
-- penalties
pub record EuropeanCharacter : Type 0 where
  pub metric : tfm.Metric
  pub font : FontNo
  pub z : ℕ
  pub code : ℕ
  pub shift : Sp
  pub kinsoku : Kinsoku

pub data Entry : Type 0 where
  Japanese : JapaneseCharacter → Entry
  European : EuropeanCharacter → Entry
  Other : Item → Entry
  Cut : Entry
  Inhibit : Entry

-- ---- what entries may be

abbrev pub IsGivenGlue : GlueFrom → Type 0
IsGivenGlue glues.Given = Unit {0}
IsGivenGlue glues.Metric = ⊥
IsGivenGlue glues.Skip = ⊥

abbrev pub IsGivenKern : KernFrom → Type 0
IsGivenKern kerns.Given = Unit {0}
IsGivenKern kerns.Metric = ⊥

-- An other item is no character, no penalty that came with one, and neither glue nor a kern of a
-- metric or of the space between characters.
abbrev pub IsOther : Item → Type 0
IsOther (items.Glyph font code size shift first last) = ⊥
IsOther (items.Kanji font cell size kind) = ⊥
IsOther (items.Box tree shift) = Unit {0}
IsOther (items.Crossed tree shift seen) = Unit {0}
IsOther (items.Rule wd ht dp) = Unit {0}
IsOther (items.Glue glue from) = IsGivenGlue from
IsOther (items.Kern width from) = IsGivenKern from
IsOther (items.Penalty value auto) = auto ≡ false

-- Penalties of characters are machine words of 32 bits.
abbrev pub AreWords : Kinsoku → Type 0
AreWords k = FitsSigned w32 k.pre × FitsSigned w32 k.post

abbrev pub IsEntry : Entry → Type 0
IsEntry (Japanese k) = AreWords k.kinsoku
IsEntry (European a) = AreWords a.kinsoku
IsEntry (Other i) = IsOther i
IsEntry Cut = Unit {0}
IsEntry Inhibit = Unit {0}

abbrev pub AreEntries : List Entry → Type 0
AreEntries [] = Unit {0}
AreEntries (x ∷ past) = IsEntry x × AreEntries past

-- Is there neither a character nor an other item?
abbrev pub is_bare : List Entry → Bool
is_bare [] = true
is_bare (Japanese k ∷ past) = false
is_bare (European a ∷ past) = false
is_bare (Other i ∷ past) = false
is_bare (Cut ∷ past) = is_bare past
is_bare (Inhibit ∷ past) = is_bare past

-- ---- the entries of calls

abbrev pub japanese : jfm.Metric → FontNo → ℕ → Kuten → ℕ → Kinsoku → JapaneseCharacter
japanese metric font z cell kind kinsoku =
    record { metric = metric; font = font; z = z; cell = cell; kind = kind; kinsoku = kinsoku }

abbrev pub european : tfm.Metric → FontNo → ℕ → ℕ → Sp → Kinsoku → EuropeanCharacter
european metric font z code shift kinsoku =
    record { metric = metric; font = font; z = z; code = code; shift = shift; kinsoku = kinsoku }
