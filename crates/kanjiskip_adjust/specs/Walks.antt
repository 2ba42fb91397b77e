-- The walk over the items of a metric list. It is for this crate's own functions alone.
use Prim.Native.Nat.{zero, suc}
use Rattle.std.specs.Prelude.{ℕ, ◌^◌, IfSome, true, false, if◌then◌else◌, List, [], ◌∷◌, ◌++◌, length, Option, Some, None, ℤ, ◌+ℤ◌}
use Rattle.ts_geometry.specs.declared.glue.Glue.{Glue}
use Rattle.ts_geometry.specs.Numbers.{IsWithin}
use Rattle.box_tree.specs.declared.item.GlueFrom.{GlueFrom}
use Rattle.box_tree.specs.declared.item.GlueFrom.TheVariants as glues
use Rattle.box_tree.specs.declared.item.KernFrom.{KernFrom}
use Rattle.box_tree.specs.declared.item.KernFrom.TheVariants as kerns
use Rattle.box_tree.specs.declared.item.Item.{Item}
use Rattle.box_tree.specs.declared.item.Item.TheVariants as items
use Rattle.kanjiskip_adjust.specs.EndCodes.{Codes}
use Rattle.kanjiskip_adjust.specs.Finished.{end_skip, no_glue, skip_items, is_text}
use Rattle.kanjiskip_adjust.specs.declared.look.End.TheVariants as ends
use Rattle.kanjiskip_adjust.specs.declared.look.Look.{Look}
use Rattle.kanjiskip_adjust.specs.declared.look.Look.TheVariants as looks
use Rattle.kanjiskip_adjust.specs.declared.skip.Skip.{Skip}
use Rattle.kanjiskip_adjust.specs.declared.skip.Skip.TheVariants as skips
use Rattle.kanjiskip_adjust.specs.declared.walk.Walk.{Walk}

-- ---- what items are

abbrev pub glue_look : GlueFrom → Look
glue_look glues.Given = looks.Blank
glue_look glues.Metric = looks.Space
glue_look glues.Skip = looks.Skip

abbrev pub kern_look : KernFrom → Look
kern_look kerns.Given = looks.Blank
kern_look kerns.Metric = looks.Space

abbrev pub look_of : Item → Look
look_of (items.Glyph font code size shift first last) = looks.Letter first last
look_of (items.Kanji font cell size kind) = looks.Kanji cell (is_text kind)
look_of (items.Box tree shift) = looks.Solid
look_of (items.Crossed tree shift seen) = looks.Solid
look_of (items.Rule wd ht dp) = looks.Solid
look_of (items.Glue glue from) = glue_look from
look_of (items.Kern width from) = kern_look from
look_of (items.Penalty value auto) = if auto then looks.Gap else looks.Penalty

-- ---- one item more

-- the skip that goes directly before an item
abbrev pub skip_before : Codes → Walk → Look → Option Glue
skip_before codes w (looks.Letter first last) =
    if w.is_spaced then None else end_skip codes w.left (Some (ends.European first))
skip_before codes w (looks.Kanji cell text) =
    if w.is_spaced then None else end_skip codes w.left (Some (ends.Japanese cell))
skip_before codes w looks.Gap = None
skip_before codes w looks.Space = None
skip_before codes w looks.Skip = None
skip_before codes w looks.Penalty = None
skip_before codes w looks.Blank = None
skip_before codes w looks.Solid = None

-- the glue of a skip
abbrev pub skip_glue : Codes → Option Skip → Option Glue
skip_glue codes None = None
skip_glue codes (Some skips.Japanese) = Some (if codes.auto then codes.kanjiskip else no_glue)
skip_glue codes (Some skips.Mixed) = Some codes.xkanjiskip

-- the walk after an item, of which `count` items stand up to it
abbrev pub walk_after : Walk → Look → ℕ → Walk
walk_after w (looks.Letter first last) count = record {
  left = Some (ends.European last);
  is_after_japanese = false;
  is_spaced = false;
  gap = count;
  widow = None;
}
walk_after w (looks.Kanji cell text) count = record {
  left = Some (ends.Japanese cell);
  is_after_japanese = true;
  is_spaced = false;
  gap = count;
  widow = if text then (if w.is_after_japanese then Some w.gap else None) else w.widow;
}
walk_after w looks.Gap count = w
walk_after w looks.Space count = record w { is_spaced = true }
walk_after w looks.Skip count = w
walk_after w looks.Penalty count = record w { is_spaced = false; gap = count }
walk_after w looks.Blank count =
    record w { left = None; is_after_japanese = false; is_spaced = false; gap = count }
walk_after w looks.Solid count =
    record { left = None; is_after_japanese = false; is_spaced = false; gap = count; widow = None }

-- ---- the whole walk

abbrev pub start : Walk
start = record { left = None; is_after_japanese = false; is_spaced = false; gap = 0; widow = None }

-- a penalty with one more; any other item with a new penalty before it
abbrev pub with_penalty : ℤ → Item → List Item → List Item
with_penalty w (items.Glyph font code size shift first last) xs =
    items.Penalty w true ∷ items.Glyph font code size shift first last ∷ xs
with_penalty w (items.Kanji font cell size kind) xs =
    items.Penalty w true ∷ items.Kanji font cell size kind ∷ xs
with_penalty w (items.Box tree shift) xs = items.Penalty w true ∷ items.Box tree shift ∷ xs
with_penalty w (items.Crossed tree shift seen) xs =
    items.Penalty w true ∷ items.Crossed tree shift seen ∷ xs
with_penalty w (items.Rule wd ht dp) xs = items.Penalty w true ∷ items.Rule wd ht dp ∷ xs
with_penalty w (items.Glue glue from) xs = items.Penalty w true ∷ items.Glue glue from ∷ xs
with_penalty w (items.Kern width from) xs = items.Penalty w true ∷ items.Kern width from ∷ xs
with_penalty w (items.Penalty z auto) xs =
    if auto then items.Penalty (z +ℤ w) true ∷ xs
    else items.Penalty w true ∷ items.Penalty z auto ∷ xs

-- a penalty more at a place: on the penalty of a gap that stands there, else a new one
abbrev pub added : ℤ → ℕ → List Item → List Item
added w zero [] = items.Penalty w true ∷ []
added w zero (x ∷ xs) = with_penalty w x xs
added w (suc n) [] = []
added w (suc n) (x ∷ xs) = x ∷ added w n xs

abbrev pub concluded : Option ℤ → Option ℕ → List Item → List Item
concluded None place xs = xs
concluded (Some w) None xs = xs
concluded (Some w) (Some n) xs = added w n xs

-- what is done, and what is left
abbrev pub walked : Codes → Option ℤ → Walk → List Item → List Item → List Item
walked codes widow w done [] = concluded widow w.widow done
walked codes widow w done (i ∷ rest) =
    let now = (done ++ skip_items (skip_before codes w (look_of i))) ++ i ∷ [] in
    walked codes widow (walk_after w (look_of i) (length now)) now rest

-- ---- words of the code

-- the value of the penalty of a gap
abbrev pub gap_value : Item → Option ℤ
gap_value (items.Glyph font code size shift first last) = None
gap_value (items.Kanji font cell size kind) = None
gap_value (items.Box tree shift) = None
gap_value (items.Crossed tree shift seen) = None
gap_value (items.Rule wd ht dp) = None
gap_value (items.Glue glue from) = None
gap_value (items.Kern width from) = None
gap_value (items.Penalty value auto) = if auto then Some value else None

-- A penalty of a gap has room for another one beside it in a word of 64 bits.
abbrev pub IsSmall : Item → Type 0
IsSmall i = IfSome (gap_value i) (IsWithin (2 ^ 40))
