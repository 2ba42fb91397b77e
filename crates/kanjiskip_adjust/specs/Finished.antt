-- The finished list: the metric list with the spaces between characters and the widow penalty.
use Rattle.std.specs.Prelude.{ℕ, ◌==◌, Bool, true, false, not, ◌&&◌, ◌||◌, if◌then◌else◌, List, [], ◌∷◌, ◌++◌, Option, Some, None, ℤ, pos, ◌+ℤ◌}
use Rattle.std.specs.Ordering.{int_eq}
use Rattle.ts_geometry.specs.declared.glue.Glue.{Glue}
use Rattle.ts_geometry.specs.declared.glue.Order.TheVariants.{Normal}
use Rattle.ts_geometry.specs.Directions.{sp}
use Rattle.jis_codes.specs.Kuten.{Kuten}
use Rattle.box_tree.specs.declared.item.GlueFrom.TheVariants as glues
use Rattle.box_tree.specs.declared.item.Item.{Item}
use Rattle.box_tree.specs.declared.item.Item.TheVariants as items
use Rattle.jlist_builder.specs.declared.character.Side.{Side}
use Rattle.jlist_builder.specs.declared.space.Space.{Space}
use Rattle.jlist_builder.specs.declared.space.Space.TheVariants as spaces
use Rattle.jlist_builder.specs.Entries.{Entry}
use Rattle.jlist_builder.specs.Pieces.{Piece, Kanji, Glyph, Thing, CutHere, InhibitHere, joined}
use Rattle.jlist_builder.specs.Spaces.{space_items}
use Rattle.jlist_builder.specs.Gaps.{neighbour, gap_penalty, penalty_items, space_before_kanji, space_before_word, own}
use Rattle.kanjiskip_adjust.specs.EndCodes.{Codes}
use Rattle.kanjiskip_adjust.specs.declared.look.End.{End}
use Rattle.kanjiskip_adjust.specs.declared.look.End.TheVariants as ends

-- ---- what faces each other over a gap

-- what an other item shows on its left
abbrev pub front_of : Item → Option End
front_of (items.Glyph font code size shift first last) = None
front_of (items.Kanji font cell size kind) = None
front_of (items.Box tree shift) = None
front_of (items.Crossed tree shift seen) = None
front_of (items.Rule wd ht dp) = None
front_of (items.Glue glue from) = None
front_of (items.Kern width from) = None
front_of (items.Penalty value auto) = None

-- what an other item shows on its right, where what stands on its left shows `left`
abbrev pub end_over : Item → Option End → Option End
end_over (items.Glyph font code size shift first last) left = None
end_over (items.Kanji font cell size kind) left = None
end_over (items.Box tree shift) left = None
end_over (items.Crossed tree shift seen) left = None
end_over (items.Rule wd ht dp) left = None
end_over (items.Glue glue from) left = None
end_over (items.Kern width from) left = None
end_over (items.Penalty value auto) left = left

-- the end that faces what comes next, over cuts, inhibits and penalties
abbrev pub facing : List Piece → Option End
facing [] = None
facing (Kanji k ∷ past) = Some (ends.Japanese k.cell)
facing (Glyph w ∷ past) = Some (ends.European w.letter.last)
facing (Thing i ∷ past) = end_over i (facing past)
facing (CutHere ∷ past) = facing past
facing (InhibitHere ∷ past) = facing past

-- ---- the space between two ends

-- Do the codes allow a space before a letter that follows a Japanese character? A letter's code
-- allows 1 the gap before it, 2 the gap after it, 3 both; a Japanese character's forbids 1 the gap
-- before it, 2 the gap after it, 0 both.
abbrev pub allows_before : Codes → ℕ → Kuten → Bool
allows_before codes code cell =
    codes.autox && (codes.xsp code == 1 || codes.xsp code == 3)
    && (codes.inhibit_xsp cell == 1 || codes.inhibit_xsp cell == 3)

-- Do they allow one after a letter that a Japanese character follows?
abbrev pub allows_after : Codes → ℕ → Kuten → Bool
allows_after codes code cell =
    codes.autox && (codes.xsp code == 2 || codes.xsp code == 3)
    && (codes.inhibit_xsp cell == 2 || codes.inhibit_xsp cell == 3)

abbrev pub no_glue : Glue
no_glue = record {
  width = sp (pos 0);
  stretch = sp (pos 0);
  stretch_order = Normal;
  shrink = sp (pos 0);
  shrink_order = Normal;
}

-- the skip between two ends
abbrev pub end_skip : Codes → Option End → Option End → Option Glue
end_skip codes left None = None
end_skip codes None (Some right) = None
end_skip codes (Some (ends.Japanese a)) (Some (ends.Japanese b)) =
    Some (if codes.auto then codes.kanjiskip else no_glue)
end_skip codes (Some (ends.Japanese a)) (Some (ends.European b)) =
    if allows_before codes b a then Some codes.xkanjiskip else None
end_skip codes (Some (ends.European a)) (Some (ends.Japanese b)) =
    if allows_after codes a b then Some codes.xkanjiskip else None
end_skip codes (Some (ends.European a)) (Some (ends.European b)) = None

abbrev pub skip_items : Option Glue → List Item
skip_items None = []
skip_items (Some glue) = items.Glue glue glues.Skip ∷ []

-- the space of a gap: the metric space, and a skip only where there is none
abbrev pub space_or : Space → Option Glue → List Item
space_or spaces.Nothing skip = skip_items skip
space_or (spaces.Glue glue) skip = space_items (spaces.Glue glue)
space_or (spaces.Kern width) skip = space_items (spaces.Kern width)

-- ---- the widow penalty

-- the penalty of a gap with the widow penalty, which is put even where the sum is 0
abbrev pub with_widow : Option ℤ → Option ℤ → Option ℤ
with_widow None penalty = penalty
with_widow (Some w) None = Some w
with_widow (Some w) (Some z) = Some (z +ℤ w)

-- kanji and kana
abbrev pub is_text : ℕ → Bool
is_text kind = kind == 16 || kind == 17

-- What may follow the character that has the widow penalty before it: no European character, box or
-- rule, and no kanji or kana, since this would be the last one itself.
abbrev pub may_follow_item : Item → Bool
may_follow_item (items.Glyph font code size shift first last) = false
may_follow_item (items.Kanji font cell size kind) = false
may_follow_item (items.Box tree shift) = false
may_follow_item (items.Crossed tree shift seen) = false
may_follow_item (items.Rule wd ht dp) = false
may_follow_item (items.Glue glue from) = true
may_follow_item (items.Kern width from) = true
may_follow_item (items.Penalty value auto) = true

abbrev pub may_follow : Piece → Bool
may_follow (Kanji k) = not (is_text k.kind)
may_follow (Glyph w) = false
may_follow (Thing i) = may_follow_item i
may_follow CutHere = true
may_follow InhibitHere = true

abbrev pub is_japanese : Option Side → Bool
is_japanese None = false
is_japanese (Some a) = a.is_japanese

-- the widow penalty before a piece after which only what may follow stands
abbrev pub widow_at : Option ℤ → List Piece → Piece → Option ℤ
widow_at widow past (Kanji k) =
    if is_text k.kind && is_japanese (neighbour past) then widow else None
widow_at widow past (Glyph w) = None
widow_at widow past (Thing i) = None
widow_at widow past CutHere = None
widow_at widow past InhibitHere = None

abbrev pub widow_of : Codes → Bool → Option ℤ
widow_of codes para = if para && not (int_eq codes.widow (pos 0)) then Some codes.widow else None

-- ---- the list

-- what stands directly before a piece, with a widow penalty in its gap
abbrev pub finally_before : Codes → Option ℤ → List Piece → Piece → List Item
finally_before codes widow past (Kanji k) =
    penalty_items (with_widow widow (gap_penalty (neighbour past) true k.kinsoku.pre))
    ++ space_or (space_before_kanji past k)
    (end_skip codes (facing past) (Some (ends.Japanese k.cell)))
finally_before codes widow past (Glyph w) =
    penalty_items (gap_penalty (neighbour past) false w.letter.kinsoku.pre)
    ++ space_or (space_before_word past w)
    (end_skip codes (facing past) (Some (ends.European w.letter.first)))
finally_before codes widow past (Thing i) = skip_items (end_skip codes (facing past) (front_of i))
finally_before codes widow past CutHere = []
finally_before codes widow past InhibitHere = []

-- Each piece with what stands before it. `widow` is there as long as only what may follow stands
-- after.
abbrev pub finished : Codes → Option ℤ → List Piece → List Item
finished codes widow [] = []
finished codes widow (x ∷ past) =
    finished codes (if may_follow x then widow else None) past
    ++ finally_before codes (widow_at widow past x) past x ++ own x

-- the finished list of the entries, in a paragraph or not, with the codes at the list's end
abbrev pub finished_list : Codes → Bool → List Entry → List Item
finished_list codes para e = finished codes (widow_of codes para) (joined e)
