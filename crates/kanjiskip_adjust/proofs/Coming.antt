-- The items of a finished list come from its entries, where those of the metric list do.
use Rattle.std.proofs.Common.{◌≡◌, ◌⊎◌, inl, inr, Bool, true, false, ℤ, List, [], ◌∷◌, ◌++◌, Option, Some, None, All, if◌then◌else◌}
use Rattle.std.proofs.lemmas.List.Elements.{All-nil, All-cons, All-head, All-tail, All-append}
use Rattle.ts_geometry.specs.declared.glue.Glue.{Glue}
use Rattle.box_tree.specs.declared.item.GlueFrom.TheVariants as glues
use Rattle.box_tree.specs.declared.item.KernFrom.TheVariants as kerns
use Rattle.box_tree.specs.declared.item.Item.{Item}
use Rattle.box_tree.specs.declared.item.Item.TheVariants as items
use Rattle.jlist_builder.specs.declared.space.Space.{Space}
use Rattle.jlist_builder.specs.declared.space.Space.TheVariants as spaces
use Rattle.jlist_builder.specs.Entries.{Entry}
use Rattle.jlist_builder.specs.Pieces.{Piece, Kanji, Glyph, Thing, CutHere, InhibitHere, joined}
use Rattle.jlist_builder.specs.Spaces.{space_items}
use Rattle.jlist_builder.specs.Gaps.{neighbour, gap_penalty, penalty_items, space_before_kanji, space_before_word, before, own, spaced}
use Rattle.jlist_builder.specs.Glyphs.{ComesFrom, GlyphsComeFromEntries}
use Rattle.kanjiskip_adjust.specs.EndCodes.{Codes}
use Rattle.kanjiskip_adjust.specs.declared.look.End.TheVariants as ends
use Rattle.kanjiskip_adjust.specs.Finished.{front_of, facing, end_skip, skip_items, space_or, with_widow, may_follow, widow_at, widow_of, finally_before, finished}
use Rattle.kanjiskip_adjust.specs.Laws.{FinishedGlyphsComeFromEntries}

both_parts : {A : Type 0} (P : A → Type 0) (xs ys : List A) → All P (xs ++ ys) → All P xs × All P ys
both_parts P [] ys s = (All-nil P, s)
both_parts P (x ∷ xs) ys s =
    let rest = both_parts P xs ys (All-tail P x (xs ++ ys) s) in (All-cons P x xs (All-head P x (xs ++ ys) s) rest.0, rest.1)

module _ (e : List Entry) where
  abbrev AllCome : List Item → Type 0
  AllCome xs = All (ComesFrom e) xs

  one_comes : (i : Item) → ComesFrom e i → AllCome (i ∷ [])
  one_comes i h = All-cons (ComesFrom e) i [] h (All-nil (ComesFrom e))

  penalty_items_come : (o : Option ℤ) → AllCome (penalty_items o)
  penalty_items_come None = All-nil (ComesFrom e)
  penalty_items_come (Some value) = one_comes (items.Penalty value true) (inr tt)

  skip_items_come : (o : Option Glue) → AllCome (skip_items o)
  skip_items_come None = All-nil (ComesFrom e)
  skip_items_come (Some g) = one_comes (items.Glue g glues.Skip) (inr tt)

  space_or_comes : (s : Space) (o : Option Glue) → AllCome (space_or s o)
  space_or_comes spaces.Nothing o = skip_items_come o
  space_or_comes (spaces.Glue g) o = one_comes (items.Glue g glues.Metric) (inr tt)
  space_or_comes (spaces.Kern w) o = one_comes (items.Kern w kerns.Metric) (inr tt)

  gap_comes : (penalty : Option ℤ) (s : Space) (o : Option Glue) → AllCome (penalty_items penalty ++ space_or s o)
  gap_comes penalty s o = All-append (ComesFrom e) (penalty_items penalty) (space_or s o) (penalty_items_come penalty) (space_or_comes s o)

  finally_before_comes : (codes : Codes) (widow : Option ℤ) (past : List Piece) (x : Piece) → AllCome (finally_before codes widow past x)
  finally_before_comes codes widow past (Kanji k) =
      gap_comes (with_widow widow (gap_penalty (neighbour past) true k.kinsoku.pre)) (space_before_kanji past k)
      (end_skip codes (facing past) (Some (ends.Japanese k.cell)))
  finally_before_comes codes widow past (Glyph w) =
      gap_comes (gap_penalty (neighbour past) false w.letter.kinsoku.pre) (space_before_word past w)
      (end_skip codes (facing past) (Some (ends.European w.letter.first)))
  finally_before_comes codes widow past (Thing i) = skip_items_come (end_skip codes (facing past) (front_of i))
  finally_before_comes codes widow past CutHere = All-nil (ComesFrom e)
  finally_before_comes codes widow past InhibitHere = All-nil (ComesFrom e)

  pieces_come : (codes : Codes) (widow : Option ℤ) (p : List Piece) → AllCome (spaced p) → AllCome (finished codes widow p)
  pieces_come codes widow [] s = All-nil (ComesFrom e)
  pieces_come codes widow (x ∷ past) s =
      let whole = both_parts (ComesFrom e) (spaced past ++ before past x) (own x) s in
      let front = both_parts (ComesFrom e) (spaced past) (before past x) whole.0 in
      let rest = if may_follow x then widow else None in
      All-append (ComesFrom e) (finished codes rest past ++ finally_before codes (widow_at widow past x) past x) (own x)
      (All-append (ComesFrom e) (finished codes rest past) (finally_before codes (widow_at widow past x) past x)
      (pieces_come codes rest past front.0) (finally_before_comes codes (widow_at widow past x) past x))
      whole.1

pub finished_come : GlyphsComeFromEntries → FinishedGlyphsComeFromEntries
finished_come given codes para e = pieces_come e codes (widow_of codes para) (joined e) (given e)
