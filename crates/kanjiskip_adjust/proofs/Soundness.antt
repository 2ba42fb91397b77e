-- The finished list is sound where the metric list and the skips are.
use Rattle.std.proofs.Common.{Bool, true, false, List, [], ◌∷◌, ◌++◌, Option, Some, None, ℤ, pos, arith, if◌then◌else◌}
use Rattle.std.specs.Prelude.{IfSome}
use Rattle.std.proofs.lemmas.Int.{ints}
use Rattle.ts_geometry.specs.declared.direction.Dir.{Dir}
use Rattle.ts_geometry.specs.declared.glue.Glue.{Glue}
use Rattle.box_tree.specs.Laws.{JoinedAreSound}
use Rattle.box_tree.specs.Nodes.{tree_items}
use Rattle.box_tree.specs.Sound.{AreSound, IsSoundGlue}
use Rattle.jlist_builder.specs.declared.space.Space.{Space}
use Rattle.jlist_builder.specs.declared.space.Space.TheVariants as spaces
use Rattle.jlist_builder.specs.Pieces.{Piece, Kanji, Glyph, Thing, CutHere, InhibitHere, joined}
use Rattle.jlist_builder.specs.Spaces.{space_items}
use Rattle.jlist_builder.specs.Gaps.{neighbour, gap_penalty, penalty_items, space_before_kanji, space_before_word, before, own, spaced}
use Rattle.kanjiskip_adjust.specs.EndCodes.{Codes}
use Rattle.kanjiskip_adjust.specs.declared.look.End.{End}
use Rattle.kanjiskip_adjust.specs.declared.look.End.TheVariants as ends
use Rattle.kanjiskip_adjust.specs.Finished.{front_of, facing, allows_before, allows_after, no_glue, end_skip, skip_items, space_or, with_widow, may_follow, widow_at, widow_of, finally_before, finished}
use Rattle.kanjiskip_adjust.specs.Laws.{AreSoundSkips, FinishedIsAsSound}

no_glue_sound : IsSoundGlue no_glue
no_glue_sound = record {
  width = (omega (arith, ints), omega (arith, ints));
  stretch = (omega (arith, ints), omega (arith, ints));
  shrink = (omega (arith, ints), omega (arith, ints));
}

either_sound : (b : Bool) (g h : Glue) → IsSoundGlue g → IsSoundGlue h → IsSoundGlue (if b then g else h)
either_sound true g h s t = s
either_sound false g h s t = t

where_allowed : (b : Bool) (g : Glue) → IsSoundGlue g → IfSome (if b then Some g else None) IsSoundGlue
where_allowed true g s = s
where_allowed false g s = tt

end_skip_sound : (codes : Codes) (left right : Option End) → AreSoundSkips codes → IfSome (end_skip codes left right) IsSoundGlue
end_skip_sound codes left None s = tt
end_skip_sound codes None (Some right) s = tt
end_skip_sound codes (Some (ends.Japanese a)) (Some (ends.Japanese b)) s = either_sound codes.auto codes.kanjiskip no_glue s.kanjiskip no_glue_sound
end_skip_sound codes (Some (ends.Japanese a)) (Some (ends.European b)) s = where_allowed (allows_before codes b a) codes.xkanjiskip s.xkanjiskip
end_skip_sound codes (Some (ends.European a)) (Some (ends.Japanese b)) s = where_allowed (allows_after codes a b) codes.xkanjiskip s.xkanjiskip
end_skip_sound codes (Some (ends.European a)) (Some (ends.European b)) s = tt

skip_items_sound : (dir : Dir) (o : Option Glue) → IfSome o IsSoundGlue → AreSound dir (tree_items (skip_items o))
skip_items_sound dir None s = tt
skip_items_sound dir (Some g) s = (s, tt)

space_or_sound : (dir : Dir) (space : Space) (o : Option Glue) → AreSound dir (tree_items (space_items space)) → IfSome o IsSoundGlue
    → AreSound dir (tree_items (space_or space o))
space_or_sound dir spaces.Nothing o s h = skip_items_sound dir o h
space_or_sound dir (spaces.Glue g) o s h = s
space_or_sound dir (spaces.Kern w) o s h = s

penalty_items_sound : (dir : Dir) (o : Option ℤ) → AreSound dir (tree_items (penalty_items o))
penalty_items_sound dir None = tt
penalty_items_sound dir (Some value) = (tt, tt)

module _ (joins : JoinedAreSound) (dir : Dir) (codes : Codes) (skips : AreSoundSkips codes) where
  finally_before_sound : (widow : Option ℤ) (past : List Piece) (x : Piece) → AreSound dir (tree_items (before past x))
      → AreSound dir (tree_items (finally_before codes widow past x))
  finally_before_sound widow past (Kanji k) s =
      let parts = (joins dir (penalty_items (gap_penalty (neighbour past) true k.kinsoku.pre)) (space_items (space_before_kanji past k))).0 s in
      let skip = end_skip codes (facing past) (Some (ends.Japanese k.cell)) in
      (joins dir (penalty_items (with_widow widow (gap_penalty (neighbour past) true k.kinsoku.pre))) (space_or (space_before_kanji past k) skip)).1 (
        penalty_items_sound dir (with_widow widow (gap_penalty (neighbour past) true k.kinsoku.pre)),
        space_or_sound dir (space_before_kanji past k) skip parts.1 (end_skip_sound codes (facing past) (Some (ends.Japanese k.cell)) skips),
      )
  finally_before_sound widow past (Glyph w) s =
      let parts = (joins dir (penalty_items (gap_penalty (neighbour past) false w.letter.kinsoku.pre)) (space_items (space_before_word past w))).0 s in
      let skip = end_skip codes (facing past) (Some (ends.European w.letter.first)) in
      (joins dir (penalty_items (gap_penalty (neighbour past) false w.letter.kinsoku.pre)) (space_or (space_before_word past w) skip)).1
      (parts.0, space_or_sound dir (space_before_word past w) skip parts.1 (end_skip_sound codes (facing past) (Some (ends.European w.letter.first)) skips))
  finally_before_sound widow past (Thing i) s =
      skip_items_sound dir (end_skip codes (facing past) (front_of i)) (end_skip_sound codes (facing past) (front_of i) skips)
  finally_before_sound widow past CutHere s = tt
  finally_before_sound widow past InhibitHere s = tt

  pieces_sound : (widow : Option ℤ) (p : List Piece) → AreSound dir (tree_items (spaced p)) → AreSound dir (tree_items (finished codes widow p))
  pieces_sound widow [] s = tt
  pieces_sound widow (x ∷ past) s =
      let whole = (joins dir (spaced past ++ before past x) (own x)).0 s in
      let front = (joins dir (spaced past) (before past x)).0 whole.0 in
      let rest = if may_follow x then widow else None in
      (joins dir (finished codes rest past ++ finally_before codes (widow_at widow past x) past x) (own x)).1 (
        (joins dir (finished codes rest past) (finally_before codes (widow_at widow past x) past x)).1
            (pieces_sound rest past front.0, finally_before_sound (widow_at widow past x) past x front.1),
        whole.1,
      )

pub finished_sound : JoinedAreSound → FinishedIsAsSound
finished_sound joins dir codes para e skips s = pieces_sound joins dir codes skips (widow_of codes para) (joined e) s
