-- An ended paragraph is sound, and little longer.
use Rattle.std.proofs.Common.{ℕ, zero, suc, ◌-◌, ◌≤◌, true, false, cond, List, [], ◌∷◌, length, take, arith, length-append}
use Rattle.std.proofs.lemmas.List.{length-take}
use Rattle.ts_geometry.specs.declared.direction.Dir.{Dir}
use Rattle.box_tree.specs.declared.item.Item.{Item}
use Rattle.box_tree.specs.Nodes.{tree_items}
use Rattle.box_tree.specs.Sound.{AreSound}
use Rattle.box_tree.proofs.Lists.{joined_are_sound}
use Rattle.line_break.specs.Laws.{EndedIsSound, EndIsShort}
use Rattle.line_break.specs.Paragraphs.{end_with, ends_with_glue, without_last_glue}

front_sound : (dir : Dir) (n : ℕ) (xs : List Item) → AreSound dir (tree_items xs) → AreSound dir (tree_items (take n xs))
front_sound dir zero xs s = tt
front_sound dir (suc n) [] s = tt
front_sound dir (suc n) (x ∷ xs) s = (s.0, front_sound dir n xs s.1)

without_sound : (dir : Dir) (xs : List Item) → AreSound dir (tree_items xs) → AreSound dir (tree_items (without_last_glue xs))
without_sound dir xs s = elim (ends_with_glue xs) as (λ t. AreSound dir (tree_items (cond t (take (length xs - 1) xs) xs))) [ true ↦ front_sound dir (length xs - 1) xs s | false ↦ s ]

pub ended_is_sound : EndedIsSound
ended_is_sound dir items fill s g =
    (joined_are_sound dir (without_last_glue items) (end_with fill)).1 (without_sound dir items s, (tt, (g, (tt, tt))))

without_short : (xs : List Item) → length (without_last_glue xs) ≤ length xs
without_short xs = elim (ends_with_glue xs) as (λ t. length (cond t (take (length xs - 1) xs) xs) ≤ length xs) [ true ↦ let h = length-take (length xs - 1) xs in omega (arith, h) | false ↦ omega arith ]

pub end_is_short : EndIsShort
end_is_short items fill = let h = without_short items in let e = length-append (without_last_glue items) (end_with fill) in omega (arith, h, e)
