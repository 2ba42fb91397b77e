-- The end of a paragraph, the passes over it and the breaks that they give, and its lines (The
-- TeXbook, chapter 14; TeX: The Program, sections 816 and 863).
use Rattle.std.specs.Global.{Global}
use Rattle.std.specs.Prelude.{Vec, ℕ, ◌+◌, Bool, true, false, not, ◌&&◌, ◌||◌, List, [], ◌∷◌, ◌++◌, ◌-◌, length, take, drop, Option, Some, None, if◌then◌else◌, ℤ, pos, negsuc, int_lt, int_le, Result, Ok, Err}
use Rattle.std.proofs.Common.{reverse}
use Rattle.std.specs.Ordering.{int_eq}
use Rattle.ts_base.specs.Agreement.{Cause, Determined, Free}
use Rattle.ts_geometry.specs.declared.glue.Glue.{Glue as Glues}
use Rattle.ts_geometry.specs.declared.glue.Order.TheVariants.{Normal}
use Rattle.box_tree.specs.declared.item.Item.{Item}
use Rattle.box_tree.specs.declared.item.Item.TheVariants.{Glyph, Kanji, Box, Crossed, Rule, Glue, Kern, Penalty}
use Rattle.box_tree.specs.Offsets.{same_order}
use Rattle.line_break.specs.declared.fault.ParaFault.{ParaFault}
use Rattle.line_break.specs.declared.fault.ParaFault.TheVariants.{InfiniteShrink, NoMemory}
use Rattle.line_break.specs.declared.shape.BreakAt.{BreakAt}
use Rattle.line_break.specs.declared.shape.ParaShape.{ParaShape}
use Rattle.line_break.specs.Best.{State, chosen, last_break}
use Rattle.line_break.specs.Lines.{Pass, place_of, kept_to, with_skips, skip, begins_with_glue}
use Rattle.line_break.specs.Ready.{pairs}

-- ---- the end of a paragraph

abbrev pub ends_with_glue : List Item → Bool
ends_with_glue items = begins_with_glue (drop (length items - 1) items)

-- without the last item where it is glue
abbrev pub without_last_glue : List Item → List Item
without_last_glue items = if ends_with_glue items then take (length items - 1) items else items

-- a penalty of 10000, the last glue, and a penalty of -10000
abbrev pub end_with : Glues → List Item
end_with fill = Penalty (pos 10000) false ∷ skip fill ∷ Penalty (negsuc 9999) false ∷ []

abbrev pub ended : List Item → Glues → List Item
ended items fill = without_last_glue items ++ end_with fill

-- ---- a forced end

abbrev pub is_forced_end : Item → Bool
is_forced_end (Glyph font code size shift first last) = false
is_forced_end (Kanji font cell size kind) = false
is_forced_end (Box b shift) = false
is_forced_end (Crossed b shift seen) = false
is_forced_end (Rule wd ht dp) = false
is_forced_end (Glue g from) = false
is_forced_end (Kern width from) = false
is_forced_end (Penalty value auto) = int_eq value (negsuc 9999)

abbrev pub begins_forced : List Item → Bool
begins_forced [] = false
begins_forced (x ∷ rest) = is_forced_end x

-- the last item is a penalty of -10000
abbrev pub ends_forced : List Item → Bool
ends_forced items = begins_forced (drop (length items - 1) items)

-- ---- infinite shrink

abbrev pub shrinks_without_end : Glues → Bool
shrinks_without_end g = not (same_order g.shrink_order Normal) && not (int_eq g.shrink.0 (pos 0))

abbrev pub item_shrinks_without_end : Item → Bool
item_shrinks_without_end (Glyph font code size shift first last) = false
item_shrinks_without_end (Kanji font cell size kind) = false
item_shrinks_without_end (Box b shift) = false
item_shrinks_without_end (Crossed b shift seen) = false
item_shrinks_without_end (Rule wd ht dp) = false
item_shrinks_without_end (Glue g from) = shrinks_without_end g
item_shrinks_without_end (Kern width from) = false
item_shrinks_without_end (Penalty value auto) = false

abbrev pub any_shrinks : List Item → Bool
any_shrinks [] = false
any_shrinks (x ∷ rest) = item_shrinks_without_end x || any_shrinks rest

abbrev pub has_infinite_shrink : List Item → ParaShape → Bool
has_infinite_shrink items shape = any_shrinks items
    || (shrinks_without_end shape.left || shrinks_without_end shape.right)

-- ---- passes

abbrev pub items_of : Option (Vec BreakAt Global) → Option (List BreakAt)
items_of None = None
items_of (Some v) = Some v.items

abbrev pub capped : ℤ → ℤ
capped tolerance = if int_lt tolerance (pos 10000) then tolerance else pos 10000

-- A pass with `\pretolerance`, where that isn't negative; one with `\tolerance`; and, where
-- `\emergencystretch` is above 0, a last one with that added to the stretch of each line.
abbrev pub made_pass : List Item → ParaShape → ℤ → ℤ → Bool → Pass
made_pass items shape threshold extra is_last = record {
  items = items;
  shape = shape;
  threshold = threshold;
  extra = extra;
  is_last = is_last;
}

abbrev pub first_pass : List Item → ParaShape → Pass
first_pass items shape = record {
  items = items;
  shape = shape;
  threshold = capped shape.pretolerance;
  extra = pos 0;
  is_last = false;
}

abbrev pub second_pass : List Item → ParaShape → Pass
second_pass items shape = record {
  items = items;
  shape = shape;
  threshold = capped shape.tolerance;
  extra = pos 0;
  is_last = not (int_lt (pos 0) shape.emergency.0);
}

abbrev pub third_pass : List Item → ParaShape → Pass
third_pass items shape = record {
  items = items;
  shape = shape;
  threshold = capped shape.tolerance;
  extra = shape.emergency.0;
  is_last = true;
}

abbrev pub emergency_passes : List Item → ParaShape → List Pass
emergency_passes items shape =
    if int_lt (pos 0) shape.emergency.0 then third_pass items shape ∷ [] else []

abbrev pub later_passes : List Item → ParaShape → List Pass
later_passes items shape = second_pass items shape ∷ emergency_passes items shape

abbrev pub passes : List Item → ParaShape → List Pass
passes items shape =
    if int_le (pos 0) shape.pretolerance then first_pass items shape ∷ later_passes items shape
    else later_passes items shape

-- the places at which the lines of a walk to b end, the last one first
abbrev pub ends_before : Pass → ℕ → List ℕ → List BreakAt
ends_before p b [] = []
ends_before p b (s ∷ earlier) = record { 0 = place_of p b } ∷ ends_before p s earlier

abbrev pub ends_of : Pass → State → List BreakAt
ends_of p x = reverse (ends_before p x.at x.walk)

abbrev pub ends_option : Pass → Option State → Option (List BreakAt)
ends_option p None = None
ends_option p (Some x) = Some (ends_of p x)

-- those of the state that the pass chooses, if it chooses one
abbrev pub chosen_ends : Pass → Option (List BreakAt)
chosen_ends p = ends_option p (chosen p)

abbrev pub or_ends : Option (List BreakAt) → List BreakAt → List BreakAt
or_ends None later = later
or_ends (Some ends) later = ends

-- those of the first pass that reaches the last break
abbrev pub deciding_ends : List Pass → List BreakAt
deciding_ends [] = []
deciding_ends (p ∷ ps) = or_ends (chosen_ends p) (deciding_ends ps)

-- a list that shrinks without end is refused before any line is weighed
abbrev pub broken : List Item → ParaShape → Result (List BreakAt) ParaFault
broken items shape = if has_infinite_shrink items shape then Err InfiniteShrink
    else Ok (deciding_ends (passes items shape))

abbrev pub para_cause : ParaFault → Cause
para_cause InfiniteShrink = Determined
para_cause NoMemory = Free

-- ---- how many lines are weighed

abbrev pub or_later : Option (List BreakAt) → ℕ → ℕ
or_later None later = later
or_later (Some ends) later = 0

-- the pairs of an open state and a break, over the passes that are made
abbrev pub pairs_over : List Pass → ℕ
pairs_over [] = 0
pairs_over (p ∷ ps) = pairs p (last_break p) + or_later (chosen_ends p) (pairs_over ps)

abbrev pub pairs_made : List Item → ParaShape → ℕ
pairs_made items shape = if has_infinite_shrink items shape then 0
    else pairs_over (passes items shape)

-- ---- the lines

-- the lines that end at these places, after a break at one, or from the start
abbrev pub lines_from : List Item → ParaShape → Option ℕ → List BreakAt → List (List Item)
lines_from items shape from [] = []
lines_from items shape from (b ∷ bs) = with_skips shape (kept_to items from b.0)
    ∷ lines_from items shape (Some b.0) bs

abbrev pub lines_at : List Item → ParaShape → List BreakAt → List (List Item)
lines_at items shape ends = lines_from items shape None ends
