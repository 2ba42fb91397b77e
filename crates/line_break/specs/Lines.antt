-- The lines of a paragraph: its legal breaks, the items of the line between two of them, its
-- badness, class and demerits (The TeXbook, chapter 14; TeX: The Program, sections 108, 851 to
-- 853 and 859). Break 0 is the start. The legal breaks are numbered from 1, in the order of their
-- places.
use Rattle.std.specs.Prelude.{ℕ, zero, suc, ◌+◌, Bool, true, false, not, ◌&&◌, ◌||◌, List, [], ◌∷◌, ◌++◌, length, take, drop, slice_index_or, Option, Some, None, if◌then◌else◌, nat_lt, ℤ, pos, ◌+ℤ◌, ◌-ℤ◌, ◌*ℤ◌, neg_ℤ, int_lt, int_le, unsigned_abs}
use Rattle.std.specs.List.{filter, range_with_len, slice_range}
use Rattle.std.specs.Ordering.{int_eq}
use Rattle.ts_geometry.specs.declared.glue.Glue.{Glue as Glues}
use Rattle.ts_geometry.specs.declared.glue.Order.{Order}
use Rattle.ts_geometry.specs.declared.glue.Order.TheVariants.{Normal, Fil, Fill, Filll}
use Rattle.ts_geometry.specs.Directions.{sp}
use Rattle.ts_geometry.specs.Numbers.{badness}
use Rattle.box_tree.specs.declared.item.GlueFrom.TheVariants.{Given as Command}
use Rattle.box_tree.specs.declared.item.Item.{Item}
use Rattle.box_tree.specs.declared.item.Item.TheVariants.{Glyph, Kanji, Box, Crossed, Rule, Glue, Kern, Penalty}
use Rattle.box_tree.specs.declared.item.KernFrom.{KernFrom}
use Rattle.box_tree.specs.declared.item.KernFrom.TheVariants.{Given, Metric}
use Rattle.box_tree.specs.declared.node.BoxKind.TheVariants.{Horizontal}
use Rattle.box_tree.specs.declared.node.SetGlue.TheVariants.{Stretch, Shrink}
use Rattle.box_tree.specs.Nodes.{tree_items}
use Rattle.box_tree.specs.Offsets.{extents, parts}
use Rattle.box_tree.specs.Trees.{TreeItems}
use Rattle.line_break.specs.declared.shape.ParaShape.{ParaShape}
use Rattle.line_break.specs.declared.totals.Totals.{Totals}
use Rattle.line_break.specs.declared.weight.Class.{Class}
use Rattle.line_break.specs.declared.weight.Class.TheVariants.{VeryLoose, Loose, Decent, Tight}
use Rattle.line_break.specs.declared.weight.Weight.{Weight}

-- one pass over a paragraph
pub record Pass : Type 0 where
  pub items : List Item
  pub shape : ParaShape
  -- the greatest badness of a line
  pub threshold : ℤ
  -- what is added to the stretch of each line
  pub extra : ℤ
  -- whether this pass takes a line that doesn't fit where nothing else is left
  pub is_last : Bool

-- ---- legal breaks

-- neither glue nor a kern nor a penalty
abbrev pub is_solid : Item → Bool
is_solid (Glyph font code size shift first last) = true
is_solid (Kanji font cell size kind) = true
is_solid (Box b shift) = true
is_solid (Crossed b shift seen) = true
is_solid (Rule wd ht dp) = true
is_solid (Glue g from) = false
is_solid (Kern width from) = false
is_solid (Penalty value auto) = false

abbrev pub is_glue : Item → Bool
is_glue (Glyph font code size shift first last) = false
is_glue (Kanji font cell size kind) = false
is_glue (Box b shift) = false
is_glue (Crossed b shift seen) = false
is_glue (Rule wd ht dp) = false
is_glue (Glue g from) = true
is_glue (Kern width from) = false
is_glue (Penalty value auto) = false

abbrev pub begins_solid : List Item → Bool
begins_solid [] = false
begins_solid (x ∷ rest) = is_solid x

abbrev pub begins_with_glue : List Item → Bool
begins_with_glue [] = false
begins_with_glue (x ∷ rest) = is_glue x

abbrev pub is_given : KernFrom → Bool
is_given Given = true
is_given Metric = false

-- whether a line may end at an item: glue after a solid item, a kern of a command before glue, or
-- a penalty below 10000
abbrev pub can_end_at : Bool → Bool → Item → Bool
can_end_at after_solid before_glue (Glyph font code size shift first last) = false
can_end_at after_solid before_glue (Kanji font cell size kind) = false
can_end_at after_solid before_glue (Box b shift) = false
can_end_at after_solid before_glue (Crossed b shift seen) = false
can_end_at after_solid before_glue (Rule wd ht dp) = false
can_end_at after_solid before_glue (Glue g from) = after_solid
can_end_at after_solid before_glue (Kern width from) = is_given from && before_glue
can_end_at after_solid before_glue (Penalty value auto) = int_lt value (pos 10000)

abbrev pub can_end_before : Bool → List Item → Bool
can_end_before after_solid [] = false
can_end_before after_solid (x ∷ rest) = can_end_at after_solid (begins_with_glue rest) x

abbrev pub is_after_solid : List Item → ℕ → Bool
is_after_solid items zero = false
is_after_solid items (suc place) = begins_solid (drop place items)

unfoldable pub is_legal : List Item → ℕ → Bool
is_legal items place = can_end_before (is_after_solid items place) (drop place items)

-- the places of the legal breaks
abbrev pub legal_breaks : List Item → List ℕ
legal_breaks items = filter (is_legal items) (range_with_len 0 (length items))

-- the place of a break; that of the start is 0
abbrev pub place_in : List Item → ℕ → ℕ
place_in items b = slice_index_or (0 ∷ legal_breaks items) b 0

abbrev pub place_of : Pass → ℕ → ℕ
place_of p b = place_in p.items b

-- ---- lines

-- glue, penalties and kerns of a command are dropped after a break
abbrev pub is_dropped : Item → Bool
is_dropped (Glyph font code size shift first last) = false
is_dropped (Kanji font cell size kind) = false
is_dropped (Box b shift) = false
is_dropped (Crossed b shift seen) = false
is_dropped (Rule wd ht dp) = false
is_dropped (Glue g from) = true
is_dropped (Kern width from) = is_given from
is_dropped (Penalty value auto) = true

abbrev pub without_dropped : List Item → List Item
without_dropped [] = []
without_dropped (x ∷ rest) = if is_dropped x then without_dropped rest else (x ∷ rest)

-- what is kept between a break at one place and the break at another; the item at which a line
-- ends is in no line
abbrev pub kept_between : List Item → ℕ → ℕ → List Item
kept_between items from to = without_dropped (slice_range items from to)

-- what is kept up to the break at a place, after the break at another, or from the start, where
-- nothing is dropped
abbrev pub kept_to : List Item → Option ℕ → ℕ → List Item
kept_to items None to = take to items
kept_to items (Some from) to = kept_between items from to

abbrev pub skip : Glues → Item
skip g = Glue g Command

-- a line with its left and its right skip
abbrev pub with_skips : ParaShape → List Item → List Item
with_skips shape kept = skip shape.left ∷ kept ++ skip shape.right ∷ []

-- the place of a break; the start has none
abbrev pub place_after_start : List Item → ℕ → Option ℕ
place_after_start items zero = None
place_after_start items (suc s) = Some (place_in items (suc s))

-- the items of the line from break s to break b
unfoldable pub line : Pass → ℕ → ℕ → List Item
line p s b = with_skips p.shape (kept_to p.items (place_after_start p.items s) (place_of p b))

-- ---- how a line fits

abbrev pub stretch_of : TreeItems → Order → ℤ
stretch_of xs order = parts (Stretch order (sp (pos 0)) (sp (pos 0))) xs

-- the width of a line, its stretch of each order, and its finite shrink
abbrev pub totals_of : TreeItems → Totals
totals_of xs = record {
  width = sp (extents Horizontal xs);
  stretch = sp (stretch_of xs Normal);
  fil = sp (stretch_of xs Fil);
  fill = sp (stretch_of xs Fill);
  filll = sp (stretch_of xs Filll);
  shrink = sp (parts (Shrink Normal (sp (pos 0)) (sp (pos 0))) xs);
}

abbrev pub totals : List Item → Totals
totals items = totals_of (tree_items items)

abbrev pub with_extra : ℤ → Totals → Totals
with_extra extra t = record t { stretch = sp (t.stretch.0 +ℤ extra) }

abbrev pub stretches_without_end : Totals → Bool
stretches_without_end t = not (int_eq t.fil.0 (pos 0))
    || (not (int_eq t.fill.0 (pos 0)) || not (int_eq t.filll.0 (pos 0)))

-- a line that stretches with this badness
abbrev pub stretched : ℕ → Weight
stretched b = record {
  overfull = false;
  badness = b;
  class = if nat_lt 99 b then VeryLoose else (if nat_lt 12 b then Loose else Decent);
}

-- a line that shrinks with this badness
abbrev pub shrunk : ℕ → Weight
shrunk b = record { overfull = false; badness = b; class = if nat_lt 12 b then Tight else Decent }

-- a line that is short by this much
abbrev pub weight_short : ℤ → Totals → Weight
weight_short short t = if stretches_without_end t then stretched 0
    else stretched (badness (unsigned_abs short) t.stretch.0)

-- a line that is too long by this much, or by nothing
abbrev pub weight_long : ℤ → ℤ → Weight
weight_long excess shrink =
    if int_lt shrink excess then record { overfull = true; badness = 10000; class = Tight }
    else shrunk (badness (unsigned_abs excess) shrink)

-- a line of these totals at this width
abbrev pub weight_at : ℤ → Totals → Weight
weight_at hsize t = if int_lt t.width.0 hsize then weight_short (hsize -ℤ t.width.0) t
    else weight_long (t.width.0 -ℤ hsize) t.shrink.0

-- how the line from s to b fits
unfoldable pub weight : Pass → ℕ → ℕ → Weight
weight p s b = weight_at p.shape.hsize.0 (with_extra p.extra (totals (line p s b)))

-- ---- demerits

-- the penalty of an item; other items have none
abbrev pub penalty_at : Item → ℤ
penalty_at (Glyph font code size shift first last) = pos 0
penalty_at (Kanji font cell size kind) = pos 0
penalty_at (Box b shift) = pos 0
penalty_at (Crossed b shift seen) = pos 0
penalty_at (Rule wd ht dp) = pos 0
penalty_at (Glue g from) = pos 0
penalty_at (Kern width from) = pos 0
penalty_at (Penalty value auto) = value

abbrev pub penalty_of : List Item → ℤ
penalty_of [] = pos 0
penalty_of (x ∷ rest) = penalty_at x

unfoldable pub penalty : Pass → ℕ → ℤ
penalty p b = penalty_of (drop (place_of p b) p.items)

abbrev pub is_forced : Pass → ℕ → Bool
is_forced p b = int_le (penalty p b) (neg_ℤ (pos 10000))

-- a start closes at the first break where its line is overfull or the break is forced
unfoldable pub closes : Pass → ℕ → ℕ → Bool
closes p s b = (weight p s b).overfull || is_forced p b

-- `\linepenalty` and the badness together count squared, and as 10^8 where they come to 10000 or
-- more
abbrev pub of_badness : ℤ → ℤ
of_badness sum = if nat_lt (unsigned_abs sum) 10000 then sum *ℤ sum else pos 100000000

-- a penalty from 1 to 9999 counts squared, and one from -9999 to -1 as minus its square
abbrev pub of_penalty : ℤ → ℤ
of_penalty p =
    if nat_lt (unsigned_abs p) 10000 then (if int_lt (pos 0) p then p *ℤ p else neg_ℤ (p *ℤ p))
    else pos 0

-- the demerits but for `\adjdemerits`
unfoldable pub plain_demerits : Pass → ℕ → ℕ → ℤ
plain_demerits p s b = of_badness (p.shape.line_penalty +ℤ pos (weight p s b).badness)
    +ℤ of_penalty (penalty p b)

-- the order of the classes
abbrev pub rank : Class → ℕ
rank VeryLoose = 0
rank Loose = 1
rank Decent = 2
rank Tight = 3

-- more than 1 apart
unfoldable pub apart : Class → Class → Bool
apart c d = nat_lt (rank c + 1) (rank d) || nat_lt (rank d + 1) (rank c)

abbrev pub between_classes : Pass → Class → Class → ℤ
between_classes p c d = if apart c d then p.shape.adj_demerits else pos 0

-- of the line from s to b, after a line of the class c
abbrev pub demerits : Pass → Class → ℕ → ℕ → ℤ
demerits p c s b = plain_demerits p s b +ℤ between_classes p c (weight p s b).class
