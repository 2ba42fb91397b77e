-- What small boxes mark.
use Rattle.std.proofs.Common.{◌≡◌, ℕ, ℤ, pos, Some, None, List, [], ◌∷◌, refl}
use Rattle.ts_geometry.specs.declared.direction.Dir.{Dir}
use Rattle.ts_geometry.specs.declared.direction.Dir.TheVariants.{Yoko, Tate, Dtou}
use Rattle.ts_geometry.specs.declared.glue.Order.TheVariants.{Normal, Fil}
use Rattle.ts_geometry.specs.declared.measure.Measures.{Measures}
use Rattle.ts_geometry.specs.Crossings.{measures}
use Rattle.ts_geometry.specs.Directions.{sp, point}
use Rattle.dvi_commands.specs.declared.font.FontDef.{FontDef}
use Rattle.dvi_code.specs.declared.mark.Mark.{Mark}
use Rattle.dvi_code.specs.declared.mark.What.TheVariants as what
use Rattle.box_tree.specs.declared.item.GlueFrom.TheVariants.{Given}
use Rattle.box_tree.specs.declared.node.BoxKind.TheVariants.{Horizontal, Vertical}
use Rattle.box_tree.specs.declared.node.SetGlue.TheVariants.{Plain as AsIs, Stretch}
use Rattle.box_tree.specs.Offsets.{share_of}
use Rattle.box_tree.specs.Trees.{glyph, kanji, rule, glue, BoxTree, node, TreeItems, no_items, item, TreeItem, plain, box, crossed}
use Rattle.box_marks.specs.Marks.{page_marks}

abbrev row : List TreeItem → TreeItems
row [] = no_items
row (x ∷ xs) = item x (row xs)

abbrev hbox : Dir → Measures → List TreeItem → BoxTree
hbox dir size xs = node Horizontal dir size AsIs (row xs)

-- the sample fonts at ten points: one for yoko, one for tate, and a Latin one
abbrev font : ℕ → List ℕ → FontDef
font number name = record { number = pos number; check_sum = 0; size = 655360; design = 655360; name = name }

abbrev fonts : List FontDef
fonts = font 0 (106 ∷ []) ∷ font 1 (116 ∷ []) ∷ font 2 (114 ∷ []) ∷ []

-- a Japanese character as wide as its font, in yoko and in tate, by row and cell
abbrev in_yoko : ℕ → ℕ → TreeItem
in_yoko r c = plain (kanji (record { 0 = 0 }) (record { row = r; cell = c }) (measures (pos 655360) (pos 573440) (pos 81920)) 17)

abbrev in_tate : ℕ → ℕ → TreeItem
in_tate r c = plain (kanji (record { 0 = 1 }) (record { row = r; cell = c }) (measures (pos 655360) (pos 327680) (pos 327680)) 16)

abbrev glyph_mark : List ℕ → ℕ → ℤ → ℤ → Dir → Mark
glyph_mark name code x y dir = record { what = what.Glyph name 655360 code; at = point x y; dir = dir }

abbrev rule_mark : ℤ → ℤ → ℤ → ℤ → Mark
rule_mark height width x y = record { what = what.Rule (sp height) (sp width); at = point x y; dir = Yoko }

abbrev a_rule : ℤ → ℤ → ℤ → TreeItem
a_rule wd ht dp = plain (rule (Some (sp wd)) (Some (sp ht)) (Some (sp dp)))

two_characters : page_marks fonts (hbox Yoko (measures (pos 1310720) (pos 573440) (pos 81920)) (in_yoko 4 2 ∷ in_yoko 4 4 ∷ []))
    ≡ glyph_mark (106 ∷ []) 0x2422 (pos 0) (pos 573440) Yoko ∷ glyph_mark (106 ∷ []) 0x2424 (pos 655360) (pos 573440) Yoko ∷ []
two_characters = refl

upwards : page_marks fonts (hbox Dtou (measures (pos 1310720) (pos 573440) (pos 81920)) (in_yoko 4 2 ∷ in_yoko 4 4 ∷ []))
    ≡ glyph_mark (106 ∷ []) 0x2422 (pos 573440) (pos 1310720) Dtou ∷ glyph_mark (106 ∷ []) 0x2424 (pos 573440) (pos 655360) Dtou ∷ []
upwards = refl

abbrev inner_yoko : BoxTree
inner_yoko = hbox Yoko (measures (pos 655360) (pos 573440) (pos 81920)) (in_yoko 4 2 ∷ [])

yoko_in_tate : page_marks fonts (hbox Tate (measures (pos 1310720) (pos 327680) (pos 327680)) (in_tate 20 33 ∷ crossed inner_yoko (sp (pos 0)) (measures (pos 655360) (pos 327680) (pos 327680)) ∷ []))
    ≡ glyph_mark (116 ∷ []) 0x3441 (pos 327680) (pos 0) Tate ∷ glyph_mark (106 ∷ []) 0x2422 (pos 0) (pos 1228800) Yoko ∷ []
yoko_in_tate = refl

abbrev inner_tate : BoxTree
inner_tate = hbox Tate (measures (pos 655360) (pos 327680) (pos 327680)) (in_tate 20 33 ∷ [])

-- the character in tate stands after the one in yoko, from the top edge of what the list sees
tate_in_yoko : page_marks fonts (hbox Yoko (measures (pos 1310720) (pos 655360) (pos 81920)) (in_yoko 4 2 ∷ crossed inner_tate (sp (pos 0)) (measures (pos 655360) (pos 655360) (pos 0)) ∷ []))
    ≡ glyph_mark (106 ∷ []) 0x2422 (pos 0) (pos 655360) Yoko ∷ glyph_mark (116 ∷ []) 0x3441 (pos 983040) (pos 0) Tate ∷ []
tate_in_yoko = refl

abbrev deep_yoko : BoxTree
deep_yoko = hbox Yoko (measures (pos 3) (pos 5) (pos 7)) (a_rule (pos 3) (pos 5) (pos 7) ∷ [])

abbrev deep_tate : BoxTree
deep_tate = hbox Tate (measures (pos 12) (pos 2) (pos 1)) (crossed deep_yoko (sp (pos 0)) (measures (pos 12) (pos 2) (pos 1)) ∷ [])

abbrev deep_dtou : BoxTree
deep_dtou = hbox Dtou (measures (pos 12) (pos 1) (pos 2)) (crossed deep_tate (sp (pos 0)) (measures (pos 12) (pos 1) (pos 2)) ∷ [])

three_directions : page_marks fonts (hbox Yoko (measures (pos 3) (pos 12) (pos 0)) (crossed deep_dtou (sp (pos 0)) (measures (pos 3) (pos 12) (pos 0)) ∷ []))
    ≡ rule_mark (pos 12) (pos 3) (pos 0) (pos 12) ∷ []
three_directions = refl

abbrev small : BoxTree
small = hbox Yoko (measures (pos 1) (pos 2) (pos 0)) (a_rule (pos 1) (pos 2) (pos 0) ∷ [])

-- two copies in a box, and the box itself, which was made nine wide later
abbrev copies : BoxTree
copies = hbox Yoko (measures (pos 2) (pos 2) (pos 0)) (box small (sp (pos 0)) ∷ box small (sp (pos 0)) ∷ [])

abbrev wide : BoxTree
wide = hbox Yoko (measures (pos 9) (pos 2) (pos 0)) (a_rule (pos 1) (pos 2) (pos 0) ∷ [])

rules_side_by_side : page_marks fonts (hbox Yoko (measures (pos 12) (pos 2) (pos 0)) (box copies (sp (pos 0)) ∷ box wide (sp (pos 0)) ∷ a_rule (pos 1) (pos 2) (pos 0) ∷ []))
    ≡ rule_mark (pos 2) (pos 1) (pos 0) (pos 2) ∷ rule_mark (pos 2) (pos 1) (pos 1) (pos 2) ∷ rule_mark (pos 2) (pos 1) (pos 2) (pos 2) ∷ rule_mark (pos 2) (pos 1) (pos 11) (pos 2) ∷ []
rules_side_by_side = refl

-- a box that begins at its first rule, and a rule after it
abbrev top : BoxTree
top = node Vertical Yoko (measures (pos 3) (pos 1) (pos 11)) AsIs (row (a_rule (pos 3) (pos 1) (pos 2) ∷ a_rule (pos 3) (pos 4) (pos 5) ∷ []))

rules_in_a_column : page_marks fonts (hbox Yoko (measures (pos 4) (pos 2) (pos 11)) (box top (sp (pos 0)) ∷ a_rule (pos 1) (pos 2) (pos 0) ∷ []))
    ≡ rule_mark (pos 3) (pos 3) (pos 0) (pos 4) ∷ rule_mark (pos 9) (pos 3) (pos 0) (pos 13) ∷ rule_mark (pos 2) (pos 1) (pos 3) (pos 2) ∷ []
rules_in_a_column = refl

-- a Latin letter in tate is moved across by its shift
a_letter_across : page_marks fonts (hbox Tate (measures (pos 983040) (pos 327680) (pos 327680)) (in_tate 20 33 ∷ plain (glyph (record { 0 = 2 }) 0x61 (measures (pos 327680) (pos 300000) (pos 131072)) (sp (pos 131072)) 0x61 0x61) ∷ []))
    ≡ glyph_mark (116 ∷ []) 0x3441 (pos 327680) (pos 0) Tate ∷ glyph_mark (114 ∷ []) 0x61 (pos 196608) (pos 655360) Tate ∷ []
a_letter_across = refl

-- glue of the set order takes the excess, and a rule without measures runs to those of the box
abbrev glue_between : TreeItem
glue_between = plain (glue (record { width = sp (pos 1); stretch = sp (pos 2); stretch_order = Fil; shrink = sp (pos 0); shrink_order = Normal }) Given)

set_glue : page_marks fonts (node Vertical Yoko (measures (pos 8) (pos 20) (pos 0)) (Stretch Fil (sp (pos 10)) (sp (pos 4))) (row (a_rule (pos 3) (pos 1) (pos 2) ∷ glue_between ∷ plain (rule None (Some (sp (pos 1))) (Some (sp (pos 0)))) ∷ glue_between ∷ [])))
    ≡ rule_mark (pos 3) (pos 3) (pos 0) (pos 3) ∷ rule_mark (pos 1) (pos 8) (pos 0) (pos 10) ∷ []
unfolding share_of
set_glue = refl

-- half of an odd width is rounded down
odd_width : page_marks fonts (hbox Tate (measures (pos 2) (pos 3) (pos 2)) (crossed (hbox Yoko (measures (pos 5) (pos 1) (pos 1)) (a_rule (pos 5) (pos 1) (pos 1) ∷ [])) (sp (pos 0)) (measures (pos 2) (pos 3) (pos 2)) ∷ []))
    ≡ rule_mark (pos 2) (pos 5) (pos 0) (pos 2) ∷ []
odd_width = refl

nothing_marked : page_marks fonts (hbox Yoko (measures (pos 0) (pos 0) (pos 0)) []) ≡ []
nothing_marked = refl
