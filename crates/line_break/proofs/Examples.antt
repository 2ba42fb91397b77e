-- Small values of the definitions.
use Rattle.std.proofs.Common.{◌≡◌, List, [], ◌∷◌, Some, None, false, pos, negsuc, refl}
use Rattle.ts_geometry.specs.declared.glue.Glue.{Glue as Glues}
use Rattle.ts_geometry.specs.declared.glue.Order.TheVariants.{Normal, Fil}
use Rattle.ts_geometry.specs.Directions.{sp}
use Rattle.box_tree.specs.declared.item.GlueFrom.TheVariants.{Given as Command, Skip, Metric as Font}
use Rattle.box_tree.specs.declared.item.Item.{Item}
use Rattle.box_tree.specs.declared.item.Item.TheVariants.{Rule, Glue, Kern, Penalty}
use Rattle.box_tree.specs.declared.item.KernFrom.TheVariants.{Given, Metric}
use Rattle.line_break.specs.declared.shape.ParaShape.{ParaShape}
use Rattle.line_break.specs.Paragraphs.{ended, lines_at}

abbrev none : Glues
none = record { width = sp (pos 0); stretch = sp (pos 0); stretch_order = Normal; shrink = sp (pos 0); shrink_order = Normal }

abbrev fill : Glues
fill = record none { stretch = sp (pos 65536); stretch_order = Fil }

abbrev a_rule : Item
a_rule = Rule (Some (sp (pos 655360))) None None

abbrev no_break : Item
no_break = Penalty (pos 10000) false

abbrev forced : Item
forced = Penalty (negsuc 9999) false

-- one last glue goes, of whatever origin; what stands before it stays
ended-glue : ended (a_rule ∷ Glue none Skip ∷ Glue none Font ∷ []) fill ≡ a_rule ∷ Glue none Skip ∷ no_break ∷ Glue fill Command ∷ forced ∷ []
ended-glue = refl

-- a penalty at the end stays
ended-penalty : ended (Glue none Command ∷ forced ∷ []) fill ≡ Glue none Command ∷ forced ∷ no_break ∷ Glue fill Command ∷ forced ∷ []
ended-penalty = refl

-- a paragraph of one glue
ended-one : ended (Glue none Command ∷ []) fill ≡ no_break ∷ Glue fill Command ∷ forced ∷ []
ended-one = refl

abbrev shape : ParaShape
shape = record { hsize = sp (pos 655360); left = none; right = fill; pretolerance = pos 100; tolerance = pos 200; emergency = sp (pos 0); line_penalty = pos 10; adj_demerits = pos 10000 }

abbrev items : List Item
items = Glue none Skip ∷ a_rule ∷ Glue none Skip ∷ Kern (sp (pos 1)) Given ∷ forced ∷ Kern (sp (pos 2)) Metric ∷ Glue none Skip ∷ a_rule ∷ forced ∷ []

-- Glue at the start stays. After a break glue, a kern of a command and a penalty go; a kern of a metric stays, and glue after it.
lines-two : lines_at items shape (record { 0 = 2 } ∷ record { 0 = 8 } ∷ []) ≡ (Glue none Command ∷ Glue none Skip ∷ a_rule ∷ Glue fill Command ∷ []) ∷ (Glue none Command ∷ Kern (sp (pos 2)) Metric ∷ Glue none Skip ∷ a_rule ∷ Glue fill Command ∷ []) ∷ []
lines-two = refl

-- what is dropped goes no farther than the next break
lines-empty : lines_at items shape (record { 0 = 2 } ∷ record { 0 = 4 } ∷ record { 0 = 8 } ∷ []) ≡ (Glue none Command ∷ Glue none Skip ∷ a_rule ∷ Glue fill Command ∷ []) ∷ (Glue none Command ∷ Glue fill Command ∷ []) ∷ (Glue none Command ∷ Kern (sp (pos 2)) Metric ∷ Glue none Skip ∷ a_rule ∷ Glue fill Command ∷ []) ∷ []
lines-empty = refl
