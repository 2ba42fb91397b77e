-- Glue (The TeXbook, chapter 24, ⟨glue⟩), in scaled points.
use Rattle.std.specs.Prelude.{Bool, true, false, not, ℤ, pos, List, [], ◌∷◌}
use Rattle.ts_geometry.specs.Directions.{sp}
use Rattle.ts_geometry.specs.declared.glue.Glue.{Glue}
use Rattle.ts_geometry.specs.declared.glue.Order.TheVariants.{Normal}
use Rattle.scan_numbers.specs.declared.quantity.HeldGlue.{HeldGlue}
use Rattle.scan_numbers.specs.declared.quantity.Quantity.{Quantity}
use Rattle.scan_numbers.specs.declared.quantity.Quantity.TheVariants as quantities
use Rattle.scan_numbers.specs.declared.start.Start.{Start}
use Rattle.scan_numbers.specs.declared.start.Start.TheVariants as starts
use Rattle.scan_syntax.specs.declared.word.Sought.TheVariants as soughts
use Rattle.scan_numbers.specs.Contexts.{Context}
use Rattle.scan_numbers.specs.Tokens.{FedToken, start}
use Rattle.scan_numbers.specs.Amounts.{Amount, amount}
use Rattle.scan_numbers.specs.Answers.{Answer, Got, Needs, Expanded, ◌>>=◌}
use Rattle.scan_numbers.specs.Integers.{integer, register, signed}
use Rattle.scan_numbers.specs.Keywords.{keyword}
use Rattle.scan_syntax.specs.Words.{letters_of}
use Rattle.scan_numbers.specs.Dimensions.{dimen, from_quantity, with_sign}

abbrev pub glue_of : ℤ → Amount → Amount → Glue
glue_of width stretch shrink = record {
  width = sp width;
  stretch = sp stretch.size;
  stretch_order = stretch.order;
  shrink = sp shrink.size;
  shrink_order = shrink.order;
}

abbrev pub nothing : Amount
nothing = amount (pos 0) Normal

-- ---- stretch and shrink

abbrev pub whole_glue : ℤ → Amount → Amount → Context → List FedToken → Answer Glue
whole_glue width stretch shrink context rest = Got (glue_of width stretch shrink) context rest

abbrev pub if_minus : ℤ → Amount → Bool → Context → List FedToken → Answer Glue
if_minus width stretch true context rest = dimen true rest >>= whole_glue width stretch
if_minus width stretch false context rest = whole_glue width stretch nothing context rest

-- `minus` and an amount of any order, or nothing
abbrev pub shrink : ℤ → Amount → Context → List FedToken → Answer Glue
shrink width stretch context rest = keyword (letters_of soughts.Minus) rest >>= if_minus width stretch

abbrev pub if_plus : ℤ → Bool → Context → List FedToken → Answer Glue
if_plus width true context rest = dimen true rest >>= shrink width
if_plus width false context rest = shrink width nothing context rest

-- `plus` and an amount of any order, or nothing, and the shrink
abbrev pub stretch : Amount → Context → List FedToken → Answer Glue
stretch width context rest = keyword (letters_of soughts.Plus) rest >>= if_plus width.size

-- ---- glue

-- A sign before internal glue turns all three numbers.
abbrev pub signed_glue : Bool → HeldGlue → Glue
signed_glue sign g =
    glue_of (signed sign g.width) (amount (signed sign g.stretch) g.stretch_order) (amount (signed sign g.shrink) g.shrink_order)

-- Internal glue is whole; any other internal quantity begins the width, which a sign before it turns alone.
abbrev pub quantity_glue : Bool → Quantity → Context → List FedToken → Answer Glue
quantity_glue sign (quantities.Glue g) context rest = Got (signed_glue sign g) context rest
quantity_glue sign (quantities.Dimen d) context rest = from_quantity false (quantities.Dimen d) context rest >>= with_sign sign >>= stretch
quantity_glue sign (quantities.Integer n) context rest = from_quantity false (quantities.Integer n) context rest >>= with_sign sign >>= stretch

abbrev pub glue_from : Start → Bool → FedToken → List FedToken → Answer Glue → Answer Glue → Answer Glue
glue_from starts.Space sign x rest same turned = same
glue_from starts.Plus sign x rest same turned = same
glue_from starts.Minus sign x rest same turned = turned
glue_from (starts.Internal q) sign x rest same turned = quantity_glue sign q x.context rest
glue_from (starts.Register r) sign x rest same turned = integer rest >>= register r >>= quantity_glue sign
glue_from _ sign x rest same turned = dimen false (x ∷ rest) >>= with_sign sign >>= stretch

-- glue after signs
unfoldable pub glue_signed : Bool → List FedToken → Answer Glue
glue_signed sign [] = Needs Expanded
glue_signed sign (x ∷ rest) = glue_from (start x.token x.context) sign x rest (glue_signed sign rest) (glue_signed (not sign) rest)

abbrev pub glue : List FedToken → Answer Glue
glue list = glue_signed false list
