-- The sizes to which boxes are packed (The TeXbook, chapter 24, ⟨box specification⟩).
use Rattle.std.specs.Prelude.{Bool, true, false, List}
use Rattle.ts_geometry.specs.Directions.{sp}
use Rattle.box_tree.specs.declared.node.BoxSize.{BoxSize}
use Rattle.box_tree.specs.declared.node.BoxSize.TheVariants.{Natural, To, Spread}
use Rattle.scan_syntax.specs.declared.word.Sought.TheVariants as soughts
use Rattle.scan_numbers.specs.Contexts.{Context}
use Rattle.scan_numbers.specs.Tokens.{FedToken}
use Rattle.scan_numbers.specs.Amounts.{Amount}
use Rattle.scan_numbers.specs.Answers.{Answer, Got, ◌>>=◌}
use Rattle.scan_numbers.specs.Keywords.{keyword}
use Rattle.scan_syntax.specs.Words.{letters_of}
use Rattle.scan_numbers.specs.Dimensions.{dimen}

abbrev pub size_to : Amount → Context → List FedToken → Answer BoxSize
size_to d context rest = Got (To (sp d.size)) context rest

abbrev pub size_spread : Amount → Context → List FedToken → Answer BoxSize
size_spread d context rest = Got (Spread (sp d.size)) context rest

abbrev pub if_spread : Bool → Context → List FedToken → Answer BoxSize
if_spread true context rest = dimen false rest >>= size_spread
if_spread false context rest = Got Natural context rest

abbrev pub if_to : Bool → Context → List FedToken → Answer BoxSize
if_to true context rest = dimen false rest >>= size_to
if_to false context rest = keyword (letters_of soughts.Spread) rest >>= if_spread

-- `to` and a dimension, or `spread` and one, or nothing
unfoldable pub box_size : List FedToken → Answer BoxSize
box_size list = keyword (letters_of soughts.To) list >>= if_to
