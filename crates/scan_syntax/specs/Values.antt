-- The values of scans.
use Rattle.std.specs.Prelude.{Bool, ℕ, ℤ, List}
use Rattle.ts_geometry.specs.Directions.{sp}
use Rattle.ts_geometry.specs.declared.glue.Glue.{Glue}
use Rattle.box_tree.specs.declared.node.BoxSize.{BoxSize}
use Rattle.scan_syntax.specs.declared.want.Value.{Value}
use Rattle.scan_syntax.specs.declared.want.Value.TheVariants as values
use Rattle.scan_numbers.specs.Contexts.{Context}
use Rattle.scan_numbers.specs.Tokens.{FedToken}
use Rattle.scan_numbers.specs.Amounts.{Amount}
use Rattle.scan_numbers.specs.Answers.{Answer, Got}

abbrev pub integer_value : ℤ → Context → List FedToken → Answer Value
integer_value n context rest = Got (values.Integer n) context rest

abbrev pub dimen_value : Amount → Context → List FedToken → Answer Value
dimen_value d context rest = Got (values.Dimen (sp d.size)) context rest

abbrev pub glue_value : Glue → Context → List FedToken → Answer Value
glue_value g context rest = Got (values.Glue g) context rest

abbrev pub keyword_value : Bool → Context → List FedToken → Answer Value
keyword_value there context rest = Got (values.Keyword there) context rest

abbrev pub file_value : List ℕ → Context → List FedToken → Answer Value
file_value name context rest = Got (values.FileName name) context rest

abbrev pub size_value : BoxSize → Context → List FedToken → Answer Value
size_value size context rest = Got (values.BoxSize size) context rest
