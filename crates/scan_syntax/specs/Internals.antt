-- What \the takes (The TeXbook, chapter 20, in the profile of this typesetter): internal integers, dimensions and glue, and lists of
-- tokens. It skips no space.
use Rattle.std.specs.Prelude.{ℤ, pos, negsuc, nat_lt, false, List, [], ◌∷◌, if◌then◌else◌, Result, Ok, Err}
use Rattle.ts_geometry.specs.Directions.{sp}
use Rattle.tok_lists.specs.declared.token.Token.{Token}
use Rattle.tok_lists.specs.declared.token.Token.TheVariants as tokens
use Rattle.env_groups.specs.declared.fault.EnvFault.{EnvFault}
use Rattle.env_groups.specs.declared.key.ToksKey.{ToksKey}
use Rattle.env_groups.specs.declared.key.ToksKey.TheVariants as lists
use Rattle.env_groups.specs.declared.parameter.ToksParam.TheVariants.{Output}
use Rattle.env_groups.specs.declared.meaning.Meaning.{Meaning}
use Rattle.env_groups.specs.declared.meaning.Meaning.TheVariants as meanings
use Rattle.env_groups.specs.declared.prim.PrimitiveName.{PrimitiveName}
use Rattle.env_groups.specs.declared.prim.PrimitiveName.TheVariants as prims
use Rattle.env_groups.specs.Environments.{Nest, toks_at, meaning_at}
use Rattle.scan_numbers.specs.declared.fault.ScanKind.{ScanKind}
use Rattle.scan_numbers.specs.declared.fault.ScanKind.TheVariants.{NoNumber, RegisterRange}
use Rattle.scan_numbers.specs.declared.quantity.Quantity.{Quantity}
use Rattle.scan_numbers.specs.declared.quantity.Quantity.TheVariants as quantities
use Rattle.scan_syntax.specs.declared.internal.Listed.{Listed}
use Rattle.scan_syntax.specs.declared.internal.Listed.TheVariants.{Whole, Register, Nothing}
use Rattle.scan_numbers.specs.declared.start.Start.{Start}
use Rattle.scan_numbers.specs.declared.start.Start.TheVariants as starts
use Rattle.scan_syntax.specs.declared.want.Value.{Value}
use Rattle.scan_syntax.specs.declared.want.Value.TheVariants as values
use Rattle.scan_numbers.specs.Contexts.{Context}
use Rattle.scan_numbers.specs.Tokens.{FedToken, start}
use Rattle.scan_numbers.specs.Answers.{Answer, Got, Needs, Bad, Expanded, ◌>>=◌}
use Rattle.scan_numbers.specs.Integers.{integer, register, given}
use Rattle.scan_syntax.specs.Glues.{signed_glue}

abbrev pub quantity_value : Quantity → Value
quantity_value (quantities.Integer n) = values.Integer n
quantity_value (quantities.Dimen d) = values.Dimen (sp d)
quantity_value (quantities.Glue g) = values.Glue (signed_glue false g)

abbrev pub whole_value : Quantity → Context → List FedToken → Answer Value
whole_value q context rest = Got (quantity_value q) context rest

-- ---- lists of tokens

abbrev pub toks_from : Result (List Token) EnvFault → Result Value ScanKind
toks_from (Ok list) = Ok (values.Toks list)
toks_from (Err fault) = Err RegisterRange

abbrev pub toks_held : ToksKey → Nest → Result Value ScanKind
toks_held key nest = toks_from (toks_at nest key)

unfoldable pub toks_reading : ℤ → Nest → Result Value ScanKind
toks_reading (pos n) nest = if nat_lt n 65536 then toks_held (lists.Register n) nest else Err RegisterRange
toks_reading (negsuc n) nest = Err RegisterRange

abbrev pub toks_register : ℤ → Context → List FedToken → Answer Value
toks_register n context rest = given (toks_reading n context.env) context rest

abbrev pub toks_named : PrimitiveName → Listed
toks_named prims.Toks = Register
toks_named prims.Output = Whole (lists.Param Output)
toks_named _ = Nothing

abbrev pub toks_meant : Meaning → Listed
toks_meant (meanings.Primitive prim) = toks_named prim
toks_meant (meanings.Toks n) = Whole (lists.Register n)
toks_meant _ = Nothing

-- what a token begins of lists of tokens
unfoldable pub toks_start : Token → Context → Listed
toks_start (tokens.Name name) context = toks_meant (meaning_at context.env name.0)
toks_start _ context = Nothing

-- ---- internal quantities

abbrev pub internal_from : Start → FedToken → List FedToken → Answer Value
internal_from (starts.Internal q) x rest = whole_value q x.context rest
internal_from (starts.Register r) x rest = integer rest >>= register r >>= whole_value
internal_from (starts.Refused kind) x rest = Bad kind
internal_from _ x rest = Bad NoNumber

abbrev pub listed_from : Listed → FedToken → List FedToken → Answer Value
listed_from (Whole key) x rest = given (toks_held key x.context.env) x.context rest
listed_from Register x rest = integer rest >>= toks_register
listed_from Nothing x rest = internal_from (start x.token x.context) x rest

unfoldable pub internal : List FedToken → Answer Value
internal [] = Needs Expanded
internal (x ∷ rest) = listed_from (toks_start x.token x.context) x rest
