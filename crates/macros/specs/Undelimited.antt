-- An undelimited argument of a macro call (The TeXbook, chapter 20): the first token that isn't a space, or a group without
-- its braces.
use Rattle.std.specs.Prelude.{◌&&◌, not, Bool, if◌then◌else◌, List, [], ◌∷◌, Result, Ok, Err}
use Rattle.ts_base.specs.Agreement.{◌>>=◌}
use Rattle.tok_lists.specs.declared.token.Token.{Token}
use Rattle.env_groups.specs.Environments.{Nest}
use Rattle.mouth.specs.Reading.{Reading, Stop}
use Rattle.raw_texts.specs.declared.fault.MacroFault.{MacroFault}
use Rattle.raw_texts.specs.declared.fault.MacroFault.TheVariants.{UseMismatch, ArgParagraph}
use Rattle.raw_texts.specs.declared.passing.Past.TheVariants.{Spaces}
use Rattle.raw_texts.specs.declared.token.Brace.{Brace}
use Rattle.raw_texts.specs.declared.token.Brace.TheVariants.{Begin, End, Neither}
use Rattle.raw_texts.specs.Faults.{stopped}
use Rattle.raw_texts.specs.Groups.{group}
use Rattle.raw_texts.specs.Kinds.{brace_of, is_par}
use Rattle.raw_texts.specs.Passing.{past}

-- a token by itself: \par is one of a long macro alone
abbrev pub single : Bool → Token → Reading → Result (List Token × Reading) (Stop MacroFault)
single long token r = if is_par token && not long then Err (stopped ArgParagraph r) else Ok (token ∷ [], r)

-- the argument that begins with a token, which is a brace or none
abbrev pub begun : Nest → Bool → Brace → Token → Reading → Result (List Token × Reading) (Stop MacroFault)
begun nest long Begin token r = group nest long r
begun nest long End token r = Err (stopped UseMismatch r)
begun nest long Neither token r = single long token r

-- the argument, and what is read after it
unfoldable pub undelimited : Nest → Bool → Reading → Result (List Token × Reading) (Stop MacroFault)
undelimited nest long r = past nest Spaces r >>= λ t. begun nest long (brace_of t.0) t.0 t.1
