-- Macro definitions (The TeXbook, chapter 20; TeX: The Program, sections 473 to 479).
use Rattle.std.specs.Prelude.{◌-◌, false, List, [], ◌∷◌, ◌++◌, length, take, Option, Some, None, Result, Ok}
use Rattle.ts_base.specs.Agreement.{◌>>=◌}
use Rattle.tok_lists.specs.declared.spelling.Spelling.{Spelling}
use Rattle.tok_lists.specs.declared.token.Token.{Token}
use Rattle.tok_lists.specs.Names.{AreHeld}
use Rattle.env_groups.specs.declared.meaning.MacroDef.{MacroDef}
use Rattle.env_groups.specs.Environments.{Nest}
use Rattle.env_groups.specs.Macros.{IsMacro}
use Rattle.mouth.specs.Changes.{entered, left}
use Rattle.mouth.specs.Reading.{Reading, Stop}
use Rattle.raw_texts.specs.declared.fault.MacroFault.{MacroFault}
use Rattle.raw_texts.specs.Runs.{run}
use Rattle.macros.specs.declared.body.Body.{Body}
use Rattle.macros.specs.Borders.{AreNoBraces}
use Rattle.macros.specs.Headings.{heading}
use Rattle.macros.specs.Bodies.{empty, step}

-- a list with the { of a #{ at its end
abbrev pub with_last : List Token → Option Token → List Token
with_last list None = list
with_last list (Some brace) = list ++ brace ∷ []

-- The macro of a body with its parameter text. The { of a #{ ends both.
abbrev pub macro_of : Body → MacroDef
macro_of b = record { long = false; params = with_last b.heading.tokens b.heading.brace; body = with_last b.tokens b.heading.brace }

-- The macro of a definition whose name was taken, and what is read after it. No file may end in it.
unfoldable pub defined : Nest → Reading → Result (MacroDef × Reading) (Stop MacroFault)
defined nest r =
    heading nest (entered r) >>= λ h. run nest step (empty h.0) h.1 >>= λ b. Ok (macro_of b.0, left b.1)

-- A macro may be called: its parameters are numbered in order, at most nine, and those of its body exist; no brace stands in
-- its parameter text but as the last token; and its names are held.
pub record IsDefined (names : List Spelling) (m : MacroDef) : Type 0 where
  pub sound : IsMacro m
  pub braces : AreNoBraces (take (length m.params - 1) m.params)
  pub params : AreHeld names m.params
  pub body : AreHeld names m.body
