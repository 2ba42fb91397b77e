-- A delimited argument of a macro call (The TeXbook, chapter 20): the text before the first place where its delimiter stands
-- outside of groups, without its braces where it is one group.
use Rattle.std.specs.Prelude.{ℕ, zero, suc, ◌-◌, ◌&&◌, Bool, true, false, if◌then◌else◌, List, [], ◌∷◌, length, slice_range, Result, Ok}
use Rattle.ts_base.specs.Agreement.{◌>>=◌}
use Rattle.tok_lists.specs.declared.token.Token.{Token}
use Rattle.env_groups.specs.Environments.{Nest}
use Rattle.mouth.specs.Reading.{Reading, Stop}
use Rattle.raw_texts.specs.declared.fault.MacroFault.{MacroFault}
use Rattle.raw_texts.specs.declared.token.Brace.{Brace}
use Rattle.raw_texts.specs.declared.token.Brace.TheVariants.{Begin, End, Neither}
use Rattle.raw_texts.specs.Kinds.{brace_of}
use Rattle.raw_texts.specs.Runs.{run}
use Rattle.macros.specs.Matching.{after_brace, argument, step}

-- With so many groups open before a list, the outermost of them is closed by its last token.
abbrev pub closes_last : ℕ → List Token → Bool
closes_last zero [] = true
closes_last zero (token ∷ list) = false
closes_last (suc n) [] = false
closes_last (suc n) (token ∷ list) = closes_last (after_brace (suc n) (brace_of token)) list

abbrev pub is_begin : Brace → Bool
is_begin Begin = true
is_begin End = false
is_begin Neither = false

-- The list is one group.
abbrev pub is_one_group : List Token → Bool
is_one_group [] = false
is_one_group (token ∷ list) = is_begin (brace_of token) && closes_last 1 list

-- a list without its braces, where it is one group
abbrev pub stripped : List Token → List Token
stripped list = if is_one_group list then slice_range list 1 (length list - 1) else list

-- the argument, and what is read after its delimiter
unfoldable pub delimited : Nest → Bool → List Token → Reading → Result (List Token × Reading) (Stop MacroFault)
delimited nest long delimiter r =
    run nest step (record { delimiter = delimiter; long = long; text = [] }) r
    >>= λ p. Ok (stripped (argument p.0.delimiter p.0.text), p.1)
