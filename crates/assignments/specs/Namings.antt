-- Meanings are given to names: \let, \chardef and its kin, \def and its kin (The TeXbook, chapters 20 and 24; TeX: The Program,
-- sections 1215 to 1224).
use Rattle.std.specs.Prelude.{ℤ, ◌==◌, ◌&&◌, ◌||◌, Bool, true, false, if◌then◌else◌, Result, Ok, Err}
use Rattle.ts_base.specs.Agreement.{◌>>=◌}
use Rattle.tok_lists.specs.declared.token.Token.{Token}
use Rattle.tok_lists.specs.declared.token.Token.TheVariants as tokens
use Rattle.tok_lists.specs.declared.token.NameNo.{NameNo}
use Rattle.env_groups.specs.declared.prim.PrimitiveName.TheVariants.{Relax}
use Rattle.env_groups.specs.declared.meaning.MacroDef.{MacroDef}
use Rattle.env_groups.specs.declared.meaning.Meaning.{Meaning}
use Rattle.env_groups.specs.declared.meaning.Meaning.TheVariants as meanings
use Rattle.env_groups.specs.Environments.{meaning_set}
use Rattle.raw_texts.specs.Meanings.{meaning_of, means_category}
use Rattle.expander.specs.Worlds.{World}
use Rattle.control_faults.specs.declared.kind.FaultKind.{FaultKind}
use Rattle.assignments.specs.declared.command.Shorthand.{Shorthand}
use Rattle.assignments.specs.declared.command.Shorthand.TheVariants as shorthands
use Rattle.assignments.specs.declared.command.Defining.{Defining}
use Rattle.assignments.specs.declared.command.Prefixes.{Prefixes}
use Rattle.assignments.specs.declared.seeking.Sought.TheVariants as sought
use Rattle.assignments.specs.Worlds.{Outcome, checked, in_env}
use Rattle.assignments.specs.Reads.{raw_token, macro_read}
use Rattle.assignments.specs.Values.{integer, equals, register_number, character_number}
use Rattle.assignments.specs.Seeking.{found, name}

unfoldable pub meaning_stored : NameNo → Meaning → Bool → World → Outcome World
meaning_stored name meaning is_global w = in_env w (Ok (meaning_set w.nest name.0 meaning is_global))

-- ---- \let

-- the character = of category 12
abbrev pub is_equals : Token → Bool
is_equals (tokens.Char code cat) = code == 61 && cat == 12
is_equals _ = false

-- One space is passed over after the =.
abbrev pub after_equals : Token × World → Outcome (Token × World)
after_equals t = if means_category 10 (meaning_of t.1.nest t.0) then raw_token t.1 else Ok t

abbrev pub value_after : Token × World → Outcome (Token × World)
value_after t = if is_equals t.0 then (raw_token t.1 >>= after_equals) else Ok t

-- the token whose meaning is given: after spaces, and at most one = with one space
unfoldable pub let_value : World → Outcome (Token × World)
let_value w = found sought.Value w >>= λ f. value_after (f.0.1, f.1)

unfoldable pub let_done : Bool → World → Outcome World
let_done is_global w =
    name w >>= λ n. let_value n.1 >>= λ t. meaning_stored n.0 (meaning_of t.1.nest t.0) is_global t.1

-- ---- \chardef and its kin

abbrev pub shorthand_of : Shorthand → ℤ → Result Meaning FaultKind
shorthand_of shorthands.Char n = character_number n >>= λ c. Ok (meanings.Code c)
shorthand_of shorthands.Count n = register_number n >>= λ r. Ok (meanings.Count r)
shorthand_of shorthands.Dimen n = register_number n >>= λ r. Ok (meanings.Dimen r)
shorthand_of shorthands.Skip n = register_number n >>= λ r. Ok (meanings.Skip r)
shorthand_of shorthands.Toks n = register_number n >>= λ r. Ok (meanings.Toks r)

-- an optional =, and the number
unfoldable pub shorthand_meaning : Shorthand → World → Outcome (Meaning × World)
shorthand_meaning shorthand w = equals w >>= λ v. integer v >>= checked (shorthand_of shorthand)

-- While the number is read the name means \relax.
unfoldable pub shorthand_done : Shorthand → Bool → World → Outcome World
shorthand_done shorthand is_global w =
    name w >>= λ n. meaning_stored n.0 (meanings.Primitive Relax) is_global n.1 >>= λ v. shorthand_meaning shorthand v
    >>= λ m. meaning_stored n.0 m.0 is_global m.1

-- ---- \def and its kin

-- a macro, \long where that prefix stood before its definition
abbrev pub macro_meaning : Bool → MacroDef → Meaning
macro_meaning is_long m = meanings.Macro (record { long = is_long; params = m.params; body = m.body })

-- \gdef and \xdef are global without a prefix.
unfoldable pub macro_done : Defining → Prefixes → World → Outcome World
macro_done d p w =
    name w >>= λ n. macro_read d.is_expanded n.1
    >>= λ m. meaning_stored n.0 (macro_meaning p.is_long m.0) (d.is_global || p.is_global) m.1
