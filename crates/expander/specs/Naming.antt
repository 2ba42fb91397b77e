-- \csname: names that are made of characters (The TeXbook, chapter 7; TeX: The Program, section 372).
use Rattle.std.specs.Prelude.{ℕ, Bool, true, false, List, [], ◌∷◌, Option, Some, None}
use Rattle.ts_base.specs.Agreement.{◌>>=◌, with_fault}
use Rattle.jis_codes.specs.declared.Char.{Char}
use Rattle.jis_codes.specs.declared.Char.TheVariants as chars
use Rattle.tok_lists.specs.declared.spelling.Spelling.{Spelling}
use Rattle.tok_lists.specs.declared.token.Token.{Token}
use Rattle.tok_lists.specs.declared.token.Token.TheVariants as tokens
use Rattle.env_groups.specs.declared.prim.PrimitiveName.{PrimitiveName}
use Rattle.env_groups.specs.declared.prim.PrimitiveName.TheVariants as prims
use Rattle.env_groups.specs.declared.meaning.Meaning.{Meaning}
use Rattle.env_groups.specs.declared.meaning.Meaning.TheVariants as meanings
use Rattle.env_groups.specs.Environments.{Nest, meaning_at, meaning_set}
use Rattle.mouth.specs.Changes.{named}
use Rattle.expander.specs.Faults.{of_mouth}
use Rattle.expander.specs.Worlds.{World, world, Outcome, put, in_world}

-- an explicit character, of any category
abbrev pub char_of : Token → Option Char
char_of (tokens.Char code cat) = Some (chars.One code)
char_of (tokens.Ja cell) = Some (chars.Ja cell)
char_of _ = None

abbrev pub is_end_prim : PrimitiveName → Bool
is_end_prim prims.EndCsName = true
is_end_prim _ = false

abbrev pub is_end : Meaning → Bool
is_end (meanings.Primitive prim) = is_end_prim prim
is_end _ = false

-- Whatever means \endcsname ends a name; what isn't expanded acts as \relax.
abbrev pub ends_name : Nest → Token → Bool
ends_name nest (tokens.Name name) = is_end (meaning_at nest name.0)
ends_name nest _ = false

-- An undefined name gets the meaning of \relax, in the innermost group.
abbrev pub defined_as : Meaning → ℕ → Nest → Nest
defined_as meanings.Undefined name nest = meaning_set nest name (meanings.Primitive prims.Relax) false
defined_as _ name nest = nest

abbrev pub with_relax : ℕ → Nest → Nest
with_relax name nest = defined_as (meaning_at nest name) name nest

abbrev pub spelling_of : List Char → Spelling
spelling_of list = record { active = false; chars = list }

-- The name of these characters is put in front.
abbrev pub name_put : List Char → World → Outcome World
name_put list w =
    with_fault of_mouth (named (spelling_of list) w.at)
    >>= λ n. in_world (world n.1 (with_relax n.0 w.nest)) (put (tokens.Name (record { 0 = n.0 }) ∷ []) n.1)
