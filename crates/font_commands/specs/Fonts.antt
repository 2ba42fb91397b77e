-- \font and the names of fonts (The TeXbook, chapter 4; TeX: The Program, sections 1217 and 1257 to 1261; pTeX).
use Rattle.std.specs.Prelude.{nat_lt, Bool, if◌then◌else◌, List, length, Result, Ok, Err}
use Rattle.ts_base.specs.Agreement.{◌>>=◌, with_fault}
use Rattle.ts_outside.specs.States.{Held}
use Rattle.tok_lists.specs.declared.token.NameNo.{NameNo}
use Rattle.box_tree.specs.declared.item.FontNo.{FontNo}
use Rattle.env_groups.specs.declared.prim.PrimitiveName.TheVariants.{Relax}
use Rattle.env_groups.specs.declared.meaning.Meaning.TheVariants as meanings
use Rattle.env_groups.specs.Environments.{Nest, meaning_set}
use Rattle.font_store.specs.declared.fonts.Font.{Font}
use Rattle.expander.specs.Worlds.{World, world}
use Rattle.control_faults.specs.declared.kind.FaultKind.TheVariants.{NotBuilt}
use Rattle.control_faults.specs.declared.turn_fault.TurnFault.{TurnFault}
use Rattle.control_faults.specs.declared.turn_fault.TurnFault.TheVariants.{Kind}
use Rattle.assignments.specs.Worlds.{Outcome, stopped, in_env}
use Rattle.assignments.specs.Values.{equals}
use Rattle.assignments.specs.Seeking.{name}
use Rattle.assignments.specs.Namings.{meaning_stored}
use Rattle.known_fonts.specs.Placing.{Wanted, Placed, placed_wanted}
use Rattle.known_fonts.specs.Selecting.{font_selected}
use Rattle.font_commands.specs.Names.{font_name}
use Rattle.font_commands.specs.Sizings.{size_said}

-- ---- \font

-- an optional =, the name of the font, and how its size is said
unfoldable pub font_wanted : World → Outcome (Wanted × World)
font_wanted w = equals w >>= λ v. font_name v >>= λ n. size_said n.1 >>= λ s. Ok ((n.0, s.0), s.1)

-- the name that is to mean a font, and the font that it is to mean
abbrev pub Naming : Type 0
Naming = NameNo × Wanted

-- While the rest is read the name means \relax.
unfoldable pub naming_read : Bool → World → Outcome (Naming × World)
naming_read is_global w =
    name w >>= λ n. meaning_stored n.0 (meanings.Primitive Relax) is_global n.1 >>= λ v. font_wanted v
    >>= λ f. Ok ((n.0, f.0), f.1)

-- The name means the number of the font.
abbrev pub with_number : NameNo → Bool → Placed → List Font × Nest
with_number n is_global p = (p.0.1, meaning_set p.1 n.0 (meanings.Font p.0.0) is_global)

abbrev pub font_named : List Held → Naming → Bool → List Font → Nest → Result (List Font × Nest) TurnFault
font_named held n is_global fonts nest = placed_wanted held n.1 fonts nest >>= λ p. Ok (with_number n.0 is_global p)

abbrev pub named_in : List Held → Bool → List Font → Naming × World → Outcome (List Font × World)
named_in held is_global fonts n =
    with_fault (stopped n.1) (font_named held n.0 is_global fonts n.1.nest) >>= λ p. Ok (p.0, world n.1.at p.1)

-- A font gets its number once all is read; none is selected.
unfoldable pub font_defined : List Held → Bool → List Font → World → Outcome (List Font × World)
font_defined held is_global fonts w = naming_read is_global w >>= named_in held is_global fonts

-- ---- the name of a font

-- NotBuilt comes only where there is no such font, which no name means.
abbrev pub font_chosen : FontNo → Bool → List Font → Nest → Result Nest TurnFault
font_chosen font is_global fonts nest =
    if nat_lt font.0 (length fonts) then Ok (font_selected nest fonts font is_global) else Err (Kind NotBuilt)

unfoldable pub font_used : FontNo → Bool → List Font → World → Outcome World
font_used font is_global fonts w = in_env w (font_chosen font is_global fonts w.nest)
