-- Assignments with their prefixes; fonts are loaded and selected here (The TeXbook, chapter 24; TeX: The Program, sections 1217
-- and 1257).
use Rattle.std.specs.Prelude.{Bool, Ok, Err, if◌then◌else◌}
use Rattle.ts_base.specs.Agreement.{◌>>=◌}
use Rattle.box_tree.specs.declared.item.FontNo.{FontNo}
use Rattle.control_faults.specs.declared.kind.FaultKind.TheVariants.{NotInMode}
use Rattle.assignments.specs.declared.command.Prefixes.{Prefixes}
use Rattle.assignments.specs.declared.command.Assignment.{Assignment}
use Rattle.assignments.specs.declared.command.Assignment.TheVariants as assignments
use Rattle.assignments.specs.declared.command.Command.{Command}
use Rattle.assignments.specs.Worlds.{refused}
use Rattle.assignments.specs.Assignments.{Prepared, carried_out, ready}
use Rattle.font_commands.specs.Fonts.{font_defined, font_used}
use Rattle.main_control.specs.Worlds.{Scene, Quiet, scene, with_text, in_scene}

-- a font's name becomes that of a font
abbrev pub font_loaded : Bool → Scene → Quiet
font_loaded is_global s =
    font_defined s.text.at.held is_global s.fonts s.text >>= λ f. Ok (scene f.1 f.0 s.lists)

-- Neither is long.
abbrev pub unless_long : Prefixes → Scene → Quiet → Quiet
unless_long p s quiet = if p.is_long then Err (refused NotInMode s.text) else quiet

abbrev pub load_done : Prefixes → Scene → Quiet
load_done p s = unless_long p s (font_loaded p.is_global s)

abbrev pub select_done : Prefixes → FontNo → Scene → Quiet
select_done p font s = unless_long p s (in_scene s (font_used font p.is_global s.fonts s.text))

-- what an assignment does after its prefixes
unfoldable pub prepared_done : Prefixes → Assignment → Scene → Quiet
prepared_done p assignments.LoadFont s = load_done p s
prepared_done p (assignments.SelectFont font) s = select_done p font s
prepared_done p assignment s = in_scene s (carried_out p assignment s.text)

abbrev pub on_prepared : Scene → Prepared → Quiet
on_prepared s r = prepared_done r.0.0 r.0.1 (with_text s r.1)

-- an assignment, or a prefix of one
unfoldable pub assign_done : Command → Scene → Quiet
assign_done command s = ready command s.text >>= on_prepared s
