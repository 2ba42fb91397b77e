-- Tests that read no token: the mode and the direction of the innermost list (The TeXbook, chapters 13 and 20; pTeX).
use Rattle.std.specs.Prelude.{Bool, true, false, length}
use Rattle.ts_geometry.specs.declared.direction.Dir.{Dir}
use Rattle.ts_geometry.specs.declared.direction.Dir.TheVariants as dirs
use Rattle.env_groups.specs.declared.situation.Mode.{Mode}
use Rattle.env_groups.specs.declared.situation.Mode.TheVariants as modes
use Rattle.env_groups.specs.declared.situation.Situation.{Situation}
use Rattle.env_groups.specs.Environments.{Nest}
use Rattle.mouth.specs.Reading.{Reading}
use Rattle.mouth.specs.Changes.{opened}
use Rattle.expander.specs.declared.action.Question.{Question}
use Rattle.expander.specs.declared.action.Question.TheVariants as questions
use Rattle.expander.specs.Worlds.{Outcome}
use Rattle.expander.specs.Conditionals.{decided}

abbrev pub is_vertical : Mode → Bool
is_vertical modes.Outer = true
is_vertical modes.InnerVertical = true
is_vertical modes.Paragraph = false
is_vertical modes.Restricted = false

abbrev pub is_horizontal : Mode → Bool
is_horizontal modes.Outer = false
is_horizontal modes.InnerVertical = false
is_horizontal modes.Paragraph = true
is_horizontal modes.Restricted = true

-- the mode of a box
abbrev pub is_inner : Mode → Bool
is_inner modes.Outer = false
is_inner modes.InnerVertical = true
is_inner modes.Paragraph = false
is_inner modes.Restricted = true

abbrev pub is_yoko : Dir → Bool
is_yoko dirs.Yoko = true
is_yoko dirs.Tate = false
is_yoko dirs.Dtou = false

abbrev pub is_tate : Dir → Bool
is_tate dirs.Yoko = false
is_tate dirs.Tate = true
is_tate dirs.Dtou = false

abbrev pub is_dtou : Dir → Bool
is_dtou dirs.Yoko = false
is_dtou dirs.Tate = false
is_dtou dirs.Dtou = true

abbrev pub answer : Situation → Question → Bool
answer s questions.True = true
answer s questions.False = false
answer s questions.VMode = is_vertical s.mode
answer s questions.HMode = is_horizontal s.mode
answer s questions.Inner = is_inner s.mode
answer s questions.YDir = is_yoko s.dir
answer s questions.TDir = is_tate s.dir
answer s questions.DDir = is_dtou s.dir

-- A conditional opens, and its test is decided at once.
abbrev pub asked : Nest → Question → Reading → Outcome Reading
asked nest question r = decided nest (length r.conditionals) (answer nest.situation question) (opened r)
