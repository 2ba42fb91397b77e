-- The structure of a DVI file without the commands of its pages: what one pass keeps of it.
use Rattle.std.specs.Prelude.{ℕ, zero, suc, ◌+◌, List, [], ◌∷◌, Result, Ok, Err, Option, Some, None, ℤ, pos, negsuc, Bool, false, nat_eq, ◌||◌, if◌then◌else◌}
use Rattle.std.specs.Ordering.{int_eq}
use Rattle.ts_base.specs.Agreement.{◌>>=◌}
use Rattle.dvi_commands.specs.declared.fault.DviKind.{DviKind}
use Rattle.dvi_commands.specs.declared.fault.DviKind.TheVariants as kinds
use Rattle.dvi_commands.specs.declared.fault.DviBad.{DviBad}
use Rattle.dvi_commands.specs.declared.font.FontDef.{FontDef}
use Rattle.dvi_structure.specs.declared.standing.Inside as code
use Rattle.dvi_structure.specs.declared.standing.Stage as stages
use Rattle.dvi_structure.specs.declared.standing.Stage.TheVariants as stage
use Rattle.dvi_structure.specs.declared.standing.Standing as standings
use Rattle.dvi_commands.specs.Commands as c
use Rattle.dvi_commands.specs.Commands.{Command, Definition, font_defined}
use Rattle.dvi_structure.specs.Places.{Item, Placed, said, bad, fill, placed}
use Rattle.dvi_structure.specs.Structure.{Inside, fresh, inside, has_units, defined, fault_at, filled, placed_at}

-- before pre; between pages; within a page; after the post at a place; after post_post
pub data Stage : Type 0 where
  ahead : Stage
  between : Stage
  within : Inside → Stage
  after_post : ℕ → Stage
  ended : Stage

-- the place of the last bop, -1 where there is none, the number of whole pages, and where the next
-- command stands
pub record Standing : Type 0 where
  pub last : ℤ
  pub pages : ℕ
  pub stage : Stage

pub record Outline : Type 0 where
  pub fonts : List FontDef
  pub standing : Standing

abbrev pub start_outline : Outline
start_outline =
    record { fonts = []; standing = record { last = negsuc 0; pages = 0; stage = ahead } }

unfoldable pub stood_ahead : Standing → Command → Result Standing DviKind
stood_ahead st (c.pre p) =
    if has_units p then Ok (record st { stage = between }) else Err kinds.Preamble
stood_ahead st _ = Err kinds.Preamble

unfoldable pub stood_between : Standing → ℕ → Command → Result Standing DviKind
stood_between st at c.nop = Ok st
stood_between st at (c.bop counts back) = if int_eq back st.last
    then Ok (record { last = pos at; pages = st.pages; stage = within fresh })
    else Err kinds.BackPointer
stood_between st at (c.post p) =
    if int_eq p.back st.last then (if nat_eq p.pages st.pages
    then Ok (record st { stage = after_post at }) else Err kinds.Postamble)
    else Err kinds.BackPointer
stood_between st at _ = Err kinds.Misplaced

abbrev pub page_counted : Standing → ℕ → Result Standing DviKind
page_counted st zero = Ok (record { last = st.last; pages = st.pages + 1; stage = between })
page_counted st (suc depth) = Err kinds.Stack

unfoldable pub stood_within : List FontDef → Standing → Inside → Command → Result Standing DviKind
stood_within fonts st i c.eop = page_counted st i.depth
stood_within fonts st i cmd = inside fonts i cmd >>= λ j. Ok (record st { stage = within j })

unfoldable pub stood_after_post : Standing → ℕ → Command → Result Standing DviKind
stood_after_post st post c.nop = Ok st
stood_after_post st post (c.post_post at id) =
    if int_eq at (pos post) then (if nat_eq id 2 || nat_eq id 3
    then Ok (record st { stage = ended }) else Err kinds.Postamble)
    else Err kinds.BackPointer
stood_after_post st post _ = Err kinds.Misplaced

-- after a command that is no definition
abbrev pub stood_at : List FontDef → Standing → Stage → ℕ → Command → Result Standing DviKind
stood_at fonts st ahead at cmd = stood_ahead st cmd
stood_at fonts st between at cmd = stood_between st at cmd
stood_at fonts st (within i) at cmd = stood_within fonts st i cmd
stood_at fonts st (after_post post) at cmd = stood_after_post st post cmd
stood_at fonts st ended at cmd = Err kinds.Misplaced

abbrev pub stood : List FontDef → Standing → ℕ → Command → Result Standing DviKind
stood fonts st at cmd = stood_at fonts st st.stage at cmd

-- whether the next command stands within a page where a font is chosen
abbrev pub has_font : Stage → Bool
has_font (within i) = i.chosen
has_font _ = false

-- whether a definition may stand here
abbrev pub may_define : Stage → Result (Unit {0}) DviKind
may_define ahead = Err kinds.Preamble
may_define ended = Err kinds.Misplaced
may_define _ = Ok tt

abbrev pub defined_at : Stage → List FontDef → FontDef → Result (List FontDef) DviKind
defined_at stage fonts f = may_define stage >>= λ allowed. defined fonts f

unfoldable pub outlined : Outline → ℕ → Command → Result Outline DviKind
outlined o at (c.font_def d) = defined_at o.standing.stage o.fonts (font_defined d)
    >>= λ fonts. Ok (record { fonts = fonts; standing = o.standing })
outlined o at cmd =
    stood o.fonts o.standing at cmd >>= λ st. Ok (record { fonts = o.fonts; standing = st })

abbrev pub next_outline : Outline → ℕ → Item → Result Outline DviBad
next_outline o at (said cmd) = placed_at at (outlined o at cmd)
next_outline o at (bad kind) = Err (fault_at at kind)
next_outline o at (fill bytes) = filled o at 0 bytes

unfoldable pub outline_walk : Outline → List Placed → Result Outline DviBad
outline_walk o [] = Ok o
outline_walk o (p ∷ ps) = next_outline o p.at p.item >>= λ t. outline_walk t ps

-- the definitions that one pass gives
abbrev pub outline_fonts : List ℕ → Result (List FontDef) DviBad
outline_fonts bytes = outline_walk start_outline (placed 0 0 bytes) >>= λ o. Ok o.fonts

-- ---- what the reader keeps

abbrev pub inside_of : code.Inside → Inside
inside_of i = record { depth = i.depth; chosen = i.chosen }

abbrev pub stage_of : stages.Stage → Stage
stage_of stage.Ahead = ahead
stage_of stage.Between = between
stage_of (stage.Within i) = within (inside_of i)
stage_of (stage.AfterPost post) = after_post post
stage_of stage.Ended = ended

-- the number of a place, -1 where there is none
abbrev pub pointer_of : Option ℕ → ℤ
pointer_of None = negsuc 0
pointer_of (Some place) = pos place

abbrev pub standing_of : standings.Standing → Standing
standing_of st = record { last = pointer_of st.last; pages = st.pages; stage = stage_of st.stage }

abbrev pub depth_of : stages.Stage → ℕ
depth_of (stage.Within i) = i.depth
depth_of _ = 0

abbrev pub outline_of : List FontDef → standings.Standing → Outline
outline_of fonts st = record { fonts = fonts; standing = standing_of st }
