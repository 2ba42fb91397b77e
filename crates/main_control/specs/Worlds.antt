-- The world of main control: what is read with the environments, the fonts, the open lists, and the boxes that are shipped.
-- The environments' situation is the mode and the direction of the innermost list.
use Rattle.std.specs.Prelude.{List, Option, Result, Ok, Err, option_map}
use Rattle.ts_base.specs.Agreement.{◌>>=◌}
use Rattle.ts_outside.specs.States.{FilesState}
use Rattle.mouth.specs.Reading.{Stop}
use Rattle.mouth.specs.Keeping.{reading}
use Rattle.jlist_builder.specs.Entries.{Entry}
use Rattle.expander.specs.Worlds.{World as Text, world as text}
use Rattle.font_store.specs.declared.fonts.Font.{Font}
use Rattle.open_lists.specs.Lists.{OpenLists}
use Rattle.open_lists.specs.Standing.{lists_of}
use Rattle.dvi_writer.specs.Reading.{Asked}
use Rattle.control_faults.specs.declared.turn_fault.TurnFault.{TurnFault}
use Rattle.main_control.specs.declared.ending.Ending.{Ending}
use Rattle.main_control.specs.Endings.{stopped_as}
use Rattle.main_control.specs.Bodies.{Body}

-- the world but for the boxes
pub record Scene : Type 0 where
  pub text : Text
  pub fonts : List Font
  pub lists : OpenLists

-- and the boxes that are shipped, the first one first, each with its counts and fonts
pub record World : Type 0 where
  pub scene : Scene
  pub boxes : List Asked

abbrev pub world : Scene → List Asked → World
world scene boxes = record { scene = scene; boxes = boxes }

-- how a run stopped, and the boxes that were shipped up to there
pub record Stopped : Type 0 where
  pub ending : Ending
  pub boxes : List Asked

abbrev pub stopped : Ending → List Asked → Stopped
stopped ending boxes = record { ending = ending; boxes = boxes }

-- ---- steps

-- a step of what is read and the environments alone, or why it is refused, with the place
abbrev pub Acted : Type 0
Acted = Result Text (Stop TurnFault)

-- a step that ships nothing, and one that may ship
abbrev pub Quiet : Type 0
Quiet = Result Scene (Stop TurnFault)

abbrev pub Step : Type 0
Step = Result World Stopped

abbrev pub scene : Text → List Font → OpenLists → Scene
scene w fonts lists = record { text = w; fonts = fonts; lists = lists }

abbrev pub with_text : Scene → Text → Scene
with_text s w = scene w s.fonts s.lists

abbrev pub with_lists : Scene → OpenLists → Scene
with_lists s lists = scene s.text s.fonts lists

-- a step that leaves everything else as it is
abbrev pub in_scene : Scene → Acted → Quiet
in_scene s acted = acted >>= λ w. Ok (with_text s w)

-- a step that ships nothing, with the boxes as they are
abbrev pub calm : List Asked → Quiet → Step
calm boxes (Ok scene) = Ok (world scene boxes)
calm boxes (Err stop) = Err (stopped (stopped_as stop) boxes)

-- the boxes that are shipped after a step
abbrev pub boxes_of : Step → List Asked
boxes_of (Ok w) = w.boxes
boxes_of (Err s) = s.boxes

-- ---- what is kept of it

-- what is read over files, with the environments
abbrev pub text_of : Body → FilesState → Text
text_of b state = text (reading b.gullet state) b.nest

-- the scene for which main control stands, over files and with the entries of open lists
abbrev pub scene_of : Body → FilesState → List (List Entry) → Scene
scene_of b state entries = scene (text_of b state) b.fonts (lists_of b.lists entries)

-- where there is one: after the last turn there is none
abbrev pub scene_in : Option Body → FilesState → List (List Entry) → Option Scene
scene_in body state entries = option_map (λ b. scene_of b state entries) body
