-- The meaning of a source: turns from the start until one ends the run.
use Rattle.std.specs.Prelude.{ℕ, List, [], Option, Some, Result, Ok, Err}
use Rattle.ts_base.specs.Agreement.{◌>>=◌, with_fault}
use Rattle.ts_outside.specs.States.{Held}
use Rattle.input_codings.specs.declared.coding.Coding.{Coding}
use Rattle.env_groups.specs.Environments.{start}
use Rattle.mouth.specs.Opening.{started}
use Rattle.mouth.specs.Sizes.{size}
use Rattle.expander.specs.GulletFaults.{of_mouth_fault, stop_as}
use Rattle.expander.specs.Worlds.{world as text}
use Rattle.control_faults.specs.TurnFaults.{of_gullet, turn_stop}
use Rattle.main_control.specs.declared.ending.Ending.{Ending}
use Rattle.main_control.specs.declared.ending.Ending.TheVariants as endings
use Rattle.main_control.specs.Recursion.{fix}
use Rattle.main_control.specs.Endings.{stopped_as}
use Rattle.open_lists.specs.Lists.{start as no_lists}
use Rattle.main_control.specs.Worlds.{Scene, World, world, scene, Stopped, stopped, Quiet, Step}
use Rattle.main_control.specs.Turn.{turn_of}

-- units left, what is unread and what is pending: each turn lowers this
abbrev pub rank : World → ℕ
rank w = size w.scene.text.at

abbrev pub after_turn : (World → Stopped) → Step → Stopped
after_turn go (Ok w) = go w
after_turn go (Err s) = s

abbrev pub run_step : (World → Stopped) → World → Stopped
run_step go w = after_turn go (turn_of w)

abbrev pub no_run : World → Stopped
no_run w = stopped endings.NoMemory w.boxes

-- how a run stops from a world on, and the boxes that are shipped then
unfoldable pub run_of : World → Stopped
run_of w = fix rank no_run run_step w

-- ---- the whole of it

-- The main file is open, the environment is that of the start, there is no font, and the main list alone is open; or FileMissing.
abbrev pub first_scene : List Held → Coding → ℕ → List ℕ → Quiet
first_scene held coding budget name =
    with_fault (turn_stop of_gullet) (with_fault (stop_as of_mouth_fault) (started held coding budget name))
    >>= λ at. Ok (scene (text at start) [] no_lists)

-- what a stomach is begun with, or how the run ends
abbrev pub started_as : Quiet → Result (Option Scene) Ending
started_as first = with_fault stopped_as first >>= λ scene. Ok (Some scene)

abbrev pub run_first : Quiet → Stopped
run_first (Ok s) = run_of (world s [])
run_first (Err stop) = stopped (stopped_as stop) []

-- what the source of a name means among the files that are held, with so many units: how it ends, and the boxes that it ships
unfoldable pub meaning : List Held → Coding → ℕ → List ℕ → Stopped
meaning held coding budget name = run_first (first_scene held coding budget name)
