-- Words for the readers alone: what is left of a table to be read, where some of its entries are.
use Rattle.std.specs.Prelude.{ℕ, ◌+◌, ◌-◌, List, ◌++◌, map, Option, Result}
use Rattle.ts_geometry.specs.declared.fault.BadKind.{BadKind}
use Rattle.ts_geometry.specs.declared.fault.MetricFault.{MetricFault}
use Rattle.metric_words.specs.declared.program.Command.{Command}
use Rattle.metric_words.specs.Words.{words}
use Rattle.metric_words.specs.Checking.{checked}
use Rattle.metric_words.specs.Programs.{command_of, command_kinds}

-- what is left of a table up to its end, where these entries are read
abbrev pub left : {A : Type 0} → (ℕ → Option BadKind) → (ℕ → A) → List ℕ → ℕ → ℕ → List A → Result (List A) MetricFault
left kind value file i end entries = checked i (map kind (words file i (end - i))) (entries ++ map value (words file i (end - i)))

-- what is left of the programs from a place on, where these commands are read
abbrev pub commands_left : (ℕ → ℕ → Option BadKind) → List ℕ → ℕ → ℕ → ℕ → List Command → Result (List Command) MetricFault
commands_left kind file start place len commands =
    let ws = words file (start + place) (len - place) in
    checked (start + place) (command_kinds kind place ws) (commands ++ map command_of ws)
