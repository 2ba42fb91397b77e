-- The programs of glue and kerns of a JFM, and what they put between two characters (the JFM specification).
use Rattle.std.specs.Prelude.{ℕ, ◌+◌, ◌*◌, ℤ, pos, Bool, List, map, slice_index_or, Option, Some, None, Result, ◌==◌, nat_lt, nat_le, ◌&&◌, ◌||◌, not, if◌then◌else◌}
use Rattle.ts_geometry.specs.declared.fault.BadKind.{BadKind}
use Rattle.ts_geometry.specs.declared.fault.BadKind.TheVariants.{Program}
use Rattle.ts_geometry.specs.declared.fault.MetricFault.{MetricFault}
use Rattle.metric_words.specs.declared.lengths.Lengths.{Lengths}
use Rattle.metric_words.specs.declared.program.Command.{Command}
use Rattle.metric_words.specs.Words.{words}
use Rattle.metric_words.specs.Checking.{checked}
use Rattle.metric_words.specs.Lengths.{program_start}
use Rattle.metric_words.specs.Programs.{command_of, command_kinds, visited, first_for}
use Rattle.jfm_load.specs.declared.programs.Space.{Space}
use Rattle.jfm_load.specs.declared.programs.Space.TheVariants.{Nothing, Glue, Kern}

-- Op 0 is the glue of the remainder's number, three words each, and op 128 the kern of that number.
abbrev pub is_command : Lengths → Command → Bool
is_command l c = (c.op == 0 && nat_le (3 * c.remainder + 3) l.ng) || (c.op == 128 && nat_lt c.remainder l.nk)

-- Skip is 0 where the program goes on and 128 where it ends, as it does at the last word of all.
abbrev pub has_skip : Lengths → ℕ → Command → Bool
has_skip l place c = c.skip == 128 || (c.skip == 0 && not (place + 1 == l.nl))

-- what is wrong with a word of the programs at that place
unfoldable pub program_kind : Lengths → ℕ → ℕ → Option BadKind
program_kind l place w = if has_skip l place (command_of w) && is_command l (command_of w) then None else Some Program

abbrev pub program_words : List ℕ → Lengths → List ℕ
program_words file l = words file (program_start l) l.nl

abbrev pub commands_in : List ℕ → Lengths → Result (List Command) MetricFault
commands_in file l =
    checked (program_start l) (command_kinds (program_kind l) 0 (program_words file l)) (map command_of (program_words file l))

-- the space that a command puts: its glue has a width, a stretch and a shrink
abbrev pub space_of : List ℤ → List ℤ → Command → Space
space_of kerns glues c =
    if c.op == 0 then Glue (slice_index_or glues (3 * c.remainder) (pos 0)) (slice_index_or glues (3 * c.remainder + 1) (pos 0)) (slice_index_or glues (3 * c.remainder + 2) (pos 0))
    else Kern (slice_index_or kerns c.remainder (pos 0))

-- the space of the first command that counts, if one does
abbrev pub space_meant : List ℤ → List ℤ → Option Command → Space
space_meant kerns glues (Some c) = space_of kerns glues c
space_meant kerns glues None = Nothing

-- the space before a class, by a program that starts there, if there is one
abbrev pub space_after : List Command → List ℤ → List ℤ → Option ℕ → ℕ → Space
space_after commands kerns glues (Some start) right = space_meant kerns glues (first_for right (visited start commands))
space_after commands kerns glues None right = Nothing
