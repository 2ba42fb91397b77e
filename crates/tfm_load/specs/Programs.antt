-- The programs of ligatures and kerns of a TFM, and what they put between two characters (TeX: The Program, section 545).
use Rattle.std.specs.Prelude.{ℕ, ◌+◌, ◌*◌, ◌-◌, ℤ, pos, Bool, List, map, slice_index_or, Option, Some, None, Result, ◌==◌, nat_lt, nat_le, ◌&&◌, ◌||◌, not, if◌then◌else◌}
use Rattle.ts_geometry.specs.declared.fault.BadKind.{BadKind}
use Rattle.ts_geometry.specs.declared.fault.BadKind.TheVariants.{Ligature as WrongLigature, Program}
use Rattle.ts_geometry.specs.declared.fault.MetricFault.{MetricFault}
use Rattle.metric_words.specs.declared.lengths.Lengths.{Lengths}
use Rattle.metric_words.specs.declared.program.Command.{Command}
use Rattle.metric_words.specs.Words.{word, words, first_byte}
use Rattle.metric_words.specs.Checking.{checked}
use Rattle.metric_words.specs.Lengths.{char_info_start, program_start}
use Rattle.metric_words.specs.Programs.{command_of, command_kinds, visited, first_for}
use Rattle.tfm_load.specs.declared.programs.Step.{Step}
use Rattle.tfm_load.specs.declared.programs.Step.TheVariants.{Nothing, Kern, Ligature}

-- A character of the font is one from the first to the last whose width isn't that of the place 0.
abbrev pub is_in_range : Lengths → ℕ → Bool
is_in_range l code = nat_le l.bc code && nat_le code l.ec

unfoldable pub is_in_font : List ℕ → Lengths → ℕ → Bool
is_in_font file l code = is_in_range l code && not (first_byte (word file (char_info_start l + (code - l.bc))) == 0)

-- two bytes of a command as one number
abbrev pub far_start : Command → ℕ
far_start c = 256 * c.op + c.remainder

-- Where a command is a kern, which one.
abbrev pub kern_number : Command → ℕ
kern_number c = 256 * (c.op - 128) + c.remainder

-- A ligature command is at fault where it is for a boundary character, or has an operation other than 0 or gives a character that
-- the font lacks.
abbrev pub is_ligature_fault : Lengths → ℕ → Bool → Command → Bool
is_ligature_fault l place there c =
    (c.skip == 255 && (place == 0 || place + 1 == l.nl))
    || (nat_le c.skip 128 && nat_lt c.op 128 && (not (c.op == 0) || not there))

-- A program is at fault where the start, the kern or the next command that a command names isn't there.
abbrev pub is_program_fault : Lengths → ℕ → Command → Bool
is_program_fault l place c =
    (nat_lt 128 c.skip && nat_le l.nl (far_start c))
    || (nat_le c.skip 128 && nat_le 128 c.op && nat_le l.nk (kern_number c))
    || (nat_lt c.skip 128 && nat_le l.nl (place + c.skip + 1))

-- what is wrong with a command at that place, where its remainder is a character of the font or not
abbrev pub kind_of_command : Lengths → ℕ → Bool → Command → Option BadKind
kind_of_command l place there c =
    if is_ligature_fault l place there c then Some WrongLigature
    else (if is_program_fault l place c then Some Program else None)

unfoldable pub program_kind : List ℕ → Lengths → ℕ → ℕ → Option BadKind
program_kind file l place w = let c = command_of w in kind_of_command l place (is_in_font file l c.remainder) c

abbrev pub program_words : List ℕ → Lengths → List ℕ
program_words file l = words file (program_start l) l.nl

abbrev pub commands_in : List ℕ → Lengths → Result (List Command) MetricFault
commands_in file l =
    checked (program_start l) (command_kinds (program_kind file l) 0 (program_words file l)) (map command_of (program_words file l))

-- a command that isn't there
abbrev pub no_command : Command
no_command = record { skip = 0; next = 0; op = 0; remainder = 0 }

-- Where the program that a character names starts: at its first command, or once elsewhere where the skip of this is above 128.
abbrev pub start_of : List Command → ℕ → ℕ
start_of commands first = let c = slice_index_or commands first no_command in if nat_lt 128 c.skip then far_start c else first

-- what a command puts
abbrev pub step_of : List ℤ → Command → Step
step_of kerns c = if nat_le 128 c.op then Kern (slice_index_or kerns (kern_number c) (pos 0)) else Ligature c.remainder

-- what the first command that counts puts, if one does
abbrev pub step_meant : List ℤ → Option Command → Step
step_meant kerns (Some c) = step_of kerns c
step_meant kerns None = Nothing

-- what stands before a character, by a program whose first command is that one, if there is one
abbrev pub step_after : List Command → List ℤ → Option ℕ → ℕ → Step
step_after commands kerns (Some first) right = step_meant kerns (first_for right (visited (start_of commands first) commands))
step_after commands kerns None right = Nothing
