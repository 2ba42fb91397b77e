-- What the command at a place of a file is.
use Rattle.std.specs.Prelude.{◌≡◌, ◌≤◌, ℕ, List, drop, Result, Ok, Err, Option, Some, None}
use Rattle.dvi_commands.specs.declared.command.Part.{Part}
use Rattle.dvi_commands.specs.declared.command.Command as code
use Rattle.dvi_commands.specs.declared.command.Command.TheVariants as said
use Rattle.dvi_commands.specs.declared.fault.DviBad.{DviBad}
use Rattle.dvi_commands.specs.Fields.{Field}
use Rattle.dvi_commands.specs.Commands as c
use Rattle.dvi_commands.specs.Commands.{Command, meant, command}

-- The command that was read says what stands at the place, and what is left there stands at the
-- place after it; a fault is that of the command, at its place.
abbrev pub IsCommandAt : List ℕ → ℕ → Result (code.Command × ℕ) DviBad → Type 0
IsCommandAt bytes at (Ok x) = command (drop at bytes) ≡ Ok (meant bytes x.0, drop x.1 bytes)
IsCommandAt bytes at (Err bad) = (command (drop at bytes) ≡ Err bad.kind) × (bad.at ≡ at)

-- a part that begins before it ends, within so many bytes
abbrev pub IsPartIn : ℕ → Part → Type 0
IsPartIn len part = (part.start ≤ part.end) × (part.end ≤ len)

abbrev pub HasPartsIn : ℕ → code.Command → Type 0
HasPartsIn len (said.Xxx text) = IsPartIn len text
HasPartsIn len (said.FontDef number check_sum size design area name) =
    IsPartIn len area × IsPartIn len name
HasPartsIn len (said.Pre id num den mag comment) = IsPartIn len comment
HasPartsIn len _ = Unit {0}

-- the code of the character that a command sets, and the bytes after it
abbrev pub set_with : Command → List ℕ → Option (ℕ × List ℕ)
set_with (c.set code) rest = Some (code, rest)
set_with _ rest = None

-- what was read, where that sets a character
abbrev pub set_first : Field Command → Option (ℕ × List ℕ)
set_first (Ok x) = set_with x.0 x.1
set_first (Err kind) = None

-- Reading goes on at a place of the file, where a character was read.
abbrev pub set_left : List ℕ → Option (ℕ × ℕ) → Option (ℕ × List ℕ)
set_left bytes None = None
set_left bytes (Some x) = Some (x.0, drop x.1 bytes)
