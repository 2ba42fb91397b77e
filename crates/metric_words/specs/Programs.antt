-- Programs of ligatures, kerns and glue: lists of commands, of which the first that counts says what stands between two characters
-- (TeX: The Program, section 545; the JFM specification).
use Rattle.std.specs.Prelude.{ℕ, zero, suc, ◌+◌, Bool, List, [], ◌∷◌, Option, Some, None, ◌==◌, nat_le, ◌&&◌, if◌then◌else◌}
use Rattle.ts_geometry.specs.declared.fault.BadKind.{BadKind}
use Rattle.metric_words.specs.declared.program.Command.{Command}
use Rattle.metric_words.specs.Words.{first_byte, second_byte, third_byte, fourth_byte}

-- a word of a program: skip, next, op and remainder
unfoldable pub command_of : ℕ → Command
command_of w = record { skip = first_byte w; next = second_byte w; op = third_byte w; remainder = fourth_byte w }

-- what is wrong with each command, by its place from that one on
abbrev pub command_kinds : (ℕ → ℕ → Option BadKind) → ℕ → List ℕ → List (Option BadKind)
command_kinds kind place [] = []
command_kinds kind place (w ∷ ws) = kind place w ∷ command_kinds kind (place + 1) ws

-- The commands that a program visits, where so many of them are passed over first: a skip of 128 or more ends it, and else so
-- many commands are passed over before the next one.
abbrev pub visited : ℕ → List Command → List Command
visited passed [] = []
visited (suc passed) (c ∷ cs) = visited passed cs
visited zero (c ∷ cs) = c ∷ (if nat_le 128 c.skip then [] else visited c.skip cs)

-- Does a command count before this character or class?
abbrev pub counts : ℕ → Command → Bool
counts next c = c.next == next && nat_le c.skip 128

-- the first command that counts
abbrev pub first_for : ℕ → List Command → Option Command
first_for next [] = None
first_for next (c ∷ cs) = if counts next c then Some c else first_for next cs
