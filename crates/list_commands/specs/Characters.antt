-- Characters of numbers, and characters that come into the innermost list (The TeXbook, chapter 24; TeX: The Program, sections
-- 434 and 1034; pTeX).
use Rattle.std.specs.Prelude.{ℕ, ℤ, List, Option, Result, Ok}
use Rattle.std.specs.Option.{ok_or}
use Rattle.ts_base.specs.Agreement.{◌>>=◌, with_fault}
use Rattle.jis_codes.specs.declared.Char.{Char}
use Rattle.font_store.specs.declared.fonts.Font.{Font}
use Rattle.scan_numbers.specs.Quantities as quantities
use Rattle.expander.specs.Worlds.{World}
use Rattle.open_lists.specs.Characters.{entry_of}
use Rattle.open_lists.specs.Lists.{OpenLists, put}
use Rattle.control_faults.specs.declared.kind.FaultKind.{FaultKind}
use Rattle.control_faults.specs.declared.kind.FaultKind.TheVariants.{CodeRange}
use Rattle.control_faults.specs.TurnFaults.{of_list}
use Rattle.assignments.specs.Worlds.{Outcome, stopped, checked}
use Rattle.assignments.specs.Values.{integer, character_at}

-- the character of a number: a byte, or the internal code of a cell
abbrev pub char_of : ℕ → Option Char
char_of n = quantities.char_of n

-- the same of an integer that was read
abbrev pub char_at : ℤ → Result Char FaultKind
char_at n = ok_or (character_at n) CodeRange

-- \char and the number after it
unfoldable pub char_read : World → Outcome (Char × World)
char_read w = integer w >>= checked char_at

-- A character comes into the innermost list, by the fonts and codes as they are now; nothing further is read.
abbrev pub char_put : Char → List Font → World → OpenLists → Outcome OpenLists
char_put c fonts w lists = with_fault (λ fault. stopped w (of_list fault)) (put (λ dir. entry_of fonts w.nest dir c) lists)
