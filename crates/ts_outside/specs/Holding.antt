-- What the fields of files in memory stand for.
use Rattle.std.specs.Prelude.{ℕ, zero, suc, List, [], ◌∷◌, drop, Option, Some, None}
use Rattle.ts_outside.specs.declared.mem_files.MemFile.{MemFile}
use Rattle.ts_outside.specs.declared.mem_files.Seat.{Seat}
use Rattle.ts_outside.specs.States.{Held}

abbrev pub held_of : MemFile → Held
held_of file = record { name = file.name; bytes = file.bytes.items }

abbrev pub bytes_at : List MemFile → ℕ → List ℕ
bytes_at [] n = []
bytes_at (file ∷ files) zero = file.bytes.items
bytes_at (file ∷ files) (suc n) = bytes_at files n

-- what is left of the file of a seat
abbrev pub seat_left : List MemFile → Option Seat → Option (List ℕ)
seat_left files None = None
seat_left files (Some seat) = Some (drop seat.place (bytes_at files seat.file))
