-- The commands of a file one after the other, each with its place, up to the first that can't be
-- read or to post_post, after which there is fill (TeX: The Program, sections 583 and 590).
use Rattle.std.specs.Prelude.{ℕ, zero, suc, ◌+◌, ◌-◌, List, [], ◌∷◌, length, Ok, Err, Bool, true, false, if◌then◌else◌}
use Rattle.dvi_commands.specs.declared.fault.DviKind.{DviKind}
use Rattle.dvi_commands.specs.declared.fault.DviKind.TheVariants.{Truncated}
use Rattle.dvi_commands.specs.Fields.{Field}
use Rattle.dvi_commands.specs.Commands.{Command, command, post_post}

-- a command, a fault in its place, or the bytes after the last command
pub data Item : Type 0 where
  said : Command → Item
  bad : DviKind → Item
  fill : List ℕ → Item

pub record Placed : Type 0 where
  pub at : ℕ
  pub item : Item

abbrev pub is_last : Command → Bool
is_last (post_post at id) = true
is_last _ = false

-- What was read at a place, of which so many bytes follow the first, and then the rest, of which so
-- many bytes are skipped.
abbrev pub placed_first : ℕ → ℕ → (ℕ → List Placed) → Field Command → List Placed
placed_first at len rest (Ok x) = record { at = at; item = said x.0 }
    ∷ (if is_last x.0 then record { at = at + (suc len - length x.1); item = fill x.1 } ∷ []
    else rest (len - length x.1))
placed_first at len rest (Err k) = record { at = at; item = bad k } ∷ []

-- from a place on, of which the first so many bytes belong to the command before
unfoldable pub placed : ℕ → ℕ → List ℕ → List Placed
placed at skip [] = record { at = at; item = bad Truncated } ∷ []
placed at (suc skip) (b ∷ bs) = placed (at + 1) skip bs
placed at zero (b ∷ bs) =
    placed_first at (length bs) (λ skip. placed (at + 1) skip bs) (command (b ∷ bs))
