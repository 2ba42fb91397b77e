-- What a shipper over a sink stands for, and what the sink holds.
use Rattle.std.specs.Prelude.{◌≡◌, ℕ, ◌-◌, Bool, false, List, [], ◌∷◌, ◌++◌, length, map, take, drop, All, Option, Some, option_map, Ok}
use Rattle.dvi_code.specs.declared.page.DviPage.{DviPage}
use Rattle.dvi_code.specs.Pages.{Widths, file_pages, whole_pages}
use Rattle.dvi_writer.specs.declared.writer.Writer.{Writer}
use Rattle.dvi_writer.specs.Reading.{Asked, HasWidths, page_asked}
use Rattle.dvi_writer.specs.Standing.{Stands, page_count, weight_shipped, fonts_so_far}
use Rattle.dvi_writer.specs.Tables.{known}
use Rattle.shipping.specs.Boxes.{BeginsWith, total_weight, last_table}

-- where a sink tells what it holds: what it held before so many bytes were put, and those bytes
abbrev pub held_before : Option (List ℕ) → ℕ → Option (List ℕ)
held_before held n = option_map (λ bytes. take (length bytes - n) bytes) held

abbrev pub bytes_put : Option (List ℕ) → ℕ → Option (List ℕ)
bytes_put held n = option_map (λ bytes. drop (length bytes - n) bytes) held

-- The whole pages in the bytes are the first of those of the boxes, for widths that give each glyph
-- its item's.
abbrev pub BeginPages : List Asked → List ℕ → Type 0
BeginPages boxes bytes = (widths : Widths) → All (HasWidths widths) boxes
    → (first : List DviPage) × (whole_pages widths bytes ≡ Ok first)
    × BeginsWith (map page_asked boxes) first

-- The bytes are a file of the pages of the boxes, or none where there is no box.
abbrev pub IsFile : List Asked → List ℕ → Type 0
IsFile [] bytes = bytes ≡ []
IsFile (a ∷ boxes) bytes = (widths : Widths) → All (HasWidths widths) (a ∷ boxes)
    → file_pages widths bytes ≡ Ok (map page_asked (a ∷ boxes))

-- The boxes that a shipper took, by what its sink holds, its writer, how many bytes it put and
-- whether it is broken. Not broken, it has put the pages of these boxes and nothing else; broken,
-- the whole pages that it put are the first of them.
pub record Took (held : Option (List ℕ)) (w : Writer) (put : ℕ) (broken : Bool)
    (boxes : List Asked) : Type 0 where
  pub pages : broken ≡ false → length boxes ≡ page_count w
  pub weight : broken ≡ false → total_weight boxes ≡ weight_shipped w
  pub fonts : broken ≡ false → fonts_so_far w ≡ known (last_table boxes)
  pub none : (bytes : List ℕ) → bytes_put held put ≡ Some bytes → broken ≡ false → boxes ≡ []
      → bytes ≡ []
  pub stands : (bytes : List ℕ) → bytes_put held put ≡ Some bytes → broken ≡ false
      → Stands w boxes bytes
  pub partly : (bytes : List ℕ) → bytes_put held put ≡ Some bytes → BeginPages boxes bytes

-- where a sink tells what it holds, what is put after what it held: the file of the boxes, or bytes
-- whose whole pages are the first of theirs
abbrev pub PutsFile : Option (List ℕ) → Option (List ℕ) → List Asked → Type 0
PutsFile before after boxes = (held : List ℕ) → before ≡ Some held
    → (bytes : List ℕ) × (after ≡ Some (held ++ bytes)) × IsFile boxes bytes

abbrev pub PutsPartly : Option (List ℕ) → Option (List ℕ) → List Asked → Type 0
PutsPartly before after boxes = (held : List ℕ) → before ≡ Some held
    → (bytes : List ℕ) × (after ≡ Some (held ++ bytes)) × BeginPages boxes bytes
