-- Pages that are put without the end of their file.
use Rattle.std.specs.Prelude.{◌≡◌, ℕ, List, [], ◌∷◌, ◌++◌, map, All, Option, Some, Ok}
use Rattle.dvi_structure.specs.Structure.{Shape, start, between}
use Rattle.dvi_code.specs.Reading.{Leads}
use Rattle.dvi_code.specs.Pages.{Widths, whole_pages}
use Rattle.dvi_writer.specs.Reading.{Asked, HasWidths, page_asked}
use Rattle.shipping.specs.Boxes.{BeginsWith}

-- The bytes lead a reader of DVI from the start of a file to between two pages: no page is begun, and no postamble.
abbrev pub EndBetween : List ℕ → Type 0
EndBetween bytes = (s : Shape) × (s.phase ≡ between) × Leads 0 start bytes s

-- The whole pages in the bytes are those of the boxes, for widths that give each glyph its item's.
abbrev pub HoldPages : List Asked → List ℕ → Type 0
HoldPages boxes bytes = (widths : Widths) → All (HasWidths widths) boxes
    → whole_pages widths bytes ≡ Ok (map page_asked boxes)

-- The bytes are the pages of the boxes and nothing else.
abbrev pub ArePages : List Asked → List ℕ → Type 0
ArePages [] bytes = bytes ≡ []
ArePages (a ∷ boxes) bytes = EndBetween bytes × HoldPages (a ∷ boxes) bytes

-- where a sink tells what it holds, what is put after what it held: pages alone, of the first of the boxes
abbrev pub PutsPages : Option (List ℕ) → Option (List ℕ) → List Asked → Type 0
PutsPages before after boxes = (held : List ℕ) → before ≡ Some held
    → (bytes : List ℕ) × (after ≡ Some (held ++ bytes))
    × (first : List Asked) × BeginsWith boxes first × ArePages first bytes
