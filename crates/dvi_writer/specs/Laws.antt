-- Laws of what is given.
use Rattle.std.specs.Prelude.{◌≡◌, ℕ, List, map, All, Ok}
use Rattle.dvi_code.specs.Pages.{Widths, whole_pages}
use Rattle.dvi_writer.specs.declared.writer.Writer.{Writer}
use Rattle.dvi_writer.specs.Reading.{Asked, HasWidths, page_asked}
use Rattle.dvi_writer.specs.Standing.{Stands}

-- the pages that were given are the whole pages of the bytes that were given for them
abbrev pub PagesAreWhole : Type 0
PagesAreWhole = (w : Writer) (pages : List Asked) (bytes : List ℕ) (widths : Widths)
    → Stands w pages bytes → All (HasWidths widths) pages
    → whole_pages widths bytes ≡ Ok (map page_asked pages)
