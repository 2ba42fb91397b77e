-- How pages join, and what the end makes of them.
use Rattle.std.specs.Prelude.{◌≡◌, ◌≤◌, ◌<◌, ◌^◌, ℕ, ℤ, List, [], ◌∷◌, ◌++◌, length, map, take, All, Bool, true, Ok}
use Rattle.dvi_commands.specs.declared.font.FontDef.{FontDef}
use Rattle.dvi_structure.specs.Structure.{is_sound_font}
use Rattle.dvi_code.specs.Pages.{Widths, file_pages, whole_pages}
use Rattle.box_tree.specs.Trees.{BoxTree}
use Rattle.box_marks.specs.Glyphs.{FontsAreBelow}
use Rattle.dvi_writer.specs.declared.kept.Kept.{Kept}
use Rattle.dvi_writer.specs.Keeping.{kept_after}
use Rattle.dvi_writer.specs.Pages.{IsPage}
use Rattle.dvi_writer.specs.Reading.{Asked, asked_for, StandsFor, HasWidths, page_asked}
use Rattle.dvi_writer.specs.Tables.{known}
use Rattle.dvi_writer.specs.Written.{KeptFits, HasNumbers, end_bytes}

-- a page joins those before it
abbrev pub PagesJoin : Type 0
PagesJoin = (k : Kept) (fonts full more : List FontDef) (b : BoxTree) (counts : List ℤ)
    (out : List ℕ) (turned : Bool) (pages : List Asked) (bytes : List ℕ)
    → IsPage k (length fonts) b counts (known full) out turned → known full ≡ fonts ++ more
    → All (λ f. is_sound_font f ≡ true) full → FontsAreBelow (length full) b
    → length counts ≡ 10 → StandsFor k fonts pages bytes
    → StandsFor (kept_after k b (length out) turned) (known full)
    (pages ++ asked_for counts full b ∷ []) (bytes ++ out)

-- Where a page breaks off before its last byte, the whole pages are those before it.
abbrev pub PagesBreakOff : Type 0
PagesBreakOff = (k : Kept) (fonts full more : List FontDef) (b : BoxTree) (counts : List ℤ)
    (out : List ℕ) (turned : Bool) (pages : List Asked) (bytes : List ℕ) (n : ℕ) (widths : Widths)
    → IsPage k (length fonts) b counts (known full) out turned → known full ≡ fonts ++ more
    → All (λ f. is_sound_font f ≡ true) full → FontsAreBelow (length full) b
    → length counts ≡ 10 → StandsFor k fonts pages bytes → n < length out
    → All (HasWidths widths) pages
    → whole_pages widths (bytes ++ take n out) ≡ Ok (map page_asked pages)

-- the end makes the pages a file
abbrev pub FilesEnd : Type 0
FilesEnd = (k : Kept) (fonts : List FontDef) (pages : List Asked) (bytes : List ℕ) (widths : Widths)
    → StandsFor k fonts pages bytes → KeptFits k → All HasNumbers fonts → length fonts ≤ 256
    → k.given < 2 ^ 31 → 1 ≤ k.pages → All (HasWidths widths) pages
    → file_pages widths (bytes ++ end_bytes k fonts) ≡ Ok (map page_asked pages)
