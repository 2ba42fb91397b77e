-- The structure of a DVI file (TeX: The Program, sections 583 to 591): pre, pages, post,
-- definitions of fonts, post_post and fill. One pass over the placed commands gives the pages as
-- lists of commands, or the first fault with its place. Where one command has several faults, the
-- first in the order of the kinds counts.
use Rattle.std.specs.Prelude.{ℕ, zero, suc, ◌+◌, ◌%◌, List, [], ◌∷◌, ◌++◌, length, Result, Ok, Err, Option, Some, None, ℤ, pos, negsuc, Bool, true, false, nat_eq, nat_le, nat_lt, ◌&&◌, ◌||◌, if◌then◌else◌}
use Rattle.std.specs.Ordering.{int_eq}
use lib.Pointwise.{pointwise}
use Rattle.ts_geometry.specs.declared.direction.Dir.{Dir}
use Rattle.ts_base.specs.Agreement.{◌>>=◌}
use Rattle.ts_outside.specs.Names.{is_file_name}
use Rattle.dvi_commands.specs.declared.fault.DviKind.{DviKind}
use Rattle.dvi_commands.specs.declared.fault.DviKind.TheVariants as kinds
use Rattle.dvi_commands.specs.declared.fault.DviBad.{DviBad}
use Rattle.dvi_commands.specs.declared.font.FontDef.{FontDef}
use Rattle.ts_outside.specs.Endings.{with_ending, metric_ending}
use Rattle.dvi_commands.specs.Commands as c
use Rattle.dvi_commands.specs.Commands.{Command, Preamble, Postamble, Definition, font_defined, dir_of}
use Rattle.dvi_structure.specs.Places.{Item, Placed, said, bad, fill, placed}

-- ---- fonts

-- the definition of a number, if there is one, among definitions in the order of their first
abbrev pub font_of : List FontDef → ℤ → Option FontDef
font_of [] n = None
font_of (f ∷ fs) n = if int_eq f.number n then Some f else font_of fs n

-- The name is one of a file, also with the ending of a metric file, and the size is 1 to 2^23 - 1.
unfoldable pub is_sound_font : FontDef → Bool
is_sound_font f = is_file_name f.name && (is_file_name (with_ending metric_ending f.name)
    && (nat_le 1 f.size && nat_lt f.size 8388608))

abbrev pub is_same_font : FontDef → FontDef → Bool
is_same_font a b = nat_eq a.check_sum b.check_sum
    && (nat_eq a.size b.size && (nat_eq a.design b.design && pointwise nat_eq a.name b.name))

-- beside the definition that its number has so far
abbrev pub defined_beside : Option FontDef → List FontDef → FontDef → Result (List FontDef) DviKind
defined_beside None fonts f = if is_sound_font f then Ok (fonts ++ f ∷ []) else Err kinds.FontDef
defined_beside (Some g) fonts f = if is_same_font f g then Ok fonts else Err kinds.FontDef

-- a definition more; a number may be defined again, but not otherwise
abbrev pub defined : List FontDef → FontDef → Result (List FontDef) DviKind
defined fonts f = defined_beside (font_of fonts f.number) fonts f

-- ---- pages

-- a page: its counts, the commands between bop and eop in order but for definitions, their places,
-- and the definitions up to its eop
pub record Sheet : Type 0 where
  pub counts : List ℤ
  pub body : List Command
  pub places : List ℕ
  pub fonts : List FontDef

-- within a page: how many positions are pushed, and whether a font is chosen
pub record Inside : Type 0 where
  pub depth : ℕ
  pub chosen : Bool

abbrev pub fresh : Inside
fresh = record { depth = 0; chosen = false }

abbrev pub popped : Bool → ℕ → Result Inside DviKind
popped chosen zero = Err kinds.Stack
popped chosen (suc depth) = Ok (record { depth = depth; chosen = chosen })

abbrev pub selected : Inside → Option FontDef → Result Inside DviKind
selected i None = Err kinds.FontUndefined
selected i (Some f) = Ok (record { depth = i.depth; chosen = true })

abbrev pub turned : Inside → Option Dir → Result Inside DviKind
turned i None = Err kinds.Direction
turned i (Some dir) = Ok i

abbrev pub with_glyph : Inside → Result Inside DviKind
with_glyph i = if i.chosen then Ok i else Err kinds.FontUndefined

-- A command of a page, wherever the page stands.
unfoldable pub inside : List FontDef → Inside → Command → Result Inside DviKind
inside fonts i (c.set code) = with_glyph i
inside fonts i (c.put code) = with_glyph i
inside fonts i (c.set_rule height width) = Ok i
inside fonts i (c.put_rule height width) = Ok i
inside fonts i c.nop = Ok i
inside fonts i c.push = Ok (record { depth = suc i.depth; chosen = i.chosen })
inside fonts i c.pop = popped i.chosen i.depth
inside fonts i (c.right n) = Ok i
inside fonts i c.w0 = Ok i
inside fonts i (c.w n) = Ok i
inside fonts i c.x0 = Ok i
inside fonts i (c.x n) = Ok i
inside fonts i (c.down n) = Ok i
inside fonts i c.y0 = Ok i
inside fonts i (c.y n) = Ok i
inside fonts i c.z0 = Ok i
inside fonts i (c.z n) = Ok i
inside fonts i (c.font n) = selected i (font_of fonts n)
inside fonts i (c.xxx text) = Ok i
inside fonts i (c.direction d) = turned i (dir_of d)
inside fonts i _ = Err kinds.Misplaced

-- ---- the file

-- before pre; between pages; within a page that has begun with these counts, commands and places;
-- after the post at a place; after post_post
pub data Phase : Type 0 where
  ahead : Phase
  between : Phase
  within : List ℤ → List Command → List ℕ → Inside → Phase
  after_post : ℕ → Phase
  ended : Phase

-- the place of the last bop, -1 where there is none, the definitions so far, the whole pages so
-- far, and where the next command stands
pub record Shape : Type 0 where
  pub last : ℤ
  pub fonts : List FontDef
  pub sheets : List Sheet
  pub phase : Phase

abbrev pub start : Shape
start = record { last = negsuc 0; fonts = []; sheets = []; phase = ahead }

-- points of 72.27 to the inch, of 65536 parts each, at their own size
abbrev pub has_units : Preamble → Bool
has_units p =
    nat_eq p.id 2 && (nat_eq p.num 25400000 && (nat_eq p.den 473628672 && nat_eq p.mag 1000))

abbrev pub with_font : Shape → Definition → Result Shape DviKind
with_font s d = defined s.fonts (font_defined d)
    >>= λ fonts. Ok (record { last = s.last; fonts = fonts; sheets = s.sheets; phase = s.phase })

unfoldable pub at_start : Shape → Command → Result Shape DviKind
at_start s (c.pre p) = if has_units p then Ok
    (record { last = s.last; fonts = s.fonts; sheets = s.sheets; phase = between })
    else Err kinds.Preamble
at_start s _ = Err kinds.Preamble

unfoldable pub at_gap : Shape → ℕ → Command → Result Shape DviKind
at_gap s at (c.font_def d) = with_font s d
at_gap s at c.nop = Ok s
at_gap s at (c.bop counts back) = if int_eq back s.last
    then Ok (record {
      last = pos at;
      fonts = s.fonts;
      sheets = s.sheets;
      phase = within counts [] [] fresh;
    }) else Err kinds.BackPointer
at_gap s at (c.post p) =
    if int_eq p.back s.last then (if nat_eq p.pages (length s.sheets)
    then Ok (record { last = s.last; fonts = s.fonts; sheets = s.sheets; phase = after_post at })
    else Err kinds.Postamble)
    else Err kinds.BackPointer
at_gap s at _ = Err kinds.Misplaced

-- a page ends where nothing is pushed any more
abbrev pub closed : Shape → Sheet → ℕ → Result Shape DviKind
closed s sheet zero =
    Ok (record { last = s.last; fonts = s.fonts; sheets = s.sheets ++ sheet ∷ []; phase = between })
closed s sheet (suc depth) = Err kinds.Stack

unfoldable pub in_page : Shape → List ℤ → List Command → List ℕ → Inside → ℕ → Command
    → Result Shape DviKind
in_page s counts body places i at (c.font_def d) = with_font s d
in_page s counts body places i at c.eop =
    closed s (record { counts = counts; body = body; places = places; fonts = s.fonts }) i.depth
in_page s counts body places i at cmd = inside s.fonts i cmd
    >>= λ j. Ok (record {
      last = s.last;
      fonts = s.fonts;
      sheets = s.sheets;
      phase = within counts (body ++ cmd ∷ []) (places ++ at ∷ []) j;
    })

unfoldable pub at_back : Shape → ℕ → Command → Result Shape DviKind
at_back s post (c.font_def d) = with_font s d
at_back s post c.nop = Ok s
at_back s post (c.post_post at id) =
    if int_eq at (pos post) then (if nat_eq id 2 || nat_eq id 3
    then Ok (record { last = s.last; fonts = s.fonts; sheets = s.sheets; phase = ended })
    else Err kinds.Postamble)
    else Err kinds.BackPointer
at_back s post _ = Err kinds.Misplaced

abbrev pub obeyed : Shape → Phase → ℕ → Command → Result Shape DviKind
obeyed s ahead at cmd = at_start s cmd
obeyed s between at cmd = at_gap s at cmd
obeyed s (within counts body places i) at cmd = in_page s counts body places i at cmd
obeyed s (after_post post) at cmd = at_back s post cmd
obeyed s ended at cmd = Err kinds.Misplaced

abbrev pub fault_at : ℕ → DviKind → DviBad
fault_at at kind = record { at = at; kind = kind }

-- The fill at a place, of which so many bytes stand before: each byte is 223, there are at least
-- four, and the file's length is a multiple of four.
unfoldable pub filled : {A : Type 0} → A → ℕ → ℕ → List ℕ → Result A DviBad
filled s at count [] =
    if nat_le 4 count && nat_eq (at % 4) 0 then Ok s else Err (fault_at at kinds.Postamble)
filled s at count (b ∷ bs) =
    if nat_eq b 223 then filled s (at + 1) (count + 1) bs else Err (fault_at at kinds.Postamble)

-- the fill from a place on
abbrev pub fill_checked : ℕ → List ℕ → Result (Unit {0}) DviBad
fill_checked at bytes = filled {A = Unit {0}} tt at 0 bytes

abbrev pub placed_at : {A : Type 0} → ℕ → Result A DviKind → Result A DviBad
placed_at at (Ok s) = Ok s
placed_at at (Err kind) = Err (fault_at at kind)

abbrev pub next_shape : Shape → ℕ → Item → Result Shape DviBad
next_shape s at (said cmd) = placed_at at (obeyed s s.phase at cmd)
next_shape s at (bad kind) = Err (fault_at at kind)
next_shape s at (fill bytes) = filled s at 0 bytes

-- how far the structure is right, and the fault that ends it, if one does
pub record Walked : Type 0 where
  pub shape : Shape
  pub fault : Option DviBad

abbrev pub walked_on : Shape → (Shape → Walked) → Result Shape DviBad → Walked
walked_on s walk_on (Ok t) = walk_on t
walked_on s walk_on (Err fault) = record { shape = s; fault = Some fault }

unfoldable pub walk : Shape → List Placed → Walked
walk s [] = record { shape = s; fault = None }
walk s (p ∷ ps) = walked_on s (λ t. walk t ps) (next_shape s p.at p.item)

abbrev pub answer : Shape → Option DviBad → Result Shape DviBad
answer s None = Ok s
answer s (Some fault) = Err fault

abbrev pub walked : List ℕ → Walked
walked bytes = walk start (placed 0 0 bytes)

-- the structure of a file, or its first fault
abbrev pub structure : List ℕ → Result Shape DviBad
structure bytes = answer (walked bytes).shape (walked bytes).fault

-- the whole pages of a prefix of a file: those whose eop is in it
abbrev pub whole_sheets : List ℕ → List Sheet
whole_sheets bytes = (walked bytes).shape.sheets

-- the definitions of fonts in a file, in the order of the first of each number, or the first fault
-- of its structure
abbrev pub file_fonts : List ℕ → Result (List FontDef) DviBad
file_fonts bytes = structure bytes >>= λ s. Ok s.fonts
