-- Where reading stands after bytes, whatever follows them. So a file can be read piece by piece.
use Rattle.std.specs.Prelude.{◌≡◌, ℕ, ◌+◌, List, [], ◌∷◌, ◌++◌, length, Result, Ok, ℤ}
use Rattle.ts_base.specs.Agreement.{◌>>=◌}
use Rattle.dvi_commands.specs.declared.fault.DviKind.{DviKind}
use Rattle.dvi_commands.specs.declared.font.FontDef.{FontDef}
use Rattle.dvi_commands.specs.Commands.{Command}
use Rattle.dvi_structure.specs.Places.{placed}
use Rattle.dvi_structure.specs.Structure.{Shape, walk, Inside, inside, within}
use Rattle.dvi_code.specs.Pages.{Widths, Pen, all_drawn}

-- From the structure s at a place the bytes lead to t, whatever follows them.
pub record Leads (at : ℕ) (s : Shape) (bytes : List ℕ) (t : Shape) : Type 0 where
  pub on : (more : List ℕ) → walk s (placed at 0 (bytes ++ more))
      ≡ walk t (placed (at + length bytes) 0 more)

-- the commands of a page one after the other, wherever the page stands
abbrev pub all_inside : List FontDef → Inside → List Command → Result Inside DviKind
all_inside fonts i [] = Ok i
all_inside fonts i (c ∷ cs) = inside fonts i c >>= λ j. all_inside fonts j cs

-- The commands take the pen from p to q.
pub record Draws (widths : Widths) (fonts : List FontDef) (p : Pen) (cs : List Command)
    (q : Pen) : Type 0 where
  pub on : (before : ℕ) → all_drawn widths fonts before p cs ≡ Ok q

-- a structure within a page
abbrev pub paged : Shape → List ℤ → List Command → List ℕ → Inside → Shape
paged s counts body places i = record {
  last = s.last;
  fonts = s.fonts;
  sheets = s.sheets;
  phase = within counts body places i;
}
