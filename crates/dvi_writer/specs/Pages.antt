-- A page that is written.
use Rattle.std.specs.Prelude.{◌≡◌, ℕ, ◌*◌, ◌≤◌, List, [], ◌∷◌, ◌++◌, length, drop, ℤ, All, Bool, true}
use Rattle.std.specs.Int.{w32}
use Rattle.std.specs.Int.RustNames.{FitsSigned}
use Rattle.dvi_commands.specs.declared.font.FontDef.{FontDef}
use Rattle.dvi_commands.specs.Spelling.{Spells}
use Rattle.box_tree.specs.Trees.{BoxTree}
use Rattle.box_marks.specs.Marks.{page_placed}
use Rattle.dvi_writer.specs.declared.kept.Kept.{Kept}
use Rattle.dvi_writer.specs.Saying.{start_hand, all_said, all_after, all_fit}
use Rattle.dvi_writer.specs.Written.{HasNumbers, front_bytes}
use Rattle.dvi_writer.specs.Wrote.{AreSound}

-- The bytes begin a page of these counts with the fonts of a table that come after the first so
-- many, say what the box marks, and end the page.
pub record IsPage (k : Kept) (defined : ℕ) (b : BoxTree) (counts : List ℤ) (table : List FontDef)
    (out : List ℕ) (turned : Bool) : Type 0 where
  pub body : List ℕ
  pub is : out ≡ (front_bytes k counts defined table ++ body) ++ 140 ∷ []
  pub spelt : Spells body (all_said start_hand (page_placed b))
  pub few : length body ≤ 9 * length (all_said start_hand (page_placed b))
  pub fit : all_fit (page_placed b) ≡ true
  pub sound : AreSound (page_placed b)
  pub turn : turned ≡ (all_after start_hand (page_placed b)).turned
  pub numbers : All HasNumbers (drop defined table)
  pub counts_fit : All (FitsSigned w32) counts
  pub last_fits : FitsSigned w32 k.last
