-- Bytes that were put, and the commands that they say.
use Rattle.std.specs.Prelude.{◌≡◌, ℕ, ◌*◌, ◌<◌, ◌≤◌, List, [], ◌∷◌, ◌++◌, length, true, false}
use Rattle.dvi_commands.specs.Commands.{Command}
use Rattle.dvi_commands.specs.Spelling.{Spells}
use Rattle.box_marks.specs.declared.placed.Piece.{Piece}
use Rattle.box_marks.specs.declared.placed.Piece.TheVariants.{Glyph, Rule}
use Rattle.box_marks.specs.declared.placed.Placed.{Placed}
use Rattle.box_marks.specs.Bounds.{IsSoundPiece}
use Rattle.dvi_writer.specs.declared.fault.WriteFault.{WriteFault}
use Rattle.dvi_writer.specs.declared.fault.WriteFault.TheVariants.{PagesFull, JobTooLarge, PlaceRange, NoMemory}
use Rattle.dvi_writer.specs.declared.pen.Pen.{Pen}
use Rattle.dvi_writer.specs.Saying.{all_said, all_after, all_fit, IsInReach}

-- the bytes that came say these commands, of at most nine bytes each
pub record Wrote (old new : List ℕ) (cs : List Command) : Type 0 where
  pub more : List ℕ
  pub is : new ≡ old ++ more
  pub spelt : Spells more cs
  pub few : length more ≤ 9 * length cs

-- the number of a font has one byte
abbrev pub HasByte : Piece → Type 0
HasByte (Glyph font code width) = font.0 < 256
HasByte (Rule height width) = Unit {0}

abbrev pub AreSound : List Placed → Type 0
AreSound [] = Unit {0}
AreSound (p ∷ ps) = IsSoundPiece p.piece × (HasByte p.piece × AreSound ps)

-- the pen wrote these glyphs and rules
pub record Writes (old new : Pen) (ps : List Placed) : Type 0 where
  pub wrote : Wrote old.out.items new.out.items (all_said old.hand ps)
  pub hand : new.hand ≡ all_after old.hand ps
  pub fit : all_fit ps ≡ true
  pub sound : AreSound ps
  pub near : IsInReach new.hand.at

-- why they weren't written
abbrev pub Refuses : WriteFault → List Placed → Type 0
Refuses PagesFull ps = ⊥
Refuses JobTooLarge ps = ⊥
Refuses PlaceRange ps = all_fit ps ≡ false
Refuses NoMemory ps = Unit {0}
