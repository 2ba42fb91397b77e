-- The commands that mark glyphs and rules one after the other, each under its own direction. A
-- movement, a direction or a font that is there already isn't said again.
use Rattle.std.specs.Prelude.{ℕ, ℤ, pos, neg_ℤ, ◌-ℤ◌, int_le, nat_eq, Bool, true, false, not, ◌&&◌, ◌||◌, if◌then◌else◌, Option, Some, None, List, [], ◌∷◌, ◌++◌}
use Rattle.std.specs.Ordering.{int_eq}
use Rattle.ts_geometry.specs.declared.direction.Dir.{Dir}
use Rattle.ts_geometry.specs.declared.direction.Dir.TheVariants.{Yoko, Tate, Dtou}
use Rattle.ts_geometry.specs.declared.measure.Point.{Point}
use Rattle.ts_geometry.specs.declared.measure.Sp.{Sp}
use Rattle.ts_geometry.specs.Directions.{sp, point, step}
use Rattle.ts_geometry.specs.Numbers.{IsWithin}
use Rattle.box_tree.specs.declared.item.FontNo.{FontNo}
use Rattle.box_marks.specs.declared.placed.Piece.{Piece}
use Rattle.box_marks.specs.declared.placed.Piece.TheVariants.{Glyph, Rule}
use Rattle.box_marks.specs.declared.placed.Placed.{Placed}
use Rattle.dvi_commands.specs.Commands as c
use Rattle.dvi_commands.specs.Commands.{Command}
use Rattle.dvi_writer.specs.declared.hand.Hand.{Hand}

abbrev pub start_hand : Hand
start_hand = record { at = point (pos 0) (pos 0); dir = Yoko; font = None; turned = false }

-- ---- movements

abbrev pub same_dir : Dir → Dir → Bool
same_dir Yoko Yoko = true
same_dir Yoko Tate = false
same_dir Yoko Dtou = false
same_dir Tate Yoko = false
same_dir Tate Tate = true
same_dir Tate Dtou = false
same_dir Dtou Yoko = false
same_dir Dtou Tate = false
same_dir Dtou Dtou = true

abbrev pub number_of : Dir → ℕ
number_of Yoko = 0
number_of Tate = 1
number_of Dtou = 3

-- how far q lies from p along a direction and across it
abbrev pub along : Dir → Point → Point → ℤ
along Yoko p q = q.x.0 -ℤ p.x.0
along Tate p q = q.y.0 -ℤ p.y.0
along Dtou p q = p.y.0 -ℤ q.y.0

abbrev pub across : Dir → Point → Point → ℤ
across Yoko p q = q.y.0 -ℤ p.y.0
across Tate p q = p.x.0 -ℤ q.x.0
across Dtou p q = q.x.0 -ℤ p.x.0

-- ---- commands

abbrev pub turn_said : Bool → Dir → List Command
turn_said same to = if same then [] else c.direction (number_of to) ∷ []

abbrev pub right_said : ℤ → List Command
right_said n = if int_eq n (pos 0) then [] else c.right n ∷ []

abbrev pub down_said : ℤ → List Command
down_said n = if int_eq n (pos 0) then [] else c.down n ∷ []

abbrev pub is_chosen : Option FontNo → FontNo → Bool
is_chosen None to = false
is_chosen (Some from) to = nat_eq from.0 to.0

abbrev pub font_said : Bool → FontNo → List Command
font_said chosen to = if chosen then [] else c.font (pos to.0) ∷ []

abbrev pub piece_said : Option FontNo → Piece → List Command
piece_said from (Glyph font code width) = font_said (is_chosen from font) font ++ c.set code ∷ []
piece_said from (Rule height width) = c.set_rule height.0 width.0 ∷ []

-- what is said of a glyph or a rule from where writing stands
abbrev pub said : Hand → Placed → List Command
said h p =
    turn_said (same_dir h.dir p.dir) p.dir ++ (right_said (along p.dir h.at p.at)
    ++ (down_said (across p.dir h.at p.at) ++ piece_said h.font p.piece))

-- ---- where writing stands

abbrev pub width_of : Piece → Sp
width_of (Glyph font code width) = width
width_of (Rule height width) = width

abbrev pub font_after : Option FontNo → Piece → Option FontNo
font_after from (Glyph font code width) = Some font
font_after from (Rule height width) = from

abbrev pub after : Hand → Placed → Hand
after h p = record {
  at = step p.at p.dir (width_of p.piece) (sp (pos 0));
  dir = p.dir;
  font = font_after h.font p.piece;
  turned = h.turned || not (same_dir h.dir p.dir);
}

-- one after the other
abbrev pub all_said : Hand → List Placed → List Command
all_said h [] = []
all_said h (p ∷ ps) = said h p ++ all_said (after h p) ps

abbrev pub all_after : Hand → List Placed → Hand
all_after h [] = h
all_after h (p ∷ ps) = all_after (after h p) ps

-- ---- what can be written

-- the greatest coordinate, 2^29 - 1
abbrev pub most_coordinate : ℕ
most_coordinate = 536870911

abbrev pub is_on_page : Sp → Bool
is_on_page s = int_le (neg_ℤ (pos most_coordinate)) s.0 && int_le s.0 (pos most_coordinate)

-- the greatest measure of a rule, 2^30 - 1
abbrev pub is_short : Piece → Bool
is_short (Glyph font code width) = true
is_short (Rule height width) = int_le height.0 (pos 1073741823) && int_le width.0 (pos 1073741823)

unfoldable pub fits : Placed → Bool
fits p = is_on_page p.at.x && (is_on_page p.at.y && is_short p.piece)

abbrev pub all_fit : List Placed → Bool
all_fit [] = true
all_fit (p ∷ ps) = fits p && all_fit ps

pub record IsOnPage (p : Point) : Type 0 where
  pub x : IsWithin most_coordinate p.x.0
  pub y : IsWithin most_coordinate p.y.0

-- where writing can stand: a width from a point of the page
pub record IsInReach (p : Point) : Type 0 where
  pub x : IsWithin 1610612734 p.x.0
  pub y : IsWithin 1610612734 p.y.0
