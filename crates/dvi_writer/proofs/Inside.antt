-- The commands that are said of glyphs and rules are right within a page.
use Rattle.std.proofs.Common.{◌≡◌, ℕ, List, [], ◌∷◌, ◌++◌, refl, sym, ap, ◌∙◌, ℤ, pos, Bool, true, false, Option, Some, None, Ok, if◌then◌else◌}
use Rattle.std.specs.Prelude.{◌||◌, not}
use Rattle.std.specs.Ordering.{int_eq}
use Rattle.ts_geometry.specs.declared.direction.Dir.{Dir}
use Rattle.ts_geometry.specs.declared.direction.Dir.TheVariants.{Yoko, Tate, Dtou}
use Rattle.box_tree.specs.declared.item.FontNo.{FontNo}
use Rattle.box_marks.specs.declared.placed.Piece.{Piece}
use Rattle.box_marks.specs.declared.placed.Piece.TheVariants.{Glyph, Rule}
use Rattle.box_marks.specs.declared.placed.Placed.{Placed}
use Rattle.dvi_commands.specs.declared.font.FontDef.{FontDef}
use Rattle.dvi_commands.specs.Commands as c
use Rattle.dvi_commands.specs.Commands.{Command}
use Rattle.dvi_structure.specs.Structure.{font_of, Inside, inside}
use Rattle.dvi_code.specs.Laws.{BodiesJoin}
use Rattle.dvi_code.specs.Reading.{all_inside}
use Rattle.dvi_writer.specs.declared.hand.Hand.{Hand}
use Rattle.dvi_writer.specs.Saying.{same_dir, along, across, turn_said, right_said, down_said, is_chosen, font_said, piece_said, said, font_after, after, all_said, all_after}
use Rattle.dvi_writer.specs.Reading.{is_turn, has_turn}

abbrev is_some : Option FontNo → Bool
is_some None = false
is_some (Some font) = true

-- nothing is pushed, and a font is chosen where writing has chosen one
abbrev pub inside_of : Hand → Inside
inside_of h = record { depth = 0; chosen = is_some h.font }

abbrev at_depth_0 : Option FontNo → Inside
at_depth_0 font = record { depth = 0; chosen = is_some font }

abbrev pub IsThere : List FontDef → Piece → Type 0
IsThere fonts (Glyph font code width) = (f : FontDef) × (font_of fonts (pos font.0) ≡ Some f)
IsThere fonts (Rule height width) = Unit {0}

abbrev pub AllThere : List FontDef → List Placed → Type 0
AllThere fonts [] = Unit {0}
AllThere fonts (p ∷ ps) = IsThere fonts p.piece × AllThere fonts ps

module _ (join : BodiesJoin) (fonts : List FontDef) where
  turn_inside : (i : Inside) (same : Bool) (to : Dir) → all_inside fonts i (turn_said same to) ≡ Ok i
  unfolding inside
  turn_inside i true to = refl
  turn_inside i false Yoko = refl
  turn_inside i false Tate = refl
  turn_inside i false Dtou = refl

  right_inside : (i : Inside) (n : ℤ) (none : Bool) → all_inside fonts i (if none then [] else c.right n ∷ []) ≡ Ok i
  unfolding inside
  right_inside i n true = refl
  right_inside i n false = refl

  down_inside : (i : Inside) (n : ℤ) (none : Bool) → all_inside fonts i (if none then [] else c.down n ∷ []) ≡ Ok i
  unfolding inside
  down_inside i n true = refl
  down_inside i n false = refl

  font_inside : (from : FontNo) (font : FontNo) (chosen : Bool) (f : FontDef) → font_of fonts (pos font.0) ≡ Some f
      → all_inside fonts (at_depth_0 (Some from)) (font_said chosen font) ≡ Ok (at_depth_0 (Some font))
  unfolding inside
  font_inside from font true f e = refl
  font_inside from font false f e = rw e refl

  piece_inside : (from : Option FontNo) (piece : Piece) → IsThere fonts piece → all_inside fonts (at_depth_0 from) (piece_said from piece) ≡ Ok (at_depth_0 (font_after from piece))
  unfolding inside
  piece_inside None (Glyph font code width) there = rw there.1 refl
  piece_inside (Some from) (Glyph font code width) there =
      join fonts (font_said (is_chosen (Some from) font) font) (c.set code ∷ []) _ _ _ (font_inside from font (is_chosen (Some from) font) there.0 there.1) refl
  piece_inside from (Rule height width) there = refl

  said_inside : (h : Hand) (p : Placed) → IsThere fonts p.piece → all_inside fonts (inside_of h) (said h p) ≡ Ok (inside_of (after h p))
  said_inside h p there =
      let i : Inside = inside_of h in
      join fonts (turn_said (same_dir h.dir p.dir) p.dir) _ i i _ (turn_inside i (same_dir h.dir p.dir) p.dir)
      (join fonts (right_said (along p.dir h.at p.at)) _ i i _ (right_inside i (along p.dir h.at p.at) (int_eq (along p.dir h.at p.at) (pos 0)))
      (join fonts (down_said (across p.dir h.at p.at)) (piece_said h.font p.piece) i i _ (down_inside i (across p.dir h.at p.at) (int_eq (across p.dir h.at p.at) (pos 0)))
      (piece_inside h.font p.piece there)))

  pub all_said_inside : (h : Hand) (ps : List Placed) → AllThere fonts ps → all_inside fonts (inside_of h) (all_said h ps) ≡ Ok (inside_of (all_after h ps))
  all_said_inside h [] there = refl
  all_said_inside h (p ∷ ps) there = join fonts (said h p) (all_said (after h p) ps) _ _ _ (said_inside h p there.0) (all_said_inside (after h p) ps there.1)

-- ---- turns

or_assoc : (a b c : Bool) → ((a || b) || c) ≡ (a || (b || c))
or_assoc true b c = refl
or_assoc false b c = refl

or_false : (a : Bool) → (a || false) ≡ a
or_false true = refl
or_false false = refl

turn_join : (cs ds : List Command) → has_turn (cs ++ ds) ≡ (has_turn cs || has_turn ds)
turn_join [] ds = refl
turn_join (cmd ∷ cs) ds = ap (λ (b : Bool). is_turn cmd || b) (turn_join cs ds) ∙ sym (or_assoc (is_turn cmd) (has_turn cs) (has_turn ds))

turn_turns : (same : Bool) (to : Dir) → has_turn (turn_said same to) ≡ not same
turn_turns true to = refl
turn_turns false to = refl

right_turns : (n : ℤ) (none : Bool) → has_turn (if none then [] else c.right n ∷ []) ≡ false
right_turns n true = refl
right_turns n false = refl

down_turns : (n : ℤ) (none : Bool) → has_turn (if none then [] else c.down n ∷ []) ≡ false
down_turns n true = refl
down_turns n false = refl

font_turns : (chosen : Bool) (font : FontNo) (code : ℕ) → has_turn (font_said chosen font ++ c.set code ∷ []) ≡ false
font_turns true font code = refl
font_turns false font code = refl

piece_turns : (from : Option FontNo) (piece : Piece) → has_turn (piece_said from piece) ≡ false
piece_turns from (Glyph font code width) = font_turns (is_chosen from font) font code
piece_turns from (Rule height width) = refl

said_turns : (h : Hand) (p : Placed) → has_turn (said h p) ≡ not (same_dir h.dir p.dir)
said_turns h p =
    let a : List Command = turn_said (same_dir h.dir p.dir) p.dir in
    let b : List Command = right_said (along p.dir h.at p.at) in
    let d : List Command = down_said (across p.dir h.at p.at) in
    let e : List Command = piece_said h.font p.piece in
    let b_none : has_turn b ≡ false = right_turns (along p.dir h.at p.at) (int_eq (along p.dir h.at p.at) (pos 0)) in
    let d_none : has_turn d ≡ false = down_turns (across p.dir h.at p.at) (int_eq (across p.dir h.at p.at) (pos 0)) in
    let e_none : has_turn e ≡ false = piece_turns h.font p.piece in
    let rest : has_turn (b ++ (d ++ e)) ≡ false = turn_join b (d ++ e) ∙ ap (λ (t : Bool). t || has_turn (d ++ e)) b_none ∙ turn_join d e ∙ ap (λ (t : Bool). t || has_turn e) d_none ∙ e_none in
    turn_join a (b ++ (d ++ e)) ∙ ap (λ (t : Bool). has_turn a || t) rest ∙ or_false (has_turn a) ∙ turn_turns (same_dir h.dir p.dir) p.dir

pub all_turns : (h : Hand) (ps : List Placed) → (h.turned || has_turn (all_said h ps)) ≡ (all_after h ps).turned
all_turns h [] = or_false h.turned
all_turns h (p ∷ ps) =
    ap (λ (t : Bool). h.turned || t) (turn_join (said h p) (all_said (after h p) ps) ∙ ap (λ (t : Bool). t || has_turn (all_said (after h p) ps)) (said_turns h p))
    ∙ sym (or_assoc h.turned (not (same_dir h.dir p.dir)) (has_turn (all_said (after h p) ps))) ∙ all_turns (after h p) ps
