-- How much a page adds to what is kept.
use Rattle.std.proofs.Common.{◌≡◌, ℕ, ◌+◌, ◌*◌, ◌^◌, ◌<◌, ◌≤◌, List, [], ◌∷◌, ◌++◌, length, drop, refl, ap, ◌∙◌, arith, ℤ, pos, true, false, Bool, Option, None, length-append, length-drop, subst, if◌then◌else◌}
use Rattle.std.specs.Prelude.{◌-ℤ◌, nat_eq, All}
use Rattle.std.specs.List.{flat_map, AllByRecursion}
use Rattle.std.specs.Ordering.{int_eq}
use Rattle.std.proofs.lemmas.Bool.Decides.{nat_tests}
use Rattle.std.proofs.lemmas.List.Concat.{flat_map-cons}
use Rattle.std.proofs.lemmas.List.Elements.{recursion_from_All, All-drop}
use Rattle.std.proofs.lemmas.Int.{ints}
use Rattle.ts_geometry.specs.declared.direction.Dir.{Dir}
use Rattle.ts_geometry.specs.declared.direction.Dir.TheVariants.{Yoko, Tate, Dtou}
use Rattle.ts_geometry.specs.declared.measure.Measures.{Measures}
use Rattle.ts_geometry.specs.Directions.{rect}
use Rattle.ts_geometry.specs.Numbers.{IsWithin}
use Rattle.box_tree.specs.Bounds.{HasDimens}
use Rattle.box_tree.specs.declared.item.FontNo.{FontNo}
use Rattle.box_tree.specs.Trees.{BoxTree}
use Rattle.box_tree.specs.Weights.{weight}
use Rattle.box_marks.specs.declared.placed.Piece.{Piece}
use Rattle.box_marks.specs.declared.placed.Piece.TheVariants.{Glyph, Rule}
use Rattle.box_marks.specs.declared.placed.Placed.{Placed}
use Rattle.box_marks.specs.Laws.{FewArePlaced}
use Rattle.box_marks.specs.Marks.{corner, page_placed, page_point}
use Rattle.dvi_commands.specs.Commands as c
use Rattle.dvi_commands.specs.Commands.{Command}
use Rattle.dvi_commands.specs.declared.font.FontDef.{FontDef}
use Rattle.dvi_commands.specs.Fields.{signed_bytes}
use Rattle.dvi_structure.specs.Structure.{is_sound_font}
use Rattle.dvi_writer.specs.declared.hand.Hand.{Hand}
use Rattle.dvi_writer.specs.declared.kept.Kept.{Kept}
use Rattle.dvi_writer.specs.Keeping.{IsBounded, limit_of, start_kept, kept_after}
use Rattle.dvi_writer.specs.Pages.{IsPage}
use Rattle.dvi_writer.specs.Saying.{start_hand, same_dir, along, across, turn_said, right_said, down_said, is_chosen, font_said, piece_said, said, after, all_said}
use Rattle.dvi_writer.specs.Written.{preamble_bytes, unit_bytes, bop_bytes, definition_bytes, definitions_bytes, opening_bytes, front_bytes, end_bytes}
use Rattle.dvi_structure.specs.Structure.{start}
use Rattle.dvi_code.specs.Pages.{pages_of}
use Rattle.dvi_writer.specs.Reading.{StandsFor}
use Rattle.dvi_writer.specs.Tables.{known}
use Rattle.dvi_writer.proofs.Leading.{IsSoundFont, leads_none}
use Rattle.dvi_writer.proofs.Pages.{known_few, known_sound}

pub high : (m : Measures) (dir : Dir) → HasDimens m → IsWithin (2 ^ 31) ((rect m corner dir).bottom.0 -ℤ (rect m corner dir).top.0)
high m Yoko d = (omega (arith, ints, d.ht, d.dp), omega (arith, ints, d.ht, d.dp))
high m Tate d = (omega (arith, ints, d.wd), omega (arith, ints, d.wd))
high m Dtou d = (omega (arith, ints, d.wd), omega (arith, ints, d.wd))

pub wide : (m : Measures) (dir : Dir) → HasDimens m → IsWithin (2 ^ 31) ((rect m corner dir).right.0 -ℤ (rect m corner dir).left.0)
wide m Yoko d = (omega (arith, ints, d.wd), omega (arith, ints, d.wd))
wide m Tate d = (omega (arith, ints, d.ht, d.dp), omega (arith, ints, d.ht, d.dp))
wide m Dtou d = (omega (arith, ints, d.ht, d.dp), omega (arith, ints, d.ht, d.dp))

-- ---- lengths

turn_few : (same : Bool) (to : Dir) → length (turn_said same to) ≤ 1
turn_few true to = omega arith
turn_few false to = omega arith

right_few : (n : ℤ) (none : Bool) → length (if none then [] else c.right n ∷ []) ≤ 1
right_few n true = omega arith
right_few n false = omega arith

down_few : (n : ℤ) (none : Bool) → length (if none then [] else c.down n ∷ []) ≤ 1
down_few n true = omega arith
down_few n false = omega arith

font_few : (chosen : Bool) (font : FontNo) (code : ℕ) → length (font_said chosen font ++ c.set code ∷ []) ≤ 2
font_few true font code = omega arith
font_few false font code = omega arith

piece_few : (from : Option FontNo) (piece : Piece) → length (piece_said from piece) ≤ 2
piece_few from (Glyph font code width) = font_few (is_chosen from font) font code
piece_few from (Rule height width) = omega arith

said_few : (h : Hand) (p : Placed) → length (said h p) ≤ 5
said_few h p =
    let a : List Command = turn_said (same_dir h.dir p.dir) p.dir in
    let b : List Command = right_said (along p.dir h.at p.at) in
    let d : List Command = down_said (across p.dir h.at p.at) in
    let e : List Command = piece_said h.font p.piece in
    omega (
      arith,
      length-append a (b ++ (d ++ e)),
      length-append b (d ++ e),
      length-append d e,
      turn_few (same_dir h.dir p.dir) p.dir,
      right_few (along p.dir h.at p.at) (int_eq (along p.dir h.at p.at) (pos 0)),
      down_few (across p.dir h.at p.at) (int_eq (across p.dir h.at p.at) (pos 0)),
      piece_few h.font p.piece,
    )

all_few : (h : Hand) (ps : List Placed) → length (all_said h ps) ≤ 5 * length ps
all_few h [] = omega arith
all_few h (p ∷ ps) = omega (arith, length-append (said h p) (all_said (after h p) ps), said_few h p, all_few (after h p) ps)

counts_long : (zs : List ℤ) → length (flat_map signed_bytes zs) ≡ 4 * length zs
counts_long [] = refl
counts_long (z ∷ zs) =
    let long : length (flat_map signed_bytes (z ∷ zs)) ≡ length (signed_bytes z) + length (flat_map signed_bytes zs) = ap length (flat_map-cons signed_bytes z zs) ∙ length-append (signed_bytes z) (flat_map signed_bytes zs) in
    let others = counts_long zs in
    omega arith

bop_long : (zs : List ℤ) (back : ℤ) → length zs ≡ 10 → length (bop_bytes zs back) ≡ 45
unfolding bop_bytes
bop_long zs back ten = omega (arith, ten, counts_long zs, length-append (flat_map signed_bytes zs) (signed_bytes back))

short_name : (f : FontDef) → is_sound_font f ≡ true → length f.name ≤ 255
unfolding is_sound_font
short_name f sound = grind (arith, nat_tests)

definition_few : (n : ℕ) (f : FontDef) → is_sound_font f ≡ true → length (definition_bytes n f) ≤ 271
unfolding definition_bytes
definition_few n f sound = omega (arith, short_name f sound)

definitions_few : (n : ℕ) (fs : List FontDef) → AllByRecursion IsSoundFont fs → length (definitions_bytes n fs) ≤ 271 * length fs
definitions_few n [] sound = omega arith
definitions_few n (f ∷ fs) sound = omega (arith, length-append (definition_bytes n f) (definitions_bytes (n + 1) fs), definition_few n f sound.0, definitions_few (n + 1) fs sound.1)

opening_few : (first : Bool) → length (if first then preamble_bytes else []) ≤ 15
unfolding preamble_bytes unit_bytes
opening_few true = omega arith
opening_few false = omega arith

pub page_few : (k : Kept) (defined : ℕ) (b : BoxTree) (zs : List ℤ) (table : List FontDef) (out : List ℕ) (turned : Bool) → IsPage k defined b zs table out turned → FewArePlaced
    → All IsSoundFont table → length zs ≡ 10 → defined ≤ length table → length out + 271 * defined ≤ 61 + 271 * length table + 45 * weight b
unfolding front_bytes
page_few k defined b zs table out turned page few sound ten there =
    let o : List ℕ = opening_bytes k in
    let p : List ℕ = bop_bytes zs k.last in
    let rest : List FontDef = drop defined table in
    let d : List ℕ = definitions_bytes defined rest in
    let r_sound = recursion_from_All IsSoundFont rest (All-drop IsSoundFont defined table sound) in
    let marked = few b (page_point b) in
    let said_is = all_few start_hand (page_placed b) in
    let long : length out ≡ length (((o ++ p) ++ d) ++ page.body) + 1 = ap length page.is ∙ length-append (((o ++ p) ++ d) ++ page.body) (140 ∷ []) in
    let body = page.few in
    let o_few = opening_few (nat_eq k.pages 0) in
    let p_long = bop_long zs k.last ten in
    let d_few = definitions_few defined rest r_sound in
    let rest_long = length-drop defined table in
    omega (arith, length-append ((o ++ p) ++ d) page.body, length-append (o ++ p) d, length-append o p)

pub bounded_after : (k : Kept) (fonts : List FontDef) (b : BoxTree) (zs : List ℤ) (table : List FontDef) (out : List ℕ) (turned : Bool) → IsPage k (length fonts) b zs table out turned → FewArePlaced
    → All IsSoundFont table → length zs ≡ 10 → length fonts ≤ length table → length table ≤ 256 → IsBounded k (length fonts) → k.pages < 65535 → k.weight + weight b ≤ 20000000
    → IsBounded (kept_after k b (length out) turned) (length table)
bounded_after k fonts b zs table out turned page few sound ten there small bounds pages light =
    let long = page_few k (length fonts) b zs table out turned page few sound ten there in
    let given = bounds.given in
    record { given = omega arith; pages = omega arith; weight = light; few = small }

pub bounded_short : (k : Kept) (fonts : ℕ) → IsBounded k fonts → k.given + 15 < 2 ^ 31
bounded_short k fonts b =
    let given = b.given in
    let pages = b.pages in
    let weight = b.weight in
    let few = b.few in
    omega arith

-- ---- a page of the writer

within : (pages weight_so_far : ℕ) (b : BoxTree) → limit_of pages weight_so_far b ≡ None → pages ≤ 65535 → (pages < 65535) × (weight_so_far + weight b ≤ 20000000)
within pages weight_so_far b e most = (grind arith, grind arith)

pub writer_bounded : (k : Kept) (fonts full more table copies : List FontDef) (defined len : ℕ) (b : BoxTree) (zs : List ℤ) (out : List ℕ) (turned : Bool) → IsPage k defined b zs table out turned
    → defined ≡ length fonts → table ≡ known full → copies ≡ table → len ≡ length out → FewArePlaced → All IsSoundFont full → length zs ≡ 10 → known full ≡ fonts ++ more → IsBounded k (length fonts)
    → limit_of k.pages k.weight b ≡ None → IsBounded (kept_after k b len turned) (length copies)
writer_bounded k fonts full more table copies defined len b zs out turned page is_defined is_table is_copies is_len few sound ten begins bounds free =
    let ins = within k.pages k.weight b free bounds.pages in
    let here : IsPage k (length fonts) b zs (known full) out turned = subst (λ (t : List FontDef). IsPage k (length fonts) b zs t out turned) is_table (subst (λ (n : ℕ). IsPage k n b zs table out turned) is_defined page) in
    let there : length fonts ≤ length (known full) = omega (arith, ap length begins, length-append fonts more) in
    let after = bounded_after k fonts b zs (known full) out turned here few (known_sound full sound) ten there (known_few full) bounds ins.0 ins.1 in
    rw (is_copies, is_table, is_len) after

pub end_none : (k : Kept) (fonts : List FontDef) → k.pages ≡ 0 → end_bytes k fonts ≡ []
unfolding end_bytes
end_none k fonts e = rw e refl

pub stands_new : StandsFor start_kept [] [] []
unfolding pages_of
stands_new = record {
  sheets = [];
  len = refl;
  count = refl;
  asked = refl;
  leads = leads_none 0 start;
  reads = λ widths given. refl;
  turned = refl;
  fresh = λ e. record { given = refl; last = refl; none = refl };
}
