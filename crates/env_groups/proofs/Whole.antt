-- An Env stays whole.
use Rattle.std.proofs.Common.{◌≡◌, ℕ, ◌+◌, ◌<◌, ◌≤◌, List, [], ◌∷◌, ◌++◌, length, Option, Bool, true, false, refl, ap, ◌∙◌, arith}
use Rattle.std.proofs.lemmas.List.{length-map, length_push}
use Rattle.box_tree.specs.declared.item.FontNo.{FontNo}
use Rattle.box_tree.specs.Trees.{BoxTree}
use Rattle.layered_tables.specs.Tables.{Table, with_set, with_replaced}
use Rattle.layered_tables.proofs.Values.{have_set, have_more}
use Rattle.env_groups.specs.declared.font.FontFacts.{FontFacts}
use Rattle.env_groups.specs.declared.meaning.Meaning.{Meaning}
use Rattle.env_groups.specs.declared.meaning.Meaning.TheVariants.{Undefined, Primitive, Macro, Letter, Code, Count, Dimen, Skip, Toks, Font}
use Rattle.env_groups.specs.declared.env.Env.TheInside.{Inside}
use Rattle.env_groups.specs.Macros.{IsMeaning, IsAdded}
use Rattle.env_groups.specs.Environments.{most_fonts}
use Rattle.env_groups.specs.Inside.{IsWhole}
use Rattle.env_groups.proofs.Rows.{length-from}

length-set : {X : Type 0} (n : ℕ) (value : X) (b : Bool) (ts : List (Table X)) → length (with_set n value b ts) ≡ length ts
length-set n value true ts = length-map ts _
length-set n value false [] = refl
length-set n value false (t ∷ ts) = refl

-- where a box is exchanged
pub whole_boxes : (e : Inside) (place : ℕ) (value : Option BoxTree) (new : List (Table (Option BoxTree))) → new ≡ with_replaced place value e.boxes
    → IsWhole e → IsWhole (record e { boxes = new })
whole_boxes e place value new is w = record {
  tall = record {
    ints = w.tall.ints;
    dims = w.tall.dims;
    glues = w.tall.glues;
    toks = w.tall.toks;
    boxes = ap length is ∙ length-from _ _ _ ∙ w.tall.boxes;
    cats = w.tall.cats;
    kinds = w.tall.kinds;
    spacings = w.tall.spacings;
    penalties = w.tall.penalties;
    meanings = w.tall.meanings;
    selected = w.tall.selected;
  };
  few_groups = w.few_groups;
  few_fonts = w.few_fonts;
  meanings = w.meanings;
  selected = w.selected;
}

-- where a meaning is set
pub whole_meanings : (e : Inside) (place : ℕ) (value : Meaning) (b : Bool) (new : List (Table Meaning)) → new ≡ with_set place value b e.meanings
    → IsMeaning (length e.fonts) value → IsWhole e → IsWhole (record e { meanings = new })
whole_meanings e place value b new is of w = record {
  tall = record {
    ints = w.tall.ints;
    dims = w.tall.dims;
    glues = w.tall.glues;
    toks = w.tall.toks;
    boxes = w.tall.boxes;
    cats = w.tall.cats;
    kinds = w.tall.kinds;
    spacings = w.tall.spacings;
    penalties = w.tall.penalties;
    meanings = ap length is ∙ length-set place value b e.meanings ∙ w.tall.meanings;
    selected = w.tall.selected;
  };
  few_groups = w.few_groups;
  few_fonts = w.few_fonts;
  meanings = rw is (have_set (IsMeaning (length e.fonts)) place value b e.meanings of w.meanings);
  selected = w.selected;
}

-- where a font is selected
pub whole_selected : (e : Inside) (place : ℕ) (value : FontNo) (b : Bool) (new : List (Table FontNo)) → new ≡ with_set place value b e.selected
    → IsAdded (length e.fonts) value → IsWhole e → IsWhole (record e { selected = new })
whole_selected e place value b new is of w = record {
  tall = record {
    ints = w.tall.ints;
    dims = w.tall.dims;
    glues = w.tall.glues;
    toks = w.tall.toks;
    boxes = w.tall.boxes;
    cats = w.tall.cats;
    kinds = w.tall.kinds;
    spacings = w.tall.spacings;
    penalties = w.tall.penalties;
    meanings = w.tall.meanings;
    selected = ap length is ∙ length-set place value b e.selected ∙ w.tall.selected;
  };
  few_groups = w.few_groups;
  few_fonts = w.few_fonts;
  meanings = w.meanings;
  selected = rw is (have_set (IsAdded (length e.fonts)) place value b e.selected of w.selected);
}

-- what was added is so among more fonts
more_meaning : (m n : ℕ) → m ≤ n → (x : Meaning) → IsMeaning m x → IsMeaning n x
more_meaning m n more Undefined of = tt
more_meaning m n more (Primitive prim) of = tt
more_meaning m n more (Macro d) of = of
more_meaning m n more (Letter token) of = tt
more_meaning m n more (Code code) of = tt
more_meaning m n more (Count register) of = tt
more_meaning m n more (Dimen register) of = tt
more_meaning m n more (Skip register) of = tt
more_meaning m n more (Toks register) of = tt
more_meaning m n more (Font font) of = omega arith

more_added : (m n : ℕ) → m ≤ n → (x : FontNo) → IsAdded m x → IsAdded n x
more_added m n more font of = omega arith

-- where a font is added
pub whole_fonts : (e : Inside) (facts : FontFacts) (new : List FontFacts) → new ≡ e.fonts ++ facts ∷ [] → length e.fonts < most_fonts
    → IsWhole e → IsWhole (record e { fonts = new })
whole_fonts e facts new is few w =
    let longer : length new ≡ length e.fonts + 1 = ap length is ∙ length_push e.fonts facts in
    let more : length e.fonts ≤ length new = omega arith in
    record {
      tall = w.tall;
      few_groups = w.few_groups;
      few_fonts = omega arith;
      meanings = have_more (IsMeaning (length e.fonts)) (IsMeaning (length new)) e.meanings (more_meaning _ _ more) w.meanings;
      selected = have_more (IsAdded (length e.fonts)) (IsAdded (length new)) e.selected (more_added _ _ more) w.selected;
    }
