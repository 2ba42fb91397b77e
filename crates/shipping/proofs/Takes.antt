-- What a shipper stands for after more bytes are put.
use Rattle.std.proofs.Common.{◌≡◌, ℕ, zero, suc, ◌+◌, ◌-◌, ◌<◌, ◌≤◌, List, [], ◌∷◌, ◌++◌, length, map, take, drop, Bool, true, false, Option, Some, None, option_map, Ok, Err, Result, refl, sym, ap, subst, ◌∙◌, append_assoc, append-nil, arith, length-append, length-take}
use Rattle.std.specs.Prelude.{All, OnErr}
use Rattle.std.proofs.Math.Nat.{sub-zero}
use Rattle.std.proofs.lemmas.List.Sums.{sum_by-append}
use Rattle.std.proofs.lemmas.List.{take-append-le, drop-append-le, take-append-drop}
use Rattle.ts_outside.specs.Gaining.{Gained}
use Rattle.dvi_commands.specs.declared.font.FontDef.{FontDef}
use Rattle.dvi_code.specs.Laws.{WholePagesAreFirst}
use Rattle.dvi_code.specs.Pages.{Widths, file_pages, whole_pages}
use Rattle.box_tree.specs.Weights.{weight}
use Rattle.dvi_writer.specs.declared.fault.WriteFault.{WriteFault}
use Rattle.dvi_writer.specs.declared.writer.Writer.{Writer}
use Rattle.dvi_writer.specs.Laws.{PagesAreWhole}
use Rattle.dvi_writer.specs.Reading.{Asked, HasWidths, page_asked}
use Rattle.dvi_writer.specs.Standing.{Stands, IsNew, Begins, Counted, permitted, page_count, weight_shipped, fonts_so_far, last_bytes}
use Rattle.dvi_writer.specs.Tables.{known}
use Rattle.dvi_writer.specs.Written.{end_bytes}
use Rattle.shipping.specs.Boxes.{BeginsWith, total_weight, last_table, shipped}
use Rattle.shipping.specs.Faults.{of_writer}
use Rattle.shipping.specs.Standing.{held_before, bytes_put, BeginPages, Took, PutsFile, PutsPartly}

begins_same : {A : Type 0} (xs : List A) → BeginsWith xs xs
begins_same xs = ([], sym (append-nil xs))

pub on_refusal : {X E P : Type 0} (r : Result X E) → P → OnErr r P
on_refusal (Ok x) p = tt
on_refusal (Err e) p = p

-- ---- the bytes of the origin, and those that were put

less_put : (h x : List ℕ) (put : ℕ) → length (h ++ x) - (put + length x) ≡ length h - put
less_put h x put = omega (arith, length-append h x)

pub same_before : (held after : Option (List ℕ)) (x : List ℕ) (put : ℕ) → Gained held after x → held_before after (put + length x) ≡ held_before held put
same_before None after x put gained = rw gained refl
same_before (Some h) after x put gained = rw (gained, less_put h x put, take-append-le (length h - put) h x (omega arith)) refl

more_put : (held after : Option (List ℕ)) (x : List ℕ) (put : ℕ) → Gained held after x → bytes_put after (put + length x) ≡ option_map (λ bytes. bytes ++ x) (bytes_put held put)
more_put None after x put gained = rw gained refl
more_put (Some h) after x put gained = rw (gained, less_put h x put, drop-append-le (length h - put) h x (omega arith)) refl

-- bytes that are told after a put were told before it
was_put : (before after : Option (List ℕ)) (x bytes : List ℕ) → after ≡ option_map (λ bytes. bytes ++ x) before → after ≡ Some bytes → (old : List ℕ) × (before ≡ Some old) × (bytes ≡ old ++ x)
was_put None after x bytes is told = let never : ⊥ = cc in absurd never
was_put (Some old) after x bytes is told = (old, refl, cc)

-- what it held at first, what was put then, and what is put now
told_put : (held after : Option (List ℕ)) (put : ℕ) (x first : List ℕ) → Gained held after x → held_before held put ≡ Some first → (old : List ℕ) × (bytes_put held put ≡ Some old) × (after ≡ Some (first ++ (old ++ x)))
told_put None after put x first gained told = let never : ⊥ = cc in absurd never
told_put (Some h) after put x first gained told =
    let n = length h - put in
    let is : take n h ≡ first = cc in
    (drop n h, refl, gained ∙ ap Some (split_put h x n ∙ ap (λ (l : List ℕ). l ++ (drop n h ++ x)) is))
  where
    split_put : (h x : List ℕ) (n : ℕ) → h ++ x ≡ take n h ++ (drop n h ++ x)
    split_put h x n = ap (λ (l : List ℕ). l ++ x) (sym (take-append-drop n h)) ∙ append_assoc (take n h) (drop n h) x

-- ---- a shipper that took no box

pub took_first : (law : PagesAreWhole) (held : Option (List ℕ)) (w : Writer) → IsNew w → Stands w [] [] → Took held w 0 false []
unfolding known
took_first law held w new stands = record {
  pages = λ b. sym new.pages;
  weight = λ b. sym new.weight;
  fonts = λ b. new.fonts;
  none = λ bytes told b e. nothing held bytes told;
  stands = λ bytes told b. subst (λ (l : List ℕ). Stands w [] l) (sym (nothing held bytes told)) stands;
  partly = λ bytes told widths given. ([], ap (λ (l : List ℕ). whole_pages widths l) (nothing held bytes told) ∙ law w [] [] widths stands given, begins_same []);
}
  where
    drop_all : (h : List ℕ) → drop (length h) h ≡ []
    drop_all [] = refl
    drop_all (b ∷ h) = drop_all h

    nothing : (held : Option (List ℕ)) (bytes : List ℕ) → bytes_put held 0 ≡ Some bytes → bytes ≡ []
    nothing None bytes told = let never : ⊥ = cc in absurd never
    nothing (Some h) bytes told = let e : drop (length h - 0) h ≡ bytes = cc in sym e ∙ rw (sub-zero (length h)) (drop_all h)

-- ---- a box more

take_begins : {A : Type 0} (n : ℕ) (xs ys : List A) → BeginsWith (take n (xs ++ ys)) (take n xs)
take_begins zero xs ys = ([], refl)
take_begins (suc n) [] ys = (take (suc n) ys, refl)
take_begins (suc n) (x ∷ xs) ys = let rest = take_begins n xs ys in (rest.0, ap (λ (l : List _). x ∷ l) rest.1)

-- A table that begins with that of the box before begins with what the writer knows.
pub table_begins : (fonts table : List FontDef) (w : Writer) → fonts_so_far w ≡ known table → BeginsWith fonts table → Begins fonts w
unfolding known
table_begins fonts table w same begins =
    let rest = take_begins 256 table begins.0 in
    (rest.0, ap (λ (l : List FontDef). known l) begins.1 ∙ rest.1 ∙ ap (λ (l : List FontDef). l ++ rest.0) (sym same))

pub last_is : (boxes : List Asked) (a : Asked) → last_table (boxes ++ a ∷ []) ≡ a.fonts
last_is [] a = refl
last_is (b ∷ []) a = refl
last_is (b ∷ (c ∷ boxes)) a = last_is (c ∷ boxes) a

pub shipped_whole : (w : Writer) (boxes : List Asked) (a : Asked) → length boxes ≡ page_count w → total_weight boxes ≡ weight_shipped w → permitted w a.node ≡ Ok tt → shipped boxes a ≡ Ok (boxes ++ a ∷ [])
shipped_whole w boxes a count heavy may = rw (count, heavy) (rw may refl)

pub shipped_not : (w : Writer) (boxes : List Asked) (a : Asked) (fault : WriteFault) → length boxes ≡ page_count w → total_weight boxes ≡ weight_shipped w → permitted w a.node ≡ Err fault → shipped boxes a ≡ Err (of_writer fault)
shipped_not w boxes a fault count heavy may = rw (count, heavy) (rw may refl)

never_nil : {A : Type 0} (xs : List A) (x : A) → xs ++ x ∷ [] ≡ [] → ⊥
never_nil [] x is = cc
never_nil (y ∷ xs) x is = cc

weight_more : (boxes : List Asked) (a : Asked) → total_weight (boxes ++ a ∷ []) ≡ total_weight boxes + weight a.node
weight_more boxes a = omega (arith, sum_by-append (λ (b : Asked). weight b.node) boxes (a ∷ []))

-- A whole page is put.
pub took_more : (law : PagesAreWhole) (held after : Option (List ℕ)) (w v : Writer) (put : ℕ) (boxes : List Asked) (a : Asked) (page : List ℕ) → Gained held after page → Counted w a.node a.fonts v
    → ((pages : List Asked) (bytes : List ℕ) → Stands w pages bytes → Stands v (pages ++ a ∷ []) (bytes ++ page))
    → Took held w put false boxes → Took after v (put + length page) false (boxes ++ a ∷ [])
took_more law held after w v put boxes a page gained counted stands took = record {
  pages = λ b. omega (arith, length-append boxes (a ∷ []), took.pages b, counted.pages);
  weight = λ b. weight_more boxes a ∙ ap (λ (n : ℕ). n + weight a.node) (took.weight b) ∙ sym counted.weight;
  fonts = λ b. counted.fonts ∙ ap (λ (l : List FontDef). known l) (sym (last_is boxes a));
  none = λ bytes told b e. absurd (never_nil boxes a e);
  stands = λ bytes told b. stands_now bytes told;
  partly = λ bytes told widths given. (map page_asked (boxes ++ a ∷ []), law v (boxes ++ a ∷ []) bytes widths (stands_now bytes told) given, begins_same _);
}
  where
    stands_now : (bytes : List ℕ) → bytes_put after (put + length page) ≡ Some bytes → Stands v (boxes ++ a ∷ []) bytes
    stands_now bytes told =
        let was = was_put (bytes_put held put) _ page bytes (more_put held after page put gained) told in
        subst (λ (l : List ℕ). Stands v (boxes ++ a ∷ []) l) (sym was.2) (stands boxes was.0 (took.stands was.0 was.1 refl))

-- A part of one is put.
pub took_part : (held after : Option (List ℕ)) (w v : Writer) (put n : ℕ) (boxes : List Asked) (page : List ℕ) → n < length page → Gained held after (take n page)
    → ((pages : List Asked) (bytes : List ℕ) (n : ℕ) (widths : Widths) → Stands w pages bytes → n < length page → All (HasWidths widths) pages → whole_pages widths (bytes ++ take n page) ≡ Ok (map page_asked pages))
    → Took held w put false boxes → Took after v (put + n) true boxes
took_part held after w v put n boxes page less gained breaks took = record {
  pages = λ b. let never : ⊥ = cc in absurd never;
  weight = λ b. let never : ⊥ = cc in absurd never;
  fonts = λ b. let never : ⊥ = cc in absurd never;
  none = λ bytes told b e. let never : ⊥ = cc in absurd never;
  stands = λ bytes told b. let never : ⊥ = cc in absurd never;
  partly = λ bytes told. read_now bytes told;
}
  where
    read_now : (bytes : List ℕ) → bytes_put after (put + n) ≡ Some bytes → BeginPages boxes bytes
    read_now bytes told widths given =
        let part = take n page in
        let many : length part ≡ n = omega (arith, length-take n page) in
        let here : bytes_put after (put + length part) ≡ Some bytes = rw many told in
        let was = was_put (bytes_put held put) _ part bytes (more_put held after part put gained) here in
        (map page_asked boxes, ap (λ (l : List ℕ). whole_pages widths l) was.2 ∙ breaks boxes was.0 n widths (took.stands was.0 was.1 refl) less given, begins_same _)

-- Nothing of one is put, and nothing will be.
pub took_broken : (held : Option (List ℕ)) (w v : Writer) (put : ℕ) (broken : Bool) (boxes : List Asked) → Took held w put broken boxes → Took held v put true boxes
took_broken held w v put broken boxes took = record {
  pages = λ b. let never : ⊥ = cc in absurd never;
  weight = λ b. let never : ⊥ = cc in absurd never;
  fonts = λ b. let never : ⊥ = cc in absurd never;
  none = λ bytes told b e. let never : ⊥ = cc in absurd never;
  stands = λ bytes told b. let never : ⊥ = cc in absurd never;
  partly = took.partly;
}

-- ---- what the sink holds in the end

no_end : (w : Writer) → page_count w ≡ 0 → last_bytes w ≡ []
unfolding end_bytes
no_end w none = rw none refl

some_pages : (boxes : List Asked) (a : Asked) (n : ℕ) → length (a ∷ boxes) ≡ n → 1 ≤ n
some_pages boxes a n is = omega (arith, is)

pub file_put : (held after : Option (List ℕ)) (w : Writer) (put : ℕ) (boxes : List Asked) (end : List ℕ) → end ≡ last_bytes w → Gained held after end
    → ((pages : List Asked) (bytes : List ℕ) (widths : Widths) → Stands w pages bytes → 1 ≤ page_count w → All (HasWidths widths) pages → file_pages widths (bytes ++ end) ≡ Ok (map page_asked pages))
    → Took held w put false boxes → PutsFile (held_before held put) after boxes
file_put held after w put [] end is gained ends took = λ first told.
    let now = told_put held after put end first gained told in
    let none : end ≡ [] = is ∙ no_end w (sym (took.pages refl)) in
    (now.0 ++ end, now.2, ap (λ (l : List ℕ). now.0 ++ l) none ∙ append-nil now.0 ∙ took.none now.0 now.1 refl refl)
file_put held after w put (a ∷ boxes) end is gained ends took = λ first told.
    let now = told_put held after put end first gained told in
    (now.0 ++ end, now.2, λ widths given. ends (a ∷ boxes) now.0 widths (took.stands now.0 now.1 refl) (some_pages boxes a (page_count w) (took.pages refl)) given)

-- nothing more is put
pub nothing_put : (held : Option (List ℕ)) (w : Writer) (put : ℕ) (broken : Bool) (boxes : List Asked) → Took held w put broken boxes → PutsPartly (held_before held put) held boxes
nothing_put held w put broken boxes took = λ first told.
    let now = told_put held held put [] first (nothing_more held) told in (
      now.0 ++ [],
      now.2,
      λ widths given.
          let read = took.partly now.0 now.1 widths given in
          (read.0, ap (λ (l : List ℕ). whole_pages widths l) (append-nil now.0) ∙ read.1, read.2),
    )
  where
    nothing_more : (held : Option (List ℕ)) → Gained held held []
    nothing_more None = refl
    nothing_more (Some h) = ap Some (sym (append-nil h))

-- A part of the end is put.
pub part_put : (law : WholePagesAreFirst) (held after : Option (List ℕ)) (w : Writer) (put n : ℕ) (boxes : List Asked) (end : List ℕ) → end ≡ last_bytes w → Gained held after (take n end)
    → ((pages : List Asked) (bytes : List ℕ) (widths : Widths) → Stands w pages bytes → 1 ≤ page_count w → All (HasWidths widths) pages → file_pages widths (bytes ++ end) ≡ Ok (map page_asked pages))
    → Took held w put false boxes → PutsPartly (held_before held put) after boxes
part_put law held after w put n [] end is gained ends took = λ first told.
    let none : take n end ≡ [] = take_none n end (is ∙ no_end w (sym (took.pages refl))) in
    let now = told_put held after put (take n end) first gained told in (
      now.0 ++ take n end,
      now.2,
      λ widths given.
          let read = took.partly now.0 now.1 widths given in
          (read.0, ap (λ (l : List ℕ). whole_pages widths (now.0 ++ l)) none ∙ ap (λ (l : List ℕ). whole_pages widths l) (append-nil now.0) ∙ read.1, read.2),
    )
  where
    take_none : (n : ℕ) (xs : List ℕ) → xs ≡ [] → take n xs ≡ []
    take_none zero xs is = refl
    take_none (suc n) [] is = refl
    take_none (suc n) (x ∷ xs) is = absurd cc
part_put law held after w put n (a ∷ boxes) end is gained ends took = λ first told.
    let now = told_put held after put (take n end) first gained told in (
      now.0 ++ take n end,
      now.2,
      λ widths given.
          let whole = ends (a ∷ boxes) now.0 widths (took.stands now.0 now.1 refl) (some_pages boxes a (page_count w) (took.pages refl)) given in
          let grouped : (now.0 ++ take n end) ++ drop n end ≡ now.0 ++ end = append_assoc now.0 (take n end) (drop n end) ∙ ap (λ (l : List ℕ). now.0 ++ l) (take-append-drop n end) in
          let read = law widths (now.0 ++ take n end) (drop n end) (map page_asked (a ∷ boxes)) (ap (λ (l : List ℕ). file_pages widths l) grouped ∙ whole) in
          (read.0, read.2, (read.1, read.3)),
    )
