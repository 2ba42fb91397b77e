-- What a sink holds after a shipper over it is let go.
use Rattle.std.proofs.Common.{◌≡◌, ℕ, ◌+◌, ◌-◌, ◌≤◌, List, [], ◌∷◌, ◌++◌, length, map, take, drop, Bool, true, false, nat_eq, Option, Some, None, Ok, refl, sym, ap, subst, ◌∙◌, append_assoc, append-nil, arith}
use Rattle.std.specs.Prelude.{All}
use Rattle.std.proofs.Math.Nat.{sub-zero}
use Rattle.std.proofs.lemmas.List.{take-append-drop, map-append}
use Rattle.std.proofs.lemmas.Bool.{ne_eqb}
use Rattle.std.proofs.lemmas.List.Elements.{All-nil, All-cons, All-head, All-tail}
use Rattle.ts_outside.specs.Gaining.{Gained, GainedPart}
use Rattle.dvi_commands.specs.declared.font.FontDef.{FontDef}
use Rattle.dvi_structure.specs.Structure.{start}
use Rattle.dvi_code.specs.Reading.{Leads}
use Rattle.dvi_code.specs.Pages.{Widths, whole_pages}
use Rattle.dvi_writer.specs.declared.kept.Kept.{Kept}
use Rattle.dvi_writer.specs.declared.writer.Writer.{Writer}
use Rattle.dvi_writer.specs.Laws.{PagesAreWhole}
use Rattle.dvi_writer.specs.Reading.{Asked, HasWidths, page_asked, StandsFor, stood, gap}
use Rattle.dvi_writer.specs.Standing.{Stands}
use Rattle.shipping.specs.Boxes.{BeginsWith}
use Rattle.shipping.specs.Standing.{held_before, bytes_put, Took, PutsPartly}
use Rattle.source_job.specs.Pages.{EndBetween, ArePages, PutsPages}
use Rattle.source_job.specs.Promise.{GainsSome}

-- ---- the bytes of the origin, and those that were put

pub first_before : (held : Option (List ℕ)) → held_before held 0 ≡ held
first_before None = refl
first_before (Some h) = rw (sub-zero (length h)) (ap Some (take_all h))
  where
    take_all : (h : List ℕ) → take (length h) h ≡ h
    take_all [] = refl
    take_all (b ∷ h) = ap (λ (l : List ℕ). b ∷ l) (take_all h)

-- what it held at first, and what was put then
told_put : (held : Option (List ℕ)) (put : ℕ) (first : List ℕ) → held_before held put ≡ Some first → (bytes : List ℕ) × (bytes_put held put ≡ Some bytes) × (held ≡ Some (first ++ bytes))
told_put None put first told = let never : ⊥ = cc in absurd never
told_put (Some h) put first told =
    let n = length h - put in
    let is : take n h ≡ first = cc in
    (drop n h, refl, ap Some (sym (take-append-drop n h) ∙ ap (λ (l : List ℕ). l ++ drop n h) is))

pub gains_put : (held : Option (List ℕ)) (put : ℕ) → GainsSome (held_before held put) held
gains_put None put = ([], refl)
gains_put (Some h) put = let n = length h - put in (drop n h, ap Some (sym (take-append-drop n h)))

pub gains_more : (before held after : Option (List ℕ)) (x : List ℕ) → GainsSome before held → Gained held after x → GainsSome before after
gains_more None held after x gains gained = ([], gained ∙ rw gains.1 refl)
gains_more (Some h) held after x gains gained = (gains.0 ++ x, gained ∙ rw gains.1 (ap Some (append_assoc h gains.0 x)))

pub gains_part : (before held after : Option (List ℕ)) (x : List ℕ) → GainsSome before held → GainedPart held after x → GainsSome before after
gains_part before held after x gains part = gains_more before held after (take part.0 x) gains part.2

-- ---- pages alone

between_pages : (k : Kept) (fonts : List FontDef) (a : Asked) (boxes : List Asked) (bytes : List ℕ) → StandsFor k fonts (a ∷ boxes) bytes → EndBetween bytes
between_pages k fonts a boxes bytes s = at_count (nat_eq k.pages 0) (ne_eqb k.pages 0 (λ e. omega (arith, s.asked, e))) s.leads
  where
    at_count : (fresh : Bool) → fresh ≡ false → Leads 0 start bytes (stood fresh k.last fonts s.sheets) → EndBetween bytes
    at_count false is leads = (_, refl, leads)
    at_count true is leads = let never : ⊥ = cc in absurd never

are_pages : (law : PagesAreWhole) (w : Writer) (boxes : List Asked) (bytes : List ℕ) → Stands w boxes bytes → (boxes ≡ [] → bytes ≡ []) → ArePages boxes bytes
are_pages law w [] bytes stands none = none refl
are_pages law w (a ∷ boxes) bytes stands none = (between_pages _ _ a boxes bytes stands, λ widths given. law w (a ∷ boxes) bytes widths stands given)

pub taken_pages : (law : PagesAreWhole) (held : Option (List ℕ)) (w : Writer) (put : ℕ) (broken : Bool) (boxes all : List Asked) → Took held w put broken boxes → BeginsWith all boxes → broken ≡ false → PutsPages (held_before held put) held all
taken_pages law held w put broken boxes all took begins whole = λ first told.
    let now = told_put held put first told in
    (now.0, now.2, boxes, begins, are_pages law w boxes now.0 (took.stands now.0 now.1 whole) (λ none. took.none now.0 now.1 whole none))

-- ---- the first of the pages

first_all : {X : Type 0} (P : X → Type 0) (xs ys : List X) → All P (xs ++ ys) → All P xs
first_all P [] ys all = All-nil P
first_all P (x ∷ xs) ys all = All-cons P x xs (All-head P x (xs ++ ys) all) (first_all P xs ys (All-tail P x (xs ++ ys) all))

begins_on : (boxes all : List Asked) {B : Type 0} (f : Asked → B) (first : List B) → BeginsWith all boxes → BeginsWith (map f boxes) first → BeginsWith (map f all) first
begins_on boxes all f first whole part =
    (part.0 ++ map f whole.0, ap (λ (l : List Asked). map f l) whole.1 ∙ map-append f boxes whole.0 ∙ ap (λ (l : List _). l ++ map f whole.0) part.1 ∙ append_assoc first part.0 (map f whole.0))

pub taken_part : (held : Option (List ℕ)) (w : Writer) (put : ℕ) (broken : Bool) (boxes all : List Asked) → Took held w put broken boxes → BeginsWith all boxes → PutsPartly (held_before held put) held all
taken_part held w put broken boxes all took begins = λ first told.
    let now = told_put held put first told in (
      now.0,
      now.2,
      λ widths given.
          let of_all : All (HasWidths widths) (boxes ++ begins.0) = subst (λ (l : List Asked). All (HasWidths widths) l) begins.1 given in
          let read = took.partly now.0 now.1 widths (first_all (HasWidths widths) boxes begins.0 of_all) in
          (read.0, read.1, begins_on boxes all page_asked read.0 begins read.2),
    )
