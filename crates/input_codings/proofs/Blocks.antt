-- The bytes of a block.
use Rattle.std.proofs.Common.{◌≡◌, ℕ, ◌+◌, ◌-◌, ◌≤◌, List, [], ◌++◌, length, take, drop, refl, sym, ap, ◌∙◌, arith, length-take, Option, Some, None, append_assoc, false}
use Rattle.std.proofs.Math.Seq.{take-add}
use Rattle.std.proofs.lemmas.List.{drop-take, drop-drop, take-append-drop}
use Rattle.ts_outside.specs.declared.files.Got.TheVariants as got
use Rattle.ts_outside.specs.Reading.{Gives}
use Rattle.input_codings.specs.Reading.{Moves, after_block, SourceView, KeepsBytes}

-- the first bytes of a block are used
pub skipped : (xs : List ℕ) (s n e : ℕ) → s + n ≤ e → take (e - (s + n)) (drop (s + n) xs) ≡ drop n (take (e - s) (drop s xs))
skipped xs s n e h =
    let all : n + (e - (s + n)) ≡ e - s = omega arith in
    rw (← drop-drop n s xs) (sym (drop-take n (e - (s + n)) (drop s xs)) ∙ ap (λ k. drop n (take k (drop s xs))) all)

pub same_front : (xs new : List ℕ) (s e : ℕ) → s ≤ e → take e new ≡ take e xs → take (e - s) (drop s new) ≡ take (e - s) (drop s xs)
same_front xs new s e h same =
    let all : s + (e - s) ≡ e = omega arith in
    let one : drop s (take e new) ≡ take (e - s) (drop s new) = ap (λ k. drop s (take k new)) (sym all) ∙ drop-take s (e - s) new in
    let two : drop s (take e xs) ≡ take (e - s) (drop s xs) = ap (λ k. drop s (take k xs)) (sym all) ∙ drop-take s (e - s) xs in
    sym one ∙ ap (drop s) same ∙ two

-- more bytes after those of a block
pub added : (xs new : List ℕ) (s e n : ℕ) → s ≤ e → take e new ≡ take e xs → take (e + n - s) (drop s new) ≡ take (e - s) (drop s xs) ++ take n (drop e new)
added xs new s e n h same =
    let all : e + n - s ≡ (e - s) + n = omega arith in
    let place : s + (e - s) ≡ e = omega arith in
    let after_it : drop (e - s) (drop s new) ≡ drop e new = drop-drop (e - s) s new ∙ ap (λ k. drop k new) place in
    ap (λ k. take k (drop s new)) all ∙ take-add (e - s) n (drop s new) ∙ ap (λ ys. ys ++ take n (drop (e - s) (drop s new))) (same_front xs new s e h same) ∙ ap (λ ys. take (e - s) (drop s xs) ++ take n ys) after_it

-- A read that gives bytes puts them after those of the block.
pub moves_bytes : (old new buffer : List ℕ) (n : ℕ) (before after : Option (List ℕ)) → new ≡ old ++ take n buffer → Gives before (got.Bytes n) buffer after → Moves old before new after
moves_bytes old new buffer n None after is gives = λ told. let never : ⊥ = cc in absurd never
moves_bytes old new buffer n (Some left) after is gives = λ told. rw (is, gives.2) (refl, rw (gives.1, append_assoc) (ap (λ ys. old ++ ys) (take-append-drop n left)))

pub moves_end : (old new buffer : List ℕ) (before after : Option (List ℕ)) → new ≡ old → Gives before got.End buffer after → Moves old before new after
moves_end old new buffer None after is gives = λ told. let never : ⊥ = cc in absurd never
moves_end old new buffer (Some left) after is gives = λ told. rw (is, gives.1, gives.0) (refl, refl)

pub moves_failed : (old new buffer : List ℕ) (before after : Option (List ℕ)) → new ≡ old → Gives before got.Failed buffer after → Moves old before new after
moves_failed old new buffer None after is gives = λ told. let never : ⊥ = cc in absurd never
moves_failed old new buffer (Some left) after is gives = λ told. rw (is, gives) (refl, refl)

pub room_left : (xs : List ℕ) (s n e : ℕ) → s ≤ e → n ≤ length (take (e - s) (drop s xs)) → s + n ≤ e
room_left xs s n e h few = omega (arith, length-take (e - s) (drop s xs))

pub ends_end : (buffer : List ℕ) (before after : Option (List ℕ)) → Gives before got.End buffer after → after_block false before ≡ []
ends_end buffer None after gives = refl
ends_end buffer (Some left) after gives = gives.0

pub keeps_more : (old between new : SourceView) (f g h : ℕ → Option (List ℕ)) → between.file ≡ old.file → KeepsBytes old (f old.file) between (g old.file) → KeepsBytes between (g between.file) new (h between.file) → KeepsBytes old (f old.file) new (h old.file)
keeps_more old between new f g h same first second =
    let then_second = rw same at second in
    λ told. let one = first told in let two = then_second one.0 in (two.0, two.1 ∙ one.1)
