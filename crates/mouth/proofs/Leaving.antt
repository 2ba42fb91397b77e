-- What calls leave of the files that are open beside the mouth's.
use Rattle.std.proofs.Common.{◌≡◌, ◌≢◌, ℕ, List, ◌∷◌, true, false, sym, ap, ◌∙◌}
use Rattle.ts_outside.specs.States.{FilesState, KeepsAll, ReadsOn, Closes, OpensNew}
use Rattle.mouth.specs.Keeping.{LeavesOthers}

apart_open : (a b : ℕ) (state : FilesState) → state.is_open a ≡ true → state.is_open b ≡ false → a ≢ b
apart_open a b state was not = λ same. let never : true ≡ false = sym was ∙ ap state.is_open same ∙ not in cc

pub leaves_all : (ours : List ℕ) (old new : FilesState) → KeepsAll old new → LeavesOthers ours old ours new
leaves_all ours old new keeps = (
  keeps.0,
  λ n. (
    λ was. (((keeps.1 n).0 ∙ was.0, was.1), (keeps.1 n).1 was.0),
    λ now. (sym (keeps.1 n).0 ∙ now.0, now.1),
  ),
)

pub leaves_then : (ours ours' ours'' : List ℕ) (old between new : FilesState) → LeavesOthers ours old ours' between → LeavesOthers ours' between ours'' new → LeavesOthers ours old ours'' new
leaves_then ours ours' ours'' old between new first second = (
  second.0 ∙ first.0,
  λ n. (
    λ was. let one = (first.1 n).0 was in let two = (second.1 n).0 one.0 in (two.0, two.1 ∙ one.1),
    λ now. (first.1 n).1 ((second.1 n).1 now),
  ),
)

pub leaves_reading : (file : ℕ) (rest : List ℕ) (old new : FilesState) → ReadsOn file old new → LeavesOthers (file ∷ rest) old (file ∷ rest) new
leaves_reading file rest old new reads = let keeps = reads.2 in (
  keeps.0,
  λ n. (
    λ was. let kept = keeps.1 n was.1.0 in ((kept.0 ∙ was.0, was.1), kept.1 was.0),
    λ now. let kept = keeps.1 n now.1.0 in (sym kept.0 ∙ now.0, now.1),
  ),
)

pub leaves_closing : (file : ℕ) (rest : List ℕ) (old new : FilesState) → Closes file old new → LeavesOthers (file ∷ rest) old rest new
leaves_closing file rest old new closes = let keeps = closes.1 in (
  keeps.0,
  λ n. (
    λ was. let kept = keeps.1 n was.1.0 in ((kept.0 ∙ was.0, was.1.1), kept.1 was.0),
    λ now.
        let other = apart_open n file new now.0 closes.0 in
        let kept = keeps.1 n other in
        (sym kept.0 ∙ now.0, (other, now.1)),
  ),
)

pub leaves_opening : (file : ℕ) (ours : List ℕ) (old new : FilesState) → OpensNew file old new → LeavesOthers ours old (file ∷ ours) new
leaves_opening file ours old new opens = let keeps = opens.2 in (
  keeps.0,
  λ n. (
    λ was.
        let other = apart_open n file old was.0 opens.0 in
        let kept = keeps.1 n other in
        ((kept.0 ∙ was.0, (other, was.1)), kept.1 was.0),
    λ now. let kept = keeps.1 n now.1.0 in (sym kept.0 ∙ now.0, now.1.1),
  ),
)
