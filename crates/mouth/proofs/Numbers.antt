-- The numbers of the open files: which are open and told after calls on files, and what is left of the others.
use Rattle.std.proofs.Common.{◌≡◌, ℕ, List, [], ◌∷◌, true, false, map, refl, sym, ap, ap₂, subst, ◌∙◌, IsSome}
use Rattle.ts_outside.specs.States.{FilesState, KeepsAll, KeepsOthers, ReadsOn, IsApart, AllOpen, AllTold, AllApart}
use Rattle.ts_outside.proofs.Leaving.{open_still, told_still}
use Rattle.kcat_eyes.specs.Sights.{sight_of}
use Rattle.mouth.specs.Reading.{OpenFile}
use Rattle.mouth.specs.Keeping.{FileView, number_of, file_of}

-- A new file is apart from those that are open.
pub opened_apart : (file : ℕ) (files : List ℕ) (state : FilesState) → state.is_open file ≡ false → AllOpen files state → IsApart file files
opened_apart file [] state fresh opened = tt
opened_apart file (n ∷ files) state fresh opened =
    (λ same. let never : false ≡ true = sym fresh ∙ ap state.is_open same ∙ opened.0 in cc, opened_apart file files state fresh opened.1)

pub open_after_read : (file : ℕ) (files : List ℕ) (old new : FilesState) → AllApart (file ∷ files) → ReadsOn file old new → AllOpen (file ∷ files) old → AllOpen (file ∷ files) new
open_after_read file files old new apart reads opened = (reads.0, open_still files file old new apart.0 reads.2 opened.1)

pub told_after_read : (file : ℕ) (files : List ℕ) (old new : FilesState) → AllApart (file ∷ files) → ReadsOn file old new → AllOpen (file ∷ files) old → AllTold (file ∷ files) old → AllTold (file ∷ files) new
told_after_read file files old new apart reads opened told = (reads.1 told.0, told_still files file old new apart.0 reads.2 opened.1 told.1)

-- What is left of each file that wasn't called on is the same.
pub files_same : (file : ℕ) (files : List FileView) (old new : FilesState) → IsApart file (map number_of files) → KeepsOthers file old new → AllOpen (map number_of files) old
    → map (file_of new) files ≡ map (file_of old) files
files_same file [] old new apart keeps opened = refl
files_same file (f ∷ files) old new apart keeps opened =
    let kept = (keeps.1 (number_of f) (λ same. apart.0 (sym same))).1 opened.0 in
    ap₂ (λ (x : OpenFile) (xs : List OpenFile). x ∷ xs) (ap (λ (left : _). record { name = f.name; sight = sight_of f.eyes left; pending = f.pending }) kept) (files_same file files old new apart.1 keeps opened.1)

pub files_kept : (files : List FileView) (old new : FilesState) → KeepsAll old new → AllOpen (map number_of files) old
    → map (file_of new) files ≡ map (file_of old) files
files_kept [] old new keeps opened = refl
files_kept (f ∷ files) old new keeps opened =
    let kept = (keeps.1 (number_of f)).1 opened.0 in
    ap₂ (λ (x : OpenFile) (xs : List OpenFile). x ∷ xs) (ap (λ (left : _). record { name = f.name; sight = sight_of f.eyes left; pending = f.pending }) kept) (files_kept files old new keeps opened.1)

pub open_kept : (files : List ℕ) (old new : FilesState) → KeepsAll old new → AllOpen files old → AllOpen files new
open_kept [] old new keeps opened = tt
open_kept (n ∷ files) old new keeps opened = ((keeps.1 n).0 ∙ opened.0, open_kept files old new keeps opened.1)

pub told_kept : (files : List ℕ) (old new : FilesState) → KeepsAll old new → AllOpen files old → AllTold files old → AllTold files new
told_kept [] old new keeps opened told = tt
told_kept (n ∷ files) old new keeps opened told =
    (subst IsSome (sym ((keeps.1 n).1 opened.0)) told.0, told_kept files old new keeps opened.1 told.1)
