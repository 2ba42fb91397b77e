-- What stays true of the mouth where its innermost file, its names or its files change.
use Rattle.std.proofs.Common.{◌≡◌, ◌≤◌, ℕ, List, [], ◌∷◌, map, length, false, refl, sym, subst, arith, Ok, IsSome, Option}
use Rattle.std.specs.Prelude.{◌+◌, nat_le, IfSome, Some, None}
use Rattle.std.proofs.lemmas.Bool.Decides.{nat_tests}
use Rattle.std.proofs.lemmas.List.{length-map}
use Rattle.ts_outside.specs.Reading.{bytes_of}
use Rattle.mouth.specs.Opening.{first_file, with_file, most_files}
use Rattle.ts_outside.specs.States.{Held, FilesState, ReadsOn, Closes, OpensNew, AllOpen, AllTold, AllApart}
use Rattle.ts_outside.proofs.Leaving.{open_still, told_still}
use Rattle.tok_lists.specs.declared.spelling.Spelling.{Spelling}
use Rattle.tok_lists.specs.Names.{Grew, AreHeld}
use Rattle.mouth.specs.Reading.{OpenFile}
use Rattle.mouth.specs.Keeping.{FileView, MouthView, number_of, numbers, file_of, held_in, reading, IsMouth, IsUnfailed, AreUnfailed, LeavesOthers}
use Rattle.tok_lists.specs.Codes.{Codes}
use Rattle.kcat_eyes.specs.declared.seen.Seen.{Seen}
use Rattle.mouth.specs.Tokens.{given, looked, file_ended}
use Rattle.mouth.proofs.Looking.{files_held}
use Rattle.mouth.proofs.Numbers.{files_same, opened_apart}
use Rattle.mouth.proofs.Leaving.{leaves_closing, leaves_opening, leaves_then}

pub kept_mouth : (old new : FileView) (below : List FileView) (names names' : List Spelling) (begun : ℕ) → IsMouth old below names begun
    → number_of new ≡ number_of old → AreHeld names' new.pending → Grew names names' → IsMouth new below names' begun
kept_mouth old new below names names' begun mouth same held grew = record {
  few = mouth.few;
  apart = rw same mouth.apart;
  unfailed = mouth.unfailed;
  held = (held, files_held names names' below grew mouth.held.1);
  most_begun = mouth.most_begun;
}

-- The innermost file ended, and the first of those below goes on.
pub gone_mouth : (innermost file : FileView) (below files : List FileView) (names : List Spelling) (begun : ℕ) → below ≡ file ∷ files
    → IsMouth innermost below names begun → IsMouth file files names begun
gone_mouth innermost file below files names begun is mouth =
    let P : List FileView → Type 0 = λ below. IsMouth innermost below names begun → IsMouth file files names begun in
    subst P (sym is) gone mouth
  where
    gone : IsMouth innermost (file ∷ files) names begun → IsMouth file files names begun
    gone mouth = record {
      few = omega (arith, mouth.few);
      apart = mouth.apart.1;
      unfailed = mouth.unfailed.1;
      held = mouth.held.1;
      most_begun = mouth.most_begun;
    }

pub gone_readable : (file : FileView) (below files : List FileView) → below ≡ file ∷ files → AreUnfailed below → IsUnfailed file
gone_readable file below files is unfailed = let P : List FileView → Type 0 = λ below. AreUnfailed below → IsUnfailed file in
    subst P (sym is) (λ unfailed. unfailed.0) unfailed

-- What a closed file leaves: the files below are open, told and as they were, and so are all others.
pub record Gone (innermost file : FileView) (below rest : List FileView) (old new : FilesState) : Type 0 where
  pub opened : AllOpen (number_of file ∷ map number_of rest) new
  pub told : AllTold (number_of innermost ∷ map number_of below) old → AllTold (number_of file ∷ map number_of rest) new
  pub same : map (file_of old) below ≡ file_of new file ∷ map (file_of new) rest

pub gone_files : (innermost file : FileView) (below files : List FileView) (old new : FilesState) → below ≡ file ∷ files
    → AllApart (number_of innermost ∷ map number_of below) → AllOpen (number_of innermost ∷ map number_of below) old → Closes (number_of innermost) old new
    → Gone innermost file below files old new
gone_files innermost file below files old new is apart opened closes =
    let P : List FileView → Type 0 = λ below. AllApart (number_of innermost ∷ map number_of below) → AllOpen (number_of innermost ∷ map number_of below) old → Gone innermost file below files old new in
    subst P (sym is) gone apart opened
  where
    gone : AllApart (number_of innermost ∷ map number_of (file ∷ files)) → AllOpen (number_of innermost ∷ map number_of (file ∷ files)) old → Gone innermost file (file ∷ files) files old new
    gone apart opened = record {
      opened = open_still (number_of file ∷ map number_of files) (number_of innermost) old new apart.0 closes.1 opened.1;
      told = λ told. told_still (number_of file ∷ map number_of files) (number_of innermost) old new apart.0 closes.1 opened.1 told.1;
      same = sym (files_same (number_of innermost) (file ∷ files) old new apart.0 closes.1 opened.1);
    }

-- ---- what the mouth's methods answer

abbrev pub with_innermost : MouthView → FileView → List Spelling → MouthView
with_innermost mouth file names = record { innermost = file; below = mouth.below; names = names; units = mouth.units; begun = mouth.begun; conditionals = mouth.conditionals; inside = mouth.inside; coding = mouth.coding }

-- What the innermost file gave is what the mouth sees.
pub look_ok : (codes : Codes) (mouth : MouthView) (file : FileView) (names : List Spelling) (s : Seen) (old new : FilesState)
    → AllApart (numbers mouth) → AllOpen (numbers mouth) old → ReadsOn (number_of mouth.innermost) old new
    → given codes mouth.names (file_of old mouth.innermost) ≡ Ok (record { seen = s; names = names; file = file_of new file })
    → looked codes (reading mouth old) ≡ Ok (s, reading (with_innermost mouth file names) new)
look_ok codes mouth file names s old new apart opened reads is =
    let files = files_same (number_of mouth.innermost) mouth.below old new apart.0 reads.2 opened.1 in
    rw (is, reads.2.0, files) refl

-- The innermost file ended, and the first of those below goes on.
abbrev pub gone_on : MouthView → FileView → List FileView → MouthView
gone_on mouth file files = record { innermost = file; below = files; names = mouth.names; units = mouth.units; begun = mouth.begun; conditionals = mouth.conditionals; inside = mouth.inside; coding = mouth.coding }

pub ended_ok : (mouth : MouthView) (file : FileView) (files : List FileView) (old new : FilesState) → mouth.inside ≡ 0 → new.held ≡ old.held
    → map (file_of old) mouth.below ≡ file_of new file ∷ map (file_of new) files
    → file_ended (reading mouth old) ≡ Ok (reading (gone_on mouth file files) new)
ended_ok mouth file files old new none held below = rw (none, below, held) refl

-- A file was opened above the others.
pub opened_mouth : (innermost file : FileView) (below : List FileView) (names : List Spelling) (begun : ℕ) (state : FilesState) → IsMouth innermost below names begun
    → length below ≤ 13 → IsUnfailed innermost → file.pending ≡ [] → state.is_open (number_of file) ≡ false → AllOpen (number_of innermost ∷ map number_of below) state
    → IsMouth file (innermost ∷ below) names begun
opened_mouth innermost file below names begun state mouth few unfailed none fresh opened = record {
  few = omega (arith, few);
  apart = (opened_apart (number_of file) (number_of innermost ∷ map number_of below) state fresh opened, mouth.apart);
  unfailed = (unfailed, mouth.unfailed);
  held = (rw none tt, mouth.held);
  most_begun = mouth.most_begun;
}

-- What an opened file leaves: those that were open are open, told and as they were.
pub record Opened (file : FileView) (files : List FileView) (old new : FilesState) : Type 0 where
  pub opened : AllOpen (number_of file ∷ map number_of files) new
  pub told : AllTold (map number_of files) old → AllTold (map number_of files) new
  pub others : LeavesOthers (map number_of files) old (number_of file ∷ map number_of files) new
  pub same : map (file_of new) files ≡ map (file_of old) files

pub opened_files : (file : FileView) (files : List FileView) (old new : FilesState) → OpensNew (number_of file) old new → AllOpen (map number_of files) old → Opened file files old new
opened_files file files old new opens opened =
    let apart = opened_apart (number_of file) (map number_of files) old opens.0 opened in
    record {
      opened = (opens.1, open_still (map number_of files) (number_of file) old new apart opens.2 opened);
      told = told_still (map number_of files) (number_of file) old new apart opens.2 opened;
      others = leaves_opening (number_of file) (map number_of files) old new opens;
      same = files_same (number_of file) files old new apart opens.2 opened;
    }

abbrev pub above : MouthView → FileView → MouthView
above mouth file = record { innermost = file; below = mouth.innermost ∷ mouth.below; names = mouth.names; units = mouth.units; begun = mouth.begun; conditionals = mouth.conditionals; inside = mouth.inside; coding = mouth.coding }

OpensFrom : Option (List Held) → MouthView → List ℕ → OpenFile → Type 0
OpensFrom held mouth name file = first_file mouth.coding name (bytes_of (held_in held) name) ≡ Ok file

opens_from : (held : Option (List Held)) (mouth : MouthView) (name : List ℕ) (file : OpenFile) → IsSome held
    → IfSome held (λ held. first_file mouth.coding name (bytes_of held name) ≡ Ok file) → OpensFrom held mouth name file
unfolding OpensFrom
opens_from None mouth name file told is = let never : ⊥ = cc in absurd never
opens_from (Some held) mouth name file told is = is

fewer : (n : ℕ) → n ≤ 13 → nat_le most_files (1 + n) ≡ false
fewer n few = grind (arith, nat_tests)

pub open_ok : (mouth : MouthView) (name : List ℕ) (file : FileView) (old new : FilesState) → length mouth.below ≤ 13 → IsSome old.held
    → IfSome old.held (λ held. first_file mouth.coding name (bytes_of held name) ≡ Ok (file_of new file)) → new.held ≡ old.held
    → map (file_of new) (mouth.innermost ∷ mouth.below) ≡ map (file_of old) (mouth.innermost ∷ mouth.below)
    → with_file name (reading mouth old) ≡ Ok (reading (above mouth file) new)
unfolding OpensFrom
open_ok mouth name file old new few told is held same =
    let count : length (map (file_of old) mouth.below) ≡ length mouth.below = length-map mouth.below (file_of old) in
    let tests = fewer (length mouth.below) few in
    rw (count, tests, opens_from old.held mouth name (file_of new file) told is, held, same) refl

-- One of the files that are left is closed.
pub closed_turn : (file : FileView) (below rest : List FileView) (ours : List ℕ) (first old new : FilesState) → below ≡ file ∷ rest
    → AllApart (map number_of below) → AllOpen (map number_of below) old → LeavesOthers ours first (map number_of below) old → Closes (number_of file) old new
    → AllOpen (map number_of rest) new × AllApart (map number_of rest) × LeavesOthers ours first (map number_of rest) new
closed_turn file below rest ours first old new is apart opened others closes =
    let P : List FileView → Type 0 = λ below. AllApart (map number_of below) → AllOpen (map number_of below) old → LeavesOthers ours first (map number_of below) old
    → AllOpen (map number_of rest) new × AllApart (map number_of rest) × LeavesOthers ours first (map number_of rest) new in
    subst P (sym is) (λ apart opened others. (
      open_still (map number_of rest) (number_of file) old new apart.0 closes.1 opened.1,
      apart.1,
      leaves_then ours (number_of file ∷ map number_of rest) (map number_of rest) first old new others (leaves_closing (number_of file) (map number_of rest) old new closes),
    )) apart opened others
