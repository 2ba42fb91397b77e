-- How much may still be read, by what is kept, and what tokens that are put in front make of it.
use Rattle.std.proofs.Common.{◌≡◌, ◌≤◌, ◌+◌, ◌*◌, List, [], ◌∷◌, ◌++◌, length, map, Result, Ok, Err, refl, sym, ◌∙◌, arith, nat_le}
use Rattle.std.specs.Prelude.{if◌then◌else◌, Bool, true, false, OnErr}
use Rattle.std.proofs.lemmas.Grind.{common_steps}
use Rattle.std.proofs.lemmas.Bool.Decides.{nat_tests}
use Rattle.ts_base.specs.Agreement.{Agrees}
use Rattle.ts_outside.specs.States.{FilesState}
use Rattle.tok_lists.specs.declared.spelling.Spelling.{Spelling}
use Rattle.tok_lists.specs.declared.token.Token.{Token}
use Rattle.tok_lists.specs.declared.pending_fault.PendingFault.{PendingFault}
use Rattle.tok_lists.specs.declared.pending_fault.PendingFault.TheVariants.{TokensFull}
use Rattle.tok_lists.specs.Names.{AreHeld}
use Rattle.tok_lists.specs.Pending.{put_before, pending_cause, most_pending}
use Rattle.tok_lists.proofs.Flat.{held_together}
use Rattle.mouth.specs.Sizes.{files_size, size_in, sizes_in, unread, size, kept_size, unit_weight, most_in_file}
use Rattle.mouth.specs.Keeping.{FileView, MouthView, file_of, reading}
use Rattle.mouth.proofs.Mouths.{above}

files_kept_size : (state : FilesState) (files : List FileView) → files_size (map (file_of state) files) ≡ sizes_in files
files_kept_size state [] = refl
files_kept_size state (file ∷ files) = rw (files_kept_size state files) refl

pub unread_kept : (mouth : MouthView) (state : FilesState) → unread (reading mouth state) ≡ kept_size mouth
unfolding unread
unread_kept mouth state = rw (files_kept_size state mouth.below) refl

pub size_kept : (mouth : MouthView) (state : FilesState) → size (reading mouth state) ≡ mouth.units * unit_weight + kept_size mouth
unfolding size
size_kept mouth state = rw (unread_kept mouth state) refl

guarded : (b : Bool) (list new : List Token) → (if b then Ok list else Err TokensFull) ≡ Ok new → (b ≡ true) × (list ≡ new)
guarded true list new is = (refl, cc)
guarded false list new is = absurd cc

pub put_is : (list pending new : List Token) → put_before list pending ≡ Ok new → (length list + length pending ≤ most_pending) × (list ++ pending ≡ new)
put_is list pending new is =
    let both = guarded (nat_le (length list + length pending) most_pending) (list ++ pending) new is in
    let within = both.0 in
    (grind (arith, nat_tests), both.1)

-- Names hold what is pending after a list was put in front.
pub put_held : {X : Type 0} (names : List Spelling) (list old new : List Token) (result : Result X PendingFault) → Agrees (λ _. new) pending_cause result (put_before list old)
    → OnErr result (new ≡ old) → AreHeld names list → AreHeld names old → AreHeld names new
put_held names list old new (Ok x) agrees kept of_list of_old = rw (← (put_is list old new agrees).1) (held_together names list old of_list of_old)
put_held names list old new (Err e) agrees kept of_list of_old = rw kept of_old

-- No more than a full list is added.
pub put_most : {X : Type 0} (list old new : List Token) (result : Result X PendingFault) → Agrees (λ _. new) pending_cause result (put_before list old)
    → OnErr result (new ≡ old) → length new ≤ length old + 1000000
put_most list old new (Ok x) agrees kept =
    let is = put_is list old new agrees in
    let most = is.0 in
    rw (← is.1) (grind (arith, common_steps))
put_most list old new (Err e) agrees kept = rw kept (omega arith)

-- What calls on files leave doesn't change how much may still be read.
pub same_size : (mouth : MouthView) (old new : FilesState) → size (reading mouth new) ≡ size (reading mouth old)
same_size mouth old new = size_kept mouth new ∙ sym (size_kept mouth old)

-- A file that is opened adds no more than a file may have.
pub opened_size : (mouth : MouthView) (file : FileView) (old new : FilesState) → size_in file ≤ most_in_file → size (reading (above mouth file) new) ≤ size (reading mouth old) + most_in_file
opened_size mouth file old new few =
    let now = size_kept (above mouth file) new in
    let was = size_kept mouth old in
    rw (now, was) (omega (arith, few))
