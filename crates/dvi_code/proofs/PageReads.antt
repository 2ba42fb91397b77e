-- What the pass over the pages answers.
use Rattle.std.proofs.Common.{◌≡◌, ℕ, ◌≤◌, ◌<◌, List, [], ◌++◌, length, drop, Result, Ok, Err, refl, sym, ap, ◌∙◌, append_assoc, Some, Bool, true, false}
use Rattle.std.proofs.lemmas.List.{append-nil}
use Rattle.ts_base.specs.Agreement.{◌>>=◌, AgreesFault}
use Rattle.dvi_commands.specs.declared.fault.DviBad.{DviBad}
use Rattle.dvi_structure.specs.declared.fault.DviFault.{DviFault}
use Rattle.dvi_structure.specs.declared.fault.DviFault.TheVariants as faults
use Rattle.dvi_commands.specs.declared.font.FontDef.{FontDef}
use Rattle.dvi_code.specs.declared.page.DviPage.{DviPage}
use Rattle.dvi_commands.specs.Fields.{Field}
use Rattle.dvi_commands.specs.Next.{set_first}
use Rattle.dvi_structure.specs.Answers.{dvi_cause, faulted}
use Rattle.dvi_commands.specs.Commands as c
use Rattle.dvi_commands.specs.Commands.{Command, command}
use Rattle.dvi_structure.specs.Places.{is_last, placed}
use Rattle.dvi_structure.specs.Structure.{placed_at, fault_at}
use Rattle.dvi_code.specs.Pages.{Widths}
use Rattle.dvi_code.specs.Straight.{Reader, read_on, page_ended, ends_pages, pages_on}
use Rattle.dvi_structure.proofs.Walking.{set_said, first_fault, placed_next, placed_last, placed_bad, fault_is, answer_is, kind_is, said_is, Says}

-- the pages so far and those from a place on are all
abbrev pub Going : Widths → List FontDef → List ℕ → ℕ → Reader → List DviPage → Result (List DviPage) DviBad → Type 0
Going widths fonts bytes at r pages total = (pages_on widths fonts r (placed at 0 (drop at bytes)) >>= λ more. Ok (pages ++ more)) ≡ total

pub read_command_fault : (e : DviFault) (widths : Widths) (fonts : List FontDef) (bytes : List ℕ) (at : ℕ) (r : Reader) (pages : List DviPage) (total : Result (List DviPage) DviBad) → Going widths fonts bytes at r pages total
    → AgreesFault (dvi_cause e) e (faulted (placed_at at (command (drop at bytes)))) → AgreesFault (dvi_cause e) e (faulted total)
unfolding pages_on
read_command_fault faults.NoMemory widths fonts bytes at r pages total going a = tt
read_command_fault (faults.Bad b) widths fonts bytes at r pages total going a =
    let k = kind_is at (command (drop at bytes)) b (fault_is _ b a) in
    let there : pages_on widths fonts r (placed at 0 (drop at bytes)) ≡ Err (fault_at at k.0) = rw (placed_bad bytes at k.0 k.1) refl in
    let all : total ≡ Err b = sym going ∙ ap (λ (x : Result (List DviPage) DviBad). x >>= λ more. Ok (pages ++ more)) there ∙ ap (λ (x : DviBad). Err x) (sym k.2) in
    rw all refl

ends_last : (cmd : Command) → ends_pages cmd ≡ false → is_last cmd ≡ false
ends_last (c.post_post p id) e = absurd cc
ends_last _ e = refl

pub read_ends : (widths : Widths) (fonts : List FontDef) (bytes : List ℕ) (at after : ℕ) (r : Reader) (cmd : Command) (pages : List DviPage) (total : Result (List DviPage) DviBad) → Going widths fonts bytes at r pages total
    → Says bytes at after cmd → at < after → after ≤ length bytes → ends_pages cmd ≡ true → faulted total ≡ Ok pages
unfolding pages_on
read_ends widths fonts bytes at after r cmd pages total going says lt le end =
    let all : total ≡ Ok pages = sym going ∙ ap (λ (x : Result (List DviPage) DviBad). x >>= λ more. Ok (pages ++ more)) (by_last (is_last cmd) refl) ∙ ap (λ (x : List DviPage). Ok x) (append-nil pages) in
    rw all refl
  where
    by_last : (l : Bool) → is_last cmd ≡ l → pages_on widths fonts r (placed at 0 (drop at bytes)) ≡ Ok []
    by_last true last = rw (placed_last bytes at after cmd (said_is at _ _ says) lt le last, end) refl
    by_last false last = rw (placed_next bytes at after cmd (said_is at _ _ says) lt le last, end) refl

-- the pages from a place on, by those after its command
here : (widths : Widths) (fonts : List FontDef) (bytes : List ℕ) (at after : ℕ) (r : Reader) (cmd : Command) → Says bytes at after cmd → at < after → after ≤ length bytes → ends_pages cmd ≡ false
    → pages_on widths fonts r (placed at 0 (drop at bytes)) ≡ (placed_at at (read_on widths fonts r cmd) >>= λ q. pages_on widths fonts q (placed after 0 (drop after bytes)) >>= λ pages. Ok (page_ended r cmd ++ pages))
unfolding pages_on
here widths fonts bytes at after r cmd says lt le end = rw (placed_next bytes at after cmd (said_is at _ _ says) lt le (ends_last cmd end), end) refl

pub read_fault : (e : DviFault) (widths : Widths) (fonts : List FontDef) (bytes : List ℕ) (at after : ℕ) (r : Reader) (cmd : Command) (pages : List DviPage) (total : Result (List DviPage) DviBad) → Going widths fonts bytes at r pages total
    → Says bytes at after cmd → at < after → after ≤ length bytes → ends_pages cmd ≡ false → AgreesFault (dvi_cause e) e (faulted (placed_at at (read_on widths fonts r cmd))) → AgreesFault (dvi_cause e) e (faulted total)
read_fault faults.NoMemory widths fonts bytes at after r cmd pages total going says lt le end a = tt
read_fault (faults.Bad b) widths fonts bytes at after r cmd pages total going says lt le end a =
    let is : placed_at at (read_on widths fonts r cmd) ≡ Err b = fault_is _ b a in
    let there = here widths fonts bytes at after r cmd says lt le end ∙ ap (λ (x : Result Reader DviBad). x >>= λ q. pages_on widths fonts q (placed after 0 (drop after bytes)) >>= λ pages. Ok (page_ended r cmd ++ pages)) is in
    let all : total ≡ Err b = sym going ∙ ap (λ (x : Result (List DviPage) DviBad). x >>= λ more. Ok (pages ++ more)) there in
    rw all refl

regroup : (x : Result (List DviPage) DviBad) (pages page : List DviPage) → (x >>= (λ ps. Ok (page ++ ps)) >>= λ more. Ok (pages ++ more)) ≡ (x >>= λ more. Ok ((pages ++ page) ++ more))
regroup (Ok ps) pages page = ap (λ (y : List DviPage). Ok y) (sym (append_assoc pages page ps))
regroup (Err b) pages page = refl

pub read_goes_on : (widths : Widths) (fonts : List FontDef) (bytes : List ℕ) (at after : ℕ) (r q : Reader) (cmd : Command) (pages page new : List DviPage) (total : Result (List DviPage) DviBad) → Going widths fonts bytes at r pages total
    → Says bytes at after cmd → at < after → after ≤ length bytes → ends_pages cmd ≡ false → faulted (placed_at at (read_on widths fonts r cmd)) ≡ Ok q → page ≡ page_ended r cmd → new ≡ pages ++ page
    → Going widths fonts bytes after q new total
read_goes_on widths fonts bytes at after r q cmd pages page new total going says lt le end right is added =
    let there = here widths fonts bytes at after r cmd says lt le end ∙ ap (λ (x : Result Reader DviBad). x >>= λ q. pages_on widths fonts q (placed after 0 (drop after bytes)) >>= λ pages. Ok (page_ended r cmd ++ pages)) (answer_is _ q right) in
    let all = sym (ap (λ (x : Result (List DviPage) DviBad). x >>= λ more. Ok (pages ++ more)) there ∙ regroup (pages_on widths fonts q (placed after 0 (drop after bytes))) pages (page_ended r cmd)) ∙ going in
    rw (added, is) all

-- ---- characters

no_page : (r : Result Reader DviBad) (f : Reader → Result (List DviPage) DviBad) → (r >>= λ q. f q >>= λ pages. Ok ([] ++ pages)) ≡ (r >>= f)
no_page (Ok q) f = same (f q)
  where
    same : (x : Result (List DviPage) DviBad) → (x >>= λ pages. Ok ([] ++ pages)) ≡ x
    same (Ok pages) = refl
    same (Err b) = refl
no_page (Err b) f = refl

set_there : (widths : Widths) (fonts : List FontDef) (bytes : List ℕ) (at after code : ℕ) (r : Reader) → set_first (command (drop at bytes)) ≡ Some (code, drop after bytes) → at < after → after ≤ length bytes
    → pages_on widths fonts r (placed at 0 (drop at bytes)) ≡ (placed_at at (read_on widths fonts r (c.set code)) >>= λ q. pages_on widths fonts q (placed after 0 (drop after bytes)))
set_there widths fonts bytes at after code r e lt le =
    let says : Says bytes at after (c.set code) = ap (λ (x : Field Command). faulted (placed_at at x)) (set_said _ code _ e) in
    here widths fonts bytes at after r (c.set code) says lt le refl ∙ no_page (placed_at at (read_on widths fonts r (c.set code))) (λ q. pages_on widths fonts q (placed after 0 (drop after bytes)))

pub set_goes_on : (widths : Widths) (fonts : List FontDef) (bytes : List ℕ) (at after code : ℕ) (r q : Reader) (total : Result (List DviPage) DviBad) → set_first (command (drop at bytes)) ≡ Some (code, drop after bytes) → at < after → after ≤ length bytes
    → faulted (placed_at at (read_on widths fonts r (c.set code))) ≡ Ok q → pages_on widths fonts r (placed at 0 (drop at bytes)) ≡ total → pages_on widths fonts q (placed after 0 (drop after bytes)) ≡ total
set_goes_on widths fonts bytes at after code r q total e lt le right is =
    sym (set_there widths fonts bytes at after code r e lt le ∙ ap (λ (x : Result Reader DviBad). x >>= λ q. pages_on widths fonts q (placed after 0 (drop after bytes))) (answer_is _ q right)) ∙ is

pub set_fault : (e : DviFault) (widths : Widths) (fonts : List FontDef) (bytes : List ℕ) (at after code : ℕ) (r : Reader) (total : Result (List DviPage) DviBad) → set_first (command (drop at bytes)) ≡ Some (code, drop after bytes) → at < after → after ≤ length bytes
    → AgreesFault (dvi_cause e) e (faulted (placed_at at (read_on widths fonts r (c.set code)))) → pages_on widths fonts r (placed at 0 (drop at bytes)) ≡ total → AgreesFault (dvi_cause e) e (faulted total)
set_fault e widths fonts bytes at after code r total is lt le a same =
    let there : total ≡ (placed_at at (read_on widths fonts r (c.set code)) >>= λ q. pages_on widths fonts q (placed after 0 (drop after bytes))) = sym same ∙ set_there widths fonts bytes at after code r is lt le in
    rw there (first_fault e _ (λ q. pages_on widths fonts q (placed after 0 (drop after bytes))) a)

pub sets_go_on : (widths : Widths) (fonts : List FontDef) (bytes : List ℕ) (at after : ℕ) (r q : Reader) (pages : List DviPage) (total : Result (List DviPage) DviBad) → Going widths fonts bytes at r pages total
    → pages_on widths fonts q (placed after 0 (drop after bytes)) ≡ pages_on widths fonts r (placed at 0 (drop at bytes)) → Going widths fonts bytes after q pages total
sets_go_on widths fonts bytes at after r q pages total going same = ap (λ (x : Result (List DviPage) DviBad). x >>= λ more. Ok (pages ++ more)) same ∙ going

pub sets_fault : (e : DviFault) (widths : Widths) (fonts : List FontDef) (bytes : List ℕ) (at : ℕ) (r : Reader) (pages : List DviPage) (total : Result (List DviPage) DviBad) → Going widths fonts bytes at r pages total
    → AgreesFault (dvi_cause e) e (faulted (pages_on widths fonts r (placed at 0 (drop at bytes)))) → AgreesFault (dvi_cause e) e (faulted total)
sets_fault e widths fonts bytes at r pages total going a =
    let all : total ≡ (pages_on widths fonts r (placed at 0 (drop at bytes)) >>= λ more. Ok (pages ++ more)) = sym going in
    rw all (first_fault e _ (λ more. Ok (pages ++ more)) a)
