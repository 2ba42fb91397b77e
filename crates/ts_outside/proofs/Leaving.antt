-- What calls on files leave, one after another.
use Rattle.std.proofs.Common.{◌≡◌, ◌≢◌, ℕ, List, [], ◌∷◌, IsSome, true, false, inl, inr, refl, sym, subst, ◌∙◌}
use Rattle.std.proofs.lemmas.Bool.{cases_eq}
use Rattle.ts_outside.specs.States.{FilesState, Keeps, KeepsAll, KeepsOthers, KeepsAllBut, ReadsOn, IsApart, AllOpen, AllTold}

pub keeps_then : (n : ℕ) (old between new : FilesState) → Keeps n old between → Keeps n between new → Keeps n old new
keeps_then n old between new first second = (second.0 ∙ first.0, λ was. second.1 (first.0 ∙ was) ∙ first.1 was)

pub all_then : (old between new : FilesState) → KeepsAll old between → KeepsAll between new → KeepsAll old new
all_then old between new first second = (second.0 ∙ first.0, λ n. keeps_then n old between new (first.1 n) (second.1 n))

pub others_then : (file : ℕ) (old between new : FilesState) → KeepsOthers file old between → KeepsOthers file between new → KeepsOthers file old new
others_then file old between new first second =
    (second.0 ∙ first.0, λ n other. keeps_then n old between new (first.1 n other) (second.1 n other))

pub reads_itself : (file : ℕ) (state : FilesState) → state.is_open file ≡ true → ReadsOn file state state
reads_itself file state opened = (opened, λ told. told, (refl, λ n other. (refl, λ was. refl)))

pub reads_then : (file : ℕ) (old between new : FilesState) → ReadsOn file old between → ReadsOn file between new → ReadsOn file old new
reads_then file old between new first second =
    (second.0, λ told. second.1 (first.1 told), others_then file old between new first.2 second.2)

pub all_but_then : (files : List ℕ) (old between new : FilesState) → KeepsAllBut files old between → KeepsAllBut files between new → KeepsAllBut files old new
all_but_then files old between new first second =
    (second.0 ∙ first.0, λ n apart. keeps_then n old between new (first.1 n apart) (second.1 n apart))

is_other : (files : List ℕ) (n file : ℕ) → IsApart n files → (IsApart file files → ⊥) → n ≢ file
is_other files n file apart among = λ same. among (let P : ℕ → Type 0 = λ k. IsApart k files in subst P same apart)

pub others_among : (files : List ℕ) (file : ℕ) (old new : FilesState) → (IsApart file files → ⊥) → KeepsOthers file old new → KeepsAllBut files old new
others_among files file old new among keeps = (keeps.0, λ n apart. keeps.1 n (is_other files n file apart among))

pub closed_again : (file : ℕ) (old between new : FilesState) → old.is_open file ≡ false → KeepsOthers file old between → KeepsOthers file between new → new.is_open file ≡ false → KeepsAll old new
closed_again file old between new fresh first second now =
    let both = others_then file old between new first second in (
      both.0,
      λ n. elim (cases_eq n file) [
        | inl same ↦ rw same (now ∙ sym fresh, λ was. absurd (closed fresh was))
        | inr other ↦ both.1 n other
      ],
    )
  where
    closed : old.is_open file ≡ false → old.is_open file ≡ true → ⊥
    closed fresh was = let never : false ≡ true = sym fresh ∙ was in cc

pub open_still : (files : List ℕ) (file : ℕ) (old new : FilesState) → IsApart file files → KeepsOthers file old new → AllOpen files old → AllOpen files new
open_still [] file old new apart keeps opened = tt
open_still (n ∷ files) file old new apart keeps opened =
    ((keeps.1 n (λ same. apart.0 (sym same))).0 ∙ opened.0, open_still files file old new apart.1 keeps opened.1)

pub told_still : (files : List ℕ) (file : ℕ) (old new : FilesState) → IsApart file files → KeepsOthers file old new → AllOpen files old → AllTold files old → AllTold files new
told_still [] file old new apart keeps opened told = tt
told_still (n ∷ files) file old new apart keeps opened told =
    (subst IsSome (sym ((keeps.1 n (λ same. apart.0 (sym same))).1 opened.0)) told.0, told_still files file old new apart.1 keeps opened.1 told.1)
