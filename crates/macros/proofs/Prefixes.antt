-- Tokens of a parameter text that are met one after the other.
use Rattle.std.proofs.Common.{◌≡◌, ◌≢◌, ◌<◌, ◌≤◌, ◌+◌, ◌-◌, ℕ, suc, true, false, List, [], ◌∷◌, length, take, drop, get_or, sym, ap, ◌∙◌, arith, drop-cons, add-one, Ok, Err, cond}
use Rattle.std.specs.Prelude.{slice_range, Result}
use Rattle.ts_base.specs.Agreement.{◌>>=◌}
use Rattle.tok_lists.specs.declared.token.Token.{Token}
use Rattle.env_groups.specs.Environments.{Nest}
use Rattle.mouth.specs.Reading.{Reading}
use Rattle.raw_texts.specs.declared.fault.MacroFault.{MacroFault}
use Rattle.raw_texts.specs.declared.fault.MacroFault.TheVariants.{UseMismatch}
use Rattle.raw_texts.specs.declared.machine.Progress.{Progress}
use Rattle.raw_texts.specs.declared.machine.Progress.TheVariants.{On, Done}
use Rattle.raw_texts.specs.Runs.{run}
use Rattle.macros.specs.Same.{is_same}
use Rattle.macros.specs.Calls.{progress_at, prefix_step, met}

slice_first : (l : List Token) (from to : ℕ) (x : Token) → from < to → to ≤ length l → slice_range l from to ≡ get_or l from x ∷ slice_range l (from + 1) to
slice_first l from to x less most =
    let within : from < length l = omega arith in
    let one : to - from ≡ suc (to - (from + 1)) = omega arith in
    ap (λ k. take k (drop from l)) one ∙ ap (take (suc (to - (from + 1)))) (drop-cons l from x within)
    ∙ ap (λ k. get_or l from x ∷ take (to - (from + 1)) (drop k l)) (sym (add-one from))

pub slice_none : (l : List Token) (from to : ℕ) → from ≡ to → slice_range l from to ≡ []
slice_none l from to same = let none : to - from ≡ 0 = omega (arith, same) in ap (λ k. take k (drop from l)) none

taken : (nest : Nest) (l : List Token) (from to : ℕ) (token x : Token) → x ≡ get_or l from x → from < to → to ≤ length l
    → prefix_step nest (slice_range l from to) token ≡ cond (is_same token x) (Ok (progress_at (slice_range l (from + 1) to), slice_range l (from + 1) to)) (Err UseMismatch)
taken nest l from to token x at less most =
    ap (λ k. prefix_step nest k token) (slice_first l from to x less most)
    ∙ ap (λ y. cond (is_same token y) (Ok (progress_at (slice_range l (from + 1) to), slice_range l (from + 1) to)) (Err UseMismatch)) (sym at)

pub prefix_refuses : (nest : Nest) (l : List Token) (from to : ℕ) (token x : Token) → x ≡ get_or l from x → from < to → to ≤ length l → is_same token x ≡ false
    → prefix_step nest (slice_range l from to) token ≡ Err UseMismatch
prefix_refuses nest l from to token x at less most differs =
    taken nest l from to token x at less most
    ∙ ap (λ b. cond b (Ok (progress_at (slice_range l (from + 1) to), slice_range l (from + 1) to)) (Err UseMismatch)) differs

abbrev Taken : Type 0
Taken = Result (Progress × List Token) MacroFault

going : Progress → List Token → Taken
going progress left = Ok (progress, left)

passes : (nest : Nest) (l : List Token) (from to : ℕ) (token x : Token) → x ≡ get_or l from x → from < to → to ≤ length l → is_same token x ≡ true
    → prefix_step nest (slice_range l from to) token ≡ going (progress_at (slice_range l (from + 1) to)) (slice_range l (from + 1) to)
unfolding going
passes nest l from to token x at less most same =
    taken nest l from to token x at less most
    ∙ ap (λ b. cond b (Ok (progress_at (slice_range l (from + 1) to), slice_range l (from + 1) to)) (Err UseMismatch)) same

pub prefix_ends : (nest : Nest) (l : List Token) (from to : ℕ) (token x : Token) → x ≡ get_or l from x → from < to → to ≤ length l → is_same token x ≡ true → from + 1 ≡ to
    → prefix_step nest (slice_range l from to) token ≡ Ok (Done, slice_range l (from + 1) to)
unfolding going
prefix_ends nest l from to token x at less most same last =
    passes nest l from to token x at less most same
    ∙ ap (λ k. going (progress_at k) (slice_range l (from + 1) to)) (slice_none l (from + 1) to last)

pub prefix_goes_on : (nest : Nest) (l : List Token) (from to : ℕ) (token x : Token) → x ≡ get_or l from x → from < to → to ≤ length l → is_same token x ≡ true → from + 1 ≢ to
    → prefix_step nest (slice_range l from to) token ≡ Ok (On, slice_range l (from + 1) to)
unfolding going
prefix_goes_on nest l from to token x at less most same more =
    passes nest l from to token x at less most same
    ∙ ap (λ k. going (progress_at k) (slice_range l (from + 1) to)) (slice_first l (from + 1) to x (omega arith) most)

-- A prefix of some token is met by its machine.
pub met_some : (nest : Nest) (l : List Token) (to : ℕ) (r : Reading) → to ≢ 0 → to ≤ length l
    → met nest (slice_range l 0 to) r ≡ (run nest prefix_step (slice_range l 0 to) r >>= λ p. Ok p.1)
met_some nest [] to r some most = absurd (omega arith)
met_some nest (token ∷ l) to r some most =
    let first = slice_first (token ∷ l) 0 to token (omega arith) most in
    ap (λ k. met nest k r) first ∙ ap (λ k. run nest prefix_step k r >>= λ p. Ok p.1) (sym first)
