-- Tokens that are read without expansion, one after the other, until what takes them has taken its last one.
use Rattle.std.specs.Prelude.{◌≡◌, ℕ, zero, suc, Result, Ok, Err}
use Rattle.ts_base.specs.Agreement.{◌>>=◌, with_fault}
use Rattle.ts_outside.specs.States.{FilesState}
use Rattle.tok_lists.specs.declared.token.Token.{Token}
use Rattle.tok_lists.specs.Names.{Grew}
use Rattle.env_groups.specs.Environments.{Nest, codes_of}
use Rattle.mouth.specs.declared.fault.MouthFault.TheVariants.{NoMemory}
use Rattle.mouth.specs.Reading.{Reading, Stop}
use Rattle.mouth.specs.Tokens.{next_plain}
use Rattle.mouth.specs.Changes.{entered, left}
use Rattle.mouth.specs.Sizes.{unread}
use Rattle.mouth.specs.Keeping.{MouthView, numbers, AreOpen, AreTold, LeavesOthers}
use Rattle.raw_texts.specs.declared.fault.MacroFault.{MacroFault}
use Rattle.raw_texts.specs.declared.fault.MacroFault.TheVariants.{Mouth}
use Rattle.raw_texts.specs.declared.machine.Progress.{Progress}
use Rattle.raw_texts.specs.declared.machine.Progress.TheVariants.{On, Done}
use Rattle.raw_texts.specs.Faults.{of_mouth, stopped}

-- what a token makes of a machine's state: it is done or takes a further one, or it refuses
abbrev pub Step : Type 0 → Type 0
Step S = S → Token → Result (Progress × S) MacroFault

-- the next token without expansion, with what is read after it
abbrev pub token_from : Nest → Reading → Result (Token × Reading) (Stop MacroFault)
token_from nest r = with_fault of_mouth (next_plain (codes_of nest) r)

-- what a token makes of it, with what is read after that token
abbrev pub fed : {S : Type 0} → Step S → S → Token × Reading → Result (Progress × S) (Stop MacroFault)
fed step s t = with_fault (λ fault. stopped fault t.1) (step s t.0)

-- It is done, or there is more.
abbrev pub goes_on : {X E : Type 0} → Progress → X → Result X E → Result X E
goes_on Done x more = Ok x
goes_on On x more = more

-- Each token is read from less than the one before, so the law below holds of run: it reads a token and feeds it, and where a
-- further one is taken it goes on in the same way. No run comes to the first case but by a fault of the mouth.
unfoldable pub run_within : {S : Type 0} → ℕ → Nest → (Nest → Step S) → S → Reading → Result (S × Reading) (Stop MacroFault)
run_within zero nest step s r = token_from nest r >>= λ t. Err (stopped (Mouth NoMemory) t.1)
run_within (suc n) nest step s r = token_from nest r >>= λ t. fed (step nest) s t >>= λ p. goes_on p.0 (p.1, t.1) (run_within n nest step p.1 t.1)

-- what a machine makes of the tokens that are read, with what is read after them; or the first fault
unfoldable pub run : {S : Type 0} → Nest → (Nest → Step S) → S → Reading → Result (S × Reading) (Stop MacroFault)
run nest step s r = run_within (unread r) nest step s r

-- What a call that reads tokens leaves: its files are open and stay told, those of others stay, and names came at most.
pub record Leaves (old : MouthView) (before : FilesState) (new : MouthView) (after : FilesState) : Type 0 where
  pub opened : AreOpen new after
  pub told : AreTold old before → AreTold new after
  pub others : LeavesOthers (numbers old) before (numbers new) after
  pub names : Grew old.names new.names
  pub units : new.units ≡ old.units

-- the same where no file may end before it is done
abbrev pub run_inside : {S : Type 0} → Nest → (Nest → Step S) → S → Reading → Result (S × Reading) (Stop MacroFault)
run_inside nest step s r = run nest step s (entered r) >>= λ p. Ok (p.0, left p.1)
