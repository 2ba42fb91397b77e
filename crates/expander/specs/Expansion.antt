-- Expansion (The TeXbook, chapter 20): the steps over themselves, where each call is asked of less than the call that makes
-- it.
use Rattle.std.specs.Prelude.{ℕ, zero, suc, ◌+◌, ◌*◌, Ok, Err, nat_lt, if◌then◌else◌}
use Rattle.ts_base.specs.Agreement.{◌>>=◌}
use Rattle.tok_lists.specs.declared.token.Token.{Token}
use Rattle.mouth.specs.Reading.{Reading}
use Rattle.mouth.specs.Sizes.{size}
use Rattle.mouth.specs.declared.fault.MouthFault.TheVariants.{NoMemory}
use Rattle.raw_texts.specs.declared.fault.MacroFault.TheVariants.{Mouth}
use Rattle.expander.specs.declared.fault.StepFault.TheVariants.{Text}
use Rattle.expander.specs.Faults.{stopped}
use Rattle.expander.specs.Worlds.{World, world, Outcome}
use Rattle.expander.specs.Actions.{expands}
use Rattle.expander.specs.Steps.{Call, Next, PastSpaces, Chars, Expand, Scan, Calls, step}

-- how far down a call stands among those on the same world
abbrev pub place : Call → ℕ
place Next = 0
place PastSpaces = 1
place (Chars before) = 1
place (Expand token) = 0
place (Scan want before) = 1

-- how much a call has before it
abbrev pub rank : Call → World → ℕ
rank call w = 8 * size w.at + place call

-- No call comes to this.
abbrev pub gives_up : Calls
gives_up call w = Err (stopped (Text (Mouth NoMemory)) w.at)

-- the calls on less than k
abbrev pub below : ℕ → Calls → Calls
below k f call w = if nat_lt (rank call w) k then f call w else gives_up call w

unfoldable pub calls_at : ℕ → Calls
calls_at zero call w = gives_up call w
calls_at (suc n) call w = step (below (rank call w) (calls_at n)) call w

-- what a call gives, with as many levels as it has before it
unfoldable pub run : Calls
run call w = calls_at (suc (rank call w)) call w

-- what follows an expansion, where it left less than there was before its token
abbrev pub goes_on : World → World → Outcome (Token × World)
goes_on w v = if nat_lt (rank Next v) (rank Next w) then run Next v else gives_up Next v

abbrev pub near_on : World → Token × Reading → Outcome (Token × World)
near_on w t =
    if expands w.nest t.0 then (run (Expand t.0) (world t.1 w.nest) >>= goes_on w) else Ok (t.0, world t.1 w.nest)
