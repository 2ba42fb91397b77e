-- The first line of a file, as it is read.
use Rattle.std.proofs.Common.{◌≡◌, List, Option, Ok, refl}
use Rattle.jis_codes.specs.declared.character.Char.{Char}
use Rattle.ts_base.specs.Agreement.{AgreesFault}
use Rattle.ts_base.proofs.Composing.{fault_agrees, first_refuses}
use Rattle.ts_outside.specs.States.{Held}
use Rattle.ts_outside.specs.Reading.{bytes_of}
use Rattle.input_codings.specs.declared.fault.LineFault.{LineFault}
use Rattle.input_codings.specs.declared.fault.LineFault.TheVariants as lines
use Rattle.input_codings.specs.declared.fault.OpenFault.{OpenFault}
use Rattle.input_codings.specs.declared.fault.OpenFault.TheVariants as opens
use Rattle.input_codings.specs.Lines.{Unread, next_line, line_cause, open_cause, opened}
use Rattle.ts_job.specs.Words.{Request}
use Rattle.ts_job.specs.Meaning.{line_fault, open_fault, stop_cause, first_line}

open_causes : (e : OpenFault) → stop_cause (open_fault e) ≡ open_cause e
open_causes opens.Missing = refl
open_causes opens.ReadFault = refl
open_causes opens.NoMemory = refl

line_causes : (e : LineFault) → stop_cause (line_fault e) ≡ line_cause e
line_causes lines.TooManyLines = refl
line_causes lines.LineTooLong = refl
line_causes (lines.BadByte at) = refl
line_causes lines.ReadFault = refl
line_causes lines.NoMemory = refl

module _ (held : List Held) (request : Request) where
  pub first_line-missing : (e : OpenFault) → AgreesFault (open_cause e) e (opened request.coding (bytes_of held request.main)) → AgreesFault (stop_cause (open_fault e)) (open_fault e) (first_line held request)
  unfolding first_line
  first_line-missing e agrees = rw (open_causes e) (first_refuses (open_cause e) (open_fault e) _ _ (fault_agrees (open_cause e) open_fault e _ agrees))

  pub first_line-refused : (u : Unread) (e : LineFault) → opened request.coding (bytes_of held request.main) ≡ Ok u → AgreesFault (line_cause e) e (next_line u) → AgreesFault (stop_cause (line_fault e)) (line_fault e) (first_line held request)
  unfolding first_line
  first_line-refused u e is agrees = rw (is, line_causes e) (first_refuses (line_cause e) (line_fault e) _ _ (fault_agrees (line_cause e) line_fault e _ agrees))

  pub first_line-given : (u v : Unread) (l : Option (List Char)) → opened request.coding (bytes_of held request.main) ≡ Ok u → next_line u ≡ Ok (l, v) → first_line held request ≡ Ok l
  unfolding first_line
  first_line-given u v l is gave = rw (is, gave) refl
