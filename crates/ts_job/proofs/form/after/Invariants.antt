use Rattle.std.proofs.Common.{◌≡◌, drop}
use Rattle.ts_job.specs.Form.{after}
use Rattle.ts_job.proofs.form.after.Given as goal

abbrev pub invariant-loop-byte : goal.invariant-loop-byte
invariant-loop-byte l = after l.text l.characters ≡ after (drop l.byte-index l.text) l.rest
