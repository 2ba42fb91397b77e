use Rattle.std.proofs.Common.{arith, ◌∙◌}
use Rattle.tok_lists.specs.declared.token.Token.{Token}
use Rattle.tok_lists.proofs.Growing.{grew_then}
use Rattle.mouth.specs.Reading.{at_place, mouth_cause}
use Rattle.mouth.specs.Tokens.{next}
use Rattle.mouth.specs.Keeping.{numbers, reading, place_in}
use Rattle.mouth.proofs.Leaving.{leaves_then}
use Rattle.mouth.proofs.Sizing.{unread_kept, size_kept}
use Rattle.mouth.proofs.Ends.{token_next, end_next, refuses_next, refuses_ended, refusal}
use Rattle.mouth.proofs.mouth.Mouth.next.Goals as goal

pub returns-in_err-token-clause-exact : goal.returns-in_err-token-clause-exact
returns-in_err-token-clause-exact g c = λ told.
    let codes = g.C.CodeTable.codes c.args.codes.now in
    let was = c.loop-token.invariant in
    let r = reading c.loop-token.self (g.F.Files.state c.loop-token.files) in
    let e = c.in_err-token.field-0.0 in
    let place = place_in c.look.new.self in
    let refuses = refuses_next (mouth_cause e) codes r (at_place place e) (c.in_err-token.ensures.exact (was.told told)) in
    let now = reading c.look.new.self (g.F.Files.state c.look.new.files) in
    let first = reading c.args.self.now (g.F.Files.state c.args.files.now) in
    refusal (λ (token : Token). (token, now)) place c.from_residual.result e (next codes first) (next codes r) c.from_residual.ensures (was.same told) refuses

pub returns-in-Token-clause-exact : goal.returns-in-Token-clause-exact
returns-in-Token-clause-exact g c = λ told.
    let codes = g.C.CodeTable.codes c.args.codes.now in
    let was = c.loop-token.invariant in
    let r = reading c.loop-token.self (g.F.Files.state c.loop-token.files) in
    let r1 = reading c.look.new.self (g.F.Files.state c.look.new.files) in
    was.same told ∙ token_next codes r r1 c.in-Token.token (rw c.in-Token.is at (c.in_ok-token.ensures.exact (was.told told)))

pub returns-in-Token-clause-unread : goal.returns-in-Token-clause-unread
returns-in-Token-clause-unread g c =
    let lowers = rw c.in-Token.is at c.in_ok-token.ensures.lowers in
    let was = c.loop-token.invariant in
    let old = unread_kept c.args.self.now (g.F.Files.state c.args.files.now) in
    let new = unread_kept c.look.new.self (g.F.Files.state c.look.new.files) in
    rw (old, new) (omega (arith, lowers, was.lowers))

pub returns-in-Token-clause-size : goal.returns-in-Token-clause-size
returns-in-Token-clause-size g c =
    let lowers = rw c.in-Token.is at c.in_ok-token.ensures.lowers in
    let was = c.loop-token.invariant in
    let units = c.in_ok-token.ensures.units ∙ was.units in
    let old = size_kept c.args.self.now (g.F.Files.state c.args.files.now) in
    let new = size_kept c.look.new.self (g.F.Files.state c.look.new.files) in
    rw (old, new, units) (omega (arith, lowers, was.lowers))

pub loop-token-preserved : goal.loop-token-preserved
loop-token-preserved g c =
    let codes = g.C.CodeTable.codes c.args.codes.now in
    let was = c.loop-token.invariant in
    let look = c.in_ok-token.ensures in
    let end = c.in_ok-end_file-in-End.ensures in
    let first = g.F.Files.state c.args.files.now in
    let old = g.F.Files.state c.loop-token.files in
    let between = g.F.Files.state c.look.new.files in
    let new = g.F.Files.state c.end_file.new.files in
    let r = reading c.loop-token.self old in
    let r1 = reading c.look.new.self between in
    let r2 = reading c.end_file.new.self new in
    let lowers = rw c.in-End.is at look.lowers in
    let others = leaves_then (numbers c.args.self.now) (numbers c.loop-token.self) (numbers c.look.new.self) first old between was.others look.others in
    record {
      same = λ told. was.same told ∙ end_next codes r r1 r2 (rw c.in-End.is at (look.exact (was.told told))) (end.exact (look.told (was.told told)));
      opened = end.opened;
      readable = end.readable;
      told = λ told. end.told (look.told (was.told told));
      others = leaves_then (numbers c.args.self.now) (numbers c.look.new.self) (numbers c.end_file.new.self) first between new others end.others;
      names = rw end.names (grew_then c.args.self.now.names c.loop-token.self.names c.look.new.self.names was.names look.names);
      units = end.units ∙ look.units ∙ was.units;
      lowers = omega (arith, end.size, lowers, was.lowers);
      counted = end.counted ∙ look.counted ∙ was.counted;
    }

pub returns-in_err-end_file-in-End-clause-exact : goal.returns-in_err-end_file-in-End-clause-exact
returns-in_err-end_file-in-End-clause-exact g c = λ told.
    let codes = g.C.CodeTable.codes c.args.codes.now in
    let was = c.loop-token.invariant in
    let look = c.in_ok-token.ensures in
    let r = reading c.loop-token.self (g.F.Files.state c.loop-token.files) in
    let r1 = reading c.look.new.self (g.F.Files.state c.look.new.files) in
    let e = c.in_err-end_file-in-End.field-0.0 in
    let place = place_in c.end_file.new.self in
    let sees = rw c.in-End.is at (look.exact (was.told told)) in
    let refuses = refuses_ended (mouth_cause e) codes r r1 (at_place place e) sees (c.in_err-end_file-in-End.ensures.exact (look.told (was.told told))) in
    let now = reading c.end_file.new.self (g.F.Files.state c.end_file.new.files) in
    let first = reading c.args.self.now (g.F.Files.state c.args.files.now) in
    refusal (λ (token : Token). (token, now)) place c.from_residual-in_err-end_file-in-End.result e (next codes first) (next codes r) c.from_residual-in_err-end_file-in-End.ensures (was.same told) refuses
