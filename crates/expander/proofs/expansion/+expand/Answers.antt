use Rattle.std.proofs.Common.{◌≡◌, ◌∙◌, refl, sym, arith, true, false, Option, Some, None}
use Rattle.mouth.specs.Reading.{at_place}
use Rattle.mouth.specs.Keeping.{reading, place_in}
use Rattle.expander.specs.Actions.{expands}
use Rattle.expander.specs.Faults.{step_cause}
use Rattle.expander.specs.Worlds.{world}
use Rattle.scan_numbers.specs.Contexts.{around}
use Rattle.scan_numbers.specs.Tokens.{is_space}
use Rattle.jis_codes.specs.declared.Char.{Char}
use Rattle.expander.specs.Naming.{char_of}
use Rattle.expander.specs.Steps.{Next, PastSpaces, Chars}
use Rattle.expander.specs.Expansion.{run}
use Rattle.expander.proofs.Chains.{goes_then, goes_itself}
use Rattle.expander.proofs.Exits.{step_refuses}
use Rattle.expander.proofs.Loops.{next_turn, next_done, next_unread, next_refused}
use Rattle.expander.proofs.Turns.{turned_first, turned_on, turned_bad, turned_done, turned_refused, back_known, found_listed, back_fewer}
use Rattle.expander.proofs.Outcomes.{on_ok_weaker}
use Rattle.expander.proofs.Spaces.{past_turn, past_done, past_refused}
use Rattle.expander.proofs.Spelling.{chars_turn, chars_done, chars_refused, end_agrees}
use Rattle.expander.proofs.Fitting.{call_fit}
use Rattle.expander.proofs.expansion.+expand.Goals as goal

pub expand-expand_call-requires-clause-callable : goal.expand-expand_call-requires-clause-callable
expand-expand_call-requires-clause-callable g t c =
    call_fit c.args.mouth.now.names c.args.env.now c.args.token c.in-Call.definition (sym c.in-Call.ensures.value) c.requires.fit

pub next_token-returns-in_err-token-clause-exact : goal.next_token-returns-in_err-token-clause-exact
next_token-returns-in_err-token-clause-exact g t c = λ told.
    let was = c.loop-token.invariant in
    let w = world (reading c.loop-token.mouth (g.F.Files.state c.loop-token.files)) c.loop-token.env in
    let e = c.in_err-token.field-0.0 in
    let place = place_in c.take.new.mouth in
    step_refuses _ place c.from_residual.result e _ (run Next w) c.from_residual.ensures (was.same told)
    (next_unread (step_cause e) w (at_place place e) (c.in_err-token.ensures.exact (was.goes.told told)))

pub next_token-returns-then-not-is_expandable-clause-exact : goal.next_token-returns-then-not-is_expandable-clause-exact
next_token-returns-then-not-is_expandable-clause-exact g t c = λ told.
    let was = c.loop-token.invariant in
    let w = world (reading c.loop-token.mouth (g.F.Files.state c.loop-token.files)) c.loop-token.env in
    let r1 = reading c.take.new.mouth (g.F.Files.state c.take.new.files) in
    let not : expands c.loop-token.env c.in_ok-token.token ≡ false = cc in
    was.same told ∙ next_done w c.in_ok-token.token r1 (c.in_ok-token.ensures.exact (was.goes.told told)) not

pub next_token-returns-in_err-expand-clause-exact : goal.next_token-returns-in_err-expand-clause-exact
next_token-returns-in_err-expand-clause-exact g t c = λ told.
    let was = c.loop-token.invariant in
    let w = world (reading c.loop-token.mouth (g.F.Files.state c.loop-token.files)) c.loop-token.env in
    let r1 = reading c.take.new.mouth (g.F.Files.state c.take.new.files) in
    let yes : expands c.loop-token.env c.in_ok-token.token ≡ true = cc in
    let e = c.in_err-expand.field-0.0 in
    let place = place_in c.expand.new.mouth in
    let still = was.goes.told told in
    let refuses = next_refused (step_cause e) w c.in_ok-token.token r1 (at_place place e) (c.in_ok-token.ensures.exact still) yes (c.in_err-expand.ensures.exact (c.take.ensures.goes.told still)) in
    step_refuses _ place c.from_residual-in_err-expand.result e _ (run Next w) c.from_residual-in_err-expand.ensures (was.same told) refuses

pub next_token-loop-token-preserved : goal.next_token-loop-token-preserved
next_token-loop-token-preserved g t c =
    let was = c.loop-token.invariant in
    let w = world (reading c.loop-token.mouth (g.F.Files.state c.loop-token.files)) c.loop-token.env in
    let r1 = reading c.take.new.mouth (g.F.Files.state c.take.new.files) in
    let v = world (reading c.expand.new.mouth (g.F.Files.state c.expand.new.files)) c.expand.new.env in
    let yes : expands c.loop-token.env c.in_ok-token.token ≡ true = cc in
    let first = g.F.Files.state c.args.files.now in
    let taken = goes_then c.args.mouth.now c.loop-token.mouth c.take.new.mouth first (g.F.Files.state c.loop-token.files) (g.F.Files.state c.take.new.files) was.goes c.take.ensures.goes in
    record {
      same = λ told.
          let still = was.goes.told told in
          was.same told ∙ next_turn w v c.in_ok-token.token r1 (c.in_ok-token.ensures.exact still) yes (c.in_ok-expand.ensures.exact (c.take.ensures.goes.told still))
          (omega (arith, c.in_ok-token.ensures.size, c.in_ok-expand.ensures.size));
      goes = goes_then c.args.mouth.now c.take.new.mouth c.expand.new.mouth first (g.F.Files.state c.take.new.files) (g.F.Files.state c.expand.new.files) taken c.expand.ensures.goes;
      readable = c.in_ok-expand.ensures.readable;
      fit = c.expand.ensures.fit;
      kept = c.expand.ensures.kept ∙ was.kept;
      size = omega (arith, c.in_ok-token.ensures.size, c.in_ok-expand.ensures.size, was.size);
      counted = c.in_ok-expand.ensures.counted ∙ c.in_ok-token.ensures.counted ∙ was.counted;
    }

pub next_past_spaces-returns-in_err-token-clause-exact : goal.next_past_spaces-returns-in_err-token-clause-exact
next_past_spaces-returns-in_err-token-clause-exact g t c = λ told.
    let was = c.loop-token.invariant in
    let w = world (reading c.loop-token.mouth (g.F.Files.state c.loop-token.files)) c.loop-token.env in
    let e = c.in_err-token.field-0.0 in
    let place = place_in c.next_token.new.mouth in
    step_refuses _ place c.from_residual.result e _ (run PastSpaces w) c.from_residual.ensures (was.same told)
    (past_refused (step_cause e) w (at_place place e) (c.in_err-token.ensures.exact (was.goes.told told)))

pub next_past_spaces-returns-then-not-is_space_in-clause-exact : goal.next_past_spaces-returns-then-not-is_space_in-clause-exact
next_past_spaces-returns-then-not-is_space_in-clause-exact g t c = λ told.
    let was = c.loop-token.invariant in
    let w = world (reading c.loop-token.mouth (g.F.Files.state c.loop-token.files)) c.loop-token.env in
    let v = world (reading c.next_token.new.mouth (g.F.Files.state c.next_token.new.files)) c.next_token.new.env in
    let other : is_space c.in_ok-token.token (around v.nest v.at.names) ≡ false = cc in
    was.same told ∙ past_done w v c.in_ok-token.token (c.in_ok-token.ensures.exact (was.goes.told told)) other

pub next_past_spaces-loop-token-preserved : goal.next_past_spaces-loop-token-preserved
next_past_spaces-loop-token-preserved g t c =
    let was = c.loop-token.invariant in
    let w = world (reading c.loop-token.mouth (g.F.Files.state c.loop-token.files)) c.loop-token.env in
    let v = world (reading c.next_token.new.mouth (g.F.Files.state c.next_token.new.files)) c.next_token.new.env in
    let space : is_space c.in_ok-token.token (around v.nest v.at.names) ≡ true = cc in
    record {
      same = λ told. was.same told ∙ past_turn w v c.in_ok-token.token (c.in_ok-token.ensures.exact (was.goes.told told)) space;
      goes = goes_then c.args.mouth.now c.loop-token.mouth c.next_token.new.mouth (g.F.Files.state c.args.files.now) (g.F.Files.state c.loop-token.files) (g.F.Files.state c.next_token.new.files) was.goes c.next_token.ensures.goes;
      readable = c.in_ok-token.ensures.readable;
      fit = c.next_token.ensures.fit;
      kept = c.next_token.ensures.kept ∙ was.kept;
      size = omega (arith, c.in_ok-token.ensures.size, was.size);
      counted = c.in_ok-token.ensures.counted ∙ was.counted;
    }

pub read_chars-returns-in_err-token-clause-exact : goal.read_chars-returns-in_err-token-clause-exact
read_chars-returns-in_err-token-clause-exact g t c = λ told.
    let was = c.loop-chars.invariant in
    let w = world (reading c.loop-chars.mouth (g.F.Files.state c.loop-chars.files)) c.loop-chars.env in
    let e = c.in_err-token.field-0.0 in
    let place = place_in c.next_token.new.mouth in
    step_refuses _ place c.from_residual.result e _ (run (Chars c.loop-chars.chars) w) c.from_residual.ensures (was.same told)
    (chars_refused (step_cause e) c.loop-chars.chars w (at_place place e) (c.in_err-token.ensures.exact (was.goes.told told)))

pub read_chars-returns-in_default-clause-exact : goal.read_chars-returns-in_default-clause-exact
read_chars-returns-in_default-clause-exact g t c = λ told.
    let was = c.loop-chars.invariant in
    let w = world (reading c.loop-chars.mouth (g.F.Files.state c.loop-chars.files)) c.loop-chars.env in
    let v = world (reading c.next_token.new.mouth (g.F.Files.state c.next_token.new.files)) c.next_token.new.env in
    let none : char_of c.in_ok-token.token ≡ None = cc in
    rw (was.same told ∙ chars_done c.loop-chars.chars w v c.in_ok-token.token (c.in_ok-token.ensures.exact (was.goes.told told)) none)
    (end_agrees c.loop-chars.chars v c.in_ok-token.token c.end_of_name.result c.end_of_name.ensures)

pub read_chars-loop-chars-preserved : goal.read_chars-loop-chars-preserved
read_chars-loop-chars-preserved g t c =
    let was = c.loop-chars.invariant in
    let w = world (reading c.loop-chars.mouth (g.F.Files.state c.loop-chars.files)) c.loop-chars.env in
    let v = world (reading c.next_token.new.mouth (g.F.Files.state c.next_token.new.files)) c.next_token.new.env in
    let some : char_of c.in_ok-token.token ≡ Some c.in-Some.c = cc in
    record {
      same = rw c.in_ok-push.ensures.ok (λ told. was.same told ∙ chars_turn c.loop-chars.chars w v c.in_ok-token.token c.in-Some.c (c.in_ok-token.ensures.exact (was.goes.told told)) some);
      goes = goes_then c.args.mouth.now c.loop-chars.mouth c.next_token.new.mouth (g.F.Files.state c.args.files.now) (g.F.Files.state c.loop-chars.files) (g.F.Files.state c.next_token.new.files) was.goes c.next_token.ensures.goes;
      readable = c.in_ok-token.ensures.readable;
      fit = c.next_token.ensures.fit;
      kept = c.next_token.ensures.kept ∙ was.kept;
      size = omega (arith, c.in_ok-token.ensures.size, was.size);
      counted = c.in_ok-token.ensures.counted ∙ was.counted;
    }

pub scan-returns-in_err-token-clause-exact : goal.scan-returns-in_err-token-clause-exact
scan-returns-in_err-token-clause-exact g t c = λ told.
    let was = c.loop-scan.invariant in
    let e = c.in_err-token.field-0.0 in
    let place = place_in c.take_wanted.new.mouth in
    step_refuses _ place c.from_residual.result e _ _ c.from_residual.ensures refl
    (turned_refused _ (step_cause e) c.args.want c.loop-scan.raw _ _ _ (at_place place e) was.turned told (c.in_err-token.ensures.exact (was.goes.told told)))

pub scan-loop-scan-preserved-in-Ok-Expanded : goal.scan-loop-scan-preserved-in-Ok-Expanded
scan-loop-scan-preserved-in-Ok-Expanded g t c =
    let was = c.loop-scan.invariant in
    let stands = rw c.names.ensures at (rw c.in-Ok-Expanded.field-0-is at c.in-Ok-Expanded.ensures.stands) in
    let exact = rw c.names.ensures at (rw c.in-Ok-Expanded.field-0-is at c.in-Ok-Expanded.ensures.exact) in
    record {
      turned = turned_on _ c.args.want c.loop-scan.raw false _ _ _ _ _ c.in_ok-token.token was.turned (λ told. c.in_ok-token.ensures.exact (was.goes.told told))
          stands exact c.take_wanted.ensures.goes.names c.in_ok-token.ensures.token c.in_ok-token.ensures.size;
      goes = goes_then c.args.mouth.now c.loop-scan.mouth c.take_wanted.new.mouth (g.F.Files.state c.args.files.now) (g.F.Files.state c.loop-scan.files) (g.F.Files.state c.take_wanted.new.files) was.goes c.take_wanted.ensures.goes;
      readable = c.in_ok-token.ensures.readable;
      fit = c.take_wanted.ensures.fit;
      kept = c.take_wanted.ensures.kept ∙ was.kept;
      size = omega (arith, c.in_ok-token.ensures.size, was.size);
      counted = c.in_ok-token.ensures.counted ∙ was.counted;
    }

pub scan-loop-scan-preserved : goal.scan-loop-scan-preserved
scan-loop-scan-preserved g t c =
    let was = c.loop-scan.invariant in
    let stands = rw c.names.ensures at (rw c.in-Ok-Raw.field-0-is at c.in-Ok-Raw.ensures.stands) in
    let exact = rw c.names.ensures at (rw c.in-Ok-Raw.field-0-is at c.in-Ok-Raw.ensures.exact) in
    record {
      turned = turned_on _ c.args.want c.loop-scan.raw true _ _ _ _ _ c.in_ok-token.token was.turned (λ told. c.in_ok-token.ensures.exact (was.goes.told told))
          stands exact c.take_wanted.ensures.goes.names c.in_ok-token.ensures.token c.in_ok-token.ensures.size;
      goes = goes_then c.args.mouth.now c.loop-scan.mouth c.take_wanted.new.mouth (g.F.Files.state c.args.files.now) (g.F.Files.state c.loop-scan.files) (g.F.Files.state c.take_wanted.new.files) was.goes c.take_wanted.ensures.goes;
      readable = c.in_ok-token.ensures.readable;
      fit = c.take_wanted.ensures.fit;
      kept = c.take_wanted.ensures.kept ∙ was.kept;
      size = omega (arith, c.in_ok-token.ensures.size, was.size);
      counted = c.in_ok-token.ensures.counted ∙ was.counted;
    }

pub scan-returns-in-Err-Kind-clause-exact : goal.scan-returns-in-Err-Kind-clause-exact
scan-returns-in-Err-Kind-clause-exact g t c = λ told.
    let was = c.loop-scan.invariant in
    let exact = rw c.names.ensures at (rw c.in-Err-Kind.field-0-is at c.in-Err-Kind.ensures.exact) in
    rw c.in-Err-Kind.field-0-is (turned_bad _ c.args.want c.loop-scan.raw _ _ _ _ c.in_ok-token.token _ was.turned (λ told. c.in_ok-token.ensures.exact (was.goes.told told)) exact told)

pub scan-returns-in-Ok-Done-clause-exact : goal.scan-returns-in-Ok-Done-clause-exact
scan-returns-in-Ok-Done-clause-exact g t c = λ told.
    let was = c.loop-scan.invariant in
    let exact = rw c.names.ensures at (rw c.in-Ok-Done.field-0-is at c.in-Ok-Done.ensures.exact) in
    rw (turned_done _ c.args.want c.loop-scan.raw _ _ _ _ c.in_ok-token.token _ _ was.turned (λ told. c.in_ok-token.ensures.exact (was.goes.told told)) exact told)
    (c.give_back.ensures.exact (g.F.Files.state c.take_wanted.new.files) c.take_wanted.new.env)

pub scan-loop-scan-init : goal.scan-loop-scan-init
scan-loop-scan-init g t c = record {
  turned = turned_first _ c.args.want _ _ c.new-scan.ensures.stands;
  goes = goes_itself c.args.mouth.now (g.F.Files.state c.args.files.now) c.requires.opened;
  readable = c.requires.readable;
  fit = c.requires.fit;
  kept = refl;
  size = omega arith;
  counted = refl;
}

pub scan-give_back-requires-clause-known : goal.scan-give_back-requires-clause-known
scan-give_back-requires-clause-known g t c =
    let v = world (reading c.take_wanted.new.mouth (g.F.Files.state c.take_wanted.new.files)) c.take_wanted.new.env in
    let exact = rw c.names.ensures at (rw c.in-Ok-Done.field-0-is at c.in-Ok-Done.ensures.exact) in
    back_known _ c.args.want c.loop-scan.raw _ _ _ v c.in_ok-token.token _ _ c.loop-scan.invariant.turned exact c.take_wanted.ensures.goes.names c.in_ok-token.ensures.token

pub scan-give_back-requires-clause-listed : goal.scan-give_back-requires-clause-listed
scan-give_back-requires-clause-listed g t c =
    let v = world (reading c.take_wanted.new.mouth (g.F.Files.state c.take_wanted.new.files)) c.take_wanted.new.env in
    let exact = rw c.names.ensures at (rw c.in-Ok-Done.field-0-is at c.in-Ok-Done.ensures.exact) in
    found_listed _ c.args.want c.loop-scan.raw _ _ _ v c.in_ok-token.token _ _ c.loop-scan.invariant.turned exact c.take_wanted.ensures.fit

pub scan-give_back-requires-clause-within : goal.scan-give_back-requires-clause-within
scan-give_back-requires-clause-within g t c = rw c.in-Ok-Done.field-0-is at c.in-Ok-Done.ensures.within

pub scan-returns-in-Ok-Done-clause-size : goal.scan-returns-in-Ok-Done-clause-size
scan-returns-in-Ok-Done-clause-size g t c =
    let v = world (reading c.take_wanted.new.mouth (g.F.Files.state c.take_wanted.new.files)) c.take_wanted.new.env in
    let exact = rw c.names.ensures at (rw c.in-Ok-Done.field-0-is at c.in-Ok-Done.ensures.exact) in
    let few = back_fewer _ c.args.want c.loop-scan.raw _ _ _ v c.in_ok-token.token _ _ c.loop-scan.invariant.turned exact c.in_ok-token.ensures.size in
    on_ok_weaker c.give_back.result c.give_back.ensures.size (λ adds. omega (arith, few, adds (g.F.Files.state c.take_wanted.new.files)))
