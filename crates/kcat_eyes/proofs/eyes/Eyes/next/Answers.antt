use Rattle.std.proofs.Common.{rules, ◌≡◌, refl, sym, ◌∙◌, drop, arith}
use Rattle.std.proofs.lemmas.Grind.{common_steps}
use Rattle.input_codings.specs.Reading.{unread}
use Rattle.kcat_eyes.specs.Eyes.{next, in_line, Nothing, after_line}
use Rattle.kcat_eyes.specs.Sights.{line_in, sight_in, ahead}
use Rattle.kcat_eyes.proofs.Turns.{nothing_next, refusal}
use Rattle.kcat_eyes.proofs.eyes.Eyes.next.Goals as goal

pub returns-then-not-branch-clause-exact : goal.returns-then-not-branch-clause-exact
returns-then-not-branch-clause-exact g c = λ told.
    let codes = g.C.CodeTable.codes c.args.codes.now in
    let here = c.loop-found.invariant in
    let present = c.loop-found.self-inside.present in
    let nothing = c.is_nothing.ensures.nothing c.loop-found-test.true in
    let none : in_line codes present.state (drop present.at (line_in present.line)) ≡ Nothing = sym (rw nothing at here.found) in
    let done = rw c.if-not-branch.true at (c.in_ok-turn.ensures.exact (rw here.same (here.reads.1 told))) in
    let at_end = rw here.same at (done codes c.args.names.now) in
    here.sight told ∙ nothing_next codes c.args.names.now _ none ∙ at_end

pub returns-in_err-turn-clause-exact : goal.returns-in_err-turn-clause-exact
returns-in_err-turn-clause-exact g c = λ told.
    let codes = g.C.CodeTable.codes c.args.codes.now in
    let here = c.loop-found.invariant in
    let present = c.loop-found.self-inside.present in
    let nothing = c.is_nothing.ensures.nothing c.loop-found-test.true in
    let none : in_line codes present.state (drop present.at (line_in present.line)) ≡ Nothing = sym (rw nothing at here.found) in
    let done = c.in_err-turn.ensures.exact (rw here.same (here.reads.1 told)) in
    let at_fault = rw here.same at (done codes c.args.names.now) in
    refusal _ _ c.from_residual.result c.in_err-turn.field-0.0 c.from_residual.ensures (here.sight told ∙ nothing_next codes c.args.names.now _ none) at_fault

pub loop-found-preserved : goal.loop-found-preserved
loop-found-preserved g c =
    let codes = g.C.CodeTable.codes c.args.codes.now in
    let here = c.loop-found.invariant in
    let present = c.loop-found.self-inside.present in
    let nothing = c.is_nothing.ensures.nothing c.loop-found-test.true in
    let none : in_line codes present.state (drop present.at (line_in present.line)) ≡ Nothing = sym (rw nothing at here.found) in
    record {
      sight = λ told.
          let turned = rw c.if-not-branch.false at (c.in_ok-turn.ensures.exact (rw here.same (here.reads.1 told))) in
          let next_line = rw here.same at (turned codes c.args.names.now) in
          here.sight told ∙ nothing_next codes c.args.names.now _ none ∙ next_line;
      names = refl;
      rises = search rules;
      found = search rules;
      places = search rules;
      within = search rules;
      lowers = grind (arith, common_steps);
      same = search rules;
      unfailed = search rules;
      reads = search rules;
      counted = search rules;
    }

pub returns-clause-exact : goal.returns-clause-exact
unfolding next
returns-clause-exact g c = λ told.
    let codes = g.C.CodeTable.codes c.args.codes.now in
    let here = c.loop-found.invariant in
    let present = c.loop-found.self-inside.present in
    let lines = unread c.loop-found.self-inside.lines ((g.F.Files.state c.loop-found.files).left c.args.self.now.lines.file) in
    let sight = sight_in present.state present.at present.line lines c.loop-found.self-inside.ends in
    rw (here.sight told) (rw here.found at (c.see.ensures.exact lines c.loop-found.self-inside.ends (after_line codes c.args.names.now sight)))

pub returns-then-not-branch-clause-lowers : goal.returns-then-not-branch-clause-lowers
unfolding ahead
returns-then-not-branch-clause-lowers g c =
    let same = rw c.if-not-branch.true at c.in_ok-turn.ensures.counts in
    let none = c.in_ok-turn.ensures.ended c.if-not-branch.true in
    let lowers = c.loop-found.invariant.lowers in
    rw none (grind (arith, common_steps))
