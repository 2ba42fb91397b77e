use Rattle.std.proofs.Common.{◌≡◌, ◌+◌, List, [], ◌∷◌, sym, subst, ℕ, arith}
use Rattle.line_break.specs.declared.states.Reached.{Reached}
use Rattle.line_break.specs.Codes.{first}
use Rattle.line_break.specs.Ready.{Ready, pairs, pass_of}
use Rattle.std.proofs.lemmas.Grind.{common_steps}
use Rattle.line_break.proofs.Step.{ready-start, pairs_grow}
use Rattle.line_break.proofs.search.one_pass.Goals as goal

pub loop-k-init : goal.loop-k-init
unfolding pairs
loop-k-init g c =
    let p = pass_of c.args.lines.now in
    let states : c.push.new.self.items ≡ first ∷ [] = grind (arith, common_steps) in
    let active : c.push-2.new.self.items ≡ 0 ∷ [] = grind (arith, common_steps) in
    let P : List Reached → Type 0 = λ xs. Ready p 0 xs c.push-2.new.self.items in
    let Q : List ℕ → Type 0 = λ is. Ready p 0 (first ∷ []) is in
    record { ready = subst P (sym states) (subst Q (sym active) (ready-start p)); steps = omega arith }

pub returns-in_err-meet_next-clause-most : goal.returns-in_err-meet_next-clause-most
returns-in_err-meet_next-clause-most g c =
    let p = pass_of c.args.lines.now in
    let grown = pairs_grow p (c.loop-k.k + 1) c.args.n (omega (arith, c.loop-k-test.true)) in
    omega (arith, grown, c.loop-k.invariant.steps, c.in_err-meet_next.ensures.steps)
