use Rattle.line_break.specs.Ready.{pass_of}
use Rattle.line_break.proofs.Step.{meets_plus, found_within_plus, steps_plus, sums_within}
use Rattle.line_break.proofs.search.meet_next.Goals as goal

pub meet-requires-clause-found : goal.meet-requires-clause-found
meet-requires-clause-found g c = found_within_plus (pass_of c.args.lines.now) c.args.k c.args.states.now.items c.args.active.now.items c.requires.few c.requires.small c.requires.ready

pub meet-requires-clause-bounded : goal.meet-requires-clause-bounded
meet-requires-clause-bounded g c = sums_within (pass_of c.args.lines.now) c.args.k c.args.states.now.items c.args.active.now.items c.requires.few c.requires.ready

pub returns-clause-ready : goal.returns-clause-ready
returns-clause-ready g c = meets_plus (pass_of c.args.lines.now) c.args.k c.args.states.now.items c.meet.new.states.items c.args.active.now.items c.meet.new.active.items c.requires.small c.requires.ready c.in_ok-meet.ensures.states c.in_ok-meet.ensures.active

pub returns-clause-steps : goal.returns-clause-steps
returns-clause-steps g c = steps_plus (pass_of c.args.lines.now) c.args.k c.args.states.now.items c.args.active.now.items c.args.steps.now c.meet.new.steps c.requires.ready c.in_ok-meet.ensures.steps

pub returns-in_err-meet-clause-steps : goal.returns-in_err-meet-clause-steps
returns-in_err-meet-clause-steps g c = steps_plus (pass_of c.args.lines.now) c.args.k c.args.states.now.items c.args.active.now.items c.args.steps.now c.meet.new.steps c.requires.ready c.in_err-meet.ensures.steps
