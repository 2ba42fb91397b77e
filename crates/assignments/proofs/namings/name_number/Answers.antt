use Rattle.assignments.proofs.namings.name_number.Goals as goal

pub store_meaning-requires-2 : goal.store_meaning-requires-2
store_meaning-requires-2 g c = c.in_ok-meaning.ensures.sound _

pub returns-clause-fit : goal.returns-clause-fit
returns-clause-fit g c = c.store_meaning-2.ensures.fit _ (c.in_ok-meaning.ensures.holds _) c.read_shorthand.ensures.fit
