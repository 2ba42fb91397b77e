use Rattle.tfm_load.proofs.roman.Roman.numbers_are_near.Goals as goal

pub returns : goal.returns
returns c = rw (← c.self.view_is) (record { characters = c.self.invariant.fix_characters; kerns = c.self.invariant.fix_kerns })
