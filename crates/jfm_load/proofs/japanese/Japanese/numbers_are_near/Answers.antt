use Rattle.jfm_load.proofs.japanese.Japanese.numbers_are_near.Goals as goal

pub returns : goal.returns
returns c =
    rw (← c.self.view_is)
    (record { classes = c.self.invariant.fix_classes; kerns = c.self.invariant.fix_kerns; glues = c.self.invariant.fix_glues })
