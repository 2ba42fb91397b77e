use Rattle.env_groups.proofs.Keeping as keeping
use Rattle.env_groups.proofs.laws.values_keep_their_properties.Goals as goal

pub returns-clause-start : goal.returns-clause-start
returns-clause-start g c = keeping.start_has _ _ _

pub returns-clause-int : goal.returns-clause-int
returns-clause-int g c = keeping.int_keeps _ _ _

pub returns-clause-dim : goal.returns-clause-dim
returns-clause-dim g c = keeping.dim_keeps _ _ _

pub returns-clause-glue : goal.returns-clause-glue
returns-clause-glue g c = keeping.glue_keeps _ _ _

pub returns-clause-toks : goal.returns-clause-toks
returns-clause-toks g c = keeping.toks_keeps _ _ _

pub returns-clause-boxes : goal.returns-clause-boxes
returns-clause-boxes g c = keeping.box_keeps _ _ _

pub returns-clause-replaced : goal.returns-clause-replaced
returns-clause-replaced g c = keeping.replace_keeps _ _ _

pub returns-clause-code : goal.returns-clause-code
returns-clause-code g c = keeping.code_keeps _ _ _

pub returns-clause-meaning : goal.returns-clause-meaning
returns-clause-meaning g c = keeping.meaning_keeps _ _ _

pub returns-clause-font : goal.returns-clause-font
returns-clause-font g c = keeping.font_keeps _ _ _

pub returns-clause-toks_got : goal.returns-clause-toks_got
returns-clause-toks_got g c = keeping.toks_has _ _ _

pub returns-clause-box_got : goal.returns-clause-box_got
returns-clause-box_got g c = keeping.box_has _ _ _
