use Rattle.env_groups.proofs.Nesting as nesting
use Rattle.env_groups.proofs.laws.what_is_global_stays.Goals as goal

pub returns-clause-int : goal.returns-clause-int
returns-clause-int c = nesting.int_stays

pub returns-clause-dim : goal.returns-clause-dim
returns-clause-dim c = nesting.dim_stays

pub returns-clause-glue : goal.returns-clause-glue
returns-clause-glue c = nesting.glue_stays

pub returns-clause-toks : goal.returns-clause-toks
returns-clause-toks c = nesting.toks_stays

pub returns-clause-boxes : goal.returns-clause-boxes
returns-clause-boxes c = nesting.box_stays

pub returns-clause-code : goal.returns-clause-code
returns-clause-code c = nesting.code_stays

pub returns-clause-meaning : goal.returns-clause-meaning
returns-clause-meaning c = nesting.meaning_stays

pub returns-clause-font : goal.returns-clause-font
returns-clause-font c = nesting.font_stays
