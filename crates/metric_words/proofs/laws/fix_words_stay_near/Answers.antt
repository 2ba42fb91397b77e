use Rattle.metric_words.proofs.Scaling.{scaled_within, measures_within}
use Rattle.metric_words.proofs.laws.fix_words_stay_near.Goals as goal

pub returns-clause-word : goal.returns-clause-word
returns-clause-word c = λ fix_word z h. scaled_within fix_word z h

pub returns-clause-measures : goal.returns-clause-measures
returns-clause-measures c = λ ch z h. measures_within ch z h
