use Rattle.jis_codes.specs.Numbers.{number_of}
use Rattle.jis_codes.proofs.Spelt.{spells-number_of, spells-only}
use Rattle.jis_codes.proofs.spelling.are_one_to_one.Goals as goal

pub returns-clause-numbers : goal.returns-clause-numbers
returns-clause-numbers c = λ coding k h. (number_of coding k, (spells-number_of coding k h, spells-only coding k))
