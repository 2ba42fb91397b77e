use Rattle.std.proofs.Common.{refl}
use Rattle.scan_syntax.proofs.States.{integer_open, dimen_open, glue_open, keyword_open, size_open}
use Rattle.scan_syntax.proofs.MoreStates.{equals_open, naming_open, internal_open}
use Rattle.scan_syntax.proofs.scan.Scan.new.Goals as goal

pub returns-in-Integer-clause-going : goal.returns-in-Integer-clause-going
returns-in-Integer-clause-going c = integer_open _ c.new.result refl c.new.ensures

pub returns-in-Dimen-clause-going : goal.returns-in-Dimen-clause-going
returns-in-Dimen-clause-going c = dimen_open _ c.new-in-Dimen.result refl c.new-in-Dimen.ensures

pub returns-in-Keyword-clause-going : goal.returns-in-Keyword-clause-going
returns-in-Keyword-clause-going c = keyword_open _ c.new-in-Keyword.result c.in-Keyword.word refl c.new-in-Keyword.ensures

pub returns-in-Glue-clause-going : goal.returns-in-Glue-clause-going
returns-in-Glue-clause-going c = glue_open _ c.new-in-Glue.result refl c.new-in-Glue.ensures

pub returns-in-Equals-clause-going : goal.returns-in-Equals-clause-going
returns-in-Equals-clause-going c = equals_open _ refl

pub returns-in-FileName-clause-going : goal.returns-in-FileName-clause-going
returns-in-FileName-clause-going c = naming_open _ c.new-in-FileName.result refl

pub returns-in-Internal-clause-going : goal.returns-in-Internal-clause-going
returns-in-Internal-clause-going c = internal_open _ refl

pub returns-in-BoxSize-clause-going : goal.returns-in-BoxSize-clause-going
returns-in-BoxSize-clause-going c = size_open _ c.size.result refl c.size.ensures
