-- What a token is fed with is stored as a pair.
use Rattle.std.specs.Prelude.{List, refl}
use Rattle.std.specs.Coded.{Coded, code_by, coded×, coded_list}
use Rattle.tok_lists.specs.declared.spelling.Spelling.{Spelling}
use Rattle.tok_lists.specs.contracts.spelling.Spelling as spellings
use Rattle.env_groups.specs.Environments.{Nest}
use Rattle.env_groups.specs.ModelCodes.{nest_code}
use Rattle.scan_numbers.specs.Contexts.{Context}

abbrev pub context_code : Coded Context
context_code =
    code_by (Nest × List Spelling) (coded× nest_code (coded_list spellings.the_row.coded))
    (λ c. (c.env, c.names)) (λ t. record { env = t.0; names = t.1 }) (λ _. refl)
