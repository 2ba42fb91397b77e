-- With what a token is fed: an environment, and the spellings of names by their numbers.
use Rattle.std.specs.Prelude.{List}
use Rattle.tok_lists.specs.declared.spelling.Spelling.{Spelling}
use Rattle.env_groups.specs.Environments.{Nest}

pub record Context : Type 0 where
  pub env : Nest
  pub names : List Spelling

abbrev pub around : Nest → List Spelling → Context
around env names = record { env = env; names = names }
