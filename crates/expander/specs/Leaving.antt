-- What expansions leave of environments: all but the meanings of names.
use Rattle.std.specs.Prelude.{map}
use Rattle.std.specs.FinMap.{empty}
use Rattle.env_groups.specs.Environments.{Environment, Nest}

abbrev pub no_meanings : Environment → Environment
no_meanings e = record e { meanings = empty }

-- the environments without the meanings of names, with the groups, the fonts and the situation
unfoldable pub but_meanings : Nest → Nest
but_meanings nest = record nest { environments = map no_meanings nest.environments }
