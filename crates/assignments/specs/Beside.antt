-- What assignments leave of an environment beside what is set and the meanings of names.
use Rattle.std.specs.Prelude.{◌≡◌}
use Rattle.env_groups.specs.Environments.{Nest}

-- The situation, the fonts and the groups are the same.
pub record IsBeside (old new : Nest) : Type 0 where
  pub situation : new.situation ≡ old.situation
  pub fonts : new.fonts ≡ old.fonts
  pub groups : new.groups ≡ old.groups
