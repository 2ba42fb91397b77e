-- One call that expands after another.
use Rattle.std.proofs.Common.{refl}
use Rattle.ts_outside.specs.States.{FilesState}
use Rattle.tok_lists.proofs.Growing.{grew_itself, grew_then}
use Rattle.mouth.specs.Keeping.{MouthView, numbers, AreOpen}
use Rattle.mouth.proofs.Leaving.{leaves_then}
use Rattle.expander.specs.Holding.{Goes}

pub goes_then : (old between new : MouthView) (before amid after : FilesState) → Goes old before between amid → Goes between amid new after → Goes old before new after
goes_then old between new before amid after first second = record {
  opened = second.opened;
  told = λ told. second.told (first.told told);
  others = leaves_then (numbers old) (numbers between) (numbers new) before amid after first.others second.others;
  names = grew_then old.names between.names new.names first.names second.names;
}

-- before any call
pub goes_itself : (mouth : MouthView) (state : FilesState) → AreOpen mouth state → Goes mouth state mouth state
goes_itself mouth state open_files = record {
  opened = open_files;
  told = λ told. told;
  others = (refl, λ n. (λ other. (other, refl), λ other. other));
  names = grew_itself mouth.names;
}
