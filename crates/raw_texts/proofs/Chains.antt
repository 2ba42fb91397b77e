-- One call that reads tokens after another.
use Rattle.std.proofs.Common.{◌∙◌}
use Rattle.ts_outside.specs.States.{FilesState}
use Rattle.tok_lists.proofs.Growing.{grew_then}
use Rattle.mouth.specs.Keeping.{MouthView, numbers}
use Rattle.mouth.proofs.Leaving.{leaves_then}
use Rattle.raw_texts.specs.Runs.{Leaves}

pub reads_then : (old between new : MouthView) (before amid after : FilesState) → Leaves old before between amid → Leaves between amid new after → Leaves old before new after
reads_then old between new before amid after first second = record {
  opened = second.opened;
  told = λ told. second.told (first.told told);
  others = leaves_then (numbers old) (numbers between) (numbers new) before amid after first.others second.others;
  names = grew_then old.names between.names new.names first.names second.names;
  units = second.units ∙ first.units;
}
