use Rattle.std.proofs.Common.{◌≡◌, ◌++◌, drop, length, true}
use Rattle.std.specs.List.{list_all}
use Rattle.ts_job.specs.Form.{name_in, is_name_byte}
use Rattle.ts_job.proofs.form.name_in.Given as goal

abbrev pub invariant-loop-character : goal.invariant-loop-character
invariant-loop-character l = record {
  so_far : name_in l.characters ≡ l.name.items ++ name_in (drop l.character-index l.characters);
  bytes : list_all is_name_byte l.name.items ≡ true;
  within : length l.name.items ≡ l.character-index;
}
