use Rattle.std.proofs.Common.{◌≡◌, ◌+◌, drop}
use Rattle.kcat_eyes.specs.Eyes.{letters}
use Rattle.kcat_eyes.proofs.find.letters.Given as goal

abbrev pub invariant-loop-character : goal.invariant-loop-character
invariant-loop-character g l =
    let codes = g.C.CodeTable.codes l.codes in
    record {
      so_far : letters codes l.rest ≡ l.count + letters codes (drop l.character-index l.rest);
      within : l.count ≡ l.character-index;
    }
