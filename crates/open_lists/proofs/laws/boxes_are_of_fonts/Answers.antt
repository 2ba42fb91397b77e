use Rattle.open_lists.proofs.Glyphs.{box_ended, box_grown}
use Rattle.open_lists.proofs.laws.boxes_are_of_fonts.Goals as goal

pub returns-clause-ended : goal.returns-clause-ended
returns-clause-ended c = λ fonts codes lists ended whole h is.
    box_ended (record {
      cells = c.cells_have_their_measures.ensures;
      come = c.finished_glyphs_come_from_entries.ensures;
      packed = c.a_packed_list_is_its_node.ensures;
    }) fonts codes lists ended whole h is

pub returns-clause-grown : goal.returns-clause-grown
returns-clause-grown c = λ fonts all tree h more. box_grown fonts all tree h more
