-- What a builder stands for after one entry more.
use Rattle.std.proofs.Common.{◌≡◌, ℕ, ◌+◌, ◌≤◌, List, ◌∷◌, ◌++◌, length, nat_lt, true, false, Some, None, ap, sym, ◌∙◌, refl, append_assoc, length-append, arith}
use Rattle.std.proofs.lemmas.List.{append-nil}
use Rattle.std.proofs.lemmas.Int.{to_z-of_z}
use Rattle.std.proofs.lemmas.Grind.{common_steps}
use Rattle.box_tree.specs.declared.item.Item.{Item}
use Rattle.node_links.specs.Lists.{most_items}
use Rattle.jlist_builder.specs.declared.builder.HBuilder.{HBuilder}
use Rattle.jlist_builder.specs.declared.character.Run.TheVariants as runs
use Rattle.jlist_builder.specs.Entries.{JapaneseCharacter, Entry, Japanese, Other, Cut, Inhibit, IsEntry, IsOther}
use Rattle.jlist_builder.specs.Pieces.{Kanji, Thing, class_in, run_after}
use Rattle.jlist_builder.specs.Spaces.{space_items}
use Rattle.jlist_builder.specs.Gaps.{gap_penalty, penalty_items, kanji_space, letter_items, metric_list, own, over, right_of_kanji}
use Rattle.jlist_builder.specs.Stands.{StandsFor, is_full}

pub fits : (n : ℕ) → nat_lt most_items n ≡ false → n ≤ most_items
fits n h = grind (arith, common_steps)

pub length_gap : (a p s o : List Item) → length (((a ++ p) ++ s) ++ o) ≡ length a + (length (p ++ s) + length o)
length_gap a p s o = simp length-append (omega arith)

-- what the count of a gap needs
pub ruleset counts = (length-append, arith, common_steps)

module _ (b : HBuilder) (k : JapaneseCharacter) (e : List Entry) (s : StandsFor b e) where
  abbrev penalty_before : List Item
  penalty_before = penalty_items (gap_penalty b.neighbour true k.kinsoku.pre)

  abbrev space_before : List Item
  space_before = space_items (kanji_space k.metric k.z b.run b.is_inhibited (class_in k))

  kanji_list : (((b.list.items ++ letter_items b.held) ++ penalty_before) ++ space_before) ++ own (Kanji k) ≡ metric_list (Japanese k ∷ e)
  kanji_list = rw (s.list, s.neighbour, s.run, s.inhibited) (simp append_assoc)

  pub kanji_full :
      nat_lt most_items (length (b.list.items ++ letter_items b.held) + (length (penalty_before ++ space_before) + 1))
      ≡ is_full (Japanese k ∷ e)
  kanji_full =
      ap (nat_lt most_items)
      (sym (length_gap (b.list.items ++ letter_items b.held) penalty_before space_before (own (Kanji k))) ∙ ap length kanji_list)

  pub kanji_stands :
      (b' : HBuilder)
      → b'.list.items ≡ (((b.list.items ++ letter_items b.held) ++ penalty_before) ++ space_before) ++ own (Kanji k)
      → b'.held ≡ None → b'.neighbour ≡ Some (right_of_kanji k)
      → b'.run ≡ run_after k → b'.is_inhibited ≡ false
      → nat_lt most_items (length (b.list.items ++ letter_items b.held) + (length (penalty_before ++ space_before) + 1)) ≡ false
      → IsEntry (Japanese k)
      → StandsFor b' (Japanese k ∷ e)
  kanji_stands b' list held neighbour run inhibited room entry =
      record {
        list = rw (list, held) (append-nil _ ∙ kanji_list);
        neighbour = neighbour;
        run = run;
        inhibited = inhibited;
        held = held;
        few = fits (length (metric_list (Japanese k ∷ e))) (sym kanji_full ∙ room);
        entries = (entry, s.entries);
      }

pub cut_stands :
    (b b' : HBuilder) (e : List Entry) → StandsFor b e
    → b' ≡ record b { run = runs.Start; is_inhibited = false } → StandsFor b' (Cut ∷ e)
cut_stands b b' e s is =
    rw is (record {
      list = simp append-nil s.list;
      neighbour = s.neighbour;
      run = refl;
      inhibited = refl;
      held = s.held;
      few = simp append-nil s.few;
      entries = (tt, s.entries);
    })

pub inhibit_stands :
    (b b' : HBuilder) (e : List Entry) → StandsFor b e
    → b' ≡ record b { is_inhibited = true } → StandsFor b' (Inhibit ∷ e)
inhibit_stands b b' e s is =
    rw is (record {
      list = simp append-nil s.list;
      neighbour = s.neighbour;
      run = s.run;
      inhibited = refl;
      held = s.held;
      few = simp append-nil s.few;
      entries = (tt, s.entries);
    })

module _ (b : HBuilder) (i : Item) (e : List Entry) (s : StandsFor b e) where
  other_list : (b.list.items ++ letter_items b.held) ++ own (Thing i) ≡ metric_list (Other i ∷ e)
  other_list = rw s.list (simp append-nil)

  pub other_full : nat_lt most_items (length (b.list.items ++ letter_items b.held) + 1) ≡ is_full (Other i ∷ e)
  other_full = ap (nat_lt most_items) (sym (length-append (b.list.items ++ letter_items b.held) (own (Thing i))) ∙ ap length other_list)

  pub other_stands :
      (b' : HBuilder)
      → b'.list.items ≡ (b.list.items ++ letter_items b.held) ++ own (Thing i)
      → b'.held ≡ None → b'.neighbour ≡ over i b.neighbour
      → b'.run ≡ runs.Start → b'.is_inhibited ≡ false
      → nat_lt most_items (length (b.list.items ++ letter_items b.held) + 1) ≡ false
      → IsOther i
      → StandsFor b' (Other i ∷ e)
  other_stands b' list held near run inhibited room entry =
      record {
        list = rw (list, held) (append-nil _ ∙ other_list);
        neighbour = rw (near, s.neighbour) refl;
        run = run;
        inhibited = inhibited;
        held = held;
        few = fits (length (metric_list (Other i ∷ e))) (sym other_full ∙ room);
        entries = (entry, s.entries);
      }

-- what a Japanese character needs
pub ruleset arrivals = (kanji_stands, kanji_full, to_z-of_z, common_steps)

-- what a cut and an inhibit need
pub ruleset marks = (cut_stands, inhibit_stands, common_steps)

-- what an other item needs
pub ruleset others = (other_stands, other_full, common_steps)
