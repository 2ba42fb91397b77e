-- What a builder lends.
use Rattle.std.proofs.Common.{◌≡◌, List, [], ◌∷◌, ◌++◌, length, nat_eq, false, Option, Some, None, ap, sym, ◌∙◌, refl, length-append, arith}
use Rattle.std.proofs.lemmas.List.{append-nil}
use Rattle.std.proofs.lemmas.Grind.{common_steps}
use Rattle.box_tree.specs.declared.item.Item.{Item}
use Rattle.box_tree.specs.declared.item.Item.TheVariants as items
use Rattle.jlist_builder.specs.declared.builder.HBuilder.{HBuilder}
use Rattle.jlist_builder.specs.declared.character.Letter.{Letter}
use Rattle.jlist_builder.specs.Entries.{Entry, Japanese, European, Other, Cut, Inhibit, is_bare}
use Rattle.jlist_builder.specs.Pieces.{Word, Piece, Kanji, Glyph, joined, joint, letter_of, word_of, run, before_letter, word_before, with_letter}
use Rattle.jlist_builder.specs.Gaps.{letter_items, last_letter, metric_list, before, kanji_item, spaced}
use Rattle.jlist_builder.specs.Stands.{StandsFor}

pub lent : (b : HBuilder) (e : List Entry) → StandsFor b e → b.list.items ++ letter_items (last_letter (joined e)) ≡ metric_list e
lent b e s = rw (← s.held) s.list

pub ruleset lending = (lent, common_steps)

-- ---- lists without characters and items

-- a list in which something stands last
some_end : (xs : List Item) (x : Item) → nat_eq (length (xs ++ x ∷ [])) 0 ≡ false
some_end xs x = simp length-append (grind (arith, common_steps))

some_last : (xs ys : List Item) (x : Item) → nat_eq (length (xs ++ ys ++ x ∷ [])) 0 ≡ false
some_last xs ys x = some_end (xs ++ ys) x

abbrev word_with : Letter → Word → List Piece → Word
word_with c w p = record (word_before p w) { letter = c }

with_letter_some : (o : Option Letter) (w : Word) (p : List Piece) → nat_eq (length (spaced (with_letter o w p))) 0 ≡ false
with_letter_some (Some c) w p =
    some_last (spaced (before_letter p)) (before (before_letter p) (Glyph (word_with c w p))) (items.Glyph c.font c.code c.size c.shift c.first c.last)
with_letter_some None w p =
    some_last (spaced p) (before p (Glyph w)) (items.Glyph w.letter.font w.letter.code w.letter.size w.letter.shift w.letter.first w.letter.last)

empty_list : (e : List Entry) → nat_eq (length (metric_list e)) 0 ≡ is_bare e
empty_list [] = refl
empty_list (Japanese k ∷ past) = some_last (spaced (joined past)) (before (joined past) (Kanji k)) (kanji_item k)
empty_list (European a ∷ past) = with_letter_some (joint a.metric a.z (run (joined past)) (letter_of a)) (word_of a) (joined past)
empty_list (Other i ∷ past) = some_last (spaced (joined past)) [] i
empty_list (Cut ∷ past) = simp append-nil (empty_list past)
empty_list (Inhibit ∷ past) = simp append-nil (empty_list past)

pub bare_held : (b : HBuilder) (l : Letter) (e : List Entry) → StandsFor b e → b.held ≡ Some l → false ≡ is_bare e
bare_held b l e s held =
    let all : b.list.items ++ letter_items (Some l) ≡ metric_list e = rw held at s.list in
    sym (some_end b.list.items (items.Glyph l.font l.code l.size l.shift l.first l.last))
    ∙ (ap (λ (xs : List Item). nat_eq (length xs) 0) all ∙ empty_list e)

pub bare_list : (b : HBuilder) (e : List Entry) → StandsFor b e → b.held ≡ None → nat_eq (length b.list.items) 0 ≡ is_bare e
bare_list b e s held =
    let all : b.list.items ++ letter_items None ≡ metric_list e = rw held at s.list in
    ap (λ (xs : List Item). nat_eq (length xs) 0) (sym (append-nil b.list.items) ∙ all) ∙ empty_list e

pub ruleset bare = (bare_held, bare_list, common_steps)
