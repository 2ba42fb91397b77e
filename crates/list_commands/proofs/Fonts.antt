-- The entries of open lists stay of the fonts.
use Rattle.std.proofs.Common.{◌≡◌, List, [], ◌∷◌, Option, Result, Ok, Err, refl, ap, sym, ◌∙◌}
use Rattle.std.specs.Prelude.{All, IfSome, IfOk, OnErr}
use Rattle.std.proofs.lemmas.List.Elements.{All-cons, All-head, All-tail}
use Rattle.ts_geometry.specs.declared.direction.Dir.{Dir}
use Rattle.font_store.specs.declared.fonts.Font.{Font}
use Rattle.font_store.specs.Measures.{AreWhole}
use Rattle.env_groups.specs.Environments.{Nest}
use Rattle.env_groups.specs.declared.situation.Mode.TheVariants as modes
use Rattle.env_groups.specs.declared.situation.Situation.{Situation}
use Rattle.node_links.specs.declared.fault.ListFault.{ListFault}
use Rattle.node_links.specs.Lists.{list_cause}
use Rattle.packaging.specs.declared.fault.PackFault.{PackFault}
use Rattle.packaging.specs.Packing.{pack_cause}
use Rattle.ts_base.specs.Agreement.{Agrees}
use Rattle.jlist_builder.specs.Entries.{Entry}
use Rattle.open_lists.specs.declared.contents.KeptContents.{KeptContents}
use Rattle.open_lists.specs.declared.contents.KeptContents.TheVariants as kept
use Rattle.open_lists.specs.declared.fault.OpenFault.{OpenFault}
use Rattle.open_lists.specs.declared.plan.BoxPlan.{BoxPlan}
use Rattle.open_lists.specs.declared.plan.EndedBox.{EndedBox}
use Rattle.open_lists.specs.EndCodes.{codes_in}
use Rattle.open_lists.specs.Glyphs.{IsEntryOf, AreContentsOf, AreOf, IsBoxOf}
use Rattle.open_lists.specs.Kept.{KeptList, Kept}
use Rattle.open_lists.specs.Lists.{OpenLists, OpenList, put, hbox_begun, hbox_ended, open_cause, around, rest}
use Rattle.open_lists.specs.Standing.{list_of, contents_of, first, inner_of, lists_of, StandFor, Becomes, IsNow, entries_in, entries_in_all, kept_mode, situation_by, kept_situation, kept_around}
use Rattle.list_commands.specs.Standing.{AreKeptOf}

-- ---- the same lists with other contents, which stand for the same entries

abbrev IsListOf : List Font → OpenList → Type 0
IsListOf fonts l = AreContentsOf fonts l.contents

contents_of_fonts : (fonts : List Font) (old new : KeptContents) (e : List Entry) → AreContentsOf fonts (contents_of old e) → AreContentsOf fonts (contents_of new e)
contents_of_fonts fonts (kept.Restricted plan builder) (kept.Restricted other more) e h = h

never_outer : (c : KeptContents) → kept_mode c ≡ modes.Outer → ⊥
never_outer (kept.Restricted plan builder) is = cc

same_inner : (fonts : List Font) (main other : Dir) (ks ls : List KeptList) (entries : List (List Entry))
    → situation_by other ls ≡ situation_by main ks → rest ls ≡ rest ks
    → All (IsListOf fonts) (inner_of ks entries) → All (IsListOf fonts) (inner_of ls entries)
same_inner fonts main other [] [] entries situation around h = h
same_inner fonts main other [] (l ∷ ls) entries situation around h = absurd (never_outer l.contents (ap (λ (s : Situation). s.mode) situation))
same_inner fonts main other (k ∷ ks) [] entries situation around h = absurd (never_outer k.contents (ap (λ (s : Situation). s.mode) (sym situation)))
same_inner fonts main other (k ∷ ks) (l ∷ ls) entries situation around h =
    All-cons (IsListOf fonts) (list_of l (first entries)) (inner_of ls (rest entries))
    (contents_of_fonts fonts k.contents l.contents (first entries) (All-head (IsListOf fonts) (list_of k (first entries)) (inner_of ks (rest entries)) h))
    (rw around (All-tail (IsListOf fonts) (list_of k (first entries)) (inner_of ks (rest entries)) h))

same_of_fonts : (fonts : List Font) (old new : Kept) (entries : List (List Entry))
    → kept_situation new ≡ kept_situation old → kept_around new ≡ kept_around old
    → AreOf fonts (lists_of old entries) → AreOf fonts (lists_of new entries)
unfolding AreOf
same_of_fonts fonts old new entries situation around h =
    same_inner fonts old.main new.main old.inner new.inner entries situation (ap (λ (k : Kept). k.inner) around) h

-- ---- a character comes

abbrev pub PutsStay : Type 0
PutsStay = (fonts : List Font) (entry : Dir → Option Entry) (lists more : OpenLists) → AreOf fonts lists
    → ((dir : Dir) → IfSome (entry dir) (IsEntryOf fonts)) → put entry lists ≡ Ok more → AreOf fonts more

pub put_keeps : {X : Type 0} → PutsStay → (fonts : List Font) (old new : Kept) (entry : Dir → Option Entry) (r : Result X ListFault)
    → ((dir : Dir) → IfSome (entry dir) (IsEntryOf fonts))
    → ((entries : List (List Entry)) → StandFor old entries → Becomes list_cause new r (put entry (lists_of old entries)))
    → OnErr r ((entries : List (List Entry)) → StandFor old entries → StandFor new entries)
    → kept_situation new ≡ kept_situation old → kept_around new ≡ kept_around old
    → AreKeptOf fonts old → AreKeptOf fonts new
put_keeps stay fonts old new entry (Ok x) are becomes refused situation around k =
    let given = becomes k.entries k.stands in
    record {
      entries = entries_in (put entry (lists_of old k.entries));
      stands = given.1;
      are = stay fonts entry (lists_of old k.entries) (lists_of new (entries_in (put entry (lists_of old k.entries)))) k.are are given.0;
    }
put_keeps stay fonts old new entry (Err e) are becomes refused situation around k = record {
  entries = k.entries;
  stands = refused k.entries k.stands;
  are = same_of_fonts fonts old new k.entries situation around k.are;
}

-- ---- a list begins

abbrev pub BegunStay : Type 0
BegunStay = (fonts : List Font) (plan : BoxPlan) (lists more : OpenLists) → AreOf fonts lists → hbox_begun plan lists ≡ Ok more → AreOf fonts more

pub begun_keeps : {X : Type 0} → BegunStay → (fonts : List Font) (old new : Kept) (plan : BoxPlan) (x : X)
    → ((entries : List (List Entry)) → StandFor old entries → Becomes {X = X} open_cause new (Ok x) (hbox_begun plan (lists_of old entries)))
    → AreKeptOf fonts old → AreKeptOf fonts new
begun_keeps stay fonts old new plan x becomes k =
    let given = becomes k.entries k.stands in
    record {
      entries = entries_in (hbox_begun plan (lists_of old k.entries));
      stands = given.1;
      are = stay fonts plan (lists_of old k.entries) (lists_of new (entries_in (hbox_begun plan (lists_of old k.entries)))) k.are given.0;
    }

-- ---- a list ends

abbrev pub AroundStay : Type 0
AroundStay = (fonts : List Font) (lists : OpenLists) → AreOf fonts lists → AreOf fonts (around lists)

around_of_fonts : (fonts : List Font) (new : Kept) (lists : OpenLists) → AreOf fonts lists → lists ≡ lists_of new (entries_in_all lists.inner)
    → AreOf fonts (lists_of new (entries_in_all lists.inner))
around_of_fonts fonts new lists h is = rw (← is) h

pub end_keeps : AroundStay → (fonts : List Font) (old new : Kept)
    → ((entries : List (List Entry)) → StandFor old entries → IsNow new (around (lists_of old entries)))
    → AreKeptOf fonts old → AreKeptOf fonts new
end_keeps stay fonts old new left k =
    let now = left k.entries k.stands in
    record {
      entries = entries_in_all (around (lists_of old k.entries)).inner;
      stands = now.stands;
      are = around_of_fonts fonts new (around (lists_of old k.entries)) (stay fonts (lists_of old k.entries) k.are) now.are;
    }

abbrev pub BoxesAre : Type 0
BoxesAre = (fonts : List Font) (nest : Nest) (lists : OpenLists) (ended : EndedBox) → AreWhole fonts → AreOf fonts lists
    → hbox_ended (codes_in nest) lists ≡ Ok ended → IsBoxOf fonts ended.node

pub box_ended : BoxesAre → (fonts : List Font) (nest : Nest) (old : Kept) (r : Result EndedBox PackFault) → AreWhole fonts
    → ((entries : List (List Entry)) → StandFor old entries → Agrees (λ b. b) pack_cause r (hbox_ended (codes_in nest) (lists_of old entries)))
    → AreKeptOf fonts old → IfOk r (λ b. IsBoxOf fonts b.node)
box_ended are fonts nest old (Ok b) whole agrees k = are fonts nest (lists_of old k.entries) b whole k.are (agrees k.entries k.stands)
box_ended are fonts nest old (Err e) whole agrees k = tt
