-- What a list above the main one becomes, all lists become.
use Rattle.std.proofs.Common.{◌≡◌, ℕ, ◌≤◌, List, [], ◌∷◌, length, suc, nat_le, Bool, true, false, Option, Some, None, IfNone, Result, Ok, Err, refl, ap, sym, subst, arith, lit≤}
use Rattle.std.proofs.lemmas.Grind.{common_steps}
use Rattle.ts_base.specs.Agreement.{AgreesFault, ◌>>=◌}
use Rattle.ts_geometry.specs.declared.direction.Dir.{Dir}
use Rattle.node_links.specs.declared.fault.ListFault.{ListFault}
use Rattle.node_links.specs.declared.fault.ListFault.TheVariants as faults
use Rattle.node_links.specs.Lists.{list_cause}
use Rattle.jlist_builder.specs.Entries.{Entry}
use Rattle.open_lists.specs.declared.contents.KeptContents.{KeptContents}
use Rattle.open_lists.specs.declared.contents.KeptContents.TheVariants as kept
use Rattle.open_lists.specs.declared.plan.BoxPlan.{BoxPlan}
use Rattle.open_lists.specs.declared.fault.OpenFault.{OpenFault}
use Rattle.open_lists.specs.Lists.{Contents, Restricted, OpenList, OpenLists, put, put_in_list, marked, marked_list, situation_over, with_hbox, is_deep, hbox_begun, open_cause, around, rest}
use Rattle.open_lists.specs.Kept.{KeptList, Kept}
use Rattle.open_lists.specs.Standing.{contents_of, entries_of, list_of, IsListOf, first, inner_of, lists_of, AreListsOf, StandFor, entries_in_all, entries_in, entries_given, ListBecomes, Becomes, IsNow, situation_by, kept_situation, with_innermost, IsTopped}

-- ---- entries that are read off lists

same_contents : (c : KeptContents) (e : List Entry) → contents_of c (entries_of (contents_of c e)) ≡ contents_of c e
same_contents (kept.Restricted plan builder) e = refl

same_stand : (c : KeptContents) (e : List Entry) → IsListOf c e → IsListOf c (entries_of (contents_of c e))
same_stand (kept.Restricted plan builder) e h = h

pub same_lists : (ks : List KeptList) (entries : List (List Entry)) → inner_of ks (entries_in_all (inner_of ks entries)) ≡ inner_of ks entries
same_lists [] entries = refl
same_lists (k ∷ ks) entries = rw (same_contents k.contents (first entries), same_lists ks (rest entries)) refl

pub all_stand : (ks : List KeptList) (entries : List (List Entry)) → AreListsOf ks entries → AreListsOf ks (entries_in_all (inner_of ks entries))
all_stand [] entries h = tt
all_stand (k ∷ ks) entries h = (same_stand k.contents (first entries) h.0, all_stand ks (rest entries) h.1)

pub as_many : (ks : List KeptList) (entries : List (List Entry)) → length (inner_of ks entries) ≡ length ks
as_many [] entries = refl
as_many (k ∷ ks) entries = rw (as_many ks (rest entries)) refl

-- ---- all lists, by the innermost one

abbrev topped : Dir → KeptList → List KeptList → Kept
topped main k ks = record { main = main; inner = k ∷ ks }

abbrev with_others : Dir → List OpenList → Result OpenList ListFault → Result OpenLists ListFault
with_others main ls given = (given >>= λ l. Ok (l ∷ ls)) >>= λ inner. Ok (record { main = main; inner = inner })

ok_lifts : {X : Type 0} (main : Dir) (k : KeptList) (ks : List KeptList) (entries : List (List Entry)) (x : X) (given : Result OpenList ListFault)
    → AreListsOf ks entries → ListBecomes list_cause k (Ok x) given
    → Becomes list_cause (topped main k ks) (Ok x) (with_others main (inner_of ks entries) given)
ok_lifts main k ks entries x (Ok l) stand h =
    let e : l ≡ list_of k (entries_of l.contents) = cc in
    (rw (same_lists ks entries) (ap (λ (m : OpenList). Ok (record { main = main; inner = m ∷ inner_of ks entries })) e), (h.1, all_stand ks entries stand))
ok_lifts main k ks entries x (Err fault) stand h = let n = h.0 in cc

err_lifts : (main : Dir) (ls : List OpenList) (fault : ListFault) (given : Result OpenList ListFault)
    → AgreesFault (list_cause fault) fault given → AgreesFault (list_cause fault) fault (with_others main ls given)
err_lifts main ls faults.ListFull given h = rw h refl
err_lifts main ls faults.NoMemory given h = tt

put_in_topped : {X : Type 0} (main : Dir) (k new : KeptList) (ks : List KeptList) (entry : Dir → Option Entry) (r : Result X ListFault) (entries : List (List Entry))
    → AreListsOf ks (rest entries) → ListBecomes list_cause new r (put_in_list entry (list_of k (first entries)))
    → Becomes list_cause (topped main new ks) r (put entry (lists_of (topped main k ks) entries))
put_in_topped main k new ks entry (Ok x) entries stand h =
    ok_lifts main new ks (rest entries) x (put_in_list entry (list_of k (first entries))) stand h
put_in_topped main k new ks entry (Err fault) entries stand h =
    err_lifts main (inner_of ks (rest entries)) fault (put_in_list entry (list_of k (first entries))) h

-- an entry that is put into the innermost list
pub put_lifts : {X : Type 0} (old : Kept) (main : Dir) (k new : KeptList) (ks : List KeptList) (entry : Dir → Option Entry) (r : Result X ListFault) (entries : List (List Entry))
    → old ≡ topped main k ks → StandFor old entries
    → ((e : List Entry) → IsListOf k.contents e → ListBecomes list_cause new r (put_in_list entry (list_of k e)))
    → Becomes list_cause (topped main new ks) r (put entry (lists_of old entries))
put_lifts old main k new ks entry r entries is stand h =
    let s : StandFor (topped main k ks) entries = rw is at stand in
    rw is (put_in_topped main k new ks entry r entries s.1 (h (first entries) s.0))

-- a list is there above others
now_above : (main : Dir) (new : KeptList) (ks : List KeptList) (entries : List (List Entry)) (e : List Entry) (l : OpenList)
    → AreListsOf ks entries → IsListOf new.contents e → list_of new e ≡ l
    → IsNow (topped main new ks) (record { main = main; inner = l ∷ inner_of ks entries })
now_above main new ks entries e l stand stands is =
    subst (λ (m : OpenList). IsNow (topped main new ks) (record { main = main; inner = m ∷ inner_of ks entries })) is (record {
      are = rw (same_contents new.contents e, same_lists ks entries) refl;
      stands = (same_stand new.contents e stands, all_stand ks entries stand);
    })

-- a mark that is put into it
pub mark_lifts : (old : Kept) (main : Dir) (k new : KeptList) (ks : List KeptList) (x : Entry) (entries : List (List Entry))
    → old ≡ topped main k ks → StandFor old entries
    → ((e : List Entry) → list_of new (x ∷ e) ≡ marked_list x (list_of k e))
    → ((e : List Entry) → IsListOf k.contents e → IsListOf new.contents (x ∷ e))
    → IsNow (topped main new ks) (marked x (lists_of old entries))
mark_lifts old main k new ks x entries is stand list stands =
    let s : StandFor (topped main k ks) entries = rw is at stand in
    rw is (now_above main new ks (rest entries) (x ∷ first entries) (marked_list x (list_of k (first entries))) s.1
    (stands (first entries) s.0) (list (first entries)))

same_dir : (main : Dir) (ks : List KeptList) (entries : List (List Entry)) → (situation_by main ks).dir ≡ (situation_over main (inner_of ks entries)).dir
same_dir main [] entries = refl
same_dir main (k ∷ ks) entries = refl

begun_above : (main : Dir) (ks : List KeptList) (new : KeptList) (plan : BoxPlan) (entries : List (List Entry))
    → new.dir ≡ (situation_by main ks).dir → contents_of new.contents [] ≡ Restricted plan [] → IsListOf new.contents []
    → AreListsOf ks entries
    → IsNow (topped main new ks) (with_hbox plan (lists_of (record { main = main; inner = ks }) entries))
begun_above main ks new plan entries d c h stand =
    now_above main new ks entries [] (record { dir = (situation_over main (inner_of ks entries)).dir; contents = Restricted plan [] }) stand h
    (rw (d, c, same_dir main ks entries) refl)

begun_where : (old new : Kept) (plan : BoxPlan) (entries : List (List Entry)) → is_deep (lists_of old entries) ≡ false
    → IsNow new (with_hbox plan (lists_of old entries)) → Becomes {X = Unit {0}} open_cause new (Ok tt) (hbox_begun plan (lists_of old entries))
begun_where old new plan entries d h = rw d (ap (λ (l : OpenLists). Ok l) h.are, h.stands)

-- a list that begins
pub begun_lifts : (old : Kept) (main : Dir) (ks : List KeptList) (new : KeptList) (plan : BoxPlan) (entries : List (List Entry))
    → old ≡ record { main = main; inner = ks } → new.dir ≡ (kept_situation old).dir
    → contents_of new.contents [] ≡ Restricted plan [] → IsListOf new.contents [] → StandFor old entries → is_deep (lists_of old entries) ≡ false
    → Becomes {X = Unit {0}} open_cause (topped main new ks) (Ok tt) (hbox_begun plan (lists_of old entries))
begun_lifts old main ks new plan entries is d c h stand deep =
    let s : StandFor (record { main = main; inner = ks }) entries = rw is at stand in
    let e : new.dir ≡ (situation_by main ks).dir = rw is at d in
    begun_where old (topped main new ks) plan entries deep (rw is (begun_above main ks new plan entries e c h s))

around_lists : (main : Dir) (ks : List KeptList) (entries : List (List Entry)) → AreListsOf ks entries
    → IsNow (record { main = main; inner = ks }) (record { main = main; inner = inner_of ks entries })
around_lists main ks entries stand = record {
  are = rw (same_lists ks entries) refl;
  stands = all_stand ks entries stand;
}

-- the lists around the innermost one
pub rest_lifts : (old new : Kept) (main : Dir) (k : KeptList) (ks : List KeptList) (entries : List (List Entry))
    → old ≡ topped main k ks → new ≡ record { main = main; inner = ks } → StandFor old entries → IsNow new (around (lists_of old entries))
rest_lifts old new main k ks entries is now stand =
    let s : StandFor (topped main k ks) entries = rw is at stand in
    rw (is, now) (around_lists main ks (rest entries) s.1)

-- ---- how many there are

many_above : (o : Option KeptList) (ks : List KeptList) (entries : List (List Entry)) (n : ℕ) → n ≡ length ks → (o ≡ None → ks ≡ [])
    → nat_le 198 n ≡ nat_le 200 (suc (length (inner_of (with_innermost o ks) entries)))
many_above None ks entries n e none =
    let h : ks ≡ [] = none refl in
    let z : n ≡ 0 = rw (h) at e in
    rw (z, h) refl
many_above (Some k) ks entries n e none = rw (as_many ks (rest entries), ← e) (grind (arith, common_steps))

-- Are there too many?
pub deep_is : (old : Kept) (main : Dir) (o : Option KeptList) (ks : List KeptList) (entries : List (List Entry)) (n : ℕ)
    → old ≡ record { main = main; inner = with_innermost o ks } → n ≡ length ks → (o ≡ None → ks ≡ [])
    → nat_le 198 n ≡ is_deep (lists_of old entries)
deep_is old main o ks entries n is e none = rw is (many_above o ks entries n e none)

-- what is left where the innermost list of all was taken away
pub topped_rest : (o : Option KeptList) (ks all : List KeptList) → all ≡ with_innermost o ks → IfNone o (ks ≡ []) → length all ≤ 198 → IsTopped o ks
topped_rest None ks all is none few = record { none = λ _. none; few = rw none (lit≤ tt) }
topped_rest (Some k) ks all is none few =
    let l : length all ≡ suc (length ks) = rw is refl in
    record { none = λ e. absurd cc; few = omega arith }
