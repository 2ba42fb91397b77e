-- The walk over the items of a box.
use Rattle.std.proofs.Common.{◌≡◌, ℕ, zero, suc, ◌+◌, ◌^◌, ◌<◌, ◌≤◌, Result, Ok, Err, ℤ, pos, ◌+ℤ◌, List, [], ◌∷◌, ◌++◌, length, take, drop, get_or, refl, sym, ap, ◌∙◌, append_assoc, subst, arith, Bool, true, false}
use Rattle.std.specs.Prelude.{◌&&◌, IfErr}
use Rattle.std.specs.Result.{IsErrAnd}
use Rattle.std.proofs.lemmas.Grind.{common_steps}
use Rattle.std.proofs.lemmas.Int.{ints}
use Rattle.std.proofs.lemmas.List.{append-nil, take_more}
use Rattle.ts_geometry.specs.declared.measure.Point.{Point}
use Rattle.ts_geometry.specs.Directions.{sp}
use Rattle.ts_geometry.specs.Numbers.{IsWithin}
use Rattle.box_tree.specs.declared.frame.Frame.{Frame}
use Rattle.box_tree.specs.declared.frame.Sums.{Sums}
use Rattle.box_tree.specs.declared.item.Item.{Item}
use Rattle.box_tree.specs.declared.node.BoxNode.{BoxNode}
use Rattle.box_tree.specs.Bounds.{HasDimens, PointIsNear}
use Rattle.box_tree.specs.Nodes.{tree, tree_item, tree_items}
use Rattle.box_tree.specs.Offsets.{item_extent, item_part, extents, parts, offset}
use Rattle.box_tree.specs.Places.{frame_of, after as sums_after, item_point, PlacesAreNear, ItemsAreNear, ItemIsNear}
use Rattle.box_tree.specs.Sound.{IsSound, IsSoundSet, AreSound, IsSoundItem}
use Rattle.box_tree.specs.Trees.{BoxTree, node}
use Rattle.box_tree.specs.Weights.{weight, weights, item_weight, most_weight}
use Rattle.box_tree.specs.Laws.{ExtentsRun, PartsRun, RunningExtentsAreNear, RunningPartsAreNear, ListsWeigh}
use Rattle.box_marks.specs.declared.placed.Placed.{Placed}
use Rattle.box_marks.specs.Placing.{box_placed, items_placed, item_placed}
use Rattle.dvi_commands.specs.Commands.{Command}
use Rattle.dvi_writer.specs.declared.fault.WriteFault.{WriteFault}
use Rattle.dvi_writer.specs.declared.fault.WriteFault.TheVariants.{PagesFull, JobTooLarge, PlaceRange, NoMemory}
use Rattle.dvi_writer.specs.declared.hand.Hand.{Hand}
use Rattle.dvi_writer.specs.declared.pen.Pen.{Pen}
use Rattle.dvi_writer.specs.Saying.{said, after, all_said, all_after, fits, all_fit, IsInReach}
use Rattle.dvi_writer.specs.Wrote.{Writes, AreSound as PiecesAreSound, Refuses}
use Rattle.dvi_writer.proofs.Puts.{wrote_none, wrote_then}

-- ---- joining

said_join : (h : Hand) (ps qs : List Placed) → all_said h (ps ++ qs) ≡ all_said h ps ++ all_said (all_after h ps) qs
said_join h [] qs = refl
said_join h (p ∷ ps) qs = ap (λ (cs : List Command). said h p ++ cs) (said_join (after h p) ps qs) ∙ sym (append_assoc (said h p) (all_said (after h p) ps) (all_said (all_after (after h p) ps) qs))

after_join : (h : Hand) (ps qs : List Placed) → all_after h (ps ++ qs) ≡ all_after (all_after h ps) qs
after_join h [] qs = refl
after_join h (p ∷ ps) qs = after_join (after h p) ps qs

and_assoc : (a b c : Bool) → ((a && b) && c) ≡ (a && (b && c))
and_assoc true b c = refl
and_assoc false b c = refl

and_false : (a : Bool) → (a && false) ≡ false
and_false true = refl
and_false false = refl

fit_join : (ps qs : List Placed) → all_fit (ps ++ qs) ≡ (all_fit ps && all_fit qs)
fit_join [] qs = refl
fit_join (p ∷ ps) qs = ap (λ (b : Bool). fits p && b) (fit_join ps qs) ∙ sym (and_assoc (fits p) (all_fit ps) (all_fit qs))

sound_join : (ps qs : List Placed) → PiecesAreSound ps → PiecesAreSound qs → PiecesAreSound (ps ++ qs)
sound_join [] qs s t = t
sound_join (p ∷ ps) qs s t = (s.0, (s.1.0, sound_join ps qs s.1.1 t))

pub writes_none : (pen : Pen) → IsInReach pen.hand.at → Writes pen pen []
writes_none pen near = record { wrote = wrote_none pen.out.items; hand = refl; fit = refl; sound = tt; near = near }

pub writes_then : (a b c : Pen) (ps qs : List Placed) → Writes a b ps → Writes b c qs → Writes a c (ps ++ qs)
writes_then a b c ps qs w v =
    let more = rw w.hand at v.wrote in
    record {
      wrote = rw (said_join a.hand ps qs) (wrote_then a.out.items b.out.items c.out.items _ _ w.wrote more);
      hand = v.hand ∙ ap (λ (h : Hand). all_after h qs) w.hand ∙ sym (after_join a.hand ps qs);
      fit = fit_join ps qs ∙ rw (w.fit, v.fit) refl;
      sound = sound_join ps qs w.sound v.sound;
      near = v.near;
    }

-- what is refused within more is refused
pub refuses_within : (fault : WriteFault) (ps qs rs : List Placed) → Refuses fault qs → Refuses fault (ps ++ (qs ++ rs))
refuses_within PagesFull ps qs rs r = absurd r
refuses_within JobTooLarge ps qs rs r = absurd r
refuses_within PlaceRange ps qs rs r = fit_join ps (qs ++ rs) ∙ ap (λ (b : Bool). all_fit ps && b) (fit_join qs rs ∙ rw r refl) ∙ and_false (all_fit ps)
refuses_within NoMemory ps qs rs r = tt

-- ---- the loop

-- what a pen wrote of a box, with so many items after and the rest before
pub record Runs (old : Pen) (f : Frame) (items : List Item) (i : ℕ) (sums : Sums) (pen : Pen) : Type 0 where
  pub done : List Placed
  pub writes : Writes old pen done
  pub same : done ++ items_placed f sums.natural.0 sums.part.0 (tree_items (drop i items)) ≡ items_placed f (pos 0) (pos 0) (tree_items items)
  pub near : ItemsAreNear (2 ^ 60) f sums.natural.0 sums.part.0 (tree_items (drop i items))
  pub rest_sound : AreSound f.dir (tree_items (drop i items))
  pub natural : sums.natural.0 ≡ extents f.kind (tree_items (take i items))
  pub part : sums.part.0 ≡ parts f.set (tree_items (take i items))

-- what stays
pub record Framed (b : BoxTree) (at : Point) (f : Frame) (items : List Item) : Type 0 where
  pub is : b ≡ node f.kind f.dir f.size f.set (tree_items items)
  pub there : f.at ≡ at
  pub size : HasDimens f.size
  pub set : IsSoundSet f.set
  pub sound : AreSound f.dir (tree_items items)
  pub few : length items ≤ most_weight
  pub at_near : PointIsNear (2 ^ 60) f.at

pub runs_start : (pen : Pen) (f : Frame) (items : List Item) (sums : Sums) → sums ≡ record { natural = sp (pos 0); part = sp (pos 0) } → IsInReach pen.hand.at
    → ItemsAreNear (2 ^ 60) f (pos 0) (pos 0) (tree_items items) → AreSound f.dir (tree_items items) → Runs pen f items 0 sums pen
runs_start pen f items sums e near places sound = rw e (record {
  done = [];
  writes = writes_none pen near;
  same = refl;
  near = places;
  rest_sound = sound;
  natural = refl;
  part = refl;
})

front_is : (xs : List Item) (i : ℕ) (x : Item) → i < length xs → x ≡ get_or xs i x → drop i xs ≡ x ∷ drop (i + 1) xs
front_is xs i x h e = grind (arith, common_steps)

take_is : (xs : List Item) (i : ℕ) (x : Item) → i < length xs → x ≡ get_or xs i x → take (i + 1) xs ≡ take i xs ++ x ∷ []
take_is xs i x h e = take_more xs i x h ∙ ap (λ (y : Item). take i xs ++ y ∷ []) (sym e)

module _ (old : Pen) (f : Frame) (xs : List Item) (i : ℕ) (sums : Sums) (pen : Pen) (x : Item) (h : i < length xs) (e : x ≡ get_or xs i x)
    (r : Runs old f xs i sums pen) where
  opened_near : ItemsAreNear (2 ^ 60) f sums.natural.0 sums.part.0 (tree_items (x ∷ drop (i + 1) xs))
  opened_near = subst (λ (rest : List Item). ItemsAreNear (2 ^ 60) f sums.natural.0 sums.part.0 (tree_items rest)) (front_is xs i x h e) r.near

  opened_sound : AreSound f.dir (tree_items (x ∷ drop (i + 1) xs))
  opened_sound = subst (λ (rest : List Item). AreSound f.dir (tree_items rest)) (front_is xs i x h e) r.rest_sound

  pub next_sound : IsSoundItem f.dir (tree_item x)
  next_sound = opened_sound.0

  pub next_near : ItemIsNear (2 ^ 60) f (item_point f (offset f.set sums.natural.0 sums.part.0) (tree_item x)) (tree_item x)
  next_near = opened_near.0

  abbrev next_placed : List Placed
  next_placed = item_placed f (item_point f (offset f.set sums.natural.0 sums.part.0) (tree_item x)) (tree_item x)

  opened_same : r.done ++ (next_placed ++ items_placed f (sums_after f sums (tree_item x)).natural.0 (sums_after f sums (tree_item x)).part.0 (tree_items (drop (i + 1) xs)))
      ≡ items_placed f (pos 0) (pos 0) (tree_items xs)
  opened_same = subst (λ (rest : List Item). r.done ++ items_placed f sums.natural.0 sums.part.0 (tree_items rest) ≡ items_placed f (pos 0) (pos 0) (tree_items xs)) (front_is xs i x h e) r.same

  pub next_runs : (extents_run : ExtentsRun) (parts_run : PartsRun) (new : Pen) → Writes pen new next_placed → Runs old f xs (i + 1) (sums_after f sums (tree_item x)) new
  next_runs extents_run parts_run new w = record {
    done = r.done ++ next_placed;
    writes = writes_then old pen new r.done next_placed r.writes w;
    same = append_assoc r.done next_placed _ ∙ opened_same;
    near = opened_near.1;
    rest_sound = opened_sound.1;
    natural = ap (λ (z : ℤ). z +ℤ item_extent f.kind (tree_item x)) r.natural ∙ sym (extents_run f.kind (take i xs) x) ∙ ap (λ (ys : List Item). extents f.kind (tree_items ys)) (sym (take_is xs i x h e));
    part = ap (λ (z : ℤ). z +ℤ item_part f.set (tree_item x)) r.part ∙ sym (parts_run f.set (take i xs) x) ∙ ap (λ (ys : List Item). parts f.set (tree_items ys)) (sym (take_is xs i x h e));
  }

  pub next_refuses : (fault : WriteFault) → Refuses fault next_placed → Refuses fault (items_placed f (pos 0) (pos 0) (tree_items xs))
  next_refuses fault refused = subst (Refuses fault) opened_same (refuses_within fault r.done next_placed _ refused)

pub runs_end : (old : Pen) (f : Frame) (xs : List Item) (i : ℕ) (sums : Sums) (pen : Pen) → length xs ≤ i → Runs old f xs i sums pen → Writes old pen (items_placed f (pos 0) (pos 0) (tree_items xs))
runs_end old f xs i sums pen over r =
    let none : drop i xs ≡ [] = grind (arith, common_steps) in
    let same = rw none at r.same in
    rw (← same) (rw (append-nil r.done) r.writes)

sum_near : (z w : ℤ) → z ≡ w → IsWithin (2 ^ 53) w → IsWithin (2 ^ 58) z
sum_near z w e near = (omega (arith, ints), omega (arith, ints))

-- ---- what stays

framed_in : (n : BoxNode) (at : Point) → IsSound (tree n) → PlacesAreNear (2 ^ 60) (tree n) at → weight (tree n) ≤ most_weight → ListsWeigh → Framed (tree n) at (frame_of (tree n) at) n.items
framed_in n at sound places light weigh =
    let long = weigh n.items in
    record { is = refl; there = refl; size = sound.0; set = sound.1.0; sound = sound.1.1; few = omega arith; at_near = places.0 }

pub framed : (b : BoxTree) (n : BoxNode) (at : Point) (f : Frame) (items : List Item) → b ≡ tree n → f ≡ frame_of (tree n) at → items ≡ n.items
    → IsSound b → PlacesAreNear (2 ^ 60) b at → weight b ≤ most_weight → ListsWeigh → Framed b at f items
framed b n at f items e g h sound places light weigh =
    rw (e, g, h) (framed_in n at (subst IsSound e sound) (subst (λ (d : BoxTree). PlacesAreNear (2 ^ 60) d at) e places) (subst (λ (d : BoxTree). weight d ≤ most_weight) e light) weigh)

pub first_near : (b : BoxTree) (at : Point) (f : Frame) (items : List Item) → Framed b at f items → PlacesAreNear (2 ^ 60) b at → ItemsAreNear (2 ^ 60) f (pos 0) (pos 0) (tree_items items)
first_near b at f items r places =
    let here : PlacesAreNear (2 ^ 60) (node f.kind f.dir f.size f.set (tree_items items)) f.at =
    subst (λ (p : Point). PlacesAreNear (2 ^ 60) (node f.kind f.dir f.size f.set (tree_items items)) p) (sym r.there) (subst (λ (d : BoxTree). PlacesAreNear (2 ^ 60) d at) r.is places) in
    here.1

pub placed_is : (b : BoxTree) (at : Point) (f : Frame) (items : List Item) → Framed b at f items → items_placed f (pos 0) (pos 0) (tree_items items) ≡ box_placed b at
placed_is b at f items r =
    ap (λ (p : Point). box_placed (node f.kind f.dir f.size f.set (tree_items items)) p) r.there ∙ ap (λ (d : BoxTree). box_placed d at) (sym r.is)

pub naturals_near : (b : BoxTree) (at : Point) (old : Pen) (f : Frame) (xs : List Item) (i : ℕ) (sums : Sums) (pen : Pen) → Framed b at f xs → Runs old f xs i sums pen → RunningExtentsAreNear → IsWithin (2 ^ 58) sums.natural.0
naturals_near b at old f xs i sums pen m r near =
    let n = near f.kind f.dir xs i m.sound m.few in
    sum_near sums.natural.0 _ r.natural n

pub parts_near : (b : BoxTree) (at : Point) (old : Pen) (f : Frame) (xs : List Item) (i : ℕ) (sums : Sums) (pen : Pen) → Framed b at f xs → Runs old f xs i sums pen → RunningPartsAreNear → IsWithin (2 ^ 58) sums.part.0
parts_near b at old f xs i sums pen m r near =
    let n = near f.set f.dir xs i m.sound m.few in
    sum_near sums.part.0 _ r.part n

-- ---- weights

item_light : (xs : List Item) (i : ℕ) (x : Item) → i < length xs → x ≡ get_or xs i x → item_weight (tree_item x) ≤ weights (tree_items xs)
item_light [] i x h e = omega arith
item_light (y ∷ ys) zero x h e =
    let same : item_weight (tree_item x) ≡ item_weight (tree_item y) = ap (λ (z : Item). item_weight (tree_item z)) e in
    omega arith
item_light (y ∷ ys) (suc i) x h e =
    let light = item_light ys i x (omega arith) e in
    omega arith

pub item_falls : (b : BoxTree) (at : Point) (f : Frame) (xs : List Item) (i : ℕ) (x : Item) → Framed b at f xs → i < length xs → x ≡ get_or xs i x → item_weight (tree_item x) + 1 ≤ weight b
item_falls b at f xs i x m h e =
    let light = item_light xs i x h e in
    let is : weight b ≡ 1 + weights (tree_items xs) = ap weight m.is in
    omega arith

-- ---- faults that are handed on

pub handed_on : {X E : Type 0} (r : Result X E) (fault : E) (P : E → Type 0) → IsErrAnd r (λ e. e ≡ fault) → P fault → IfErr r P
handed_on (Ok x) fault P e p = tt
handed_on (Err y) fault P e p = subst P (sym e) p
