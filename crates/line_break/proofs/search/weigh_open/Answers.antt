use Rattle.std.proofs.Common.{ℕ, not, false, Some, subst, sym, ◌^◌, ◌≡◌, ◌+◌, ◌<◌, ◌++◌, ◌∷◌, [], get_or, length, ◌∙◌, ap, arith, rules, take}
use Rattle.std.proofs.lemmas.List.Elements.{All-get_or}
use Rattle.ts_geometry.specs.Numbers.{IsWithin}
use Rattle.line_break.specs.declared.states.Reached.{Reached}
use Rattle.line_break.specs.Codes.{at_index, found_with, rescue_from}
use Rattle.line_break.specs.Lines.{closes}
use Rattle.line_break.specs.Loose.{IsKnown}
use Rattle.line_break.specs.Ready.{pass_of}
use Rattle.line_break.proofs.Opened.{found_more, open_more, count_low, rest_is, still_as_long, same_at, one_more, index_within, unread, read_at, stays_at, rescue_is, closed, last_closed}
use Rattle.line_break.proofs.search.weigh_open.Goals as goal

pub bounds-states-i : goal.bounds-states-i
bounds-states-i g c =
    index_within c.args.active.now.items c.loop-k.active.items c.loop-k.k c.index-i.result.now (length c.args.states.now) (omega (arith, c.loop-k-test.true, c.len-k-end.ensures)) c.index-i.ensures c.loop-k.invariant.rest c.requires.within

pub offset_bounds-states-i : goal.offset_bounds-states-i
offset_bounds-states-i g c =
    let h = index_within c.args.active.now.items c.loop-k.active.items c.loop-k.k c.index-i.result.now (length c.args.states.now) (omega (arith, c.loop-k-test.true, c.len-k-end.ensures)) c.index-i.ensures c.loop-k.invariant.rest c.requires.within in
    search rules

pub weigh-stays-requires-clause-before : goal.weigh-stays-requires-clause-before
weigh-stays-requires-clause-before g c =
    let within = index_within c.args.active.now.items c.loop-k.active.items c.loop-k.k c.index-i.result.now (length c.args.states.now) (omega (arith, c.loop-k-test.true, c.len-k-end.ensures)) c.index-i.ensures c.loop-k.invariant.rest c.requires.within in
    let at = c.end-end.ensures.at in
    let low = All-get_or (λ (r : Reached). r.at < c.args.b) c.args.states.now c.index-i.result.now unread within c.requires.before in
    omega (arith, at, low)

pub weigh-stays-requires-clause-bounded : goal.weigh-stays-requires-clause-bounded
weigh-stays-requires-clause-bounded g c =
    let within = index_within c.args.active.now.items c.loop-k.active.items c.loop-k.k c.index-i.result.now (length c.args.states.now) (omega (arith, c.loop-k-test.true, c.len-k-end.ensures)) c.index-i.ensures c.loop-k.invariant.rest c.requires.within in
    All-get_or (λ (r : Reached). IsWithin (2 ^ 60) r.sum) c.args.states.now c.index-i.result.now unread within c.requires.bounded

pub weigh-stays-requires-clause-known : goal.weigh-stays-requires-clause-known
weigh-stays-requires-clause-known g c = let P : ℕ → Type 0 = λ b. IsKnown (pass_of c.args.lines.now) c.loop-k.met.loose b in subst P (sym c.end-end.ensures.at) c.loop-k.invariant.known

pub loop-k-preserved : goal.loop-k-preserved
loop-k-preserved g c =
    let p = pass_of c.args.lines.now in
    let b = c.args.b in
    let rs = c.args.states.now in
    let xs = c.args.active.now.items in
    let active = c.loop-k.active.items in
    let k = c.loop-k.k in
    let i = c.index-i.result.now in
    let inv = c.loop-k.invariant in
    let few : k < length xs = omega (arith, c.loop-k-test.true, c.len-k-end.ensures) in
    let room : c.loop-k.left < length active = omega (arith, few, inv.low, inv.as_long) in
    let within = index_within xs active k i (length rs) few c.index-i.ensures inv.rest c.requires.within in
    let more : take (k + 1) xs ≡ take k xs ++ i ∷ [] = one_more xs k i i few (c.index-i.ensures ∙ same_at xs active k i inv.rest) in
    let same = read_at rs i within in
    let x = get_or rs i unread in
    let met = c.weigh-stays.new.self in
    let stays = c.weigh-stays.result in
    let at = c.end-end.ensures.at in
    let found : met.found ≡ found_with p b c.loop-k.met.found i x = rw at at c.weigh-stays.ensures.found in
    let open_ : stays ≡ not (closes p x.at b) = rw at at c.weigh-stays.ensures.stays in
    let rescue : stays ≡ false → met.rescue ≡ Some (rescue_from p b i x) = rw at at c.weigh-stays.ensures.rescue in
    let known : IsKnown p met.loose b = rw at at c.weigh-stays.ensures.known in
    record {
      found = rw more (found ∙ ap (λ (y : Reached). found_with p b c.loop-k.met.found i y) same ∙ found_more p b rs (take k xs) i c.loop-k.met.found inv.found);
      left = rw (c.keep_open-left.ensures.active, c.keep_open-left.ensures.left, more) (open_more p b rs (take k xs) active c.loop-k.left i stays room (stays_at p b x (at_index rs i) stays same open_) inv.left);
      low = rw c.keep_open-left.ensures.left (count_low c.loop-k.left k stays inv.low);
      rest = rw c.keep_open-left.ensures.active (rest_is xs active c.loop-k.left k i stays inv.low inv.rest);
      as_long = rw c.keep_open-left.ensures.active (still_as_long active c.loop-k.left i stays ∙ inv.as_long);
      rescue = rw more (λ none. rescue_is p b rs (take k xs) i x met.rescue same (rescue (closed c.loop-k.left c.keep_open-left.result stays c.keep_open-left.ensures.left none)));
      known = known;
      steps = let s = inv.steps in let t = c.tick.ensures in omega (arith, s, t);
    }

pub returns-clause-rescue : goal.returns-clause-rescue
returns-clause-rescue g c =
    let xs = c.args.active.now.items in
    let inv = c.loop-k.invariant in
    let all : c.loop-k.k ≡ length xs = omega (arith, c.loop-k-test.false, c.loop-k.auto.k-end, c.len-k-end.ensures) in
    last_closed (pass_of c.args.lines.now) c.args.b c.args.states.now xs c.loop-k.active.items c.truncate.new.self.items c.loop-k.left c.loop-k.k c.loop-k.met.rescue c.truncate.ensures.items inv.low all inv.as_long inv.rescue
