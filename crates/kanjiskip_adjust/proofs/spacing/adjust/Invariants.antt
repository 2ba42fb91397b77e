use Rattle.std.proofs.Common.{◌≡◌, ◌+◌, ◌-◌, ◌*◌, ◌≤◌, [], length, take, drop, slice_get, Option, ℤ}
use Rattle.kanjiskip_adjust.specs.Walks.{walked, start}
use Rattle.kanjiskip_adjust.specs.Nodes.{AreKept}
use Rattle.kanjiskip_adjust.proofs.spacing.adjust.Given as goal

abbrev pub invariant-loop-at : goal.invariant-loop-at
invariant-loop-at g l = record {
  same : (widow : Option ℤ) → walked (g.E.EndCodes.codes l.codes) widow l.walk (take l.place l.list.items) (drop l.place l.list.items) ≡ walked (g.E.EndCodes.codes l.codes) widow start [] l.fn.list.items;
  kept : AreKept l.list.numbers l.walk l.marks l.place;
  at : l.at ≡ slice_get l.list.numbers l.place;
  many : length l.list.numbers ≡ length l.list.items;
  within : l.place ≤ length l.list.items;
  most : length l.list.items + (length l.list.items - l.place) ≤ 2 * length l.fn.list.items;
  room : l.list.spare + length l.list.items ≡ l.fn.list.spare + length l.fn.list.items;
  counted : l.steps + (2 * (length l.list.items - l.place)) ≤ l.fn.steps + 2 * length l.fn.list.items;
  some : 1 ≤ length l.fn.list.items;
}

abbrev pub decreases-loop-at : goal.decreases-loop-at
decreases-loop-at g l = length l.list.items - l.place
