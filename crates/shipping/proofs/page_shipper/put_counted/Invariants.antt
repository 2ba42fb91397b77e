use Rattle.std.proofs.Common.{◌≡◌, ◌-◌, ◌+◌, ◌≤◌, length, take}
use Rattle.ts_outside.specs.Gaining.{Gained}
use Rattle.shipping.proofs.page_shipper.put_counted.Given as goal

abbrev pub invariant-loop-done : goal.invariant-loop-done
invariant-loop-done g l = record {
  within : l.done ≤ length l.bytes;
  gained : Gained (g.S.Sink.held l.fn.out) (g.S.Sink.held l.out) (take l.done l.bytes);
  put : l.put ≡ l.fn.put + l.done;
  counted : g.S.Sink.faults l.out ≡ g.S.Sink.faults l.fn.out;
}

abbrev pub decreases-loop-done : goal.decreases-loop-done
decreases-loop-done g l = length l.bytes - l.done
