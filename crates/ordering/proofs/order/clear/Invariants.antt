-- Clearing from here on gives what clearing from the start gives.
use Rattle.std.proofs.Common.{◌≡◌, ◌-◌, ◌≤◌}
use Rattle.ordering.specs.State.{clear_from, clear}
use Rattle.ordering.proofs.order.clear.Given as goal

abbrev pub invariant-loop-e : goal.invariant-loop-e
invariant-loop-e l =
    record {
      clears : clear_from l.breaker.index l.state (l.e-end - l.e) l.e l.kept ≡ clear l.initial.state l.breaker.index;
      behind : l.kept ≤ l.e;
      whole : l.e-end ≤ 256;
    }
