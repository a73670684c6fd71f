-- The slots below this one have holders, so the lowest free one is among the rest.
use Rattle.std.proofs.Common.{◌≡◌, ◌-◌, ◌<◌}
use Rattle.layout.specs.Header.{slots_of}
use Rattle.pool.specs.Rows.{lowest_from, lowest_free_of}
use Rattle.pool.proofs.slot.lowest_free.Given as goal

abbrev pub invariant-loop-k : goal.invariant-loop-k
invariant-loop-k l = record {
  inside : l.k < slots_of l.state;
  rest : lowest_from l.state (slots_of l.state - l.k) l.k ≡ lowest_free_of l.state;
}

abbrev pub decreases-loop-k : goal.decreases-loop-k
decreases-loop-k l = slots_of l.state - l.k
