-- The rows of the ids so far keep the rules and are counted.
use Rattle.std.proofs.Common.{ℕ, ◌*◌, ◌<◌}
use Rattle.layout.specs.Sizes.{node_rows}
use Rattle.ledger.specs.Tests.{PortsKept, CountedTo}
use Rattle.ledger.proofs.row.rows.Given as goal

abbrev pub invariant-loop-index : goal.invariant-loop-index
invariant-loop-index l =
    record {
      kept : (id : ℕ) → id < l.index → PortsKept l.state id;
      counted : CountedTo l.state l.counts (node_rows * l.index);
    }
