-- The rows so far keep the rules and are counted.
use Rattle.std.proofs.Common.{ℕ, ◌+◌, ◌*◌, ◌<◌}
use Rattle.layout.specs.Sizes.{node_rows}
use Rattle.ledger.specs.Ranges.{has_port}
use Rattle.ledger.specs.Tests.{RowKept, CountedTo}
use Rattle.ledger.proofs.row.ports.Given as goal

abbrev pub invariant-loop-port : goal.invariant-loop-port
invariant-loop-port l =
    record {
      kept : (w : ℕ) → w < l.port → RowKept l.state (node_rows * l.id.index + w) (has_port l.state l.id.index w);
      counted : CountedTo l.state l.counts (node_rows * l.id.index + l.port);
    }
