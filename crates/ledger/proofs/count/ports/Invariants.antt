-- The ports of the ids so far.
use Rattle.std.proofs.Common.{◌≡◌, ◌*◌, ◌≤◌}
use Rattle.layout.specs.Sizes.{node_rows}
use Rattle.layout.specs.Views.{ports_at}
use Rattle.tally.specs.Tally.{tally}
use Rattle.ledger.proofs.count.ports.Given as goal

abbrev pub invariant-loop-index : goal.invariant-loop-index
invariant-loop-index l = record { ports : l.ports ≡ tally (ports_at l.state) l.index; few : l.ports ≤ node_rows * l.index }
