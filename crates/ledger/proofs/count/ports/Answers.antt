-- One id more in the sum.
use Rattle.std.proofs.Common.{sym, arith}
use Rattle.layout.specs.Views.{ports_at}
use Rattle.tally.proofs.Sums.{tally-suc}
use Rattle.ledger.proofs.Counts.{tally_none}
use Rattle.ledger.proofs.count.ports.Goals as goal

pub loop-index-init : goal.loop-index-init
loop-index-init c = record { ports = sym (tally_none (ports_at c.args.state.now)); few = omega arith }

pub loop-index-preserved : goal.loop-index-preserved
loop-index-preserved c = let e = tally-suc (ports_at c.args.state.now) c.loop-index.index in record { ports = omega arith; few = omega arith }
