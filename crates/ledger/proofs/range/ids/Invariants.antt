-- The ids so far are in range.
use Rattle.std.proofs.Common.{ℕ, ◌<◌}
use Rattle.ledger.specs.Ranges.{IdInRange}
use Rattle.ledger.proofs.range.ids.Given as goal

abbrev pub invariant-loop-index : goal.invariant-loop-index
invariant-loop-index l = (id : ℕ) → id < l.index → IdInRange l.state id
