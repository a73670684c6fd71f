-- The counts of the slots so far are right.
use Rattle.std.proofs.Common.{◌≡◌, ℕ, ◌<◌}
use Rattle.layout.specs.Row.{holders_of}
use Rattle.pool.specs.Rows.{names}
use Rattle.ledger.proofs.count.counted.Given as goal

abbrev pub invariant-loop-index : goal.invariant-loop-index
invariant-loop-index l = (k : ℕ) → 0 < k → k < l.index → holders_of l.state k ≡ names l.state k
