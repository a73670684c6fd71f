-- The edges so far lead on.
use Rattle.std.proofs.Common.{ℕ, ◌<◌}
use Rattle.ledger.specs.Listed.{LeadsOn}
use Rattle.ledger.proofs.list.forward.Given as goal

abbrev pub invariant-loop-index : goal.invariant-loop-index
invariant-loop-index l = (e : ℕ) → e < l.index → LeadsOn l.state e
