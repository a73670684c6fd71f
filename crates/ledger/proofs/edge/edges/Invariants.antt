-- The edges so far keep the rules.
use Rattle.std.proofs.Common.{ℕ, ◌<◌}
use Rattle.ledger.specs.Tests.{EdgeKept}
use Rattle.ledger.proofs.edge.edges.Given as goal

abbrev pub invariant-loop-index : goal.invariant-loop-index
invariant-loop-index l = (e : ℕ) → e < l.index → EdgeKept l.state e
