-- The listed ids so far are present or finished.
use Rattle.std.proofs.Common.{ℕ, ◌<◌, ◌⊎◌, IsTrue}
use Rattle.layout.specs.Header.{is_open, next_of}
use Rattle.layout.specs.Node.{is_present}
use Rattle.ledger.specs.Listed.{listed_at}
use Rattle.ledger.proofs.list.there.Given as goal

abbrev pub invariant-loop-k : goal.invariant-loop-k
invariant-loop-k l = (k : ℕ) → k < l.k → IsTrue (is_present l.state (listed_at l.state k)) ⊎ (IsTrue (is_open l.state) × (k < next_of l.state))
