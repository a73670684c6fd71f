-- The present ids so far stand in one of the lists.
use Rattle.std.proofs.Common.{ℕ, ◌<◌, IsTrue, slice_index}
use Rattle.layout.specs.Node.{is_present}
use Rattle.ledger.specs.Listed.{listed_count}
use Rattle.ledger.proofs.list.cover.Given as goal

abbrev pub invariant-loop-index : goal.invariant-loop-index
invariant-loop-index l = (id : ℕ) → id < l.index → IsTrue (is_present l.state id) → slice_index l.places id < listed_count l.state
