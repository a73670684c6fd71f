-- The edges below the loop's end at ids below the bound.
use Rattle.std.proofs.Common.{ℕ, ◌<◌, ◌≤◌, ◌≡◌}
use Rattle.layout.specs.Header.{edge_count}
use Rattle.layout.specs.Edge.{edge_at}
use Rattle.marked.proofs.build.is_bounded.Given as goal

abbrev pub invariant-loop-e : goal.invariant-loop-e
invariant-loop-e l = record {
  few : l.count ≤ 256;
  all : l.count ≡ edge_count l.state;
  ends : (e : ℕ) → e < l.e → (edge_at l.state e).target < 64;
}
