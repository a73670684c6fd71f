-- What is sought is among the edges from here on, if it is anywhere.
use Rattle.std.proofs.Common.{◌≡◌, ◌-◌, ◌≤◌}
use Rattle.nodes.specs.Nodes.{has_edges}
use Rattle.nodes.proofs.Emptying.{sought}
use Rattle.nodes.proofs.freeing.has_edges.Given as goal

abbrev pub invariant-loop-e : goal.invariant-loop-e
invariant-loop-e l =
    record {
      rest : sought l.state l.id.index (l.e-end - l.e) l.e ≡ has_edges l.state l.id.index;
      few : l.e-end ≤ 256;
    }
