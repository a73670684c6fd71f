-- Dropping edges from here on gives what dropping them from the start gives.
use Rattle.std.proofs.Common.{◌≡◌, ◌-◌, ◌≤◌}
use Rattle.nodes.specs.Edges.{takes, left_from, edges_left}
use Rattle.nodes.proofs.edges.drop_edges.Given as goal

abbrev pub invariant-loop-e : goal.invariant-loop-e
invariant-loop-e l =
    record {
      rest : left_from (takes l.gone) l.state (l.e-end - l.e) l.e l.left ≡ edges_left (takes l.gone) l.initial.state;
      behind : l.left ≤ l.e;
      few : l.e-end ≤ 256;
    }
