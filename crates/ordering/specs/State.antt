-- The ordering as the state holds it: a definition for what each step leaves of the words.
use Rattle.std.specs.Prelude.{ℕ, zero, suc, ◌+◌, if◌then◌else◌, List, Option, Some, None, ◌==◌}
use Rattle.layout.specs.Header.{edge_count, set_edge_count}
use Rattle.layout.specs.Edge.{edge_at, set_edge_at}
use Rattle.layout.specs.Views.{edges_of, present_of, breakers_of}
use Rattle.ordering.specs.Walk.{Notes}
use Rattle.ordering.specs.Listing.{put_list}
use Rattle.ordering.specs.declared.list.IdList.TheVariants.{Order, Muted}
use Rattle.ordering.specs.Order.{Graph, pass, sounding, silent}

-- the graph that the state holds
unfoldable pub graph_of : List ℕ → Graph
graph_of s = record { present = present_of s; breakers = breakers_of s; edges = edges_of s }

-- without the edges that leave b, among the n edges from place i on; j edges are left before them
unfoldable pub clear_from : ℕ → List ℕ → ℕ → ℕ → ℕ → List ℕ
clear_from b s zero i j = set_edge_count s j
clear_from b s (suc n) i j =
    let gone = (edge_at s i).source == b in
    clear_from b (if gone then s else set_edge_at s j (edge_at s i)) n (i + 1) (if gone then j else j + 1)

-- b loses its edges; the others keep their stored order
unfoldable pub clear : List ℕ → ℕ → List ℕ
clear s b = clear_from b s (edge_count s) 0 0

-- what a pass leaves: order and muted list are stored unless it found a breaker
unfoldable pub settle : List ℕ → Notes → Option ℕ → List ℕ
settle s n None = put_list Muted (put_list Order s (sounding n) 0) (silent n (present_of s)) 0
settle s n (Some b) = s

-- the state after the ordering, and how many passes there were
pub record Ordering : Type 0 where
  pub state : List ℕ
  pub passes : ℕ

-- after the k-th pass: a breaker that it found loses its edges, and `again` begins a new pass
unfoldable pub order_by : (List ℕ → ℕ → Ordering) → List ℕ → ℕ → Option ℕ → Ordering
order_by again s k None = record { state = s; passes = k }
order_by again s k (Some b) = again (clear s b) (k + 1)

-- from the k-th pass on, at most f passes
unfoldable pub order_from : ℕ → List ℕ → ℕ → Ordering
order_from zero s k = record { state = s; passes = k }
order_from (suc f) s k = let n = pass (graph_of s) in order_by (order_from f) (settle s n n.found) k n.found

-- each clearing takes an edge away at least
unfoldable pub order_nodes : List ℕ → Ordering
order_nodes s = order_from (edge_count s + 1) s 1
