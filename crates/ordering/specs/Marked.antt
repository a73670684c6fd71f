-- The marked cases M1 to M6 of the ordering as one table. M7 adds nodes and no edge, and orders nothing.
use Rattle.std.specs.Prelude.{◌≡◌, ℕ, List, [], ◌∷◌, map}
use Rattle.layout.specs.declared.edge.Edge.{Edge}
use Rattle.ordering.specs.Order.{Graph, Ordered, ordered}

-- an edge between two nodes; its ports do not count
abbrev pub edge : ℕ → ℕ → Edge
edge x y = record { source = x; output = 0; target = y; input = 0 }

abbrev pub m1 : List Edge
m1 = edge 1 2 ∷ edge 1 4 ∷ edge 2 3 ∷ edge 3 1 ∷ edge 4 3 ∷ []

abbrev pub m2 : List Edge
m2 = edge 1 4 ∷ edge 1 2 ∷ edge 2 3 ∷ edge 3 1 ∷ edge 4 3 ∷ []

-- a graph, and what the ordering finds
pub record Case : Type 0 where
  pub graph : Graph
  pub found : Ordered

abbrev pub table : List Case
table =
    record {
      graph = record { present = 0 ∷ 1 ∷ 2 ∷ 3 ∷ 4 ∷ []; breakers = []; edges = m1 };
      found = record { order = 4 ∷ 0 ∷ []; muted = 1 ∷ 2 ∷ 3 ∷ []; passes = 1; edges = m1 };
    }
    ∷ record {
      graph = record { present = 0 ∷ 1 ∷ 2 ∷ 3 ∷ 4 ∷ []; breakers = []; edges = m2 };
      found = record { order = 2 ∷ 0 ∷ []; muted = 1 ∷ 3 ∷ 4 ∷ []; passes = 1; edges = m2 };
    }
    ∷ record {
      graph = record { present = 0 ∷ 1 ∷ 2 ∷ []; breakers = 2 ∷ []; edges = edge 1 2 ∷ edge 1 0 ∷ edge 2 1 ∷ [] };
      found = record { order = 1 ∷ 2 ∷ 0 ∷ []; muted = []; passes = 2; edges = edge 1 2 ∷ edge 1 0 ∷ [] };
    }
    ∷ record {
      graph = record { present = 0 ∷ 1 ∷ 2 ∷ 3 ∷ []; breakers = 2 ∷ 3 ∷ []; edges = edge 1 2 ∷ edge 2 3 ∷ edge 3 1 ∷ [] };
      found = record { order = 3 ∷ 1 ∷ 2 ∷ 0 ∷ []; muted = []; passes = 2; edges = edge 1 2 ∷ edge 3 1 ∷ [] };
    }
    ∷ record {
      graph = record { present = 0 ∷ 1 ∷ []; breakers = []; edges = edge 1 1 ∷ [] };
      found = record { order = 0 ∷ []; muted = 1 ∷ []; passes = 1; edges = edge 1 1 ∷ [] };
    }
    ∷ record {
      graph = record { present = 0 ∷ 1 ∷ []; breakers = 1 ∷ []; edges = edge 1 1 ∷ [] };
      found = record { order = 1 ∷ 0 ∷ []; muted = []; passes = 2; edges = [] };
    }
    ∷ []

abbrev pub Marked : Type 0
Marked = map (λ c. ordered c.graph) table ≡ map (λ c. c.found) table
