-- The ordering of a graph: passes until one finds no breaker, and what the last one noted.
use Rattle.std.specs.Prelude.{ℕ, zero, suc, ◌+◌, Bool, false, not, List, [], Option, Some, None, ◌==◌, length, map, filter, reverse, replicate}
use Rattle.std.specs.List.{list_any}
use Rattle.layout.specs.Sizes.{id_room}
use Rattle.layout.specs.declared.edge.Edge.{Edge}
use Rattle.ordering.specs.Walk.{Notes, flag, along, visit}

-- all that the ordering looks at
pub record Graph : Type 0 where
  pub present : List ℕ  -- the ids of the nodes present, upward
  pub breakers : List ℕ  -- the ids marked as breakers
  pub edges : List Edge  -- the oldest first; of each only its source and its target count

-- whether an id is marked as a breaker
unfoldable pub breaks : List ℕ → ℕ → Bool
breaks breakers x = list_any (λ b. b == x) breakers

-- the targets of x's edges
unfoldable pub targets : List Edge → ℕ → List ℕ
targets edges x = map (λ e. e.target) (filter (λ e. e.source == x) edges)

-- without all edges that leave b
unfoldable pub cleared : List Edge → ℕ → List Edge
cleared edges b = filter (λ e. not (e.source == b)) edges

-- with nothing noted
unfoldable pub fresh : Notes
fresh = record { met = replicate id_room false; path = []; finished = []; muted = replicate id_room false; found = None }

-- one pass: the present ids upward. No walk is deeper than there are ids.
unfoldable pub pass : Graph → Notes
pass g = along (visit (targets g.edges) (breaks g.breakers) (id_room + 1)) fresh g.present

-- what the ordering finds
pub record Ordered : Type 0 where
  pub order : List ℕ
  pub muted : List ℕ
  pub passes : ℕ
  pub edges : List Edge  -- those that are left

-- the finishing list without the muted, reversed
unfoldable pub sounding : Notes → List ℕ
sounding n = reverse (filter (λ x. not (flag n.muted x)) n.finished)

-- the muted ids, upward
unfoldable pub silent : Notes → List ℕ → List ℕ
silent n present = filter (flag n.muted) present

-- after the k-th pass: a breaker that it found loses its edges, and `again` begins a new pass
unfoldable pub ordered_by : (Graph → ℕ → Ordered) → Graph → ℕ → Notes → Option ℕ → Ordered
ordered_by again g k n None = record { order = sounding n; muted = silent n g.present; passes = k; edges = g.edges }
ordered_by again g k n (Some b) = again (record g { edges = cleared g.edges b }) (k + 1)

-- from the k-th pass on, at most f passes
unfoldable pub ordered_from : ℕ → Graph → ℕ → Ordered
ordered_from zero g k = record { order = []; muted = []; passes = k; edges = g.edges }
ordered_from (suc f) g k = let n = pass g in ordered_by (ordered_from f) g k n n.found

-- each clearing takes an edge away at least
unfoldable pub ordered : Graph → Ordered
ordered g = ordered_from (length g.edges + 1) g 1
