-- The words in which an ordering's promises are stated, and the promises.
use Rattle.std.specs.Prelude.{◌≡◌, ◌≢◌, ℕ, ◌+◌, ◌<◌, ◌≤◌, not, List, [], ◌∷◌, ◌++◌, ◌==◌, length, filter, slice_index}
use Rattle.std.specs.List.{All, AllPairs, Any, Contains, list_any}
use Rattle.layout.specs.Sizes.{id_room}
use Rattle.layout.specs.declared.edge.Edge.{Edge}
use Rattle.ordering.specs.Walk.{along, visit}
use Rattle.ordering.specs.Order.{Graph, Ordered, breaks, targets, fresh, pass, ordered_from, ordered}

-- what it rests on: the present ids are below the bound and stand upward, and every edge ends at one of them
pub record Sound (g : Graph) : Type 0 where
  pub low : All (λ x. x < id_room) g.present
  pub upward : AllPairs ◌<◌ g.present
  pub ends : All (λ e. Contains g.present e.target) g.edges

-- the edges lead from x to y, each from where the one before it ended
abbrev pub Leads : List Edge → ℕ → ℕ → Type 0
Leads [] x y = x ≡ y
Leads (e ∷ es) x y = (e.source ≡ x) × Leads es e.target y

-- y lies on a cycle of ids that are not marked as breakers
pub record OnCycle (edges : List Edge) (breakers : List ℕ) (y : ℕ) : Type 0 where
  pub cycle : List Edge
  pub start : ℕ
  pub closed : Leads cycle start start
  pub through : Any (λ e. e.source ≡ y) cycle
  pub stored : All (Contains edges) cycle
  pub unmarked : All (λ e. ¬ Contains breakers e.source) cycle

-- an edge between two places of a list leads to the later one
abbrev pub RunsForward : List ℕ → Edge → Type 0
RunsForward order e =
    (i j : ℕ) → i < length order → j < length order → slice_index order i ≡ e.source → slice_index order j ≡ e.target → i < j

-- the edges that leave none of some ids
abbrev pub without : List ℕ → List Edge → List Edge
without ids edges = filter (λ e. not (list_any (λ b. e.source == b) ids)) edges

-- what is promised of an ordering of g
pub record Promised (g : Graph) (r : Ordered) : Type 0 where
  -- order and muted list together hold every present id once and nothing else
  pub once : AllPairs ◌≢◌ (r.order ++ r.muted)
  pub all : All (Contains (r.order ++ r.muted)) g.present
  pub only : All (Contains g.present) (r.order ++ r.muted)
  pub upward : AllPairs ◌<◌ r.muted
  pub forward : All (RunsForward r.order) r.edges
  pub cycles : All (OnCycle r.edges g.breakers) r.muted
  -- the breakers that were found, each once; they lost all their edges and no other edge went
  pub opened : List ℕ
  pub opened_once : AllPairs ◌≢◌ opened
  pub marked : All (Contains g.breakers) opened
  pub there : All (Contains g.present) opened
  pub left : r.edges ≡ without opened g.edges
  -- one pass more than clearings, and at most one more than breakers
  pub passes : r.passes ≡ length opened + 1
  pub most : r.passes ≤ length g.breakers + 1

-- no bound that the definitions set is ever reached: with any that is at least as high they give the same
pub record Unbounded (g : Graph) : Type 0 where
  pub depth : (f : ℕ) → id_room < f → along (visit (targets g.edges) (breaks g.breakers) f) fresh g.present ≡ pass g
  pub passes : (f : ℕ) → length g.edges < f → ordered_from f g 1 ≡ ordered g
