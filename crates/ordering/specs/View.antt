-- What the code's notes are in the words of the walk, and what it asks of the state.
use Rattle.std.specs.Prelude.{ℕ, ◌<◌, ◌≤◌, List, Option, Some, None}
use Rattle.layout.specs.Sizes.{id_room, edge_room}
use Rattle.layout.specs.Header.{edge_count}
use Rattle.layout.specs.Edge.{edge_at}
use Rattle.layout.specs.declared.index.Below.{Below}
use Rattle.ordering.specs.Walk.{Notes}
use Rattle.ordering.specs.declared.pass.Pass.{Pass}

-- the number of an id
abbrev pub index_of : Option (Below id_room) → Option ℕ
index_of None = None
index_of (Some id) = Some id.index

-- what is noted, with the breaker that was found
abbrev pub notes : Pass → Option ℕ → Notes
notes pass found = record { met = pass.met; path = pass.path.items; finished = pass.finished.items; muted = pass.muted; found = found }

-- there is room for the stored edges, and each ends at an id below the bound
pub record Bounded (s : List ℕ) : Type 0 where
  pub few : edge_count s ≤ edge_room
  pub ends : (e : ℕ) → e < edge_count s → (edge_at s e).target < id_room
