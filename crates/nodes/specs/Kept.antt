-- What an edit leaves as it was.
use Rattle.std.specs.Prelude.{◌≡◌, ◌≢◌, ℕ, ◌+◌, ◌/◌, ◌<◌, ◌≤◌, Bool, if◌then◌else◌, not, false, List, [], ◌∷◌, ◌++◌, ◌==◌, filter}
use Rattle.layout.specs.Sizes.{Whole, id_room, port_room, edge_room, node_rows, row_room}
use Rattle.layout.specs.Header.{ceiling_of, slots_of, is_dirty, is_open, next_of, order_length, muted_length, edge_count}
use Rattle.layout.specs.Row.{holders_of, channels_of, place_of, input_row, output_row}
use Rattle.layout.specs.Views.{order_of, muted_of, edges_of, node_of, row_of, ports_of}
use Rattle.pool.specs.Rows.{Held}
use Rattle.nodes.specs.Nodes.{node_new}

-- slots and the channels that name them
pub record SameRows (s t : List ℕ) : Type 0 where
  pub holders : (k : ℕ) → holders_of t k ≡ holders_of s k
  pub channels : (r : ℕ) → channels_of t r ≡ channels_of s r
  pub places : (r c : ℕ) → place_of t r c ≡ place_of s r c

-- what the quantum goes by
pub record SameRun (s t : List ℕ) : Type 0 where
  pub whole : Whole s → Whole t
  pub ceiling : ceiling_of t ≡ ceiling_of s
  pub slots : slots_of t ≡ slots_of s
  pub opened : is_open t ≡ is_open s
  pub next : next_of t ≡ next_of s

-- the order and the muted list, where each has its room
pub record SameLists (s t : List ℕ) : Type 0 where
  pub order : order_length s ≤ id_room → order_of t ≡ order_of s
  pub muted : muted_length s ≤ id_room → muted_of t ≡ muted_of s

-- all but the stored edges and whether the order is to be made anew
pub record ButEdges (s t : List ℕ) : Type 0 where
  pub run : SameRun s t
  pub lists : SameLists s t
  pub nodes : (id : ℕ) → id < id_room → node_of t id ≡ node_of s id
  pub rows : SameRows s t

-- all but what is held of node id
pub record ButNode (id : ℕ) (s t : List ℕ) : Type 0 where
  pub run : SameRun s t
  pub dirty : is_dirty t ≡ is_dirty s
  pub lists : SameLists s t
  pub edges : edge_count s ≤ edge_room → edges_of t ≡ edges_of s
  pub nodes : (x : ℕ) → x < id_room → x ≢ id → node_of t x ≡ node_of s x
  pub rows : SameRows s t

-- node id is new: what is held of it, its ports silent, its place in the order; all else as it was
pub record Added (s t : List ℕ) (id inputs outputs : ℕ) (effects : Bool) : Type 0 where
  pub held : Held t
  pub run : SameRun s t
  pub node : node_of t id ≡ node_new (ceiling_of s) inputs outputs effects
  pub nodes : (x : ℕ) → x < id_room → x ≢ id → node_of t x ≡ node_of s x
  pub ports : ports_of t ≡ ports_of s + (inputs + outputs)
  pub dirty : is_dirty t ≡ is_dirty s
  pub order : order_length s ≤ id_room → order_of t ≡ (if is_dirty s then order_of s else order_of s ++ id ∷ [])
  pub muted : muted_length s ≤ id_room → muted_of t ≡ muted_of s
  pub edges : edge_count s ≤ edge_room → edges_of t ≡ edges_of s
  pub silent_in : (p : ℕ) → p < inputs → row_of t (input_row id p) ≡ 0 ∷ []
  pub silent_out : (p : ℕ) → p < outputs → row_of t (output_row id p) ≡ 0 ∷ []
  pub rows : (r : ℕ) → r < row_room → r / node_rows ≢ id → row_of t r ≡ row_of s r

-- node id is gone, its rows have no channels, and no edge leaves it or enters it; all else as it was
pub record Freed (s t : List ℕ) (id : ℕ) : Type 0 where
  pub held : Held t
  pub run : SameRun s t
  pub node : node_of t id ≡ record (node_of s id) { present = false }
  pub nodes : (x : ℕ) → x < id_room → x ≢ id → node_of t x ≡ node_of s x
  pub dirty : is_dirty t ≡ is_dirty s
  pub lists : SameLists s t
  pub edges : edges_of t ≡ filter (λ e. not (e.target == id)) (filter (λ e. not (e.source == id)) (edges_of s))
  pub empty_in : (p : ℕ) → p < port_room → row_of t (input_row id p) ≡ []
  pub empty_out : (p : ℕ) → p < port_room → row_of t (output_row id p) ≡ []
  pub rows : (r : ℕ) → r < row_room → r / node_rows ≢ id → row_of t r ≡ row_of s r
