-- What the state shows after the ordering, in the words of the small world, and what stays as it was.
use Rattle.std.specs.Prelude.{◌≡◌, ℕ, ◌<◌, List}
use Rattle.layout.specs.Sizes.{id_room}
use Rattle.layout.specs.Header.{ceiling_of, slots_of, is_dirty, is_open, next_of}
use Rattle.layout.specs.Row.{holders_of, channels_of, place_of}
use Rattle.layout.specs.Views.{order_of, muted_of, edges_of, node_of}
use Rattle.ordering.specs.Order.{Ordered}

-- t holds what was found, and all else as s has it
pub record Shows (s t : List ℕ) (r : Ordered) : Type 0 where
  pub order : order_of t ≡ r.order
  pub muted : muted_of t ≡ r.muted
  pub edges : edges_of t ≡ r.edges
  pub ceiling : ceiling_of t ≡ ceiling_of s
  pub slots : slots_of t ≡ slots_of s
  pub dirty : is_dirty t ≡ is_dirty s
  pub opened : is_open t ≡ is_open s
  pub next : next_of t ≡ next_of s
  pub nodes : (id : ℕ) → id < id_room → node_of t id ≡ node_of s id
  pub holders : (k : ℕ) → holders_of t k ≡ holders_of s k
  pub channels : (r : ℕ) → channels_of t r ≡ channels_of s r
  pub places : (r c : ℕ) → place_of t r c ≡ place_of s r c
