-- A state to which the next node can be added.
use Rattle.std.specs.Prelude.{◌≡◌, ℕ, ◌*◌, ◌<◌, ◌≤◌, false, T, List}
use Rattle.layout.specs.Sizes.{id_room, port_room}
use Rattle.layout.specs.Header.{ceiling_of, slots_of, is_dirty, order_length}
use Rattle.layout.specs.Node.{is_present, inputs_of, outputs_of}
use Rattle.layout.specs.Views.{ports_of}
use Rattle.pool.specs.Rows.{Held}

-- nodes 0 to n - 1 are there, each with one input and one output, under one channel a port and 1,024 slots
pub record Ready (s : List ℕ) (n : ℕ) : Type 0 where
  pub held : Held s
  pub ceiling : ceiling_of s ≡ 1
  pub slots : slots_of s ≡ 1024
  pub ports : ports_of s ≡ n * 2
  pub inputs : (x : ℕ) → x < id_room → T (is_present s x) → inputs_of s x ≤ port_room
  pub outputs : (x : ℕ) → x < id_room → T (is_present s x) → outputs_of s x ≤ port_room
  pub absent : (x : ℕ) → n ≤ x → x < id_room → is_present s x ≡ false
  pub listed : is_dirty s ≡ false → order_length s ≤ n
