-- The rules of the lent memory that document 01 lists under "The ledger": a field for each of them, in that order.
use Rattle.std.specs.Prelude.{◌≡◌, ℕ, ◌+◌, ◌*◌, ◌<◌, ◌≤◌, ◌⊎◌, false, List, length, IsTrue}
use Rattle.layout.specs.Sizes.{Whole, quantum, hidden, id_room, node_rows}
use Rattle.layout.specs.Header.{ceiling_of, slots_of, is_dirty, is_open, edge_count}
use Rattle.layout.specs.Node.{is_present, inputs_of, outputs_of}
use Rattle.layout.specs.Edge.{edge_at}
use Rattle.layout.specs.Row.{holders_of, channels_of}
use Rattle.layout.specs.Views.{ports_of}
use Rattle.pool.specs.Rows.{names}
use Rattle.pool.specs.Pool.{Mem, slot_of, silence}
use Rattle.ledger.specs.Listed.{AreDistinct, AreThere, CoverAll, RunForward}
use Rattle.ledger.specs.Ranges.{has_port, Ranges}

-- a stored edge leads from a port that there is to one that there is; its input may be the hidden one
pub record EndsThere (s : List ℕ) (e : ℕ) : Type 0 where
  pub source : IsTrue (is_present s (edge_at s e).source)
  pub target : IsTrue (is_present s (edge_at s e).target)
  pub output : (edge_at s e).output < outputs_of s (edge_at s e).source
  pub input : ((edge_at s e).input < inputs_of s (edge_at s e).target) ⊎ ((edge_at s e).input ≡ hidden)

-- a row has a channel at least and at most as many as the ceiling
pub record HasChannels (s : List ℕ) (r : ℕ) : Type 0 where
  pub some : 1 ≤ channels_of s r
  pub most : channels_of s r ≤ ceiling_of s

-- state and pool are as long as set-up made them
pub record Lengths (m : Mem) : Type 0 where
  pub state : Whole m.state
  pub pool : length m.pool ≡ slots_of m.state
  pub slots : (k : ℕ) → k < length m.pool → length (slot_of m.pool k) ≡ quantum

pub record Ledger (m : Mem) : Type 0 where
  pub lengths : Lengths m
  -- no number lies outside its range
  pub ranges : Ranges m.state
  -- no edge hangs in the air
  pub ends : (e : ℕ) → e < edge_count m.state → EndsThere m.state e
  -- slot 0 holds +0.0 and no other bits
  pub quiet : slot_of m.pool 0 ≡ silence
  -- and has no count
  pub silent : holders_of m.state 0 ≡ 0
  -- every other slot is counted once for each channel that names it; only ports of present nodes have channels (Ranges)
  pub counted : (k : ℕ) → 0 < k → k < slots_of m.state → holders_of m.state k ≡ names m.state k
  -- what refusal 6 asks of a new node is true with no new port
  pub roomy : (ports_of m.state + 1) * ceiling_of m.state + 1 ≤ slots_of m.state
  -- no id stands twice in the order and the muted list
  pub distinct : AreDistinct m.state
  -- an id of theirs is a node's, or its node has finished in the open quantum
  pub there : AreThere m.state
  -- nothing is to be ordered anew while a quantum is open
  pub ordered : IsTrue (is_open m.state) → is_dirty m.state ≡ false
  -- where nothing is to be ordered anew, every node stands in one of the two
  pub cover : is_dirty m.state ≡ false → CoverAll m.state
  -- and no edge leads back in the order
  pub forward : is_dirty m.state ≡ false → RunForward m.state
  -- every port of a node has channels, within the ceiling
  pub channels : (id w : ℕ) → id < id_room → w < node_rows → IsTrue (has_port m.state id w) → HasChannels m.state (node_rows * id + w)
