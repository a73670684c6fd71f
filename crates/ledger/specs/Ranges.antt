-- The range of each word that is read, part by part, as docs/STATE.md gives them.
use Rattle.std.specs.Prelude.{◌≡◌, ℕ, ◌+◌, ◌*◌, ◌<◌, ◌≤◌, Bool, false, if◌then◌else◌, List, IsTrue, slice_index}
use Rattle.layout.specs.Sizes.{id_room, port_room, edge_room, slot_room, channel_room, node_rows, spare, row_room}
use Rattle.layout.specs.Header.{ceiling_of, slots_of, is_open, next_of, order_length, muted_length, edge_count}
use Rattle.layout.specs.Node.{node_word, is_present, inputs_of, outputs_of, count_of, mode_of, interpretation_of}
use Rattle.layout.specs.Edge.{edge_at}
use Rattle.layout.specs.Row.{channels_of, place_of, is_port}
use Rattle.ledger.specs.Listed.{listed_count, listed_at}

-- C, S, the flags of the box, the offered place and the lengths
pub record HeaderInRange (s : List ℕ) : Type 0 where
  pub ceiling_low : 1 ≤ ceiling_of s
  pub ceiling_high : ceiling_of s ≤ channel_room
  pub slots_low : ceiling_of s + 1 ≤ slots_of s
  pub slots_high : slots_of s ≤ slot_room
  -- the words of dirty and open themselves
  pub dirty : slice_index s 2 < 2
  pub opened : slice_index s 3 < 2
  pub order : order_length s ≤ id_room
  pub muted : muted_length s ≤ id_room
  pub edges : edge_count s ≤ edge_room
  -- 0 while no quantum is open, and at most the order's length
  pub next_closed : is_open s ≡ false → next_of s ≡ 0
  pub next_open : next_of s ≤ order_length s

-- what is held of one present node
pub record NodeInRange (s : List ℕ) (id : ℕ) : Type 0 where
  pub inputs : inputs_of s id ≤ port_room
  pub outputs : outputs_of s id ≤ port_room
  -- the destination has an output at least
  pub destination : id ≡ 0 → 1 ≤ outputs_of s id
  pub count_low : 1 ≤ count_of s id
  pub count_high : count_of s id ≤ ceiling_of s
  pub mode : mode_of s id < 3
  pub interpretation : interpretation_of s id < 2
  -- the words of dropped, breaker, has inputs and side effects themselves
  pub dropped : node_word s id 6 < 2
  pub breaker : node_word s id 7 < 2
  pub fed : node_word s id 8 < 2
  pub effects : node_word s id 9 < 2

-- the two ends of a stored edge
pub record EdgeInRange (s : List ℕ) (e : ℕ) : Type 0 where
  pub source : (edge_at s e).source < id_room
  pub target : (edge_at s e).target < id_room

-- port w of node id, the inputs first, is one of a present node
abbrev pub has_port : List ℕ → ℕ → ℕ → Bool
has_port s id w = if is_present s id then is_port s id w else false

-- what is held of one id: its word of presence itself, and all of a present node
pub record IdInRange (s : List ℕ) (id : ℕ) : Type 0 where
  pub present : node_word s id 0 < 2
  pub node : IsTrue (is_present s id) → NodeInRange s id

pub record Ranges (s : List ℕ) : Type 0 where
  pub header : HeaderInRange s
  pub ids : (id : ℕ) → id < id_room → IdInRange s id
  pub listed : (k : ℕ) → k < listed_count s → listed_at s k < id_room
  pub edges : (e : ℕ) → e < edge_count s → EdgeInRange s e
  -- the channels' word of a port that is not there, and of the spare row
  pub idle : (id w : ℕ) → id < id_room → w < node_rows → has_port s id w ≡ false → channels_of s (node_rows * id + w) ≡ 0
  pub spare_row : channels_of s spare ≡ 0
  -- each channel names one of the slots
  pub places : (r c : ℕ) → r < row_room → c < channels_of s r → place_of s r c < slots_of s
