-- What the parts of the test find, part by part.
use Rattle.std.specs.Prelude.{◌≡◌, ℕ, ◌+◌, ◌*◌, ◌<◌, ◌≤◌, Bool, false, List, IsTrue, MatchBool, slice_index}
use Rattle.tally.specs.Tally.{tally}
use Rattle.layout.specs.Sizes.{id_room, slot_room, channel_room, node_rows, spare}
use Rattle.layout.specs.Header.{ceiling_of, slots_of, is_dirty, is_open, edge_count}
use Rattle.layout.specs.Row.{holders_of, channels_of, place_of}
use Rattle.layout.specs.Views.{ports_of}
use Rattle.pool.specs.Rows.{names_in, names}
use Rattle.ledger.specs.Listed.{listed_count, listed_at, AreDistinct, AreThere, CoverAll, RunForward}
use Rattle.ledger.specs.Ranges.{HeaderInRange, IdInRange, EdgeInRange, has_port}
use Rattle.ledger.specs.Ledger.{EndsThere, HasChannels}

-- every id
abbrev pub IdsInRange : List ℕ → Type 0
IdsInRange s = (id : ℕ) → id < id_room → IdInRange s id

-- one edge
pub record EdgeKept (s : List ℕ) (e : ℕ) : Type 0 where
  pub low : EdgeInRange s e
  pub there : EndsThere s e

-- every edge
abbrev pub EdgesKept : List ℕ → Type 0
EdgesKept s = (e : ℕ) → e < edge_count s → EdgeKept s e

-- one row, which is a port's that is there or not
pub record RowKept (s : List ℕ) (r : ℕ) (live : Bool) : Type 0 where
  pub channels : MatchBool live (HasChannels s r) (channels_of s r ≡ 0)
  pub places : (c : ℕ) → c < channels_of s r → place_of s r c < slots_of s

-- the rows of one id
abbrev pub PortsKept : List ℕ → ℕ → Type 0
PortsKept s id = (w : ℕ) → w < node_rows → RowKept s (node_rows * id + w) (has_port s id w)

-- every row
pub record RowsKept (s : List ℕ) : Type 0 where
  pub ports : (id : ℕ) → id < id_room → PortsKept s id
  pub spare_row : channels_of s spare ≡ 0

-- the order and the muted list
pub record ListsKept (s : List ℕ) : Type 0 where
  pub low : (k : ℕ) → k < listed_count s → listed_at s k < id_room
  pub distinct : AreDistinct s

-- where each id stands in the two lists: below their length where it is listed, and not below it where it is not
pub record IsPlaced (s places : List ℕ) : Type 0 where
  pub at : (k : ℕ) → k < listed_count s → slice_index places (listed_at s k) ≡ k
  pub known : (x : ℕ) → x < id_room → slice_index places x < listed_count s → listed_at s (slice_index places x) ≡ x

-- an array that has, for each slot, how many channels of the first n rows name it
pub record CountedTo (s counts : List ℕ) (n : ℕ) : Type 0 where
  pub each : (k : ℕ) → k < slot_room → slice_index counts k ≡ tally (λ r. names_in s k r) n
  pub few : (k : ℕ) → k < slot_room → slice_index counts k ≤ channel_room * n

-- and of all rows
abbrev pub Named : List ℕ → List ℕ → Type 0
Named s counts = (k : ℕ) → k < slot_room → slice_index counts k ≡ names s k

-- the holder counts
pub record Counted (s : List ℕ) : Type 0 where
  pub silent : holders_of s 0 ≡ 0
  pub counted : (k : ℕ) → 0 < k → k < slots_of s → holders_of s k ≡ names s k

-- all that is asked of the order and the muted list
pub record ListsRight (s : List ℕ) : Type 0 where
  pub kept : ListsKept s
  pub there : AreThere s
  pub ordered : IsTrue (is_open s) → is_dirty s ≡ false
  pub cover : is_dirty s ≡ false → CoverAll s
  pub forward : is_dirty s ≡ false → RunForward s

-- the ranges and the edges
pub record InRange (s : List ℕ) : Type 0 where
  pub header : HeaderInRange s
  pub ids : IdsInRange s
  pub edges : EdgesKept s

-- and the rest of what the state alone keeps
pub record Balanced (s : List ℕ) : Type 0 where
  pub lists : ListsRight s
  pub roomy : (ports_of s + 1) * ceiling_of s + 1 ≤ slots_of s
  pub counted : Counted s
