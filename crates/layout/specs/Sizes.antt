-- The sizes of document 01 ("Numbers") and where each part of the state slice begins. No other file writes these numerals.
use Rattle.std.specs.Prelude.{ℕ, ◌+◌, ◌*◌, ◌≡◌, Bool, not, if◌then◌else◌, List, ◌==◌, length, slice_index, slice_set}

-- ids 0 to 63; 0 is the destination
abbrev pub id_room : ℕ
id_room = 64

-- at most 8 inputs and 8 outputs a node
abbrev pub port_room : ℕ
port_room = 8

-- at most 256 edges
abbrev pub edge_room : ℕ
edge_room = 256

-- slots S: at most 1,024
abbrev pub slot_room : ℕ
slot_room = 1024

-- channel ceiling C: at most 32
abbrev pub channel_room : ℕ
channel_room = 32

-- a quantum is 128 samples
abbrev pub quantum : ℕ
quantum = 128

-- the hidden input port
abbrev pub hidden : ℕ
hidden = 255

-- a row for each port of each id, the inputs first, and the spare row last
abbrev pub node_rows : ℕ
node_rows = 2 * port_room

abbrev pub spare : ℕ
spare = node_rows * id_room

abbrev pub row_room : ℕ
row_room = spare + 1

-- words of the header, of a node and of an edge
abbrev pub header_words : ℕ
header_words = 16

abbrev pub node_words : ℕ
node_words = 16

abbrev pub edge_words : ℕ
edge_words = 4

-- where each part begins
abbrev pub order_part : ℕ
order_part = header_words

abbrev pub muted_part : ℕ
muted_part = order_part + id_room

abbrev pub node_part : ℕ
node_part = muted_part + id_room

abbrev pub edge_part : ℕ
edge_part = node_part + node_words * id_room

abbrev pub holder_part : ℕ
holder_part = edge_part + edge_words * edge_room

abbrev pub channel_part : ℕ
channel_part = holder_part + slot_room

abbrev pub place_part : ℕ
place_part = channel_part + row_room

-- the one fixed length of the state slice
abbrev pub state_length : ℕ
state_length = place_part + channel_room * row_room

-- every word of the state stands in a slice of the one fixed length
abbrev pub Whole : List ℕ → Type 0
Whole s = length s ≡ state_length

-- a flag is no only at 0
unfoldable pub flag_at : List ℕ → ℕ → Bool
flag_at s i = not (slice_index s i == 0)

-- a flag is written as 1 for yes and 0 for no
unfoldable pub set_flag : List ℕ → ℕ → Bool → List ℕ
set_flag s i v = slice_set s i (if v then 1 else 0)
