-- Rows of channels and the slots that they name: one reader and one writer for each word, and how many channels a row may have.
use Rattle.std.specs.Prelude.{ℕ, ◌+◌, ◌*◌, ◌-◌, ◌/◌, ◌%◌, Bool, if◌then◌else◌, List, ◌==◌, nat_lt, slice_index, slice_set}
use Rattle.layout.specs.Sizes.{port_room, channel_room, node_rows, spare, holder_part, channel_part, place_part}
use Rattle.layout.specs.Header.{ceiling_of}
use Rattle.layout.specs.Node.{is_present, inputs_of, outputs_of}
use Rattle.layout.specs.declared.row.Side.{Side}
use Rattle.layout.specs.declared.row.Side.TheVariants.{Input, Output}

-- the row of an input and of an output of node id
abbrev pub input_row : ℕ → ℕ → ℕ
input_row id port = node_rows * id + port

abbrev pub output_row : ℕ → ℕ → ℕ
output_row id port = node_rows * id + port_room + port

abbrev pub port_row : Side → ℕ → ℕ → ℕ
port_row Input id port = input_row id port
port_row Output id port = output_row id port

-- the holder count: how many channels name slot k; slot 0 has no count
abbrev pub holders_of : List ℕ → ℕ → ℕ
holders_of s k = slice_index s (holder_part + k)

abbrev pub set_holders : List ℕ → ℕ → ℕ → List ℕ
set_holders s k v = slice_set s (holder_part + k) v

-- how many channels row r has
abbrev pub channels_of : List ℕ → ℕ → ℕ
channels_of s r = slice_index s (channel_part + r)

abbrev pub set_channels : List ℕ → ℕ → ℕ → List ℕ
set_channels s r v = slice_set s (channel_part + r) v

-- which slot channel c of row r names
abbrev pub place_of : List ℕ → ℕ → ℕ → ℕ
place_of s r c = slice_index s (place_part + channel_room * r + c)

abbrev pub set_place : List ℕ → ℕ → ℕ → ℕ → List ℕ
set_place s r c v = slice_set s (place_part + channel_room * r + c) v

-- port w of the ports of one node, the inputs first, is one that the node has
abbrev pub is_port : List ℕ → ℕ → ℕ → Bool
is_port s id w =
    if nat_lt w port_room then nat_lt w (inputs_of s id) else nat_lt (w - port_room) (outputs_of s id)

-- how many channels row r may have: the ceiling where it is a port of a present node or the spare row, else none
unfoldable pub cap_of : List ℕ → ℕ → ℕ
cap_of s r =
    if r == spare then ceiling_of s else
    (if is_present s (r / node_rows) then (if is_port s (r / node_rows) (r % node_rows) then ceiling_of s else 0) else 0)
