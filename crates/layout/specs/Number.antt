-- Each number of the state: what is read where it stands, and the state once it is written.
use Rattle.std.specs.Prelude.{ℕ, List}
use Rattle.layout.specs.Header.{ceiling_of, set_ceiling, slots_of, set_slots, next_of, set_next, order_length, set_order_length, muted_length, set_muted_length, edge_count, set_edge_count}
use Rattle.layout.specs.Lists.{order_at, set_order_at, muted_at, set_muted_at}
use Rattle.layout.specs.Node.{inputs_of, set_inputs, outputs_of, set_outputs, count_of, set_count, mode_of, set_mode, interpretation_of, set_interpretation}
use Rattle.layout.specs.Edge.{edge_word, set_edge_word}
use Rattle.layout.specs.Row.{holders_of, set_holders, channels_of, set_channels, place_of, set_place}
use Rattle.layout.specs.declared.field.Number.{Number}
use Rattle.layout.specs.declared.field.Number.TheVariants.{Ceiling, Slots, Next, OrderLength, MutedLength, EdgeCount, Order, Muted, Inputs, Outputs, Count, Mode, Interpretation, Source, Output, Target, Input, Holders, Channels, Place}

abbrev pub number_of : List ℕ → Number → ℕ
number_of s Ceiling = ceiling_of s
number_of s Slots = slots_of s
number_of s Next = next_of s
number_of s OrderLength = order_length s
number_of s MutedLength = muted_length s
number_of s EdgeCount = edge_count s
number_of s (Order k) = order_at s k.index
number_of s (Muted k) = muted_at s k.index
number_of s (Inputs id) = inputs_of s id.index
number_of s (Outputs id) = outputs_of s id.index
number_of s (Count id) = count_of s id.index
number_of s (Mode id) = mode_of s id.index
number_of s (Interpretation id) = interpretation_of s id.index
number_of s (Source e) = edge_word s e.index 0
number_of s (Output e) = edge_word s e.index 1
number_of s (Target e) = edge_word s e.index 2
number_of s (Input e) = edge_word s e.index 3
number_of s (Holders slot) = holders_of s slot.index
number_of s (Channels row) = channels_of s row.index
number_of s (Place row channel) = place_of s row.index channel.index

abbrev pub set_number : List ℕ → Number → ℕ → List ℕ
set_number s Ceiling v = set_ceiling s v
set_number s Slots v = set_slots s v
set_number s Next v = set_next s v
set_number s OrderLength v = set_order_length s v
set_number s MutedLength v = set_muted_length s v
set_number s EdgeCount v = set_edge_count s v
set_number s (Order k) v = set_order_at s k.index v
set_number s (Muted k) v = set_muted_at s k.index v
set_number s (Inputs id) v = set_inputs s id.index v
set_number s (Outputs id) v = set_outputs s id.index v
set_number s (Count id) v = set_count s id.index v
set_number s (Mode id) v = set_mode s id.index v
set_number s (Interpretation id) v = set_interpretation s id.index v
set_number s (Source e) v = set_edge_word s e.index 0 v
set_number s (Output e) v = set_edge_word s e.index 1 v
set_number s (Target e) v = set_edge_word s e.index 2 v
set_number s (Input e) v = set_edge_word s e.index 3 v
set_number s (Holders slot) v = set_holders s slot.index v
set_number s (Channels row) v = set_channels s row.index v
set_number s (Place row channel) v = set_place s row.index channel.index v
