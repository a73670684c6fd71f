-- The code's sizes are those of the definitions, and its indices reach as far: whatever a definition reads in its range, a name reads.
use Rattle.std.proofs.Common.{◌≡◌, refl, ℕ, ◌<◌, Bool, List}
use Rattle.layout.specs.declared.TheConstants.{IDS, PORTS, EDGES, SLOTS, CHANNELS, QUANTUM, HIDDEN, NODE_ROWS, SPARE, ROWS, STATE}
use Rattle.layout.specs.Sizes.{id_room, port_room, edge_room, slot_room, channel_room, quantum, hidden, node_rows, spare, row_room, state_length}
use Rattle.layout.specs.Lists.{order_at, muted_at}
use Rattle.layout.specs.Node.{is_present, inputs_of, outputs_of, count_of, mode_of, interpretation_of, is_dropped, is_breaker, has_inputs, has_side_effects}
use Rattle.layout.specs.Edge.{edge_word}
use Rattle.layout.specs.Row.{holders_of, channels_of, place_of}
use Rattle.layout.specs.Number.{number_of}
use Rattle.layout.specs.Flag.{flag_of}
use Rattle.layout.specs.declared.field.Number.{Number}
use Rattle.layout.specs.declared.field.Number.TheVariants.{Order, Muted, Inputs, Outputs, Count, Mode, Interpretation, Source, Output, Target, Input, Holders, Channels, Place}
use Rattle.layout.specs.declared.field.Flag.{Flag}
use Rattle.layout.specs.declared.field.Flag.TheVariants.{Present, Dropped, Breaker, HasInputs, SideEffects}

pub record Sizes : Type 0 where
  pub ids : IDS ≡ id_room
  pub ports : PORTS ≡ port_room
  pub edges : EDGES ≡ edge_room
  pub slots : SLOTS ≡ slot_room
  pub channels : CHANNELS ≡ channel_room
  pub samples : QUANTUM ≡ quantum
  pub hidden_port : HIDDEN ≡ hidden
  pub rows_of_node : NODE_ROWS ≡ node_rows
  pub spare_row : SPARE ≡ spare
  pub rows : ROWS ≡ row_room
  pub state : STATE ≡ state_length

pub sizes : Sizes
sizes = record { ids = refl; ports = refl; edges = refl; slots = refl; channels = refl; samples = refl; hidden_port = refl; rows_of_node = refl; spare_row = refl; rows = refl; state = refl }

-- some name reads what the definition reads at k
abbrev pub Named : (List ℕ → ℕ → ℕ) → ℕ → Type 0
Named reader k = (x : Number) × ((s : List ℕ) → number_of s x ≡ reader s k)

abbrev pub NamedFlag : (List ℕ → ℕ → Bool) → ℕ → Type 0
NamedFlag reader k = (x : Flag) × ((s : List ℕ) → flag_of s x ≡ reader s k)

pub order_named : (k : ℕ) → k < id_room → Named order_at k
order_named k l = (Order (record { index = k; in_range = l }), λ s. refl)

pub muted_named : (k : ℕ) → k < id_room → Named muted_at k
muted_named k l = (Muted (record { index = k; in_range = l }), λ s. refl)

pub inputs_named : (id : ℕ) → id < id_room → Named inputs_of id
inputs_named id l = (Inputs (record { index = id; in_range = l }), λ s. refl)

pub outputs_named : (id : ℕ) → id < id_room → Named outputs_of id
outputs_named id l = (Outputs (record { index = id; in_range = l }), λ s. refl)

pub count_named : (id : ℕ) → id < id_room → Named count_of id
count_named id l = (Count (record { index = id; in_range = l }), λ s. refl)

pub mode_named : (id : ℕ) → id < id_room → Named mode_of id
mode_named id l = (Mode (record { index = id; in_range = l }), λ s. refl)

pub interpretation_named : (id : ℕ) → id < id_room → Named interpretation_of id
interpretation_named id l = (Interpretation (record { index = id; in_range = l }), λ s. refl)

pub source_named : (e : ℕ) → e < edge_room → Named (λ s k. edge_word s k 0) e
source_named e l = (Source (record { index = e; in_range = l }), λ s. refl)

pub output_named : (e : ℕ) → e < edge_room → Named (λ s k. edge_word s k 1) e
output_named e l = (Output (record { index = e; in_range = l }), λ s. refl)

pub target_named : (e : ℕ) → e < edge_room → Named (λ s k. edge_word s k 2) e
target_named e l = (Target (record { index = e; in_range = l }), λ s. refl)

pub input_named : (e : ℕ) → e < edge_room → Named (λ s k. edge_word s k 3) e
input_named e l = (Input (record { index = e; in_range = l }), λ s. refl)

pub holders_named : (k : ℕ) → k < slot_room → Named holders_of k
holders_named k l = (Holders (record { index = k; in_range = l }), λ s. refl)

pub channels_named : (r : ℕ) → r < row_room → Named channels_of r
channels_named r l = (Channels (record { index = r; in_range = l }), λ s. refl)

pub place_named : (r c : ℕ) → r < row_room → c < channel_room → Named (λ s k. place_of s k c) r
place_named r c l m = (Place (record { index = r; in_range = l }) (record { index = c; in_range = m }), λ s. refl)

pub present_named : (id : ℕ) → id < id_room → NamedFlag is_present id
present_named id l = (Present (record { index = id; in_range = l }), λ s. refl)

pub dropped_named : (id : ℕ) → id < id_room → NamedFlag is_dropped id
dropped_named id l = (Dropped (record { index = id; in_range = l }), λ s. refl)

pub breaker_named : (id : ℕ) → id < id_room → NamedFlag is_breaker id
breaker_named id l = (Breaker (record { index = id; in_range = l }), λ s. refl)

pub has_inputs_named : (id : ℕ) → id < id_room → NamedFlag has_inputs id
has_inputs_named id l = (HasInputs (record { index = id; in_range = l }), λ s. refl)

pub side_effects_named : (id : ℕ) → id < id_room → NamedFlag has_side_effects id
side_effects_named id l = (SideEffects (record { index = id; in_range = l }), λ s. refl)
