-- What the upper crates speak of: the state's parts as lists, records and numbers.
use Rattle.std.specs.Prelude.{ℕ, ◌+◌, Bool, if◌then◌else◌, List}
use Rattle.tally.specs.Tally.{tally}
use Rattle.tally.specs.Listed.{listed, passing}
use Rattle.layout.specs.Sizes.{id_room}
use Rattle.layout.specs.Header.{order_length, muted_length, edge_count}
use Rattle.layout.specs.Lists.{order_at, muted_at}
use Rattle.layout.specs.Node.{is_present, inputs_of, outputs_of, is_dropped, is_breaker, has_inputs, has_side_effects}
use Rattle.layout.specs.Edge.{edge_at}
use Rattle.layout.specs.Setting.{setting_of}
use Rattle.layout.specs.Row.{channels_of, place_of}
use Rattle.layout.specs.declared.edge.Edge.{Edge}
use Rattle.layout.specs.declared.setting.SettingWords.{SettingWords}

-- all that is held of one node
pub record Node : Type 0 where
  pub present : Bool
  pub inputs : ℕ
  pub outputs : ℕ
  pub setting : SettingWords
  pub dropped : Bool
  pub breaker : Bool
  pub fed : Bool
  pub effects : Bool

unfoldable pub node_of : List ℕ → ℕ → Node
node_of s id =
    record {
      present = is_present s id;
      inputs = inputs_of s id;
      outputs = outputs_of s id;
      setting = setting_of s id;
      dropped = is_dropped s id;
      breaker = is_breaker s id;
      fed = has_inputs s id;
      effects = has_side_effects s id;
    }

-- the render order
unfoldable pub order_of : List ℕ → List ℕ
order_of s = listed (order_at s) (order_length s) 0

-- the muted list
unfoldable pub muted_of : List ℕ → List ℕ
muted_of s = listed (muted_at s) (muted_length s) 0

-- the stored edges, the oldest first
unfoldable pub edges_of : List ℕ → List Edge
edges_of s = listed (edge_at s) (edge_count s) 0

-- the slots that the channels of row r name
unfoldable pub row_of : List ℕ → ℕ → List ℕ
row_of s r = listed (place_of s r) (channels_of s r) 0

-- the ids of the nodes present, upward
unfoldable pub present_of : List ℕ → List ℕ
present_of s = passing (is_present s) id_room 0

-- the ids marked as breakers, upward
unfoldable pub breakers_of : List ℕ → List ℕ
breakers_of s = passing (is_breaker s) id_room 0

-- how many ports the node under id has, if there is one
abbrev pub ports_at : List ℕ → ℕ → ℕ
ports_at s id = if is_present s id then inputs_of s id + outputs_of s id else 0

-- P: the ports of all present nodes
unfoldable pub ports_of : List ℕ → ℕ
ports_of s = tally (ports_at s) id_room
