-- A node added, and a node freed.
use Rattle.std.specs.Prelude.{◌≡◌, ℕ, zero, suc, ◌+◌, ◌*◌, ◌<◌, ◌≤◌, Bool, true, false, not, ◌&&◌, ◌||◌, T, if◌then◌else◌, List, ◌==◌}
use Rattle.std.specs.List.{list_any}
use Rattle.layout.specs.Sizes.{id_room, port_room}
use Rattle.layout.specs.Header.{ceiling_of, slots_of, is_dirty, order_length, set_order_length}
use Rattle.layout.specs.Lists.{set_order_at}
use Rattle.layout.specs.Node.{is_present, set_present, inputs_of, set_inputs, outputs_of, set_outputs, set_count, set_mode, set_interpretation, is_dropped, set_dropped, set_breaker, has_inputs, set_has_inputs, has_side_effects, set_side_effects}
use Rattle.layout.specs.Setting.{fresh_setting, words_of}
use Rattle.layout.specs.Row.{input_row, output_row, port_row}
use Rattle.layout.specs.Views.{Node, edges_of, ports_of}
use Rattle.layout.specs.declared.setting.SettingWords.{SettingWords}
use Rattle.layout.specs.declared.row.Side.{Side}
use Rattle.layout.specs.declared.row.Side.TheVariants.{Input, Output}
use Rattle.pool.specs.Rows.{Held, cleared, truncated}
use Rattle.nodes.specs.Edges.{out_cleared, into_cleared}

-- ---- adding
-- when a node may be added under id: nobody is there, the ports are in range, and each port of all nodes may have all its channels at once
pub record Addable (s : List ℕ) (id inputs outputs : ℕ) : Type 0 where
  pub held : Held s
  pub ported_in : (x : ℕ) → x < id_room → T (is_present s x) → inputs_of s x ≤ port_room
  pub ported_out : (x : ℕ) → x < id_room → T (is_present s x) → outputs_of s x ≤ port_room
  pub absent : is_present s id ≡ false
  pub inputs_in : inputs ≤ port_room
  pub outputs_in : outputs ≤ port_room
  pub some : 0 < ceiling_of s
  pub room : (ports_of s + (inputs + outputs) + 1) * ceiling_of s < slots_of s
  -- the order has room, where the node is appended to it
  pub listed : is_dirty s ≡ false → order_length s < id_room

-- the node that is under an id once it is added
unfoldable pub node_new : ℕ → ℕ → ℕ → Bool → Node
node_new ceiling inputs outputs effects =
    record { present = true; inputs = inputs; outputs = outputs; setting = words_of (fresh_setting ceiling); dropped = false; breaker = false; fed = false; effects = effects }

-- the channel setting of node id
unfoldable pub setting_written : List ℕ → ℕ → SettingWords → List ℕ
setting_written s id x = set_interpretation (set_mode (set_count s id x.count) id x.mode) id x.interpretation

-- the words of a node that begins: handle held, no breaker, no "has inputs"
unfoldable pub node_written : List ℕ → ℕ → ℕ → ℕ → Bool → List ℕ
node_written s id inputs outputs effects =
    let t = setting_written (set_outputs (set_inputs (set_present s id true) id inputs) id outputs) id (words_of (fresh_setting (ceiling_of s))) in
    set_side_effects (set_has_inputs (set_breaker (set_dropped t id false) id false) id false) id effects

-- n ports from port p on are one silent channel each
unfoldable pub ports_silent : Side → ℕ → List ℕ → ℕ → ℕ → List ℕ
ports_silent side id s zero p = s
ports_silent side id s (suc n) p = ports_silent side id (cleared s (port_row side id p)) n (p + 1)

-- id is the last in the order, unless the order is to be made anew
unfoldable pub appended : List ℕ → ℕ → List ℕ
appended s id = if is_dirty s then s else set_order_length (set_order_at s (order_length s) id) (order_length s + 1)

unfoldable pub node_added : List ℕ → ℕ → ℕ → ℕ → Bool → List ℕ
node_added s id inputs outputs effects =
    appended (ports_silent Output id (ports_silent Input id (node_written s id inputs outputs effects) inputs 0) outputs 0) id

-- ---- freeing
-- node id has an edge, hidden or not
unfoldable pub has_edges : List ℕ → ℕ → Bool
has_edges s id = list_any (λ e. e.source == id) (edges_of s)

-- a node that finished without fault may be freed: its handle is dropped, and either it has no inputs and has no tail or no edges,
-- or it has no side effects and no edges
unfoldable pub can_free : List ℕ → ℕ → Bool → Bool
can_free s id tail =
    let none = not (has_edges s id) in
    is_dropped s id && ((not (has_inputs s id) && (not tail || none)) || (not (has_side_effects s id) && none))

-- n ports of each side from port p on have no channels
unfoldable pub ports_empty : ℕ → List ℕ → ℕ → ℕ → List ℕ
ports_empty id s zero p = s
ports_empty id s (suc n) p = ports_empty id (truncated (truncated s (input_row id p) 0) (output_row id p) 0) n (p + 1)

-- node id is gone, and with it its slots and all its edges; order and muted list stay
unfoldable pub node_freed : List ℕ → ℕ → List ℕ
node_freed s id = set_present (into_cleared (out_cleared (ports_empty id s port_room 0) id) id) id false
