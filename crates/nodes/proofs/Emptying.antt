-- The turns of the loops over a node's edges and its ports.
use Rattle.std.proofs.Common.{◌≡◌, refl, ℕ, suc, ◌+◌, ◌-◌, ◌<◌, ◌≤◌, Bool, true, false, ◌==◌, List, eq-eqb, ne_eqb, arith}
use Rattle.std.specs.List.{list_any}
use Rattle.tally.specs.Listed.{listed}
use Rattle.layout.specs.Sizes.{id_room, port_room}
use Rattle.layout.specs.Header.{edge_count}
use Rattle.layout.specs.Edge.{edge_at, edge_word}
use Rattle.layout.specs.Row.{input_row, output_row}
use Rattle.layout.specs.Views.{edges_of}
use Rattle.pool.specs.Rows.{Held, truncated}
use Rattle.pool.proofs.Rows.{truncated_turned}
use Rattle.nodes.specs.Nodes.{has_edges, ports_empty}

-- ---- an edge of a node sought
-- among the n edges from place i on
abbrev pub sought : List ℕ → ℕ → ℕ → ℕ → Bool
sought s id n i = list_any (λ e. e.source == id) (listed (edge_at s) n i)

module _ (s : List ℕ) (id : ℕ) where
  pub sought_first : (n : ℕ) → n ≡ edge_count s → sought s id (n - 0) 0 ≡ has_edges s id
  unfolding has_edges edges_of
  sought_first n e = let f : n - 0 ≡ edge_count s = omega arith in rw f refl

  module _ (n i : ℕ) where
    pub sought_here : i < n → edge_word s i 0 ≡ id → sought s id (n - i) i ≡ true
    sought_here l e = let f : n - i ≡ suc (n - (i + 1)) = omega arith in rw (f, eq-eqb (edge_word s i 0) id e) refl

    pub sought_on : i < n → (edge_word s i 0 ≡ id → ⊥) → sought s id (n - (i + 1)) (i + 1) ≡ sought s id (n - i) i
    sought_on l u = let f : n - i ≡ suc (n - (i + 1)) = omega arith in rw (f, ne_eqb (edge_word s i 0) id u) refl

    pub sought_end : n ≤ i → sought s id (n - i) i ≡ false
    sought_end l = let f : n - i ≡ 0 = omega arith in rw f refl

pub ruleset seeking = (sought_first, sought_here, sought_on, sought_end)

-- ---- ports emptied
pub record Emptying (id : ℕ) (s : List ℕ) (p : ℕ) (t : List ℕ) : Type 0 where
  pub held : Held t
  pub rest : ports_empty id t (port_room - p) p ≡ ports_empty id s port_room 0

module _ (id : ℕ) (s : List ℕ) where
  pub emptying_first : Held s → Emptying id s 0 s
  emptying_first h = record { held = h; rest = refl }

  module _ (p : ℕ) (t : List ℕ) (g : Emptying id s p t) where
    pub emptying_between : id < id_room → p < port_room → Held (truncated t (input_row id p) 0)
    emptying_between l m = (truncated_turned t (input_row id p) 0 g.held (omega arith) (omega arith)).held

    pub emptying_turn : id < id_room → p < port_room → Emptying id s (p + 1) (truncated (truncated t (input_row id p) 0) (output_row id p) 0)
    unfolding ports_empty
    emptying_turn l m =
        let h = emptying_between l m in
        let e : port_room - p ≡ suc (port_room - (p + 1)) = omega arith in
        record { held = (truncated_turned (truncated t (input_row id p) 0) (output_row id p) 0 h (omega arith) (omega arith)).held; rest = rw e at g.rest }

    pub emptying_end : port_room ≤ p → t ≡ ports_empty id s port_room 0
    unfolding ports_empty
    emptying_end k = let e : port_room - p ≡ 0 = omega arith in rw e at g.rest

pub ruleset emptying = (emptying_first, emptying_between, emptying_turn, emptying_end)
