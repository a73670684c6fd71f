-- A state to which nodes can be added: the first one, and the one after each node.
use Rattle.std.proofs.Common.{◌≡◌, refl, sym, ap, ◌∙◌, subst, ℕ, ◌+◌, ◌*◌, ◌<◌, ◌≤◌, Bool, false, T, List, [], ◌∷◌, ◌++◌, length, replicate, slice_index, arith}
use Rattle.std.proofs.lemmas.List.{get_or-replicate, length-append, length-replicate}
use Rattle.std.proofs.Math.Decide.{ℕ_discrete}
use Rattle.tally.proofs.Sums.{tally_zero}
use Rattle.tally.proofs.Lists.{listed-length}
use Rattle.layout.specs.Sizes.{state_length, id_room, port_room, slot_room, node_part, node_words, flag_at}
use Rattle.layout.specs.Header.{set_ceiling, set_slots, is_dirty, order_length}
use Rattle.layout.specs.Lists.{order_at}
use Rattle.layout.specs.Node.{is_present, inputs_of, outputs_of}
use Rattle.layout.specs.Views.{Node, node_of, order_of, ports_at, ports_of}
use Rattle.layout.proofs.Words.{word_same, word_other, whole_set}
use Rattle.pool.specs.Rows.{Held}
use Rattle.pool.proofs.Fresh.{fresh, fresh_held}
use Rattle.nodes.specs.Nodes.{Addable, node_new}
use Rattle.nodes.specs.Kept.{Added}
use Rattle.marked.specs.Ready.{Ready}

-- ---- no nodes
abbrev zeros : List ℕ
zeros = replicate state_length 0

abbrev start : List ℕ
start = set_slots (set_ceiling zeros 1) slot_room

start_word : (i : ℕ) → 2 ≤ i → i < state_length → slice_index start i ≡ 0
start_word i l m = word_other (set_ceiling zeros 1) 1 slot_room i (λ e. omega arith) ∙ word_other zeros 0 1 i (λ e. omega arith) ∙ get_or-replicate state_length i 0 0 m

start_flag : (i : ℕ) → 2 ≤ i → i < state_length → flag_at start i ≡ false
unfolding flag_at
start_flag i l m = rw (start_word i l m) refl

start_absent : (x : ℕ) → x < id_room → is_present start x ≡ false
start_absent x m = start_flag (node_part + node_words * x + 0) (omega arith) (omega arith)

start_held : Held start
unfolding fresh
start_held = fresh_held 1 slot_room (omega arith) (omega arith) (omega arith)

nobody : {A : Type 0} (b : Bool) → b ≡ false → T b → A
nobody b e t = let z : T false = rw e at t in absurd z

start_ready : Ready start 0
unfolding ports_of fresh
start_ready = record {
  held = start_held;
  ceiling = word_other (set_ceiling zeros 1) 1 slot_room 0 (λ e. omega arith) ∙ word_same zeros 0 1 (length-replicate {A = ℕ} state_length 0) (omega arith);
  slots = word_same (set_ceiling zeros 1) 1 slot_room (whole_set zeros 0 1 (length-replicate {A = ℕ} state_length 0)) (omega arith);
  ports = tally_zero (ports_at start) id_room (λ x m. rw (start_absent x m) refl);
  inputs = λ x m p. nobody (is_present start x) (start_absent x m) p;
  outputs = λ x m p. nobody (is_present start x) (start_absent x m) p;
  absent = λ x l m. start_absent x m;
  listed = λ d. let a = start_word 5 (omega arith) (omega arith) in omega arith;
}

pub begun : (s u t : List ℕ) → s ≡ replicate state_length 0 → u ≡ set_ceiling s 1 → t ≡ set_slots u slot_room → Ready t 0
begun s u t a b c = let e : t ≡ start = c ∙ ap (λ (x : List ℕ). set_slots x slot_room) (b ∙ ap (λ (x : List ℕ). set_ceiling x 1) a) in subst (λ (x : List ℕ). Ready x 0) (sym e) start_ready

-- ---- one node more
module _ (s : List ℕ) (n : ℕ) (r : Ready s n) (l : n < id_room) where
  pub addable : Addable s n 1 1
  addable = record {
    held = r.held;
    ported_in = r.inputs;
    ported_out = r.outputs;
    absent = r.absent n (omega arith) l;
    inputs_in = omega arith;
    outputs_in = omega arith;
    some = rw r.ceiling (omega arith);
    room = rw (r.ports, r.ceiling, r.slots) (omega arith);
    listed = λ d. let a = r.listed d in omega arith;
  }

  module _ (t : List ℕ) (effects : Bool) (a : Added s t n 1 1 effects) where
    present_at : (x : ℕ) → is_present t x ≡ (node_of t x).present
    unfolding node_of
    present_at x = refl

    inputs_at : (x : ℕ) → inputs_of t x ≡ (node_of t x).inputs
    unfolding node_of
    inputs_at x = refl

    outputs_at : (x : ℕ) → outputs_of t x ≡ (node_of t x).outputs
    unfolding node_of
    outputs_at x = refl

    present_was : (x : ℕ) → (node_of s x).present ≡ is_present s x
    unfolding node_of
    present_was x = refl

    inputs_was : (x : ℕ) → (node_of s x).inputs ≡ inputs_of s x
    unfolding node_of
    inputs_was x = refl

    outputs_was : (x : ℕ) → (node_of s x).outputs ≡ outputs_of s x
    unfolding node_of
    outputs_was x = refl

    present_other : (x : ℕ) → x < id_room → (x ≡ n → ⊥) → is_present t x ≡ is_present s x
    present_other x m u = present_at x ∙ ap (λ (k : Node). k.present) (a.nodes x m u) ∙ present_was x

    new_inputs : inputs_of t n ≡ 1
    unfolding node_new
    new_inputs = inputs_at n ∙ ap (λ (k : Node). k.inputs) a.node

    new_outputs : outputs_of t n ≡ 1
    unfolding node_new
    new_outputs = outputs_at n ∙ ap (λ (k : Node). k.outputs) a.node

    ready_in : (x : ℕ) → x < id_room → T (is_present t x) → Dec (x ≡ n) → inputs_of t x ≤ port_room
    ready_in x m p (yes e) = rw (e, new_inputs) (omega arith)
    ready_in x m p (no u) = rw (inputs_at x ∙ ap (λ (k : Node). k.inputs) (a.nodes x m u) ∙ inputs_was x) (r.inputs x m (rw (present_other x m u) at p))

    ready_out : (x : ℕ) → x < id_room → T (is_present t x) → Dec (x ≡ n) → outputs_of t x ≤ port_room
    ready_out x m p (yes e) = rw (e, new_outputs) (omega arith)
    ready_out x m p (no u) = rw (outputs_at x ∙ ap (λ (k : Node). k.outputs) (a.nodes x m u) ∙ outputs_was x) (r.outputs x m (rw (present_other x m u) at p))

    order_count : (u : List ℕ) → length (order_of u) ≡ order_length u
    unfolding order_of
    order_count u = listed-length (order_at u) (order_length u) 0

    ready_listed : is_dirty t ≡ false → order_length t ≤ n + 1
    ready_listed d =
        let e : is_dirty s ≡ false = sym a.dirty ∙ d in
        let k = r.listed e in
        let o : order_of t ≡ order_of s ++ n ∷ [] = rw e at (a.order (omega arith)) in
        let c : order_length t ≡ length (order_of s ++ n ∷ []) = sym (order_count t) ∙ ap length o in
        let f : length (order_of s ++ n ∷ []) ≡ length (order_of s) + 1 = length-append (order_of s) (n ∷ []) in
        let g = order_count s in
        omega arith

    pub ready_next : Ready t (n + 1)
    ready_next = record {
      held = a.held;
      ceiling = a.run.ceiling ∙ r.ceiling;
      slots = a.run.slots ∙ r.slots;
      ports = let p = a.ports in let q = r.ports in omega arith;
      inputs = λ x m p. ready_in x m p (ℕ_discrete x n);
      outputs = λ x m p. ready_out x m p (ℕ_discrete x n);
      absent = λ x k m. present_other x m (λ e. omega arith) ∙ r.absent x (omega arith) m;
      listed = ready_listed;
    }
