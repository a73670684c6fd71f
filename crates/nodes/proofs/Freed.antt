-- What freeing a node leaves, as the state shows it.
use Rattle.std.proofs.Common.{◌≡◌, refl, sym, ap, ◌∙◌, ℕ, ◌+◌, ◌*◌, ◌-◌, ◌/◌, ◌%◌, ◌<◌, ◌≤◌, false, not, List, [], ◌==◌, filter, slice_index, inl, inr, arith}
use Rattle.std.proofs.Math.Decide.{ℕ_discrete, dec_lt}
use Rattle.tally.proofs.Sums.{tally_le}
use Rattle.layout.specs.Sizes.{Whole, id_room, port_room, edge_room, node_rows, row_room, node_words, node_part, edge_part}
use Rattle.layout.specs.Header.{edge_count}
use Rattle.layout.specs.Node.{is_present, set_present}
use Rattle.layout.specs.Row.{input_row, output_row, channels_of, cap_of}
use Rattle.layout.specs.Views.{edges_of, row_of, node_of}
use Rattle.layout.proofs.Words.{flag_read, flag_same, flag_word, flag_whole}
use Rattle.layout.proofs.Caps.{cap_port}
use Rattle.pool.specs.Rows.{Held}
use Rattle.nodes.specs.Edges.{out_cleared, into_cleared}
use Rattle.nodes.specs.Nodes.{ports_empty, node_freed}
use Rattle.nodes.specs.Kept.{SameRows, Freed}
use Rattle.nodes.proofs.Frames.{run_like, lists_like, edges_like, node_like, rows_like, cap_like, held_from}
use Rattle.nodes.proofs.EdgeWords.{Outside, word-left}
use Rattle.nodes.proofs.EdgeLaws.{out_cleared_edges, out_cleared_held, out_cleared_few, into_cleared_edges, into_cleared_held, into_cleared_few}
use Rattle.nodes.proofs.NodeLaws.{present_node}
use Rattle.nodes.proofs.PortRows.{Emptied, emptied, no_channels}
use Rattle.nodes.proofs.Added.{same_row}

module _ (s : List ℕ) (id : ℕ) (l : id < id_room) (h : Held s) (few : edge_count s ≤ edge_room) where
  abbrev s₁ : List ℕ
  s₁ = ports_empty id s port_room 0

  abbrev s₂ : List ℕ
  s₂ = out_cleared s₁ id

  abbrev s₃ : List ℕ
  s₃ = into_cleared s₂ id

  abbrev s₄ : List ℕ
  s₄ = set_present s₃ id false

  run₁ : Emptied id 0 port_room s s₁
  run₁ = emptied id l s port_room 0 h (omega arith)

  pub free_held : Held s₁
  free_held = run₁.held

  pub free_few : edge_count s₁ ≤ edge_room
  free_few = rw (run₁.header 7 (omega arith)) few

  pub free_few_out : edge_count s₂ ≤ edge_room
  free_few_out = out_cleared_few s₁ id free_few free_held.whole

  held₂ : Held s₂
  held₂ = out_cleared_held s₁ id free_few free_held

  held₃ : Held s₃
  held₃ = into_cleared_held s₂ id free_few_out held₂

  word₃ : (k : ℕ) → (k ≡ 7 → ⊥) → Outside k → slice_index s₃ k ≡ slice_index s₁ k
  unfolding out_cleared into_cleared
  word₃ k a o = word-left (λ e. e.target == id) s₂ k free_few_out a o ∙ word-left (λ e. e.source == id) s₁ k free_few a o

  low₃ : (k : ℕ) → (k ≡ 7 → ⊥) → k < edge_part → slice_index s₃ k ≡ slice_index s k
  low₃ k a m = word₃ k a (inl m) ∙ run₁.header k (omega arith)

  word₄ : (k : ℕ) → (k ≡ node_part + node_words * id + 0 → ⊥) → slice_index s₄ k ≡ slice_index s₃ k
  word₄ k a = flag_word s₃ (node_part + node_words * id + 0) false k a

  low₄ : (k : ℕ) → (k ≡ 7 → ⊥) → k < node_part → slice_index s₄ k ≡ slice_index s k
  low₄ k a m = word₄ k (λ e. omega arith) ∙ low₃ k a (omega arith)

  whole₄ : Whole s₄
  whole₄ = flag_whole s₃ (node_part + node_words * id + 0) false held₃.whole

  rows₃ : SameRows s₁ s₃
  rows₃ = rows_like s₁ s₃ (λ i a. word₃ i (λ e. omega arith) (inr a))

  rows₄ : SameRows s₃ s₄
  rows₄ = rows_like s₃ s₄ (λ i a. word₄ i (λ e. omega arith))

  empty_in₁ : (p : ℕ) → p < port_room → row_of s₁ (input_row id p) ≡ []
  empty_in₁ p m = run₁.inputs p (omega arith) (omega arith)

  empty_out₁ : (p : ℕ) → p < port_room → row_of s₁ (output_row id p) ≡ []
  empty_out₁ p m = run₁.outputs p (omega arith) (omega arith)

  -- no row of the node has a channel
  empty₁ : (r : ℕ) → r / node_rows ≡ id → row_of s₁ r ≡ []
  empty₁ r e = go (dec_lt (r % node_rows) port_room)
    where
      go : Dec (r % node_rows < port_room) → row_of s₁ r ≡ []
      go (yes m) = let d : r ≡ input_row id (r % node_rows) = omega arith in ap (row_of s₁) d ∙ empty_in₁ (r % node_rows) m
      go (no m) = let d : r ≡ output_row id (r % node_rows - port_room) = omega arith in ap (row_of s₁) d ∙ empty_out₁ (r % node_rows - port_room) (omega arith)

  gone : is_present s₄ id ≡ false
  gone = flag_same s₃ (node_part + node_words * id + 0) false held₃.whole (omega arith)

  cap_gone : (r : ℕ) → r < row_room → r / node_rows ≡ id → cap_of s₄ r ≡ 0
  cap_gone r m e =
      let q = r % node_rows in
      let d : r ≡ node_rows * id + q = omega arith in
      ap (cap_of s₄) d ∙ cap_port s₄ id q l (omega arith) ∙ rw gone refl

  cap_other : (r : ℕ) → r < row_room → (r / node_rows ≡ id → ⊥) → cap_of s₄ r ≡ cap_of s₃ r
  cap_other r m u =
      cap_like s₃ s₄ (word₄ 0 (λ e. omega arith)) r m
      (λ x k e. let v : x ≡ id → ⊥ = λ d. u (sym e ∙ d) in (
        flag_read s₃ s₄ (node_part + node_words * x + 0) (word₄ (node_part + node_words * x + 0) (λ e. v (omega arith))),
        word₄ (node_part + node_words * x + 1) (λ e. omega arith),
        word₄ (node_part + node_words * x + 2) (λ e. omega arith),
      ))

  cap_less : (r : ℕ) → r < row_room → cap_of s₄ r ≤ cap_of s₃ r
  cap_less r m = go (ℕ_discrete (r / node_rows) id)
    where
      go : Dec (r / node_rows ≡ id) → cap_of s₄ r ≤ cap_of s₃ r
      go (yes e) = rw (cap_gone r m e) (omega arith)
      go (no u) = rw (cap_other r m u) (omega arith)

  narrow₄ : (r : ℕ) → r < row_room → channels_of s₃ r ≤ cap_of s₄ r
  narrow₄ r m = go (ℕ_discrete (r / node_rows) id)
    where
      go : Dec (r / node_rows ≡ id) → channels_of s₃ r ≤ cap_of s₄ r
      go (yes e) = rw (rows₃.channels r, no_channels s₁ r (empty₁ r e)) (omega arith)
      go (no u) = rw (cap_other r m u) (held₃.narrow r m)

  held₄ : Held s₄
  held₄ =
      let e = word₄ 1 (λ e. omega arith) in
      let a = tally_le (λ x. cap_of s₄ x) (λ x. cap_of s₃ x) row_room cap_less in
      let b = held₃.roomy in
      held_from s₃ s₄ held₃ whole₄ e rows₄ (omega arith) (λ r m. let c = cap_less r m in let d = held₃.capped r m in omega arith) narrow₄

  node₃ : (x : ℕ) → x < id_room → node_of s₃ x ≡ node_of s x
  node₃ x m = node_like s s₃ x (λ i a b. low₃ i (λ e. omega arith) (omega arith))

  edges₃ : edges_of s₃ ≡ filter (λ e. not (e.target == id)) (filter (λ e. not (e.source == id)) (edges_of s))
  edges₃ =
      into_cleared_edges s₂ id free_few_out held₂.whole
      ∙ ap (filter (λ e. not (e.target == id)))
      (out_cleared_edges s₁ id free_few free_held.whole
      ∙ ap (filter (λ e. not (e.source == id))) (edges_like s s₁ (run₁.header 7 (omega arith)) (λ i a b. run₁.header i b) few))

  few₃ : edge_count s₃ ≤ edge_room
  few₃ = into_cleared_few s₂ id free_few_out held₂.whole

  all : Freed s s₄ id
  all = record {
    held = held₄;
    run = run_like s s₄ (λ w. whole₄) (λ i a b. low₄ i (λ e. omega arith) (omega arith)) (λ i a b. low₄ i (λ e. omega arith) (omega arith));
    node = present_node s₃ id l held₃.whole ∙ rw (node₃ id l) refl;
    nodes = λ x m u. node_like s₃ s₄ x (λ i a b. word₄ i (λ e. u (omega arith))) ∙ node₃ x m;
    dirty = flag_read s s₄ 2 (low₄ 2 (λ e. omega arith) (omega arith));
    lists = lists_like s s₄ (low₄ 5 (λ e. omega arith) (omega arith)) (low₄ 6 (λ e. omega arith) (omega arith)) (λ i a b. low₄ i (λ e. omega arith) (omega arith));
    edges = edges_like s₃ s₄ (word₄ 7 (λ e. omega arith)) (λ i a b. word₄ i (λ e. omega arith)) few₃ ∙ edges₃;
    empty_in = λ p m. same_row s₃ s₄ (input_row id p) rows₄ ∙ same_row s₁ s₃ (input_row id p) rows₃ ∙ empty_in₁ p m;
    empty_out = λ p m. same_row s₃ s₄ (output_row id p) rows₄ ∙ same_row s₁ s₃ (output_row id p) rows₃ ∙ empty_out₁ p m;
    rows = λ r m u. same_row s₃ s₄ r rows₄ ∙ same_row s₁ s₃ r rows₃ ∙ run₁.others r m (λ x a b. (λ e. u (omega arith), λ e. u (omega arith)));
  }

  pub freed : Freed s (node_freed s id) id
  unfolding node_freed
  freed = all

pub ruleset freeing_node = (free_held, free_few, free_few_out, freed)
