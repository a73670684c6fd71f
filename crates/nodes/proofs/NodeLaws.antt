-- What an edit of one node leaves, as the state shows it.
use Rattle.std.proofs.Common.{◌≡◌, refl, sym, ap, ◌∙◌, ℕ, ◌+◌, ◌*◌, ◌-◌, ◌<◌, ◌≤◌, Bool, true, false, List, slice_index, inl, inr, ◌⊎◌, ⊎_elim, arith}
use Rattle.std.proofs.Math.Decide.{ℕ_discrete, dec_lt}
use Rattle.layout.specs.Sizes.{Whole, id_room, node_part, node_words, edge_part, flag_at, set_flag}
use Rattle.layout.specs.Node.{set_present, set_dropped, set_breaker, set_count, set_mode, set_interpretation, set_node_word}
use Rattle.layout.specs.Views.{node_of}
use Rattle.layout.proofs.Words.{word_same, word_other, whole_set, flag_read, flag_same, flag_word, flag_whole}
use Rattle.pool.specs.Rows.{Held}
use Rattle.nodes.specs.Kept.{ButNode}
use Rattle.nodes.proofs.Frames.{run_like, lists_like, edges_like, node_like, rows_like, cap_like, held_like}

-- the words of no node but id are the same
abbrev pub Elsewhere : ℕ → List ℕ → List ℕ → Type 0
Elsewhere id s t = (k : ℕ) → (k < node_part + node_words * id) ⊎ (node_part + node_words * id + node_words ≤ k) → slice_index t k ≡ slice_index s k

module _ (s t : List ℕ) (id : ℕ) (l : id < id_room) (w : Whole s → Whole t) (h : Elsewhere id s t) where
  pub below : (k : ℕ) → k < node_part → slice_index t k ≡ slice_index s k
  below k m = h k (inl (omega arith))

  pub above : (k : ℕ) → edge_part ≤ k → slice_index t k ≡ slice_index s k
  above k m = h k (inr (omega arith))

  pub other_word : (x v : ℕ) → v < node_words → (x ≡ id → ⊥) → slice_index t (node_part + node_words * x + v) ≡ slice_index s (node_part + node_words * x + v)
  other_word x v m u = go (dec_lt x id)
    where
      go : Dec (x < id) → slice_index t (node_part + node_words * x + v) ≡ slice_index s (node_part + node_words * x + v)
      go (yes p) = h (node_part + node_words * x + v) (inl (omega arith))
      go (no p) = h (node_part + node_words * x + v) (inr (omega arith))

  pub but_node : ButNode id s t
  but_node = record {
    run = run_like s t w (λ i a b. below i (omega arith)) (λ i a b. below i (omega arith));
    dirty = flag_read s t 2 (below 2 (omega arith));
    lists = lists_like s t (below 5 (omega arith)) (below 6 (omega arith)) (λ i a b. below i (omega arith));
    edges = edges_like s t (below 7 (omega arith)) (λ i a b. above i a);
    nodes = λ x m u. node_like s t x (λ i a b. let v = i - (node_part + node_words * x) in let e : i ≡ node_part + node_words * x + v = omega arith in ap (slice_index t) e ∙ other_word x v (omega arith) u ∙ ap (slice_index s) (sym e));
    rows = rows_like s t (λ i a. above i (omega arith));
  }

  -- where its presence and its ports are the same too, the rule of the holder counts is kept
  pub node_held : ((v : ℕ) → v < 3 → slice_index t (node_part + node_words * id + v) ≡ slice_index s (node_part + node_words * id + v)) → Held s → Held t
  node_held f g = held_like s t g (w g.whole) (below 1 (omega arith)) but_node.rows
      (λ r m. cap_like s t (below 0 (omega arith)) r m
      (λ x k e. (flag_read s t (node_part + node_words * x + 0) (at x 0 (omega arith)), at x 1 (omega arith), at x 2 (omega arith))))
    where
      at : (x v : ℕ) → v < 3 → slice_index t (node_part + node_words * x + v) ≡ slice_index s (node_part + node_words * x + v)
      at x v m = go (ℕ_discrete x id)
        where
          go : Dec (x ≡ id) → slice_index t (node_part + node_words * x + v) ≡ slice_index s (node_part + node_words * x + v)
          go (yes e) = rw e (f v m)
          go (no u) = other_word x v (omega arith) u

-- ---- one flag written, and one number
module _ (s : List ℕ) (id : ℕ) (l : id < id_room) (v : ℕ) (a : 3 ≤ v) (b : v < node_words) where
  at_word : (k : ℕ) → (k < node_part + node_words * id) ⊎ (node_part + node_words * id + node_words ≤ k) → k ≡ node_part + node_words * id + v → ⊥
  at_word k o e = ⊎_elim (λ p. omega arith) (λ p. omega arith) o

  module _ (y : Bool) where
    flag_but : ButNode id s (set_flag s (node_part + node_words * id + v) y)
    flag_but = but_node s (set_flag s (node_part + node_words * id + v) y) id l (flag_whole s (node_part + node_words * id + v) y) (λ k o. flag_word s (node_part + node_words * id + v) y k (at_word k o))

    flag_held : Held s → Held (set_flag s (node_part + node_words * id + v) y)
    flag_held = node_held s (set_flag s (node_part + node_words * id + v) y) id l (flag_whole s (node_part + node_words * id + v) y) (λ k o. flag_word s (node_part + node_words * id + v) y k (at_word k o))
        (λ u m. flag_word s (node_part + node_words * id + v) y (node_part + node_words * id + u) (λ e. omega arith))

  module _ (y : ℕ) where
    number_but : ButNode id s (set_node_word s id v y)
    number_but = but_node s (set_node_word s id v y) id l (whole_set s (node_part + node_words * id + v) y) (λ k o. word_other s (node_part + node_words * id + v) y k (at_word k o))

    number_held : Held s → Held (set_node_word s id v y)
    number_held = node_held s (set_node_word s id v y) id l (whole_set s (node_part + node_words * id + v) y) (λ k o. word_other s (node_part + node_words * id + v) y k (at_word k o))
        (λ u m. word_other s (node_part + node_words * id + v) y (node_part + node_words * id + u) (λ e. omega arith))

module _ (s : List ℕ) (id : ℕ) (l : id < id_room) where
  pub dropped_but : ButNode id s (set_dropped s id true)
  dropped_but = flag_but s id l 6 (omega arith) (omega arith) true

  pub dropped_held : Held s → Held (set_dropped s id true)
  dropped_held = flag_held s id l 6 (omega arith) (omega arith) true

  pub dropped_node : Whole s → node_of (set_dropped s id true) id ≡ record (node_of s id) { dropped = true }
  unfolding node_of
  dropped_node w =
      let t = set_dropped s id true in
      let p = node_part + node_words * id in
      let n : (v : ℕ) → (v ≡ 6 → ⊥) → slice_index t (p + v) ≡ slice_index s (p + v) = λ v u. flag_word s (p + 6) true (p + v) (λ e. u (omega arith)) in
      let f : (v : ℕ) → (v ≡ 6 → ⊥) → flag_at t (p + v) ≡ flag_at s (p + v) = λ v u. flag_read s t (p + v) (n v u) in
      let g : flag_at t (p + 6) ≡ true = flag_same s (p + 6) true w (omega arith) in
      rw (f 0 (λ e. omega arith), n 1 (λ e. omega arith), n 2 (λ e. omega arith), n 3 (λ e. omega arith), n 4 (λ e. omega arith), n 5 (λ e. omega arith), g, f 7 (λ e. omega arith), f 8 (λ e. omega arith), f 9 (λ e. omega arith)) refl

  pub breaker_but : ButNode id s (set_breaker s id true)
  breaker_but = flag_but s id l 7 (omega arith) (omega arith) true

  pub breaker_held : Held s → Held (set_breaker s id true)
  breaker_held = flag_held s id l 7 (omega arith) (omega arith) true

  pub breaker_node : Whole s → node_of (set_breaker s id true) id ≡ record (node_of s id) { breaker = true }
  unfolding node_of
  breaker_node w =
      let t = set_breaker s id true in
      let p = node_part + node_words * id in
      let n : (v : ℕ) → (v ≡ 7 → ⊥) → slice_index t (p + v) ≡ slice_index s (p + v) = λ v u. flag_word s (p + 7) true (p + v) (λ e. u (omega arith)) in
      let f : (v : ℕ) → (v ≡ 7 → ⊥) → flag_at t (p + v) ≡ flag_at s (p + v) = λ v u. flag_read s t (p + v) (n v u) in
      let g : flag_at t (p + 7) ≡ true = flag_same s (p + 7) true w (omega arith) in
      rw (f 0 (λ e. omega arith), n 1 (λ e. omega arith), n 2 (λ e. omega arith), n 3 (λ e. omega arith), n 4 (λ e. omega arith), n 5 (λ e. omega arith), f 6 (λ e. omega arith), g, f 8 (λ e. omega arith), f 9 (λ e. omega arith)) refl

  pub present_node : Whole s → node_of (set_present s id false) id ≡ record (node_of s id) { present = false }
  unfolding node_of
  present_node w =
      let t = set_present s id false in
      let p = node_part + node_words * id in
      let n : (v : ℕ) → (v ≡ 0 → ⊥) → slice_index t (p + v) ≡ slice_index s (p + v) = λ v u. flag_word s (p + 0) false (p + v) (λ e. u (omega arith)) in
      let f : (v : ℕ) → (v ≡ 0 → ⊥) → flag_at t (p + v) ≡ flag_at s (p + v) = λ v u. flag_read s t (p + v) (n v u) in
      let g : flag_at t (p + 0) ≡ false = flag_same s (p + 0) false w (omega arith) in
      rw (g, n 1 (λ e. omega arith), n 2 (λ e. omega arith), n 3 (λ e. omega arith), n 4 (λ e. omega arith), n 5 (λ e. omega arith), f 6 (λ e. omega arith), f 7 (λ e. omega arith), f 8 (λ e. omega arith), f 9 (λ e. omega arith)) refl

  module _ (y : ℕ) where
    number_word : (c v : ℕ) → (v ≡ c → ⊥) → slice_index (set_node_word s id c y) (node_part + node_words * id + v) ≡ slice_index s (node_part + node_words * id + v)
    number_word c v u = word_other s (node_part + node_words * id + c) y (node_part + node_words * id + v) (λ e. u (omega arith))

    number_flag : (c v : ℕ) → (v ≡ c → ⊥) → flag_at (set_node_word s id c y) (node_part + node_words * id + v) ≡ flag_at s (node_part + node_words * id + v)
    number_flag c v u = flag_read s (set_node_word s id c y) (node_part + node_words * id + v) (number_word c v u)

    number_here : (c : ℕ) → c < node_words → Whole s → slice_index (set_node_word s id c y) (node_part + node_words * id + c) ≡ y
    number_here c m w = word_same s (node_part + node_words * id + c) y w (omega arith)

    pub count_but : ButNode id s (set_count s id y)
    count_but = number_but s id l 3 (omega arith) (omega arith) y

    pub count_held : Held s → Held (set_count s id y)
    count_held = number_held s id l 3 (omega arith) (omega arith) y

    pub count_node : Whole s → node_of (set_count s id y) id ≡ record (node_of s id) { setting = record ((node_of s id).setting) { count = y } }
    unfolding node_of
    count_node w =
        rw (number_flag 3 0 (λ e. omega arith), number_word 3 1 (λ e. omega arith), number_word 3 2 (λ e. omega arith), number_here 3 (omega arith) w, number_word 3 4 (λ e. omega arith), number_word 3 5 (λ e. omega arith), number_flag 3 6 (λ e. omega arith), number_flag 3 7 (λ e. omega arith), number_flag 3 8 (λ e. omega arith), number_flag 3 9 (λ e. omega arith)) refl

    pub mode_but : ButNode id s (set_mode s id y)
    mode_but = number_but s id l 4 (omega arith) (omega arith) y

    pub mode_held : Held s → Held (set_mode s id y)
    mode_held = number_held s id l 4 (omega arith) (omega arith) y

    pub mode_node : Whole s → node_of (set_mode s id y) id ≡ record (node_of s id) { setting = record ((node_of s id).setting) { mode = y } }
    unfolding node_of
    mode_node w =
        rw (number_flag 4 0 (λ e. omega arith), number_word 4 1 (λ e. omega arith), number_word 4 2 (λ e. omega arith), number_word 4 3 (λ e. omega arith), number_here 4 (omega arith) w, number_word 4 5 (λ e. omega arith), number_flag 4 6 (λ e. omega arith), number_flag 4 7 (λ e. omega arith), number_flag 4 8 (λ e. omega arith), number_flag 4 9 (λ e. omega arith)) refl

    pub interpretation_but : ButNode id s (set_interpretation s id y)
    interpretation_but = number_but s id l 5 (omega arith) (omega arith) y

    pub interpretation_held : Held s → Held (set_interpretation s id y)
    interpretation_held = number_held s id l 5 (omega arith) (omega arith) y

    pub interpretation_node : Whole s → node_of (set_interpretation s id y) id ≡ record (node_of s id) { setting = record ((node_of s id).setting) { interpretation = y } }
    unfolding node_of
    interpretation_node w =
        rw (number_flag 5 0 (λ e. omega arith), number_word 5 1 (λ e. omega arith), number_word 5 2 (λ e. omega arith), number_word 5 3 (λ e. omega arith), number_word 5 4 (λ e. omega arith), number_here 5 (omega arith) w, number_flag 5 6 (λ e. omega arith), number_flag 5 7 (λ e. omega arith), number_flag 5 8 (λ e. omega arith), number_flag 5 9 (λ e. omega arith)) refl

pub ruleset dropping = (dropped_node, dropped_but, dropped_held)

pub ruleset marking = (breaker_node, breaker_but, breaker_held)

pub ruleset counting = (count_node, count_but, count_held)

pub ruleset setting_mode = (mode_node, mode_but, mode_held)

pub ruleset setting_interpretation = (interpretation_node, interpretation_but, interpretation_held)
