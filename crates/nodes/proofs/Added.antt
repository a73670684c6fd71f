-- What adding a node leaves, as the state shows it.
use Rattle.std.proofs.Common.{◌≡◌, refl, sym, ap, ◌∙◌, ℕ, ◌+◌, ◌*◌, ◌-◌, ◌<◌, ◌≤◌, Bool, true, false, if◌then◌else◌, List, [], ◌∷◌, ◌++◌, slice_index, inl, inr, ◌⊎◌, ⊎_elim, arith}
use Rattle.std.proofs.lemmas.List.FromFn.{map-range_with_len_more}
use Rattle.tally.proofs.Sums.{tally_ext}
use Rattle.tally.proofs.Lists.{listed_ext}
use Rattle.layout.specs.Sizes.{Whole, id_room, node_words, order_part, muted_part, node_part, holder_part}
use Rattle.layout.specs.Header.{is_dirty, order_length, set_order_length}
use Rattle.layout.specs.Lists.{order_at, set_order_at}
use Rattle.layout.specs.Node.{is_present, inputs_of, outputs_of}
use Rattle.layout.specs.Row.{input_row, output_row, port_row, channels_of, place_of, cap_of}
use Rattle.layout.specs.Views.{order_of, row_of, ports_at, ports_of}
use Rattle.layout.specs.declared.row.Side.TheVariants.{Input, Output}
use Rattle.layout.proofs.Words.{word_same, word_other, whole_set, flag_read}
use Rattle.pool.specs.Rows.{Held}
use Rattle.pool.proofs.Names.{cap_kept}
use Rattle.nodes.specs.Nodes.{Addable, node_written, ports_silent, appended, node_added}
use Rattle.nodes.specs.Kept.{Added, SameRows}
use Rattle.nodes.proofs.Frames.{run_like, lists_like, muted_like, edges_like, node_like, rows_like, cap_like, held_like}
use Rattle.nodes.proofs.NodeLaws.{other_word}
use Rattle.nodes.proofs.Written.{u10, whole10, written_is, elsewhere, written_node, written_held, written_ports, written_input, written_output}
use Rattle.nodes.proofs.PortRows.{Silenced, silenced}

-- ---- appended to the order
module _ (s : List ℕ) (id : ℕ) where
  appended_word : (k : ℕ) → (k ≡ 5 → ⊥) → (k ≡ order_part + order_length s → ⊥) → slice_index (appended s id) k ≡ slice_index s k
  unfolding appended
  appended_word k a b = go (is_dirty s)
    where
      go : (d : Bool) → slice_index (if d then s else set_order_length (set_order_at s (order_length s) id) (order_length s + 1)) k ≡ slice_index s k
      go true = refl
      go false = word_other (set_order_at s (order_length s) id) 5 (order_length s + 1) k a ∙ word_other s (order_part + order_length s) id k b

  -- the words below a bound, where the order has room
  appended_far : (is_dirty s ≡ false → order_length s < id_room) → (k : ℕ) → (k ≡ 5 → ⊥) → (k < order_part) ⊎ (muted_part ≤ k) → slice_index (appended s id) k ≡ slice_index s k
  unfolding appended
  appended_far f k a o = go (is_dirty s) refl
    where
      go : (d : Bool) → is_dirty s ≡ d → slice_index (if d then s else set_order_length (set_order_at s (order_length s) id) (order_length s + 1)) k ≡ slice_index s k
      go true e = refl
      go false e =
          let l = f e in
          word_other (set_order_at s (order_length s) id) 5 (order_length s + 1) k a ∙ word_other s (order_part + order_length s) id k (λ q. ⊎_elim (λ p. omega arith) (λ p. omega arith) o)

  appended_whole : Whole s → Whole (appended s id)
  unfolding appended
  appended_whole w = go (is_dirty s)
    where
      go : (d : Bool) → Whole (if d then s else set_order_length (set_order_at s (order_length s) id) (order_length s + 1))
      go true = w
      go false = whole_set (set_order_at s (order_length s) id) 5 (order_length s + 1) (whole_set s (order_part + order_length s) id w)

  order_put : Whole s → order_length s < id_room → order_of (set_order_length (set_order_at s (order_length s) id) (order_length s + 1)) ≡ order_of s ++ id ∷ []
  unfolding order_of
  order_put w l =
      let n = order_length s in
      let s₁ = set_order_at s n id in
      let t = set_order_length s₁ (n + 1) in
      let e : order_length t ≡ n + 1 = word_same s₁ 5 (n + 1) (whole_set s (order_part + n) id w) (omega arith) in
      let a : order_at t n ≡ id = word_other s₁ 5 (n + 1) (order_part + n) (λ q. omega arith) ∙ word_same s (order_part + n) id w (omega arith) in
      rw e
      (map-range_with_len_more (order_at t) 0 n n (omega arith)
      ∙ rw a (ap (λ (k : List ℕ). k ++ id ∷ [])
      (listed_ext (order_at t) (order_at s) n 0 (λ i m. word_other s₁ 5 (n + 1) (order_part + (0 + i)) (λ q. omega arith) ∙ word_other s (order_part + n) id (order_part + (0 + i)) (λ q. omega arith)))))

  appended_order : Whole s → (is_dirty s ≡ false → order_length s < id_room) → order_of (appended s id) ≡ (if is_dirty s then order_of s else order_of s ++ id ∷ [])
  unfolding appended
  appended_order w f = go (is_dirty s) refl
    where
      go : (d : Bool) → is_dirty s ≡ d → order_of (if d then s else set_order_length (set_order_at s (order_length s) id) (order_length s + 1)) ≡ (if d then order_of s else order_of s ++ id ∷ [])
      go true e = refl
      go false e = order_put w (f e)

-- ---- two states whose rows are the same
pub same_row : (s t : List ℕ) (r : ℕ) → SameRows s t → row_of t r ≡ row_of s r
unfolding row_of
same_row s t r h = rw (h.channels r) (listed_ext (place_of t r) (place_of s r) (channels_of s r) 0 (λ c m. h.places r (0 + c)))

-- ---- a node added
module _ (s : List ℕ) (id inputs outputs : ℕ) (effects : Bool) (l : id < id_room) (g : Addable s id inputs outputs) where
  abbrev s₀ : List ℕ
  s₀ = u10 s id inputs outputs effects

  abbrev s₁ : List ℕ
  s₁ = ports_silent Input id s₀ inputs 0

  abbrev s₂ : List ℕ
  s₂ = ports_silent Output id s₁ outputs 0

  abbrev s₃ : List ℕ
  s₃ = appended s₂ id

  held₀ : Held s₀
  held₀ = written_held s id inputs outputs effects g l

  pub some_in : (p : ℕ) → p < inputs → 0 < cap_of s₀ (input_row id p)
  some_in p m = let a = g.some in rw (written_input s id inputs outputs effects g l p m) a

  in_run : Silenced Input id 0 inputs s₀ s₁
  in_run = let a = g.inputs_in in silenced Input id l s₀ inputs 0 held₀ (omega arith) (λ x a b. some_in x (omega arith))

  pub some_out : (p : ℕ) → p < outputs → 0 < cap_of s₁ (output_row id p)
  some_out p m =
      let a = g.some in
      let b = g.outputs_in in
      rw (cap_kept s₀ s₁ in_run.header (output_row id p) (omega arith), written_output s id inputs outputs effects g l p m) a

  out_run : Silenced Output id 0 outputs s₁ s₂
  out_run = let a = g.outputs_in in silenced Output id l s₁ outputs 0 in_run.held (omega arith) (λ x a b. some_out x (omega arith))

  -- the words below the holder counts
  header₂ : (k : ℕ) → k < holder_part → slice_index s₂ k ≡ slice_index s₀ k
  header₂ k m = out_run.header k m ∙ in_run.header k m

  low₂ : (k : ℕ) → k < node_part → slice_index s₂ k ≡ slice_index s k
  low₂ k m = header₂ k (omega arith) ∙ elsewhere s id inputs outputs effects k (inl (omega arith))

  dirty₂ : is_dirty s₂ ≡ is_dirty s
  dirty₂ = flag_read s s₂ 2 (low₂ 2 (omega arith))

  pub room₂ : is_dirty s₂ ≡ false → order_length s₂ < id_room
  room₂ e = rw (low₂ 5 (omega arith)) (g.listed (rw dirty₂ at e))

  far₃ : (k : ℕ) → (k ≡ 5 → ⊥) → (k < order_part) ⊎ (muted_part ≤ k) → slice_index s₃ k ≡ slice_index s₂ k
  far₃ k a o = appended_far s₂ id room₂ k a o

  low₃ : (k : ℕ) → (k ≡ 5 → ⊥) → (k < order_part) ⊎ (muted_part ≤ k) → k < node_part → slice_index s₃ k ≡ slice_index s k
  low₃ k a o m = far₃ k a o ∙ low₂ k m

  -- the words of the nodes and of the edges
  mid₃ : (k : ℕ) → node_part ≤ k → k < holder_part → slice_index s₃ k ≡ slice_index s₀ k
  mid₃ k a m = far₃ k (λ e. omega arith) (inr (omega arith)) ∙ header₂ k m

  rows₃ : SameRows s₂ s₃
  rows₃ = rows_like s₂ s₃ (λ i a. far₃ i (λ e. omega arith) (inr (omega arith)))

  held₃ : Held s₃
  held₃ =
      held_like s₂ s₃ out_run.held (appended_whole s₂ id out_run.held.whole) (far₃ 1 (λ e. omega arith) (inl (omega arith))) rows₃
      (λ r m. cap_like s₂ s₃ (far₃ 0 (λ e. omega arith) (inl (omega arith))) r m
      (λ x k e. (
        flag_read s₂ s₃ (node_part + node_words * x + 0) (far₃ (node_part + node_words * x + 0) (λ e. omega arith) (inr (omega arith))),
        far₃ (node_part + node_words * x + 1) (λ e. omega arith) (inr (omega arith)),
        far₃ (node_part + node_words * x + 2) (λ e. omega arith) (inr (omega arith)),
      )))

  order₃ : order_length s ≤ id_room → order_of s₃ ≡ (if is_dirty s then order_of s else order_of s ++ id ∷ [])
  order₃ m =
      let e = (lists_like s s₂ (low₂ 5 (omega arith)) (low₂ 6 (omega arith)) (λ i a b. low₂ i (omega arith))).order m in
      appended_order s₂ id out_run.held.whole room₂ ∙ rw (dirty₂, e) refl

  ports_like : (x : ℕ) → x < id_room → ports_at s₃ x ≡ ports_at s₀ x
  ports_like x m =
      let p = node_part + node_words * x in
      let a : is_present s₃ x ≡ is_present s₀ x = flag_read s₀ s₃ (p + 0) (mid₃ (p + 0) (omega arith) (omega arith)) in
      let b : inputs_of s₃ x ≡ inputs_of s₀ x = mid₃ (p + 1) (omega arith) (omega arith) in
      let c : outputs_of s₃ x ≡ outputs_of s₀ x = mid₃ (p + 2) (omega arith) (omega arith) in
      rw (a, b, c) refl

  ports_same : ports_of s₃ ≡ ports_of s₀
  unfolding ports_of
  ports_same = tally_ext (ports_at s₃) (ports_at s₀) id_room ports_like

  ports₃ : ports_of s₃ ≡ ports_of s + (inputs + outputs)
  ports₃ = ports_same ∙ written_ports s id inputs outputs effects g l

  rows₀ : SameRows s s₀
  rows₀ = rows_like s s₀ (λ i a. elsewhere s id inputs outputs effects i (inr (omega arith)))

  all : Added s s₃ id inputs outputs effects
  all =
      let ia = g.inputs_in in
      let oa = g.outputs_in in
      record {
        held = held₃;
        run = run_like s s₃ (λ w. held₃.whole) (λ i a b. low₃ i (λ e. omega arith) (inl (omega arith)) (omega arith)) (λ i a b. low₃ i (λ e. omega arith) (inl (omega arith)) (omega arith));
        node = node_like s₀ s₃ id (λ i a b. mid₃ i (omega arith) (omega arith)) ∙ written_node s id inputs outputs effects l g.held.whole;
        nodes = λ x m u. node_like s s₃ x (λ i a b.
            let v = i - (node_part + node_words * x) in
            let e : i ≡ node_part + node_words * x + v = omega arith in
            mid₃ i (omega arith) (omega arith)
            ∙ ap (slice_index s₀) e ∙ other_word s s₀ id l (whole10 s id inputs outputs effects) (elsewhere s id inputs outputs effects) x v (omega arith) u ∙ ap (slice_index s) (sym e));
        ports = ports₃;
        dirty = flag_read s s₃ 2 (low₃ 2 (λ e. omega arith) (inl (omega arith)) (omega arith));
        order = order₃;
        muted = muted_like s s₃ (low₃ 6 (λ e. omega arith) (inl (omega arith)) (omega arith)) (λ i a b. low₃ i (λ e. omega arith) (inr (omega arith)) (omega arith));
        edges = edges_like s s₃ (low₃ 7 (λ e. omega arith) (inl (omega arith)) (omega arith)) (λ i a b. mid₃ i (omega arith) b ∙ elsewhere s id inputs outputs effects i (inr (omega arith)));
        silent_in = λ p m. same_row s₂ s₃ (input_row id p) rows₃ ∙ out_run.others (input_row id p) (omega arith) (λ x a b e. omega arith) ∙ in_run.here p (omega arith) (omega arith);
        silent_out = λ p m. same_row s₂ s₃ (output_row id p) rows₃ ∙ out_run.here p (omega arith) (omega arith);
        rows = λ r m u. same_row s₂ s₃ r rows₃ ∙ out_run.others r m (λ x a b e. u (omega arith)) ∙ in_run.others r m (λ x a b e. u (omega arith)) ∙ same_row s s₀ r rows₀;
      }

  pub added : Added s (node_added s id inputs outputs effects) id inputs outputs effects
  unfolding node_added
  added = rw (written_is s id inputs outputs effects) all

  -- what the function's steps ask for
  pub add_held : Held (node_written s id inputs outputs effects)
  add_held = rw (written_is s id inputs outputs effects) held₀

  pub add_some_in : (p : ℕ) → p < inputs → 0 < cap_of (node_written s id inputs outputs effects) (port_row Input id p)
  add_some_in = rw (written_is s id inputs outputs effects) some_in

  pub add_held_in : Held (ports_silent Input id (node_written s id inputs outputs effects) inputs 0)
  add_held_in = rw (written_is s id inputs outputs effects) (in_run.held)

  pub add_some_out : (p : ℕ) → p < outputs → 0 < cap_of (ports_silent Input id (node_written s id inputs outputs effects) inputs 0) (port_row Output id p)
  add_some_out = rw (written_is s id inputs outputs effects) some_out

  pub add_room : is_dirty (ports_silent Output id (ports_silent Input id (node_written s id inputs outputs effects) inputs 0) outputs 0) ≡ false
      → order_length (ports_silent Output id (ports_silent Input id (node_written s id inputs outputs effects) inputs 0) outputs 0) < id_room
  add_room = rw (written_is s id inputs outputs effects) room₂

pub ruleset adding_node = (add_held, add_some_in, add_held_in, add_some_out, add_room, added)
