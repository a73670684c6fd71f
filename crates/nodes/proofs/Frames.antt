-- From words that are the same to what the state shows.
use Rattle.std.proofs.Common.{◌≡◌, refl, sym, ap, ◌∙◌, ℕ, ◌+◌, ◌*◌, ◌/◌, ◌%◌, ◌<◌, ◌≤◌, List, slice_index, arith}
use Rattle.std.proofs.Math.Decide.{ℕ_discrete}
use Rattle.tally.proofs.Lists.{listed_ext}
use Rattle.tally.specs.Tally.{tally}
use Rattle.tally.proofs.Sums.{tally_ext}
use Rattle.layout.specs.Sizes.{Whole, id_room, node_rows, spare, row_room, node_words, order_part, muted_part, node_part, edge_part, edge_words, edge_room, flag_at, holder_part, channel_part, place_part, channel_room}
use Rattle.layout.specs.Header.{ceiling_of, slots_of, order_length, muted_length, edge_count}
use Rattle.layout.specs.Lists.{order_at, muted_at}
use Rattle.layout.specs.Node.{is_present, inputs_of, outputs_of}
use Rattle.layout.specs.Row.{channels_of, cap_of}
use Rattle.layout.specs.Views.{order_of, muted_of, edges_of, node_of}
use Rattle.layout.proofs.Words.{flag_read}
use Rattle.layout.proofs.Caps.{cap_spare, cap_port}
use Rattle.layout.specs.Edge.{edge_word, edge_at}
use Rattle.pool.specs.Rows.{Held, names, names_in}
use Rattle.pool.proofs.Names.{row_same}
use Rattle.nodes.specs.Kept.{SameRows, SameRun, SameLists}

module _ (s t : List ℕ) where
  -- words from a place on, below a bound, are the same
  abbrev pub Like : ℕ → ℕ → Type 0
  Like a b = (i : ℕ) → a ≤ i → i < b → slice_index t i ≡ slice_index s i

  pub run_like : (Whole s → Whole t) → Like 0 2 → Like 3 5 → SameRun s t
  run_like w h k = record {
    whole = w;
    ceiling = h 0 (omega arith) (omega arith);
    slots = h 1 (omega arith) (omega arith);
    opened = flag_read s t 3 (k 3 (omega arith) (omega arith));
    next = k 4 (omega arith) (omega arith);
  }

  pub lists_like : order_length t ≡ order_length s → muted_length t ≡ muted_length s → Like order_part node_part → SameLists s t
  unfolding order_of muted_of
  lists_like e f h = record {
    order = λ l. rw e (listed_ext (order_at t) (order_at s) (order_length s) 0 (λ i m. h (order_part + (0 + i)) (omega arith) (omega arith)));
    muted = λ l. rw f (listed_ext (muted_at t) (muted_at s) (muted_length s) 0 (λ i m. h (muted_part + (0 + i)) (omega arith) (omega arith)));
  }

  pub muted_like : muted_length t ≡ muted_length s → Like muted_part node_part → muted_length s ≤ id_room → muted_of t ≡ muted_of s
  unfolding muted_of
  muted_like f h l = rw f (listed_ext (muted_at t) (muted_at s) (muted_length s) 0 (λ i m. h (muted_part + (0 + i)) (omega arith) (omega arith)))

  pub edge_like : (e : ℕ) → e < edge_room → Like edge_part holder_part → edge_at t e ≡ edge_at s e
  edge_like e l h =
      let w : (v : ℕ) → v < edge_words → edge_word t e v ≡ edge_word s e v = λ v m. h (edge_part + edge_words * e + v) (omega arith) (omega arith) in
      rw (w 0 (omega arith), w 1 (omega arith), w 2 (omega arith), w 3 (omega arith)) refl

  pub edges_like : edge_count t ≡ edge_count s → Like edge_part holder_part → edge_count s ≤ edge_room → edges_of t ≡ edges_of s
  unfolding edges_of
  edges_like e h l = rw e (listed_ext (edge_at t) (edge_at s) (edge_count s) 0 (λ i m. edge_like (0 + i) (omega arith) h))

  pub node_like : (id : ℕ) → Like (node_part + node_words * id) (node_part + node_words * id + node_words) → node_of t id ≡ node_of s id
  unfolding node_of
  node_like id h =
      let p = node_part + node_words * id in
      let n : (w : ℕ) → w < node_words → slice_index t (p + w) ≡ slice_index s (p + w) = λ w l. h (p + w) (omega arith) (omega arith) in
      let f : (w : ℕ) → w < node_words → flag_at t (p + w) ≡ flag_at s (p + w) = λ w l. flag_read s t (p + w) (n w l) in
      rw (f 0 (omega arith), n 1 (omega arith), n 2 (omega arith), n 3 (omega arith), n 4 (omega arith), n 5 (omega arith), f 6 (omega arith), f 7 (omega arith), f 8 (omega arith), f 9 (omega arith)) refl

  pub rows_like : ((i : ℕ) → holder_part ≤ i → slice_index t i ≡ slice_index s i) → SameRows s t
  rows_like h = record {
    holders = λ k. h (holder_part + k) (omega arith);
    channels = λ r. h (channel_part + r) (omega arith);
    places = λ r c. h (place_part + channel_room * r + c) (omega arith);
  }

  -- what row r may have, where its node is the same
  pub cap_like : ceiling_of t ≡ ceiling_of s → (r : ℕ) → r < row_room
      → ((id : ℕ) → id < id_room → id ≡ r / node_rows → (is_present t id ≡ is_present s id) × (inputs_of t id ≡ inputs_of s id) × (outputs_of t id ≡ outputs_of s id)) → cap_of t r ≡ cap_of s r
  cap_like a r l h = go (ℕ_discrete r spare)
    where
      go : Dec (r ≡ spare) → cap_of t r ≡ cap_of s r
      go (yes e) = rw (e, cap_spare t, cap_spare s) a
      go (no u) =
          let i = r / node_rows in
          let w = r % node_rows in
          let e : r ≡ node_rows * i + w = omega arith in
          let k : i < id_room = omega arith in
          let q = h i k refl in
          ap (cap_of t) e ∙ cap_port t i w k (omega arith) ∙ rw (a, q.0, q.1, q.2) (sym (ap (cap_of s) e ∙ cap_port s i w k (omega arith)))

  pub names_like : SameRows s t → (k : ℕ) → names t k ≡ names s k
  unfolding names
  names_like h k = tally_ext (λ r. names_in t k r) (λ r. names_in s k r) row_room (λ r l. row_same s t k r (h.channels r) (λ c m. h.places r c))

  -- the rule of the holder counts, where the rows are the same and the ceilings serve
  pub held_from : Held s → Whole t → slots_of t ≡ slots_of s → SameRows s t → tally (λ x. cap_of t x) row_room < slots_of t → ((x : ℕ) → x < row_room → cap_of t x ≤ channel_room)
      → ((x : ℕ) → x < row_room → channels_of s x ≤ cap_of t x) → Held t
  held_from h w e r room cap narrow = record {
    whole = w;
    few = rw e h.few;
    roomy = room;
    capped = cap;
    silent = r.holders 0 ∙ h.silent;
    narrow = λ x l. rw (r.channels x) (narrow x l);
    inside = λ x d l m. rw (e, r.places x d) (h.inside x d l (rw (r.channels x) at m));
    counted = λ k l m. r.holders k ∙ h.counted k l (rw e at m) ∙ sym (names_like r k);
  }

  pub held_like : Held s → Whole t → slots_of t ≡ slots_of s → SameRows s t → ((r : ℕ) → r < row_room → cap_of t r ≡ cap_of s r) → Held t
  held_like h w e r c =
      held_from h w e r (rw (e, tally_ext (λ x. cap_of t x) (λ x. cap_of s x) row_room c) h.roomy) (λ x l. rw (c x l) (h.capped x l)) (λ x l. rw (c x l) (h.narrow x l))
