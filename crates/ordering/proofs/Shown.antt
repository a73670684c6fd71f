-- Through the views of the state the ordering is that of the small world.
use Rattle.std.proofs.Common.{◌≡◌, refl, sym, ap, ◌∙◌, subst, ℕ, zero, suc, ◌+◌, ◌*◌, ◌<◌, ◌≤◌, Bool, true, not, List, [], ◌∷◌, Option, Some, None, ◌⊎◌, inl, inr, ⊎_elim, length, get_or, filter, reverse, slice_index, slice_set, arith, zero-add, ◌-◌}
use Rattle.std.specs.List.{AllPairs, Contains, range_with_len}
use Rattle.std.proofs.lemmas.List.Sums.{length-filter, count_by-le-length}
use Rattle.std.proofs.lemmas.List.FromFn.{length-range_with_len, get_or-range_with_len}
use Rattle.std.proofs.lemmas.List.Kept.{AllPairs-filter}
use Rattle.tally.specs.Listed.{listed, passing}
use Rattle.tally.proofs.Lists.{listed_ext}
use Rattle.layout.specs.Sizes.{Whole, state_length, id_room, order_part, muted_part, node_part, edge_part, edge_words, holder_part, channel_part, place_part, channel_room, node_words, flag_at}
use Rattle.layout.specs.Header.{edge_count, order_length}
use Rattle.layout.specs.Lists.{order_at, set_order_at, muted_at, set_muted_at}
use Rattle.layout.specs.Edge.{edge_at, edge_word}
use Rattle.layout.specs.Node.{is_present}
use Rattle.layout.specs.Views.{order_of, muted_of, edges_of, present_of, node_of}
use Rattle.layout.proofs.Words.{word_same, word_other, whole_set, flag_read}
use Rattle.ordering.specs.Walk.{Notes, flag}
use Rattle.ordering.specs.Order.{Graph, Ordered, breaks, targets, fresh, pass, sounding, silent, ordered_from, ordered}
use Rattle.ordering.specs.Promise.{Sound}
use Rattle.ordering.specs.View.{Bounded}
use Rattle.ordering.specs.Listing.{put_list}
use Rattle.ordering.specs.declared.list.IdList.TheVariants.{Order, Muted}
use Rattle.ordering.specs.State.{graph_of, clear, settle, Ordering, order_from, order_nodes}
use Rattle.ordering.specs.Shown.{Shows}
use Rattle.ordering.proofs.Laws.{heap, Result}
use Rattle.ordering.proofs.Lists.{all_from_in, contains_from_in, filter_reverse, filter_in, distinct_filter, no_longer}
use Rattle.ordering.proofs.Counting.{ordered_last, ordered_next}
use Rattle.ordering.proofs.Steps.{in_range, in_passing}
use Rattle.ordering.proofs.Stored.{SameNodes, graph_of-clear, whole_clear, word-clear}
use Rattle.ordering.proofs.Passing.{low_present, count_of_edges, pass_low, pass_clears, order_last, order_next, in_listed}

-- ---- a list stored from word a on, and its length in word c
put : ℕ → ℕ → List ℕ → List ℕ → ℕ → List ℕ
put c a s [] k = slice_set s c k
put c a s (x ∷ xs) k = put c a (slice_set s (a + k) x) xs (k + 1)

module _ (c a : ℕ) where
  put_whole : (xs s : List ℕ) (k : ℕ) → Whole s → Whole (put c a s xs k)
  unfolding put
  put_whole [] s k w = whole_set s c k w
  put_whole (x ∷ xs) s k w = put_whole xs (slice_set s (a + k) x) (k + 1) (whole_set s (a + k) x w)

  put_other : (xs s : List ℕ) (k i : ℕ) → (i ≡ c → ⊥) → (i < a + k) ⊎ (a + k + length xs ≤ i) → slice_index (put c a s xs k) i ≡ slice_index s i
  unfolding put
  put_other [] s k i h l = word_other s c k i h
  put_other (x ∷ xs) s k i h l =
      put_other xs (slice_set s (a + k) x) (k + 1) i h (⊎_elim (λ m. inl (omega arith)) (λ m. inr (omega arith)) l)
      ∙ word_other s (a + k) x i (λ q. ⊎_elim (λ m. omega arith) (λ m. omega arith) l)

  put_count : (xs s : List ℕ) (k : ℕ) → Whole s → c < state_length → slice_index (put c a s xs k) c ≡ k + length xs
  unfolding put
  put_count [] s k w l = word_same s c k w l ∙ none k
    where
      none : (k : ℕ) → k ≡ k + 0
      none k = omega arith
  put_count (x ∷ xs) s k w l = put_count xs (slice_set s (a + k) x) (k + 1) (whole_set s (a + k) x w) l ∙ one k (length xs)
    where
      one : (k n : ℕ) → k + 1 + n ≡ k + suc n
      one k n = omega arith

  put_at : (xs s : List ℕ) (k j : ℕ) → Whole s → c < a → a + k + length xs ≤ state_length → j < length xs → slice_index (put c a s xs k) (a + (k + j)) ≡ get_or xs j 0
  unfolding put
  put_at [] s k j w h l m = absurd (omega arith)
  put_at (x ∷ xs) s k zero w h l m =
      let e : a + (k + 0) ≡ a + k = omega arith in
      ap (slice_index (put c a (slice_set s (a + k) x) xs (k + 1))) e
      ∙ put_other xs (slice_set s (a + k) x) (k + 1) (a + k) (λ q. omega arith) (inl (omega arith)) ∙ word_same s (a + k) x w (omega arith)
  put_at (x ∷ xs) s k (suc j) w h l m =
      let e : a + (k + suc j) ≡ a + (k + 1 + j) = omega arith in
      ap (slice_index (put c a (slice_set s (a + k) x) xs (k + 1))) e ∙ put_at xs (slice_set s (a + k) x) (k + 1) j (whole_set s (a + k) x w) h (omega arith) (omega arith)

put_order_is : (xs s : List ℕ) (k : ℕ) → put_list Order s xs k ≡ put 5 order_part s xs k
unfolding put_list put
put_order_is [] s k = refl
put_order_is (x ∷ xs) s k = put_order_is xs (set_order_at s k x) (k + 1)

put_muted_is : (xs s : List ℕ) (k : ℕ) → put_list Muted s xs k ≡ put 6 muted_part s xs k
unfolding put_list put
put_muted_is [] s k = refl
put_muted_is (x ∷ xs) s k = put_muted_is xs (set_muted_at s k x) (k + 1)

listed_is : (f : ℕ → ℕ) (xs : List ℕ) (k : ℕ) → ((j : ℕ) → j < length xs → f (k + j) ≡ get_or xs j 0) → listed f (length xs) k ≡ xs
listed_is f [] k h = refl
listed_is f (x ∷ xs) k h =
    let a : f k ≡ x = let e : k + 0 ≡ k = omega arith in ap f (sym e) ∙ h 0 (omega arith) in
    rw a (ap (λ (l : List ℕ). x ∷ l) (listed_is f xs (k + 1) (λ j l. let e : k + 1 + j ≡ k + suc j = omega arith in ap f e ∙ h (suc j) (omega arith))))

-- ---- both lists stored
module _ (s xs ys : List ℕ) (w : Whole s) (l : length xs ≤ id_room) (m : length ys ≤ id_room) where
  both : List ℕ
  both = put 6 muted_part (put 5 order_part s xs 0) ys 0

  both_other : (i : ℕ) → (i ≡ 5 → ⊥) → (i ≡ 6 → ⊥) → (i < order_part) ⊎ (node_part ≤ i) → slice_index both i ≡ slice_index s i
  unfolding both
  both_other i p q r =
      put_other 6 muted_part ys (put 5 order_part s xs 0) 0 i q (⊎_elim (λ a. inl (omega arith)) (λ a. inr (omega arith)) r)
      ∙ put_other 5 order_part xs s 0 i p (⊎_elim (λ a. inl (omega arith)) (λ a. inr (omega arith)) r)

  both_order : order_of both ≡ xs
  unfolding both order_of
  both_order =
      let t = put 5 order_part s xs 0 in
      let c : order_length (put 6 muted_part t ys 0) ≡ length xs =
      put_other 6 muted_part ys t 0 5 (λ q. omega arith) (inl (omega arith)) ∙ put_count 5 order_part xs s 0 w (omega arith) ∙ zero-add (length xs) in
      ap (λ (n : ℕ). listed (order_at (put 6 muted_part t ys 0)) n 0) c
      ∙ listed_is (order_at (put 6 muted_part t ys 0)) xs 0
      (λ j h. put_other 6 muted_part ys t 0 (order_part + (0 + j)) (λ q. omega arith) (inl (omega arith)) ∙ put_at 5 order_part xs s 0 j w (omega arith) (omega arith) h)

  both_muted : muted_of both ≡ ys
  unfolding both muted_of
  both_muted =
      let t = put 5 order_part s xs 0 in
      let v = put_whole 5 order_part xs s 0 w in
      ap (λ (n : ℕ). listed (muted_at (put 6 muted_part t ys 0)) n 0) (put_count 6 muted_part ys t 0 v (omega arith) ∙ zero-add (length ys))
      ∙ listed_is (muted_at (put 6 muted_part t ys 0)) ys 0 (λ j h. put_at 6 muted_part ys t 0 j v (omega arith) (omega arith) h)

  both_edges : edges_of both ≡ edges_of s
  unfolding edges_of
  both_edges =
      let word : (e v : ℕ) → edge_word both e v ≡ edge_word s e v = λ e v. both_other (edge_part + edge_words * e + v) (λ q. omega arith) (λ q. omega arith) (inr (omega arith)) in
      ap (λ (n : ℕ). listed (edge_at both) n 0) (both_other 7 (λ q. omega arith) (λ q. omega arith) (inl (omega arith)))
      ∙ listed_ext (edge_at both) (edge_at s) (edge_count s) 0 (λ e h. rw (word (0 + e) 0, word (0 + e) 1, word (0 + e) 2, word (0 + e) 3) refl)

  both_is : put_list Muted (put_list Order s xs 0) ys 0 ≡ both
  unfolding both
  both_is = put_muted_is ys (put_list Order s xs 0) 0 ∙ ap (λ (t : List ℕ). put 6 muted_part t ys 0) (put_order_is xs s 0)

  both_nodes : SameNodes s both
  both_nodes k h i = both_other k (λ q. omega arith) (λ q. omega arith) (inr h)

-- ---- no list is longer than there are ids
filter_most : (p : ℕ → Bool) (xs : List ℕ) → length (filter p xs) ≤ length xs
filter_most p xs = omega (arith, length-filter p xs, count_by-le-length p xs)

few_silent : (n : Notes) (s : List ℕ) → length (silent n (present_of s)) ≤ id_room
unfolding silent present_of passing
few_silent n s =
    omega (arith, filter_most (flag n.muted) (filter (is_present s) (range_with_len 0 id_room)), filter_most (is_present s) (range_with_len 0 id_room), length-range_with_len 0 id_room)

few_sounding : (s : List ℕ) → Bounded s → (pass (graph_of s)).found ≡ None → length (sounding (pass (graph_of s))) ≤ id_room
unfolding sounding
few_sounding s b z = by (pass_low s b)
  where
    by : Result (targets (edges_of s)) (breaks (graph_of s).breakers) (λ x. x < id_room) fresh (present_of s) (pass (graph_of s))
        → length (reverse (filter (λ x. not (flag (pass (graph_of s)).muted x)) (pass (graph_of s)).finished)) ≤ id_room
    by (inl v) = let k = v.found in absurd (cc)
    by (inr v) =
        let n = pass (graph_of s) in
        let p = λ (x : ℕ). not (flag n.muted x) in
        let q = no_longer (filter p (heap n)) (range_with_len 0 id_room) (distinct_filter p (heap n) v.fine.once)
        (λ x i. in_range (is_present s) id_room 0 x (omega arith) (omega (arith, (v.fine.on_heap x ((filter_in p (heap n) x i).0)).0))) in
        omega (arith, q, length-range_with_len 0 id_room, ap length (filter_reverse p n.finished))

-- ---- the whole ordering
-- words before the two lists, those of the nodes, and those after the edges
abbrev pub Elsewhere : ℕ → Type 0
Elsewhere i = (i < order_part) ⊎ (((node_part ≤ i) × (i < edge_part)) ⊎ (holder_part ≤ i))

-- none of the words that hold how long the order, the muted list and the list of edges are
abbrev pub NoLength : ℕ → Type 0
NoLength i = (i ≡ 5 → ⊥) × (i ≡ 6 → ⊥) × (i ≡ 7 → ⊥)

abbrev pub Kept : List ℕ → List ℕ → Type 0
Kept s t = (i : ℕ) → NoLength i → Elsewhere i → slice_index t i ≡ slice_index s i

-- t has the two lists and the edges of r, and the other words of s
pub record Holds (s t : List ℕ) (r : Ordered) : Type 0 where
  pub order : order_of t ≡ r.order
  pub muted : muted_of t ≡ r.muted
  pub edges : edges_of t ≡ r.edges
  pub rest : Kept s t

-- a word of neither list, and of no edge
rest_lists : (i : ℕ) → Elsewhere i → (i < order_part) ⊎ (node_part ≤ i)
rest_lists i (inl a) = inl a
rest_lists i (inr (inl a)) = inr a.0
rest_lists i (inr (inr a)) = inr (omega arith)

rest_clear : (i : ℕ) → Elsewhere i → (i < edge_part) ⊎ (holder_part ≤ i)
rest_clear i (inl a) = inl (omega arith)
rest_clear i (inr (inl a)) = inl a.1
rest_clear i (inr (inr a)) = inr a

settled : (s : List ℕ) (n : Notes) (k : ℕ) → Whole s → length (sounding n) ≤ id_room → length (silent n (present_of s)) ≤ id_room
    → Holds s (settle s n None) (record { order = sounding n; muted = silent n (present_of s); passes = k; edges = edges_of s })
unfolding settle
settled s n k w l m =
    let xs = sounding n in
    let ys = silent n (present_of s) in
    rw (both_is s xs ys w l m) (
    record {
      order = both_order s xs ys w l m;
      muted = both_muted s xs ys w l m;
      edges = both_edges s xs ys w l m;
      rest = λ i g h. both_other s xs ys w l m i g.0 g.1 (rest_lists i h);
    }
    )

-- both orderings with the same bound
record Same (s : List ℕ) (o : Ordering) (r : Ordered) : Type 0 where
  shows : Holds s o.state r
  passes : o.passes ≡ r.passes

same_none : (f : ℕ) (s : List ℕ) (k : ℕ) → Whole s → Bounded s → (pass (graph_of s)).found ≡ None → Same s (order_from (suc f) s k) (ordered_from (suc f) (graph_of s) k)
unfolding graph_of
same_none f s k w b z =
    let n = pass (graph_of s) in
    let a = order_last (suc f) s k (omega arith) z ∙ ap (λ (r : Option ℕ). record { state = settle s n r; passes = k }) z in
    let e = settled s n k w (few_sounding s b z) (few_silent n s) in
    subst (λ (o : Ordering). Same s o (ordered_from (suc f) (graph_of s) k)) (sym a)
    (subst (λ (r : Ordered). Same s (record { state = settle s n None; passes = k }) r) (sym (ordered_last f (graph_of s) k z)) (record { shows = e; passes = refl }))

same_some : (f : ℕ) (s : List ℕ) (k x : ℕ) → Whole s → Bounded s → (pass (graph_of s)).found ≡ Some x
    → Same (clear s x) (order_from f (clear s x) (k + 1)) (ordered_from f (graph_of (clear s x)) (k + 1))
    → Same s (order_from (suc f) s k) (ordered_from (suc f) (graph_of s) k)
same_some f s k x w b z h =
    let one : suc f - 1 ≡ f = omega arith in
    let a = order_next (suc f) s k x (omega arith) z ∙ ap (λ (m : ℕ). order_from m (clear s x) (k + 1)) one in
    let e = ordered_next f (graph_of s) k x z ∙ ap (λ (g : Graph). ordered_from f g (k + 1)) (sym (graph_of-clear s x w b.few)) in
    let v = h.shows in
    subst (λ (o : Ordering). Same s o (ordered_from (suc f) (graph_of s) k)) (sym a)
    (subst (λ (r : Ordered). Same s (order_from f (clear s x) (k + 1)) r) (sym e) (
    record {
      shows = record {
        order = v.order;
        muted = v.muted;
        edges = v.edges;
        rest = λ i g h. v.rest i g h ∙ word-clear s x i b.few g.2 (rest_clear i h);
      };
      passes = h.passes;
    }
    ))

same_from : (f : ℕ) (s : List ℕ) (k : ℕ) → Whole s → Bounded s → edge_count s < f → Same s (order_from f s k) (ordered_from f (graph_of s) k)
same_from zero s k w b h = absurd (omega arith)
same_from (suc f) s k w b h = at (pass (graph_of s)).found refl (λ s' w' b' h'. same_from f s' (k + 1) w' b' h')
  where
    at : (r : Option ℕ) → (pass (graph_of s)).found ≡ r
        → ((s' : List ℕ) → Whole s' → Bounded s' → edge_count s' < f → Same s' (order_from f s' (k + 1)) (ordered_from f (graph_of s') (k + 1)))
        → Same s (order_from (suc f) s k) (ordered_from (suc f) (graph_of s) k)
    at None z ih = same_none f s k w b z
    at (Some x) z ih = let d = pass_clears s x w b z in same_some f s k x w b z (ih (clear s x) (whole_clear s x w) d.0 (omega (arith, d.1)))

edges_in_graph : (s : List ℕ) → length (graph_of s).edges ≡ edge_count s
unfolding graph_of
edges_in_graph s = count_of_edges s

shown_at : (s : List ℕ) (n : ℕ) → n ≡ edge_count s → Whole s → Bounded s → Same s (order_nodes s) (ordered_from (n + 1) (graph_of s) 1)
unfolding order_nodes
shown_at s n e w b = subst (λ (m : ℕ). Same s (order_from (edge_count s + 1) s 1) (ordered_from (m + 1) (graph_of s) 1)) (sym e) (same_from (edge_count s + 1) s 1 w b (omega arith))

holds : (s : List ℕ) → Whole s → Bounded s → Same s (order_nodes s) (ordered (graph_of s))
unfolding ordered
holds s w b = shown_at s (length (graph_of s).edges) (edges_in_graph s) w b

pub node_kept : (s t : List ℕ) → Kept s t → (id : ℕ) → id < id_room → node_of t id ≡ node_of s id
unfolding node_of
node_kept s t h id l =
    let at : ℕ → ℕ = λ v. node_part + node_words * id + v in
    let word : (v : ℕ) → v < node_words → slice_index t (at v) ≡ slice_index s (at v) =
    λ v m. h (at v) ((λ q. omega arith), (λ q. omega arith), (λ q. omega arith)) (inr (inl (omega arith, omega arith))) in
    let flag : (v : ℕ) → v < node_words → flag_at t (at v) ≡ flag_at s (at v) = λ v m. flag_read s t (at v) (word v m) in
    rw (flag 0 (omega arith), word 1 (omega arith), word 2 (omega arith), word 3 (omega arith), word 4 (omega arith), word 5 (omega arith), flag 6 (omega arith), flag 7 (omega arith), flag 8 (omega arith), flag 9 (omega arith)) refl

pub shown : (s : List ℕ) → Whole s → Bounded s → Shows s (order_nodes s).state (ordered (graph_of s)) × ((order_nodes s).passes ≡ (ordered (graph_of s)).passes)
shown s w b =
    let o = holds s w b in
    let t = (order_nodes s).state in
    let h = o.shows in
    let low : (i : ℕ) → i < 5 → slice_index t i ≡ slice_index s i = λ i l. h.rest i ((λ q. omega arith), (λ q. omega arith), (λ q. omega arith)) (inl (omega arith)) in
    let high : (i : ℕ) → holder_part ≤ i → slice_index t i ≡ slice_index s i = λ i l. h.rest i ((λ q. omega arith), (λ q. omega arith), (λ q. omega arith)) (inr (inr l)) in (
      record {
        order = h.order;
        muted = h.muted;
        edges = h.edges;
        ceiling = low 0 (omega arith);
        slots = low 1 (omega arith);
        dirty = flag_read s t 2 (low 2 (omega arith));
        opened = flag_read s t 3 (low 3 (omega arith));
        next = low 4 (omega arith);
        nodes = node_kept s t h.rest;
        holders = λ k. high (holder_part + k) (omega arith);
        channels = λ r. high (channel_part + r) (omega arith);
        places = λ r c. high (place_part + channel_room * r + c) (omega arith);
      },
      o.passes,
    )

-- ---- a state whose edges end at present ids
upward_range : (n k : ℕ) → AllPairs ◌<◌ (range_with_len k n)
upward_range n k i j d l m =
    let h = length-range_with_len k n in
    omega (arith, get_or-range_with_len k n i d (omega arith), get_or-range_with_len k n j d (omega arith))

pub sound_graph : (s : List ℕ) → Bounded s → ((e : ℕ) → e < edge_count s → is_present s (edge_at s e).target ≡ true) → Sound (graph_of s)
unfolding graph_of present_of passing edges_of
sound_graph s b h =
    record {
      low = all_from_in (λ x. x < id_room) (present_of s) (low_present s);
      upward = AllPairs-filter ◌<◌ (is_present s) (range_with_len 0 id_room) (upward_range id_room 0);
      ends = all_from_in (λ e. Contains (present_of s) e.target) (edges_of s)
          (λ e i.
          let r = in_listed (edge_at s) (edge_count s) 0 e i in
          let l = b.ends r.0 (omega (arith, r.1)) in
          contains_from_in (present_of s) e.target (in_passing (is_present s) id_room 0 e.target (omega arith) (rw r.2 (omega arith)) (rw r.2 (h r.0 (omega (arith, r.1))))));
    }
