-- The order and the muted list as the ordering's promises speak of them: one after the other they are the ledger's listed ids, both ways.
use Rattle.std.proofs.Common.{◌≡◌, ◌≢◌, inl, refl, sym, ◌∙◌, ℕ, ◌-◌, ◌<◌, ◌≤◌, List, ◌++◌, length, get_or, lt-ltb, le-ltb, arith}
use Rattle.std.proofs.Math.Decide.{dec_lt}
use Rattle.std.specs.List.{All, AllPairs, Contains, range_with_len}
use Rattle.std.proofs.lemmas.List.{length-append, get_or_append_left, get_or-append_right}
use Rattle.std.proofs.lemmas.List.FromFn.{length-map-range_with_len, get_or-map-range_with_len}
use Rattle.layout.specs.Sizes.{id_room}
use Rattle.layout.specs.Header.{order_length, muted_length, edge_count}
use Rattle.layout.specs.Lists.{order_at, muted_at}
use Rattle.layout.specs.Node.{is_present}
use Rattle.layout.specs.Edge.{edge_at}
use Rattle.layout.specs.Views.{order_of, muted_of, edges_of, present_of}
use Rattle.tally.specs.Listed.{passing}
use Rattle.ordering.specs.Promise.{RunsForward}
use Rattle.ordering.proofs.Lists.{all_from_in, in_from_all, in_from_contains, filter_in}
use Rattle.ordering.proofs.Sets.{In}
use Rattle.ordering.proofs.Steps.{in_passing, passing_in}
use Rattle.ordering.proofs.Passing.{low_present}
use Rattle.ledger.specs.Listed.{listed_count, listed_at, AreDistinct, AreThere, CoverAll, RunForward}

module _ (s : List ℕ) where
  abbrev pub both : List ℕ
  both = order_of s ++ muted_of s

  order_long : length (order_of s) ≡ order_length s
  unfolding order_of
  order_long = length-map-range_with_len (order_at s) 0 (order_length s)

  muted_long : length (muted_of s) ≡ muted_length s
  unfolding muted_of
  muted_long = length-map-range_with_len (muted_at s) 0 (muted_length s)

  order_here : (k d : ℕ) → k < order_length s → get_or (order_of s) k d ≡ order_at s k
  unfolding order_of
  order_here k d l = get_or-map-range_with_len (order_at s) 0 (order_length s) k k d l (omega arith)

  muted_here : (k d : ℕ) → k < muted_length s → get_or (muted_of s) k d ≡ muted_at s k
  unfolding muted_of
  muted_here k d l = get_or-map-range_with_len (muted_at s) 0 (muted_length s) k k d l (omega arith)

  pub both_long : length both ≡ listed_count s
  both_long = let a = length-append (order_of s) (muted_of s) in let b = order_long in let c = muted_long in omega arith

  pub both_here : (k d : ℕ) → k < listed_count s → get_or both k d ≡ listed_at s k
  both_here k d l = go (dec_lt k (order_length s))
    where
      go : Dec (k < order_length s) → get_or both k d ≡ listed_at s k
      go (yes m) =
          let e = order_long in
          get_or_append_left (order_of s) (muted_of s) d k (omega arith) ∙ order_here k d m ∙ rw (lt-ltb k (order_length s) m) refl
      go (no u) =
          let m : order_length s ≤ k = omega arith in
          get_or-append_right (order_of s) (muted_of s) (order_length s) k d order_long m ∙ muted_here (k - order_length s) d (omega arith) ∙ rw (le-ltb k (order_length s) m) refl

  -- distinct ids
  pub once_of : AreDistinct s → AllPairs ◌≢◌ both
  once_of h i j d l m =
      let e = both_long in
      λ q. h i j l (omega arith) (sym (both_here i d (omega arith)) ∙ q ∙ both_here j d (omega arith))

  pub distinct_from : AllPairs ◌≢◌ both → AreDistinct s
  distinct_from h i j l m =
      let e = both_long in
      λ q. h i j 0 l (omega arith) (both_here i 0 (omega arith) ∙ q ∙ sym (both_here j 0 m))

  -- the present ids
  pub all_of : CoverAll s → All (Contains both) (present_of s)
  unfolding present_of passing
  all_of h = all_from_in (Contains both) (present_of s)
      (λ x i.
      let c = h x (low_present s x i) (filter_in (is_present s) (range_with_len 0 id_room) x i).1 in
      let e = both_long in
      let l : c.0 < listed_count s = c.1 in
      (c.0, omega arith, both_here c.0 x l ∙ c.2))

  pub cover_from : All (Contains both) (present_of s) → CoverAll s
  unfolding present_of
  cover_from h id l p =
      let c = in_from_all (Contains both) (present_of s) h id (in_passing (is_present s) id_room 0 id (omega arith) (omega arith) p) in
      let e = both_long in
      let m : c.0 < length both = c.1 in
      let n : c.0 < listed_count s = omega arith in
      (c.0, n, sym (both_here c.0 id n) ∙ c.2)

  -- only present ids
  listed_present : All (Contains (present_of s)) both → (k : ℕ) → k < listed_count s → In (listed_at s k) (present_of s)
  listed_present h k l =
      let e = both_long in
      in_from_contains (present_of s) (listed_at s k) (rw (both_here k 0 l) at (h k 0 (omega arith)))

  pub low_from : All (Contains (present_of s)) both → (k : ℕ) → k < listed_count s → listed_at s k < id_room
  low_from h k l = low_present s (listed_at s k) (listed_present h k l)

  pub there_from : All (Contains (present_of s)) both → AreThere s
  unfolding present_of
  there_from h k l = inl (passing_in (is_present s) id_room 0 (listed_at s k) (listed_present h k l))

  -- edges
  pub forward_of : RunForward s → All (RunsForward (order_of s)) (edges_of s)
  unfolding edges_of
  forward_of h e d l =
      let m = length-map-range_with_len (edge_at s) 0 (edge_count s) in
      let q = get_or-map-range_with_len (edge_at s) 0 (edge_count s) e e d (omega arith) (omega arith) in
      let o = order_long in
      rw q (λ i j a b x y. (h e (omega arith)).later i j (omega arith) (omega arith) (sym (order_here i 0 (omega arith)) ∙ x) (sym (order_here j 0 (omega arith)) ∙ y))

  pub forward_from : All (RunsForward (order_of s)) (edges_of s) → RunForward s
  unfolding edges_of
  forward_from h e l =
      let m = length-map-range_with_len (edge_at s) 0 (edge_count s) in
      let q = get_or-map-range_with_len (edge_at s) 0 (edge_count s) e e (edge_at s e) l (omega arith) in
      let f : RunsForward (order_of s) (edge_at s e) = rw q at (h e (edge_at s e) (omega arith)) in
      let o = order_long in
      record { later = λ i j a b x y. f i j (omega arith) (omega arith) (order_here i 0 a ∙ x) (order_here j 0 b ∙ y) }
