-- What is read back once edges are stored, or go.
use Rattle.std.proofs.Common.{◌≡◌, refl, sym, ap, ◌∙◌, ℕ, zero, suc, ◌+◌, ◌*◌, ◌<◌, ◌≤◌, Bool, true, false, cond, if◌then◌else◌, not, List, [], ◌∷◌, ◌++◌, filter, slice_index, slice_set, arith, ◌⊎◌, ⊎_elim}
use Rattle.std.proofs.lemmas.List.{append_assoc, append-nil}
use Rattle.std.proofs.lemmas.List.FromFn.{map-range_with_len_more}
use Rattle.tally.specs.Listed.{listed}
use Rattle.tally.proofs.Lists.{listed_ext}
use Rattle.layout.specs.Sizes.{Whole, edge_room, edge_part, edge_words, holder_part}
use Rattle.layout.specs.Header.{edge_count}
use Rattle.layout.specs.Edge.{edge_word, edge_at, set_edge_at}
use Rattle.layout.specs.Views.{edges_of}
use Rattle.layout.specs.declared.edge.Edge.{Edge}
use Rattle.layout.proofs.Words.{word_same, word_other, whole_set, edge_apart}
use Rattle.nodes.specs.Edges.{left_from, edges_left}

-- a word of no edge
abbrev pub Outside : ℕ → Type 0
Outside k = (k < edge_part) ⊎ (holder_part ≤ k)

-- ---- one edge stored
module _ (s : List ℕ) (j : ℕ) (x : Edge) where
  edge_word_other : (k : ℕ) → ((v : ℕ) → v < edge_words → k ≡ edge_part + edge_words * j + v → ⊥) → slice_index (set_edge_at s j x) k ≡ slice_index s k
  edge_word_other k off =
      let p = edge_part + edge_words * j in
      word_other (slice_set (slice_set (slice_set s (p + 0) x.source) (p + 1) x.output) (p + 2) x.target) (p + 3) x.input k (off 3 (omega arith))
      ∙ word_other (slice_set (slice_set s (p + 0) x.source) (p + 1) x.output) (p + 2) x.target k (off 2 (omega arith))
      ∙ word_other (slice_set s (p + 0) x.source) (p + 1) x.output k (off 1 (omega arith))
      ∙ word_other s (p + 0) x.source k (off 0 (omega arith))

  edge_other : (e w : ℕ) → w < edge_words → (e ≡ j → ⊥) → edge_word (set_edge_at s j x) e w ≡ edge_word s e w
  edge_other e w l h = edge_word_other (edge_part + edge_words * e + w) (λ v m. edge_apart e w j v l m (λ q. absurd (h q)))

  pub edge_kept : (e : ℕ) → (e ≡ j → ⊥) → edge_at (set_edge_at s j x) e ≡ edge_at s e
  edge_kept e h = rw (edge_other e 0 (omega arith) h, edge_other e 1 (omega arith) h, edge_other e 2 (omega arith) h, edge_other e 3 (omega arith) h) refl

  pub edge_outside : (k : ℕ) → j < edge_room → Outside k → slice_index (set_edge_at s j x) k ≡ slice_index s k
  edge_outside k l o = edge_word_other k (λ v m q. ⊎_elim (λ a. omega arith) (λ a. omega arith) o)

  pub whole_edge : Whole s → Whole (set_edge_at s j x)
  whole_edge w =
      let p = edge_part + edge_words * j in
      let s₁ = slice_set s (p + 0) x.source in
      let s₂ = slice_set s₁ (p + 1) x.output in
      let s₃ = slice_set s₂ (p + 2) x.target in
      whole_set s₃ (p + 3) x.input (whole_set s₂ (p + 2) x.target (whole_set s₁ (p + 1) x.output (whole_set s (p + 0) x.source w)))

  pub edge_here : Whole s → j < edge_room → edge_at (set_edge_at s j x) j ≡ x
  edge_here w l =
      let p = edge_part + edge_words * j in
      let s₁ = slice_set s (p + 0) x.source in
      let s₂ = slice_set s₁ (p + 1) x.output in
      let s₃ = slice_set s₂ (p + 2) x.target in
      let w₁ = whole_set s (p + 0) x.source w in
      let w₂ = whole_set s₁ (p + 1) x.output w₁ in
      let w₃ = whole_set s₂ (p + 2) x.target w₂ in
      let a = word_other s₃ (p + 3) x.input (p + 0) (λ q. omega arith) ∙ word_other s₂ (p + 2) x.target (p + 0) (λ q. omega arith)
      ∙ word_other s₁ (p + 1) x.output (p + 0) (λ q. omega arith) ∙ word_same s (p + 0) x.source w (omega arith) in
      let b = word_other s₃ (p + 3) x.input (p + 1) (λ q. omega arith) ∙ word_other s₂ (p + 2) x.target (p + 1) (λ q. omega arith) ∙ word_same s₁ (p + 1) x.output w₁ (omega arith) in
      let c = word_other s₃ (p + 3) x.input (p + 2) (λ q. omega arith) ∙ word_same s₂ (p + 2) x.target w₂ (omega arith) in
      let d = word_same s₃ (p + 3) x.input w₃ (omega arith) in
      rw (a, b, c, d) refl

pub listed_more : (f : ℕ → Edge) (n : ℕ) → listed f (n + 1) 0 ≡ listed f n 0 ++ f n ∷ []
listed_more f n = map-range_with_len_more f 0 n n (omega arith)

-- ---- edges that go
-- a fact of both ways that a turn may go
either : (P : List ℕ → ℕ → Type 0) (t : Bool) (s u : List ℕ) (j : ℕ) → P s j → P u (j + 1) → P (if t then s else u) (if t then j else j + 1)
either P true s u j p q = p
either P false s u j p q = q

module _ (goes : Edge → Bool) where
  left_whole : (n : ℕ) (s : List ℕ) (i j : ℕ) → Whole s → Whole (left_from goes s n i j)
  unfolding left_from
  left_whole zero s i j w = whole_set s 7 j w
  left_whole (suc n) s i j w =
      either (λ t k. Whole (left_from goes t n (i + 1) k)) (goes (edge_at s i)) s (set_edge_at s j (edge_at s i)) j
      (left_whole n s (i + 1) j w) (left_whole n (set_edge_at s j (edge_at s i)) (i + 1) (j + 1) (whole_edge s j (edge_at s i) w))

  -- the words of no edge, but for their count
  left_other : (n : ℕ) (s : List ℕ) (i j k : ℕ) → j ≤ i → i + n ≤ edge_room → (k ≡ 7 → ⊥) → Outside k → slice_index (left_from goes s n i j) k ≡ slice_index s k
  unfolding left_from
  left_other zero s i j k g l h o = word_other s 7 j k h
  left_other (suc n) s i j k g l h o =
      either (λ t m. slice_index (left_from goes t n (i + 1) m) k ≡ slice_index s k) (goes (edge_at s i)) s (set_edge_at s j (edge_at s i)) j
      (left_other n s (i + 1) j k (omega arith) (omega arith) h o)
      (left_other n (set_edge_at s j (edge_at s i)) (i + 1) (j + 1) k (omega arith) (omega arith) h o ∙ edge_outside s j (edge_at s i) k (omega arith) o)

  left_few : (n : ℕ) (s : List ℕ) (i j : ℕ) → Whole s → edge_count (left_from goes s n i j) ≤ j + n
  unfolding left_from
  left_few zero s i j w = let e = word_same s 7 j w (omega arith) in omega arith
  left_few (suc n) s i j w =
      either (λ t m. edge_count (left_from goes t n (i + 1) m) ≤ j + suc n) (goes (edge_at s i)) s (set_edge_at s j (edge_at s i)) j
      (let a = left_few n s (i + 1) j w in omega arith)
      (let a = left_few n (set_edge_at s j (edge_at s i)) (i + 1) (j + 1) (whole_edge s j (edge_at s i) w) in omega arith)

  -- the j edges that are left already, and those of the n from i on that do not go
  left_edges : (n : ℕ) (s : List ℕ) (i j : ℕ) → Whole s → j ≤ i → i + n ≤ edge_room
      → edges_of (left_from goes s n i j) ≡ listed (edge_at s) j 0 ++ filter (λ e. not (goes e)) (listed (edge_at s) n i)
  unfolding left_from edges_of
  left_edges zero s i j w h l =
      let c : slice_index (slice_set s 7 j) 7 ≡ j = word_same s 7 j w (omega arith) in
      let other : (e v : ℕ) → slice_index (slice_set s 7 j) (edge_part + edge_words * e + v) ≡ slice_index s (edge_part + edge_words * e + v) =
      λ e v. word_other s 7 j (edge_part + edge_words * e + v) (λ q. omega arith) in
      let same : (e : ℕ) → edge_at (slice_set s 7 j) e ≡ edge_at s e = λ e. rw (other e 0, other e 1, other e 2, other e 3) refl in
      ap (λ (k : ℕ). listed (edge_at (slice_set s 7 j)) k 0) c ∙ listed_ext (edge_at (slice_set s 7 j)) (edge_at s) j 0 (λ e m. same (0 + e)) ∙ sym (append-nil (listed (edge_at s) j 0))
  left_edges (suc n) s i j w h l =
      at (goes (edge_at s i))
      (left_edges n s (i + 1) j w (omega arith) (omega arith))
      (left_edges n s' (i + 1) (j + 1) (whole_edge s j (edge_at s i) w) (omega arith) (omega arith)
      ∙ ap (λ (k : List Edge). k ++ filter f (listed (edge_at s') n (i + 1)))
      (listed_more (edge_at s') j ∙ ap (λ (k : List Edge). k ++ edge_at s' j ∷ []) (listed_ext (edge_at s') (edge_at s) j 0 (λ e m. edge_kept s j (edge_at s i) (0 + e) (λ q. omega arith)))
      ∙ ap (λ (x : Edge). listed (edge_at s) j 0 ++ x ∷ []) (edge_here s j (edge_at s i) w (omega arith)))
      ∙ ap (λ (k : List Edge). (listed (edge_at s) j 0 ++ edge_at s i ∷ []) ++ filter f k)
      (listed_ext (edge_at s') (edge_at s) n (i + 1) (λ e m. edge_kept s j (edge_at s i) (i + 1 + e) (λ q. omega arith)))
      ∙ append_assoc (listed (edge_at s) j 0) (edge_at s i ∷ []) (filter f (listed (edge_at s) n (i + 1))))
    where
      s' : List ℕ
      s' = set_edge_at s j (edge_at s i)

      f : Edge → Bool
      f e = not (goes e)

      at : (t : Bool) → edges_of (left_from goes s n (i + 1) j) ≡ listed (edge_at s) j 0 ++ filter f (listed (edge_at s) n (i + 1))
          → edges_of (left_from goes (set_edge_at s j (edge_at s i)) n (i + 1) (j + 1)) ≡ listed (edge_at s) j 0 ++ edge_at s i ∷ filter f (listed (edge_at s) n (i + 1))
          → edges_of (left_from goes (if t then s else set_edge_at s j (edge_at s i)) n (i + 1) (if t then j else j + 1))
          ≡ listed (edge_at s) j 0 ++ cond (not t) (edge_at s i ∷ filter f (listed (edge_at s) n (i + 1))) (filter f (listed (edge_at s) n (i + 1)))
      at true p q = p
      at false p q = q

  module _ (s : List ℕ) (w : Whole s) where
    pub whole_left : Whole (edges_left goes s)
    unfolding edges_left
    whole_left = left_whole (edge_count s) s 0 0 w

    pub few_left : edge_count (edges_left goes s) ≤ edge_count s
    unfolding edges_left
    few_left = let a = left_few (edge_count s) s 0 0 w in omega arith

    pub edges_of-left : edge_count s ≤ edge_room → edges_of (edges_left goes s) ≡ filter (λ e. not (goes e)) (edges_of s)
    unfolding edges_left edges_of
    edges_of-left l = left_edges (edge_count s) s 0 0 w (omega arith) (omega arith)

  pub word-left : (s : List ℕ) (k : ℕ) → edge_count s ≤ edge_room → (k ≡ 7 → ⊥) → Outside k → slice_index (edges_left goes s) k ≡ slice_index s k
  unfolding edges_left
  word-left s k l h o = left_other (edge_count s) s 0 0 k (omega arith) (omega arith) h o
