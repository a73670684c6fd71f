-- What is read back once edges are cleared and the lists are stored.
use Rattle.std.proofs.Common.{◌≡◌, refl, sym, ap, ◌∙◌, ℕ, zero, suc, ◌+◌, ◌*◌, ◌<◌, ◌≤◌, Bool, true, false, cond, if◌then◌else◌, not, List, [], ◌∷◌, ◌++◌, ◌==◌, filter, slice_index, slice_set, arith, ◌⊎◌, inl, ⊎_elim}
use Rattle.std.proofs.lemmas.List.{append_assoc, append-nil}
use Rattle.std.proofs.lemmas.List.FromFn.{map-range_with_len_more}
use Rattle.tally.specs.Listed.{listed, passing}
use Rattle.tally.proofs.Lists.{listed_ext}
use Rattle.layout.specs.Sizes.{Whole, id_room, edge_room, node_part, node_words, edge_part, edge_words, holder_part}
use Rattle.layout.specs.Header.{edge_count}
use Rattle.layout.specs.Edge.{edge_word, edge_at, set_edge_at}
use Rattle.layout.specs.Node.{is_present, is_breaker}
use Rattle.layout.specs.Views.{edges_of, present_of, breakers_of}
use Rattle.layout.specs.declared.edge.Edge.{Edge}
use Rattle.layout.proofs.Words.{word_same, word_other, whole_set, flag_read, edge_apart}
use Rattle.ordering.specs.Order.{cleared}
use Rattle.ordering.specs.State.{graph_of, clear_from, clear}

-- ---- one edge stored
edge_other : (s : List ℕ) (j : ℕ) (x : Edge) (e w : ℕ) → w < edge_words → (e ≡ j → ⊥) → edge_word (set_edge_at s j x) e w ≡ edge_word s e w
edge_other s j x e w l h =
    let at = edge_part + edge_words * e + w in
    let p = edge_part + edge_words * j in
    let off : (v : ℕ) → v < edge_words → at ≡ p + v → ⊥ = λ v m. edge_apart e w j v l m (λ q. absurd (h q)) in
    word_other (slice_set (slice_set (slice_set s (p + 0) x.source) (p + 1) x.output) (p + 2) x.target) (p + 3) x.input at (off 3 (omega arith))
    ∙ word_other (slice_set (slice_set s (p + 0) x.source) (p + 1) x.output) (p + 2) x.target at (off 2 (omega arith))
    ∙ word_other (slice_set s (p + 0) x.source) (p + 1) x.output at (off 1 (omega arith))
    ∙ word_other s (p + 0) x.source at (off 0 (omega arith))

edge_kept : (s : List ℕ) (j : ℕ) (x : Edge) (e : ℕ) → (e ≡ j → ⊥) → edge_at (set_edge_at s j x) e ≡ edge_at s e
edge_kept s j x e h =
    rw (edge_other s j x e 0 (omega arith) h, edge_other s j x e 1 (omega arith) h, edge_other s j x e 2 (omega arith) h, edge_other s j x e 3 (omega arith) h) refl

whole_edge : (s : List ℕ) (j : ℕ) (x : Edge) → Whole s → Whole (set_edge_at s j x)
whole_edge s j x w =
    let p = edge_part + edge_words * j in
    let s₁ = slice_set s (p + 0) x.source in
    let s₂ = slice_set s₁ (p + 1) x.output in
    let s₃ = slice_set s₂ (p + 2) x.target in
    whole_set s₃ (p + 3) x.input (whole_set s₂ (p + 2) x.target (whole_set s₁ (p + 1) x.output (whole_set s (p + 0) x.source w)))

edge_here : (s : List ℕ) (j : ℕ) (x : Edge) → Whole s → j < edge_room → edge_at (set_edge_at s j x) j ≡ x
edge_here s j x w l =
    let p = edge_part + edge_words * j in
    let s₁ = slice_set s (p + 0) x.source in
    let s₂ = slice_set s₁ (p + 1) x.output in
    let s₃ = slice_set s₂ (p + 2) x.target in
    let w₁ = whole_set s (p + 0) x.source w in
    let w₂ = whole_set s₁ (p + 1) x.output w₁ in
    let w₃ = whole_set s₂ (p + 2) x.target w₂ in
    let a = word_other s₃ (p + 3) x.input (p + 0) (λ q. omega arith) ∙ word_other s₂ (p + 2) x.target (p + 0) (λ q. omega arith)
    ∙ word_other s₁ (p + 1) x.output (p + 0) (λ q. omega arith) ∙ word_same s (p + 0) x.source w (omega arith) in
    let b = word_other s₃ (p + 3) x.input (p + 1) (λ q. omega arith) ∙ word_other s₂ (p + 2) x.target (p + 1) (λ q. omega arith) ∙ word_same s₁ (p + 1) x.output w₁ (omega arith) in
    let c = word_other s₃ (p + 3) x.input (p + 2) (λ q. omega arith) ∙ word_same s₂ (p + 2) x.target w₂ (omega arith) in
    let d = word_same s₃ (p + 3) x.input w₃ (omega arith) in
    rw (a, b, c, d) refl

-- ---- clearing
clear_whole : (b n : ℕ) (s : List ℕ) (i j : ℕ) → Whole s → Whole (clear_from b s n i j)
unfolding clear_from
clear_whole b zero s i j w = whole_set s 7 j w
clear_whole b (suc n) s i j w =
    at (edge_word s i 0 == b) (clear_whole b n s (i + 1) j w) (clear_whole b n (set_edge_at s j (edge_at s i)) (i + 1) (j + 1) (whole_edge s j (edge_at s i) w))
  where
    at : (t : Bool) → Whole (clear_from b s n (i + 1) j) → Whole (clear_from b (set_edge_at s j (edge_at s i)) n (i + 1) (j + 1))
        → Whole (clear_from b (if t then s else set_edge_at s j (edge_at s i)) n (i + 1) (if t then j else j + 1))
    at true p q = p
    at false p q = q

-- the words of no edge, but for their count
clear_other : (b n : ℕ) (s : List ℕ) (i j k : ℕ) → j ≤ i → i + n ≤ edge_room → (k ≡ 7 → ⊥) → (k < edge_part) ⊎ (holder_part ≤ k)
    → slice_index (clear_from b s n i j) k ≡ slice_index s k
unfolding clear_from
clear_other b zero s i j k g l h o = word_other s 7 j k h
clear_other b (suc n) s i j k g l h o =
    at (edge_word s i 0 == b) (clear_other b n s (i + 1) j k (omega arith) (omega arith) h o)
    (clear_other b n (set_edge_at s j (edge_at s i)) (i + 1) (j + 1) k (omega arith) (omega arith) h o ∙ apart s j (edge_at s i) k (omega arith) o)
  where
    apart : (s : List ℕ) (j : ℕ) (x : Edge) (k : ℕ) → j < edge_room → (k < edge_part) ⊎ (holder_part ≤ k) → slice_index (set_edge_at s j x) k ≡ slice_index s k
    apart s j x k l o =
        let p = edge_part + edge_words * j in
        let off : (v : ℕ) → v < edge_words → k ≡ p + v → ⊥ = λ v m q. ⊎_elim (λ a. omega arith) (λ a. omega arith) o in
        word_other (slice_set (slice_set (slice_set s (p + 0) x.source) (p + 1) x.output) (p + 2) x.target) (p + 3) x.input k (off 3 (omega arith))
        ∙ word_other (slice_set (slice_set s (p + 0) x.source) (p + 1) x.output) (p + 2) x.target k (off 2 (omega arith))
        ∙ word_other (slice_set s (p + 0) x.source) (p + 1) x.output k (off 1 (omega arith))
        ∙ word_other s (p + 0) x.source k (off 0 (omega arith))

    at : (t : Bool) → slice_index (clear_from b s n (i + 1) j) k ≡ slice_index s k → slice_index (clear_from b (set_edge_at s j (edge_at s i)) n (i + 1) (j + 1)) k ≡ slice_index s k
        → slice_index (clear_from b (if t then s else set_edge_at s j (edge_at s i)) n (i + 1) (if t then j else j + 1)) k ≡ slice_index s k
    at true p q = p
    at false p q = q

listed_more : (f : ℕ → Edge) (n : ℕ) → listed f (n + 1) 0 ≡ listed f n 0 ++ f n ∷ []
listed_more f n = map-range_with_len_more f 0 n n (omega arith)

-- the j edges that are left already, and those of the n from i on that do not leave b
clear_edges : (b n : ℕ) (s : List ℕ) (i j : ℕ) → Whole s → j ≤ i → i + n ≤ edge_room
    → edges_of (clear_from b s n i j) ≡ listed (edge_at s) j 0 ++ cleared (listed (edge_at s) n i) b
unfolding clear_from edges_of cleared
clear_edges b zero s i j w h l =
    let c : slice_index (slice_set s 7 j) 7 ≡ j = word_same s 7 j w (omega arith) in
    let other : (e v : ℕ) → slice_index (slice_set s 7 j) (edge_part + edge_words * e + v) ≡ slice_index s (edge_part + edge_words * e + v) =
    λ e v. word_other s 7 j (edge_part + edge_words * e + v) (λ q. omega arith) in
    let same : (e : ℕ) → edge_at (slice_set s 7 j) e ≡ edge_at s e = λ e. rw (other e 0, other e 1, other e 2, other e 3) refl in
    ap (λ (k : ℕ). listed (edge_at (slice_set s 7 j)) k 0) c ∙ listed_ext (edge_at (slice_set s 7 j)) (edge_at s) j 0 (λ e m. same (0 + e)) ∙ sym (append-nil (listed (edge_at s) j 0))
clear_edges b (suc n) s i j w h l =
    at (edge_word s i 0 == b)
    (clear_edges b n s (i + 1) j w (omega arith) (omega arith))
    (clear_edges b n s' (i + 1) (j + 1) (whole_edge s j (edge_at s i) w) (omega arith) (omega arith)
    ∙ ap (λ (k : List Edge). k ++ filter f (listed (edge_at s') n (i + 1)))
    (listed_more (edge_at s') j ∙ ap (λ (k : List Edge). k ++ edge_at s' j ∷ []) (listed_ext (edge_at s') (edge_at s) j 0 (λ e m. edge_kept s j (edge_at s i) (0 + e) (λ q. omega arith))) ∙ ap (λ (x : Edge). listed (edge_at s) j 0 ++ x ∷ []) (edge_here s j (edge_at s i) w (omega arith)))
    ∙ ap (λ (k : List Edge). (listed (edge_at s) j 0 ++ edge_at s i ∷ []) ++ filter f k) (listed_ext (edge_at s') (edge_at s) n (i + 1) (λ e m. edge_kept s j (edge_at s i) (i + 1 + e) (λ q. omega arith)))
    ∙ append_assoc (listed (edge_at s) j 0) (edge_at s i ∷ []) (filter f (listed (edge_at s) n (i + 1))))
  where
    s' : List ℕ
    s' = set_edge_at s j (edge_at s i)

    f : Edge → Bool
    f e = not (e.source == b)

    at : (t : Bool) → edges_of (clear_from b s n (i + 1) j) ≡ listed (edge_at s) j 0 ++ filter f (listed (edge_at s) n (i + 1))
        → edges_of (clear_from b (set_edge_at s j (edge_at s i)) n (i + 1) (j + 1)) ≡ listed (edge_at s) j 0 ++ edge_at s i ∷ filter f (listed (edge_at s) n (i + 1))
        → edges_of (clear_from b (if t then s else set_edge_at s j (edge_at s i)) n (i + 1) (if t then j else j + 1))
        ≡ listed (edge_at s) j 0 ++ cond (not t) (edge_at s i ∷ filter f (listed (edge_at s) n (i + 1))) (filter f (listed (edge_at s) n (i + 1)))
    at true p q = p
    at false p q = q

pub whole_clear : (s : List ℕ) (b : ℕ) → Whole s → Whole (clear s b)
unfolding clear
whole_clear s b w = clear_whole b (edge_count s) s 0 0 w

pub edges_of-clear : (s : List ℕ) (b : ℕ) → Whole s → edge_count s ≤ edge_room → edges_of (clear s b) ≡ cleared (edges_of s) b
unfolding clear edges_of
edges_of-clear s b w l = clear_edges b (edge_count s) s 0 0 w (omega arith) (omega arith)

-- the ids with a flag, where the words of the nodes are the same
passing_same : (p q : ℕ → Bool) (n k : ℕ) → ((i : ℕ) → k ≤ i → i < k + n → p i ≡ q i) → passing p n k ≡ passing q n k
unfolding passing
passing_same p q zero k h = refl
passing_same p q (suc n) k h = rw (h k (omega arith) (omega arith), passing_same p q n (k + 1) (λ i a b. h i (omega arith) (omega arith))) refl

abbrev pub SameNodes : List ℕ → List ℕ → Type 0
SameNodes s t = (k : ℕ) → node_part ≤ k → k < edge_part → slice_index t k ≡ slice_index s k

pub same_present : (s t : List ℕ) → SameNodes s t → present_of t ≡ present_of s
unfolding present_of
same_present s t h =
    passing_same (is_present t) (is_present s) id_room 0 (λ i a b. flag_read s t (node_part + node_words * i + 0) (h (node_part + node_words * i + 0) (omega arith) (omega arith)))

pub same_breakers : (s t : List ℕ) → SameNodes s t → breakers_of t ≡ breakers_of s
unfolding breakers_of
same_breakers s t h =
    passing_same (is_breaker t) (is_breaker s) id_room 0 (λ i a b. flag_read s t (node_part + node_words * i + 7) (h (node_part + node_words * i + 7) (omega arith) (omega arith)))

pub word-clear : (s : List ℕ) (b k : ℕ) → edge_count s ≤ edge_room → (k ≡ 7 → ⊥) → (k < edge_part) ⊎ (holder_part ≤ k) → slice_index (clear s b) k ≡ slice_index s k
unfolding clear
word-clear s b k l h o = clear_other b (edge_count s) s 0 0 k (omega arith) (omega arith) h o

pub nodes-clear : (s : List ℕ) (b : ℕ) → edge_count s ≤ edge_room → SameNodes s (clear s b)
nodes-clear s b l k h m = word-clear s b k l (λ q. omega arith) (inl m)

pub graph_of-clear : (s : List ℕ) (b : ℕ) → Whole s → edge_count s ≤ edge_room → graph_of (clear s b) ≡ record (graph_of s) { edges = cleared (graph_of s).edges b }
unfolding graph_of
graph_of-clear s b w l = rw (same_present s (clear s b) (nodes-clear s b l), same_breakers s (clear s b) (nodes-clear s b l), edges_of-clear s b w l) refl
