-- What each edit of the edges leaves, as the state shows it.
use Rattle.std.proofs.Common.{◌≡◌, refl, ap, ◌∙◌, ℕ, ◌+◌, ◌*◌, ◌<◌, ◌≤◌, Bool, true, false, not, if◌then◌else◌, List, [], ◌∷◌, ◌++◌, ◌==◌, filter, slice_index, inl, inr, arith}
use Rattle.tally.proofs.Lists.{listed_ext}
use Rattle.layout.specs.Sizes.{Whole, id_room, edge_room, edge_part, edge_words, node_part, node_words}
use Rattle.layout.specs.Header.{edge_count, muted_length, is_dirty, set_dirty, set_edge_count}
use Rattle.layout.specs.Edge.{edge_at, edge_word, set_edge_at}
use Rattle.layout.specs.Views.{edges_of}
use Rattle.layout.specs.declared.edge.Edge.{Edge}
use Rattle.layout.proofs.Words.{word_same, word_other, whole_set, flag_read, flag_same, flag_word, flag_whole}
use Rattle.pool.specs.Rows.{Held}
use Rattle.layout.specs.declared.index.Below.{Below}
use Rattle.nodes.specs.declared.edges.Gone.{Gone}
use Rattle.nodes.specs.declared.edges.Gone.TheVariants.{From, Into}
use Rattle.nodes.specs.Edges.{takes, edge_added, is_edge, edges_left, dirty_if_muted, edge_removed, out_cleared, into_cleared}
use Rattle.nodes.specs.Kept.{ButEdges}
use Rattle.nodes.proofs.Frames.{run_like, lists_like, edges_like, node_like, rows_like, cap_like, held_like}
use Rattle.nodes.proofs.EdgeWords.{Outside, edge_kept, edge_outside, edge_here, whole_edge, listed_more, whole_left, few_left, edges_of-left, word-left}

-- the words that no edit of the edges writes
abbrev pub Unwritten : List ℕ → List ℕ → Type 0
Unwritten s t = (k : ℕ) → (k ≡ 2 → ⊥) → (k ≡ 7 → ⊥) → Outside k → slice_index t k ≡ slice_index s k

module _ (s t : List ℕ) (w : Whole s → Whole t) (h : Unwritten s t) where
  pub but_edges : ButEdges s t
  but_edges = record {
    run = run_like s t w (λ i a b. h i (omega arith) (omega arith) (inl (omega arith))) (λ i a b. h i (omega arith) (omega arith) (inl (omega arith)));
    lists = lists_like s t (h 5 (omega arith) (omega arith) (inl (omega arith))) (h 6 (omega arith) (omega arith) (inl (omega arith))) (λ i a b. h i (omega arith) (omega arith) (inl (omega arith)));
    nodes = λ id l. node_like s t id (λ i a b. h i (omega arith) (omega arith) (inl (omega arith)));
    rows = rows_like s t (λ i a. h i (omega arith) (omega arith) (inr a));
  }

  pub edges_held : Held s → Held t
  edges_held g =
      let at : (i : ℕ) → (i ≡ 2 → ⊥) → (i ≡ 7 → ⊥) → i < edge_part → slice_index t i ≡ slice_index s i = λ i a b l. h i a b (inl l) in
      held_like s t g (w g.whole) (at 1 (omega arith) (omega arith) (omega arith)) but_edges.rows
      (λ r l. cap_like s t (at 0 (omega arith) (omega arith) (omega arith)) r l
      (λ id m e. (
        flag_read s t (node_part + node_words * id + 0) (at (node_part + node_words * id + 0) (omega arith) (omega arith) (omega arith)),
        at (node_part + node_words * id + 1) (omega arith) (omega arith) (omega arith),
        at (node_part + node_words * id + 2) (omega arith) (omega arith) (omega arith),
      )))

-- ---- an edge added
module _ (s : List ℕ) (x : Edge) (l : edge_count s < edge_room) where
  added_words : Unwritten s (edge_added s x)
  unfolding edge_added
  added_words k a b o =
      flag_word (set_edge_count (set_edge_at s (edge_count s) x) (edge_count s + 1)) 2 true k a
      ∙ word_other (set_edge_at s (edge_count s) x) 7 (edge_count s + 1) k b ∙ edge_outside s (edge_count s) x k l o

  added_whole : Whole s → Whole (edge_added s x)
  unfolding edge_added
  added_whole w = flag_whole (set_edge_count (set_edge_at s (edge_count s) x) (edge_count s + 1)) 2 true (whole_set (set_edge_at s (edge_count s) x) 7 (edge_count s + 1) (whole_edge s (edge_count s) x w))

  pub edge_added_but : ButEdges s (edge_added s x)
  edge_added_but = but_edges s (edge_added s x) added_whole added_words

  pub edge_added_held : Held s → Held (edge_added s x)
  edge_added_held = edges_held s (edge_added s x) added_whole added_words

  pub edge_added_count : Whole s → edge_count (edge_added s x) ≡ edge_count s + 1
  unfolding edge_added
  edge_added_count w =
      flag_word (set_edge_count (set_edge_at s (edge_count s) x) (edge_count s + 1)) 2 true 7 (λ q. omega arith)
      ∙ word_same (set_edge_at s (edge_count s) x) 7 (edge_count s + 1) (whole_edge s (edge_count s) x w) (omega arith)

  pub edge_added_dirty : Whole s → is_dirty (edge_added s x) ≡ true
  unfolding edge_added
  edge_added_dirty w =
      flag_same (set_edge_count (set_edge_at s (edge_count s) x) (edge_count s + 1)) 2 true
      (whole_set (set_edge_at s (edge_count s) x) 7 (edge_count s + 1) (whole_edge s (edge_count s) x w)) (omega arith)

  -- the edges are those that were, and the added one last
  added_at : (e v : ℕ) → slice_index (edge_added s x) (edge_part + edge_words * e + v) ≡ edge_word (set_edge_at s (edge_count s) x) e v
  unfolding edge_added
  added_at e v =
      flag_word (set_edge_count (set_edge_at s (edge_count s) x) (edge_count s + 1)) 2 true (edge_part + edge_words * e + v) (λ q. omega arith)
      ∙ word_other (set_edge_at s (edge_count s) x) 7 (edge_count s + 1) (edge_part + edge_words * e + v) (λ q. omega arith)

  added_edge : (e : ℕ) → edge_at (edge_added s x) e ≡ edge_at (set_edge_at s (edge_count s) x) e
  added_edge e = rw (added_at e 0, added_at e 1, added_at e 2, added_at e 3) refl

  pub edge_added_edges : Whole s → edges_of (edge_added s x) ≡ edges_of s ++ x ∷ []
  unfolding edges_of
  edge_added_edges w =
      let n = edge_count s in
      rw (edge_added_count w)
      (listed_more (edge_at (edge_added s x)) n
      ∙ rw (added_edge n ∙ edge_here s n x w l)
      (ap (λ (k : List Edge). k ++ x ∷ []) (listed_ext (edge_at (edge_added s x)) (edge_at s) n 0 (λ e m. added_edge (0 + e) ∙ edge_kept s n x (0 + e) (λ q. omega arith)))))

-- ---- edges that go
module _ (goes : Edge → Bool) (s : List ℕ) (l : edge_count s ≤ edge_room) where
  left_words : Unwritten s (edges_left goes s)
  left_words k a b o = word-left goes s k l b o

  pub left_but : ButEdges s (edges_left goes s)
  left_but = but_edges s (edges_left goes s) (whole_left goes s) left_words

  pub left_held : Held s → Held (edges_left goes s)
  left_held = edges_held s (edges_left goes s) (whole_left goes s) left_words

  pub left_dirty : is_dirty (edges_left goes s) ≡ is_dirty s
  left_dirty = flag_read s (edges_left goes s) 2 (word-left goes s 2 l (λ q. omega arith) (inl (omega arith)))

-- ---- every edge equal to one removed
module _ (s : List ℕ) where
  dirtied_word : (k : ℕ) → (k ≡ 2 → ⊥) → slice_index (dirty_if_muted s) k ≡ slice_index s k
  unfolding dirty_if_muted
  dirtied_word k a = go (muted_length s == 0)
    where
      go : (b : Bool) → slice_index (if b then s else set_dirty s true) k ≡ slice_index s k
      go true = refl
      go false = flag_word s 2 true k a

  dirtied_whole : Whole s → Whole (dirty_if_muted s)
  unfolding dirty_if_muted
  dirtied_whole w = go (muted_length s == 0)
    where
      go : (b : Bool) → Whole (if b then s else set_dirty s true)
      go true = w
      go false = flag_whole s 2 true w

  dirtied_dirty : Whole s → is_dirty (dirty_if_muted s) ≡ (if muted_length s == 0 then is_dirty s else true)
  unfolding dirty_if_muted
  dirtied_dirty w = go (muted_length s == 0)
    where
      go : (b : Bool) → is_dirty (if b then s else set_dirty s true) ≡ (if b then is_dirty s else true)
      go true = refl
      go false = flag_same s 2 true w (omega arith)

  dirtied_edges : edge_count s ≤ edge_room → edges_of (dirty_if_muted s) ≡ edges_of s
  dirtied_edges = edges_like s (dirty_if_muted s) (dirtied_word 7 (λ q. omega arith)) (λ i a b. dirtied_word i (λ q. omega arith))

module _ (s : List ℕ) (x : Edge) (l : edge_count s ≤ edge_room) where
  removed_words : Unwritten s (edge_removed s x)
  unfolding edge_removed
  removed_words k a b o = dirtied_word (edges_left (is_edge x) s) k a ∙ left_words (is_edge x) s l k a b o

  removed_whole : Whole s → Whole (edge_removed s x)
  unfolding edge_removed
  removed_whole w = dirtied_whole (edges_left (is_edge x) s) (whole_left (is_edge x) s w)

  pub edge_removed_but : ButEdges s (edge_removed s x)
  edge_removed_but = but_edges s (edge_removed s x) removed_whole removed_words

  pub edge_removed_held : Held s → Held (edge_removed s x)
  edge_removed_held = edges_held s (edge_removed s x) removed_whole removed_words

  pub edge_removed_edges : Whole s → edges_of (edge_removed s x) ≡ filter (λ e. not (is_edge x e)) (edges_of s)
  unfolding edge_removed
  edge_removed_edges w =
      let f = few_left (is_edge x) s w in
      dirtied_edges (edges_left (is_edge x) s) (omega arith) ∙ edges_of-left (is_edge x) s w l

  pub edge_removed_dirty : Whole s → is_dirty (edge_removed s x) ≡ (if muted_length s == 0 then is_dirty s else true)
  unfolding edge_removed
  edge_removed_dirty w =
      let m : muted_length (edges_left (is_edge x) s) ≡ muted_length s = word-left (is_edge x) s 6 l (λ q. omega arith) (inl (omega arith)) in
      dirtied_dirty (edges_left (is_edge x) s) (whole_left (is_edge x) s w) ∙ rw (m, left_dirty (is_edge x) s l) refl

-- ---- a node's edges
module _ (s : List ℕ) (id : ℕ) (l : edge_count s ≤ edge_room) where
  pub out_cleared_edges : Whole s → edges_of (out_cleared s id) ≡ filter (λ e. not (e.source == id)) (edges_of s)
  unfolding out_cleared
  out_cleared_edges w = edges_of-left (λ e. e.source == id) s w l

  pub out_cleared_but : ButEdges s (out_cleared s id)
  unfolding out_cleared
  out_cleared_but = left_but (λ e. e.source == id) s l

  pub out_cleared_held : Held s → Held (out_cleared s id)
  unfolding out_cleared
  out_cleared_held = left_held (λ e. e.source == id) s l

  pub out_cleared_dirty : is_dirty (out_cleared s id) ≡ is_dirty s
  unfolding out_cleared
  out_cleared_dirty = left_dirty (λ e. e.source == id) s l

  pub out_cleared_few : Whole s → edge_count (out_cleared s id) ≤ edge_room
  unfolding out_cleared
  out_cleared_few w = let f = few_left (λ e. e.source == id) s w in omega arith

  pub into_cleared_edges : Whole s → edges_of (into_cleared s id) ≡ filter (λ e. not (e.target == id)) (edges_of s)
  unfolding into_cleared
  into_cleared_edges w = edges_of-left (λ e. e.target == id) s w l

  pub into_cleared_but : ButEdges s (into_cleared s id)
  unfolding into_cleared
  into_cleared_but = left_but (λ e. e.target == id) s l

  pub into_cleared_held : Held s → Held (into_cleared s id)
  unfolding into_cleared
  into_cleared_held = left_held (λ e. e.target == id) s l

  pub into_cleared_dirty : is_dirty (into_cleared s id) ≡ is_dirty s
  unfolding into_cleared
  into_cleared_dirty = left_dirty (λ e. e.target == id) s l

  pub into_cleared_few : Whole s → edge_count (into_cleared s id) ≤ edge_room
  unfolding into_cleared
  into_cleared_few w = let f = few_left (λ e. e.target == id) s w in omega arith

-- ---- the same of the state that a function leaves
module _ (s t : List ℕ) (l : edge_count s ≤ edge_room) where
  pub gone_but : (g : Gone) → t ≡ edges_left (takes g) s → ButEdges s t
  gone_but g e = rw e (left_but (takes g) s l)

  pub gone_held : (g : Gone) → t ≡ edges_left (takes g) s → Held s → Held t
  gone_held g e h = rw e (left_held (takes g) s l h)

  pub gone_dirty : (g : Gone) → t ≡ edges_left (takes g) s → is_dirty t ≡ is_dirty s
  gone_dirty g e = rw e (left_dirty (takes g) s l)

  pub gone_out : (id : Below id_room) → t ≡ edges_left (takes (From id)) s → Whole s → edges_of t ≡ filter (λ e. not (e.source == id.index)) (edges_of s)
  unfolding takes
  gone_out id e w = rw e (edges_of-left (λ e. e.source == id.index) s w l)

  pub gone_into : (id : Below id_room) → t ≡ edges_left (takes (Into id)) s → Whole s → edges_of t ≡ filter (λ e. not (e.target == id.index)) (edges_of s)
  unfolding takes
  gone_into id e w = rw e (edges_of-left (λ e. e.target == id.index) s w l)

pub ruleset adding_edge = (edge_added_edges, edge_added_dirty, edge_added_but, edge_added_held)

pub ruleset removing_edge = (edge_removed_edges, edge_removed_dirty, edge_removed_but, edge_removed_held)

pub ruleset clearing_out = (gone_out, gone_dirty, gone_but, gone_held)

pub ruleset clearing_into = (gone_into, gone_dirty, gone_but, gone_held)
