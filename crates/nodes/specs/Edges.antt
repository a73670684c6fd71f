-- Edges that are added, and edges that go.
use Rattle.std.specs.Prelude.{ℕ, zero, suc, ◌+◌, Bool, true, false, if◌then◌else◌, List, ◌==◌}
use Rattle.layout.specs.Header.{muted_length, set_dirty, edge_count, set_edge_count}
use Rattle.layout.specs.Edge.{edge_at, set_edge_at}
use Rattle.layout.specs.declared.edge.Edge.{Edge}
use Rattle.nodes.specs.declared.edges.Gone.{Gone}
use Rattle.nodes.specs.declared.edges.Gone.TheVariants.{Equal, From, Into}

-- edge x stored after all others; the order is to be made anew
unfoldable pub edge_added : List ℕ → Edge → List ℕ
edge_added s x = set_dirty (set_edge_count (set_edge_at s (edge_count s) x) (edge_count s + 1)) true

-- two edges are equal: each number of the one is the other's
abbrev pub is_edge : Edge → Edge → Bool
is_edge x e =
    if e.source == x.source then (if e.output == x.output then (if e.target == x.target then e.input == x.input else false) else false) else false

-- whether edge e is one of those that go
unfoldable pub takes : Gone → Edge → Bool
takes (Equal x) e = is_edge x e
takes (From id) e = e.source == id.index
takes (Into id) e = e.target == id.index

-- without the edges that go, among the n from place i on; j edges are left before them
unfoldable pub left_from : (Edge → Bool) → List ℕ → ℕ → ℕ → ℕ → List ℕ
left_from goes s zero i j = set_edge_count s j
left_from goes s (suc n) i j =
    let gone = goes (edge_at s i) in
    left_from goes (if gone then s else set_edge_at s j (edge_at s i)) n (i + 1) (if gone then j else j + 1)

-- some edges go; the others keep their stored order
unfoldable pub edges_left : (Edge → Bool) → List ℕ → List ℕ
edges_left goes s = left_from goes s (edge_count s) 0 0

-- the order is to be made anew if somebody is muted
unfoldable pub dirty_if_muted : List ℕ → List ℕ
dirty_if_muted s = if muted_length s == 0 then s else set_dirty s true

-- every edge equal to x goes; the order is to be made anew if somebody is muted, whatever went
unfoldable pub edge_removed : List ℕ → Edge → List ℕ
edge_removed s x = dirty_if_muted (edges_left (is_edge x) s)

-- node id loses its edges
unfoldable pub out_cleared : List ℕ → ℕ → List ℕ
out_cleared s id = edges_left (λ e. e.source == id) s

-- the edges into node id go
unfoldable pub into_cleared : List ℕ → ℕ → List ℕ
into_cleared s id = edges_left (λ e. e.target == id) s
