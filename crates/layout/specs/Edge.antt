-- The stored edges, the oldest first: one reader and one writer for a whole edge.
use Rattle.std.specs.Prelude.{ℕ, ◌+◌, ◌*◌, ◌<◌, ◌^◌, List, slice_index, slice_set}
use Rattle.layout.specs.Sizes.{edge_part, edge_words}
use Rattle.layout.specs.declared.edge.Edge.{Edge}

-- word w of the edge at place e
abbrev pub edge_word : List ℕ → ℕ → ℕ → ℕ
edge_word s e w = slice_index s (edge_part + edge_words * e + w)

abbrev pub set_edge_word : List ℕ → ℕ → ℕ → ℕ → List ℕ
set_edge_word s e w v = slice_set s (edge_part + edge_words * e + w) v

-- the edge at place e: source, output, target, input
abbrev pub edge_at : List ℕ → ℕ → Edge
edge_at s e = record { source = edge_word s e 0; output = edge_word s e 1; target = edge_word s e 2; input = edge_word s e 3 }

abbrev pub set_edge_at : List ℕ → ℕ → Edge → List ℕ
set_edge_at s e x = set_edge_word (set_edge_word (set_edge_word (set_edge_word s e 0 x.source) e 1 x.output) e 2 x.target) e 3 x.input

-- each number of an edge fits a word
pub record Narrow (x : Edge) : Type 0 where
  pub source : x.source < 2 ^ 32
  pub output : x.output < 2 ^ 32
  pub target : x.target < 2 ^ 32
  pub input : x.input < 2 ^ 32
