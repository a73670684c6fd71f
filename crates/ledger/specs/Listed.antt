-- The order and the muted list as one list, the order first, and what the two keep together.
use Rattle.std.specs.Prelude.{◌≡◌, ◌≢◌, ℕ, ◌+◌, ◌-◌, ◌<◌, ◌⊎◌, if◌then◌else◌, List, IsTrue, nat_lt}
use Rattle.layout.specs.Sizes.{id_room}
use Rattle.layout.specs.Header.{is_open, next_of, order_length, muted_length, edge_count}
use Rattle.layout.specs.Lists.{order_at, muted_at}
use Rattle.layout.specs.Node.{is_present}
use Rattle.layout.specs.Edge.{edge_at}

-- how many ids the order and the muted list have together
abbrev pub listed_count : List ℕ → ℕ
listed_count s = order_length s + muted_length s

-- the id at place k of the two lists, the order first
abbrev pub listed_at : List ℕ → ℕ → ℕ
listed_at s k = if nat_lt k (order_length s) then order_at s k else muted_at s (k - order_length s)

-- no id stands twice in the two lists
abbrev pub AreDistinct : List ℕ → Type 0
AreDistinct s = (i j : ℕ) → i < j → j < listed_count s → listed_at s i ≢ listed_at s j

-- an id of the lists is a node's, or its node has finished in the open quantum: it stands in the order before the offered one
abbrev pub AreThere : List ℕ → Type 0
AreThere s = (k : ℕ) → k < listed_count s → IsTrue (is_present s (listed_at s k)) ⊎ (IsTrue (is_open s) × (k < next_of s))

-- every node stands in one of the two lists
abbrev pub CoverAll : List ℕ → Type 0
CoverAll s = (id : ℕ) → id < id_room → IsTrue (is_present s id) → (k : ℕ) × (k < listed_count s) × (listed_at s k ≡ id)

-- an edge between ids of the order leads to the later one
pub record LeadsOn (s : List ℕ) (e : ℕ) : Type 0 where
  pub later : (i j : ℕ) → i < order_length s → j < order_length s → order_at s i ≡ (edge_at s e).source → order_at s j ≡ (edge_at s e).target → i < j

-- no edge leads back in the order
abbrev pub RunForward : List ℕ → Type 0
RunForward s = (e : ℕ) → e < edge_count s → LeadsOn s e
