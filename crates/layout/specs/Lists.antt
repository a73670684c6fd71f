-- The render order and the muted list: the id at each place.
use Rattle.std.specs.Prelude.{ℕ, ◌+◌, List, slice_index, slice_set}
use Rattle.layout.specs.Sizes.{order_part, muted_part}

-- the id at place k of the order
abbrev pub order_at : List ℕ → ℕ → ℕ
order_at s k = slice_index s (order_part + k)

abbrev pub set_order_at : List ℕ → ℕ → ℕ → List ℕ
set_order_at s k id = slice_set s (order_part + k) id

-- the id at place k of the muted list
abbrev pub muted_at : List ℕ → ℕ → ℕ
muted_at s k = slice_index s (muted_part + k)

abbrev pub set_muted_at : List ℕ → ℕ → ℕ → List ℕ
set_muted_at s k id = slice_set s (muted_part + k) id
