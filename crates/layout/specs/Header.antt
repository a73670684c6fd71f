-- The header: one reader and one writer for each of its words.
use Rattle.std.specs.Prelude.{ℕ, Bool, List, slice_index, slice_set}
use Rattle.layout.specs.Sizes.{flag_at, set_flag}

-- the channel ceiling C
abbrev pub ceiling_of : List ℕ → ℕ
ceiling_of s = slice_index s 0

abbrev pub set_ceiling : List ℕ → ℕ → List ℕ
set_ceiling s v = slice_set s 0 v

-- the number of slots S
abbrev pub slots_of : List ℕ → ℕ
slots_of s = slice_index s 1

abbrev pub set_slots : List ℕ → ℕ → List ℕ
set_slots s v = slice_set s 1 v

-- the order is to be made anew
abbrev pub is_dirty : List ℕ → Bool
is_dirty s = flag_at s 2

abbrev pub set_dirty : List ℕ → Bool → List ℕ
set_dirty s v = set_flag s 2 v

-- a quantum is open
abbrev pub is_open : List ℕ → Bool
is_open s = flag_at s 3

abbrev pub set_open : List ℕ → Bool → List ℕ
set_open s v = set_flag s 3 v

-- the place in the order of the offered node
abbrev pub next_of : List ℕ → ℕ
next_of s = slice_index s 4

abbrev pub set_next : List ℕ → ℕ → List ℕ
set_next s v = slice_set s 4 v

-- how many ids the order has
abbrev pub order_length : List ℕ → ℕ
order_length s = slice_index s 5

abbrev pub set_order_length : List ℕ → ℕ → List ℕ
set_order_length s v = slice_set s 5 v

-- how many ids the muted list has
abbrev pub muted_length : List ℕ → ℕ
muted_length s = slice_index s 6

abbrev pub set_muted_length : List ℕ → ℕ → List ℕ
set_muted_length s v = slice_set s 6 v

-- how many edges are stored
abbrev pub edge_count : List ℕ → ℕ
edge_count s = slice_index s 7

abbrev pub set_edge_count : List ℕ → ℕ → List ℕ
set_edge_count s v = slice_set s 7 v
