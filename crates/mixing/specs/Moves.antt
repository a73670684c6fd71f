-- Moving a row's channels to their places in a larger layout, and truncating or filling a row.
use Rattle.std.specs.Prelude.{ℕ, ◌-◌, if◌then◌else◌, nat_lt, List, [], ◌∷◌, map, replicate, slice_index, Option, Some, None}
use Rattle.layout.specs.Row.{channels_of, place_of}
use Rattle.pool.specs.Rows.{pushed, truncated}

-- the slot of channel c of row r, or silence where the row has no such channel
unfoldable pub slot_at : List ℕ → ℕ → ℕ → ℕ
slot_at s r c = if nat_lt c (channels_of s r) then place_of s r c else 0

-- row r with more channels, which name these slots
unfoldable pub pushed_all : List ℕ → ℕ → List ℕ → List ℕ
pushed_all s r [] = s
pushed_all s r (k ∷ ks) = pushed_all (pushed s r k) r ks

-- ---- moves: for each channel of the larger layout an input channel, or silence
abbrev pub one_to_two : List (Option ℕ)
one_to_two = Some 0 ∷ Some 0 ∷ []

abbrev pub one_to_four : List (Option ℕ)
one_to_four = Some 0 ∷ Some 0 ∷ None ∷ None ∷ []

abbrev pub one_to_six : List (Option ℕ)
one_to_six = None ∷ None ∷ Some 0 ∷ None ∷ None ∷ None ∷ []

abbrev pub two_to_four : List (Option ℕ)
two_to_four = Some 0 ∷ Some 1 ∷ None ∷ None ∷ []

abbrev pub two_to_six : List (Option ℕ)
two_to_six = Some 0 ∷ Some 1 ∷ None ∷ None ∷ None ∷ None ∷ []

abbrev pub four_to_five : List (Option ℕ)
four_to_five = Some 0 ∷ Some 1 ∷ None ∷ Some 2 ∷ Some 3 ∷ []

abbrev pub four_to_six : List (Option ℕ)
four_to_six = Some 0 ∷ Some 1 ∷ None ∷ None ∷ Some 2 ∷ Some 3 ∷ []

-- 6 to 4, once the first two channels are sums
abbrev pub surrounds_to_back : List (Option ℕ)
surrounds_to_back = Some 0 ∷ Some 1 ∷ Some 4 ∷ Some 5 ∷ []

-- the slot that a move takes
unfoldable pub taken : List ℕ → ℕ → Option ℕ → ℕ
taken s r None = 0
taken s r (Some c) = slot_at s r c

-- the same, of these slots
unfoldable pub picked : List ℕ → Option ℕ → ℕ
picked slots None = 0
picked slots (Some c) = slice_index slots c

-- row r with the channels that the moves take from it
unfoldable pub rearranged : List ℕ → ℕ → List (Option ℕ) → List ℕ
rearranged s r moves = pushed_all (truncated s r 0) r (map (taken s r) moves)

-- row r with n channels: the first ones, or all and then silence
unfoldable pub resized : List ℕ → ℕ → ℕ → List ℕ
resized s r n = pushed_all (truncated s r n) r (replicate (n - channels_of s r) 0)
