-- Rows of channel places and the slots' holder counts: the rule that they keep, and what each step makes of the state.
use Rattle.std.specs.Prelude.{◌≡◌, ℕ, zero, suc, ◌+◌, ◌-◌, ◌<◌, ◌≤◌, if◌then◌else◌, List, ◌==◌}
use Rattle.tally.specs.Tally.{tally, is}
use Rattle.layout.specs.Sizes.{Whole, slot_room, channel_room, row_room}
use Rattle.layout.specs.Header.{slots_of}
use Rattle.layout.specs.Row.{holders_of, set_holders, channels_of, set_channels, place_of, set_place, cap_of}

-- ---- the rule of the holder counts

-- how many channels of row r name slot k
unfoldable pub names_in : List ℕ → ℕ → ℕ → ℕ
names_in s k r = tally (λ c. is (place_of s r c) k) (channels_of s r)

-- how many channels of all rows name slot k
unfoldable pub names : List ℕ → ℕ → ℕ
names s k = tally (λ r. names_in s k r) row_room

pub record Held (s : List ℕ) : Type 0 where
  -- the state has its one length
  pub whole : Whole s
  -- there are no more slots than there are counts
  pub few : slots_of s ≤ slot_room
  -- every row may have all the channels that it can at once, and each of them a slot of its own above 0
  pub roomy : tally (λ r. cap_of s r) row_room < slots_of s
  -- no row may have more channels than it has places
  pub capped : (r : ℕ) → r < row_room → cap_of s r ≤ channel_room
  -- slot 0 has no count
  pub silent : holders_of s 0 ≡ 0
  -- no row has more channels than it may
  pub narrow : (r : ℕ) → r < row_room → channels_of s r ≤ cap_of s r
  -- each channel names one of the slots
  pub inside : (r c : ℕ) → r < row_room → c < channels_of s r → place_of s r c < slots_of s
  -- the count of a slot above 0 is how many channels name it
  pub counted : (k : ℕ) → 0 < k → k < slots_of s → holders_of s k ≡ names s k

-- ---- slots

-- the first of the n slots from k on that nobody holds, or k + n
unfoldable pub lowest_from : List ℕ → ℕ → ℕ → ℕ
lowest_from s zero k = k
lowest_from s (suc n) k = let rest = lowest_from s n (k + 1) in if holders_of s k == 0 then k else rest

-- the lowest slot above 0 that nobody holds, or the number of slots
unfoldable pub lowest_free_of : List ℕ → ℕ
lowest_free_of s = lowest_from s (slots_of s - 1) 1

-- slot k has a holder less; slot 0 has no count
unfoldable pub dropped : List ℕ → ℕ → List ℕ
dropped s k = if k == 0 then s else set_holders s k (holders_of s k - 1)

-- slot k has a holder more
unfoldable pub gained : List ℕ → ℕ → List ℕ
gained s k = if k == 0 then s else set_holders s k (holders_of s k + 1)

-- ---- places

-- channel c of row r names silence, and what it named has a holder less
unfoldable pub released : List ℕ → ℕ → ℕ → List ℕ
released s r c = set_place (dropped s (place_of s r c)) r c 0

-- channel c of row r, which named silence, names slot k
unfoldable pub named : List ℕ → ℕ → ℕ → ℕ → List ℕ
named s r c k = set_place (gained s k) r c k

-- ---- rows

-- row r has one more channel, silent
unfoldable pub grown : List ℕ → ℕ → List ℕ
grown s r = set_channels (set_place s r (channels_of s r) 0) r (channels_of s r + 1)

-- row r has one channel less; the last was silent
unfoldable pub shrunk : List ℕ → ℕ → List ℕ
shrunk s r = set_channels s r (channels_of s r - 1)

-- row r without its last channel
unfoldable pub popped : List ℕ → ℕ → List ℕ
popped s r = shrunk (released s r (channels_of s r - 1)) r

-- row r with one more channel, which names slot k
unfoldable pub pushed : List ℕ → ℕ → ℕ → List ℕ
pushed s r k = named (grown s r) r (channels_of s r) k

-- row r without its last n channels
unfoldable pub popped_by : List ℕ → ℕ → ℕ → List ℕ
popped_by s r zero = s
popped_by s r (suc n) = popped_by (popped s r) r n

-- row r with its first n channels at most
unfoldable pub truncated : List ℕ → ℕ → ℕ → List ℕ
truncated s r n = popped_by s r (channels_of s r - n)

-- row r is one silent channel
unfoldable pub cleared : List ℕ → ℕ → List ℕ
cleared s r = pushed (truncated s r 0) r 0

-- row `to` with n more channels, which name what channels c, c + 1, .. of row `from` name
unfoldable pub shared_from : ℕ → ℕ → List ℕ → ℕ → ℕ → List ℕ
shared_from from to s zero c = s
shared_from from to s (suc n) c = shared_from from to (pushed s to (place_of s from c)) n (c + 1)

-- row `to` has the channels of row `from`
unfoldable pub shared : List ℕ → ℕ → ℕ → List ℕ
shared s from to = shared_from from to (truncated s to 0) (channels_of s from) 0
