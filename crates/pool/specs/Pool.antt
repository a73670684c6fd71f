-- The lent memory, state and pool, and the steps that read or write samples.
use Rattle.std.specs.Prelude.{◌≡◌, ℕ, zero, suc, ◌+◌, ◌<◌, if◌then◌else◌, List, [], map, replicate, length, slice_index_or, slice_set, ◌==◌}
use Rattle.std.specs.List.{range_with_len}
use Rattle.std.specs.Float.Ieee.{Float, add, binary32, nan, of_bits}
use Rattle.layout.specs.Sizes.{quantum}
use Rattle.layout.specs.Header.{slots_of}
use Rattle.layout.specs.Row.{holders_of, channels_of, place_of}
use Rattle.pool.specs.Rows.{Held, lowest_free_of, released, named}

pub record Mem : Type 0 where
  pub state : List ℕ
  pub pool : List (List Float)

abbrev pub mem : List ℕ → List (List Float) → Mem
mem s p = record { state = s; pool = p }

-- the samples of slot k
abbrev pub slot_of : List (List Float) → ℕ → List Float
slot_of p k = slice_index_or p k []

-- the samples of channel c of row r
abbrev pub samples_of : Mem → ℕ → ℕ → List Float
samples_of m r c = slot_of m.pool (place_of m.state r c)

-- 128 times +0.0
abbrev pub silence : List Float
silence = replicate quantum (of_bits binary32 0)

-- sample i of a slot
abbrev pub sample : List Float → ℕ → Float
sample xs i = slice_index_or xs i nan

-- a slot whose sample i is f i
unfoldable pub each_sample : (ℕ → Float) → List Float
each_sample f = map f (range_with_len 0 quantum)

-- two channels, added sample by sample
unfoldable pub plus : List Float → List Float → List Float
plus xs ys = each_sample (λ i. add binary32 (sample xs i) (sample ys i))

pub record Sound (m : Mem) : Type 0 where
  -- the state keeps the rule of the holder counts
  pub held : Held m.state
  -- the pool has the slots that the state speaks of
  pub slots : length m.pool ≡ slots_of m.state
  -- each slot has the samples of one quantum
  pub long : (k : ℕ) → k < length m.pool → length (slot_of m.pool k) ≡ quantum
  -- slot 0 is silence
  pub quiet : slot_of m.pool 0 ≡ silence

-- ---- one channel

-- channel c of row r names slot k, which nobody held, with the samples of what it named
unfoldable pub moved : Mem → ℕ → ℕ → ℕ → Mem
moved m r c k = mem (named (released m.state r c) r c k) (slice_set m.pool k (samples_of m r c))

-- channel c of row r names a slot that no other channel names, with the same samples
unfoldable pub owned : Mem → ℕ → ℕ → Mem
owned m r c = if holders_of m.state (place_of m.state r c) == 1 then m else moved m r c (lowest_free_of m.state)

-- channel c of row r, which a slot of its own holds, has samples xs
unfoldable pub rewritten : List Float → Mem → ℕ → ℕ → Mem
rewritten xs m r c = mem m.state (slice_set m.pool (place_of m.state r c) xs)

-- channel c of row r, which a slot of its own holds, plus channel d of row q
abbrev pub summed : Mem → ℕ → ℕ → ℕ → ℕ → Mem
summed m r c q d = rewritten (plus (samples_of m r c) (samples_of m q d)) m r c

-- channel c of row r plus channel d of row q: adding silence changes nothing, adding to silence names the other's slot
unfoldable pub added_channel : Mem → ℕ → ℕ → ℕ → ℕ → Mem
added_channel m r c q d =
    if place_of m.state q d == 0 then m else
    (if place_of m.state r c == 0 then mem (named m.state r c (place_of m.state q d)) m.pool else
    summed (owned m r c) r c q d)

-- ---- a row

-- channels c, c + 1, .. of row r, n in all, each with the same channel of row q added
unfoldable pub added_from : ℕ → ℕ → Mem → ℕ → ℕ → Mem
added_from r q m zero c = m
added_from r q m (suc n) c = added_from r q (added_channel m r c q c) n (c + 1)

-- row r plus row q, channel by channel
unfoldable pub added_row : Mem → ℕ → ℕ → Mem
added_row m r q = added_from r q m (channels_of m.state r) 0
