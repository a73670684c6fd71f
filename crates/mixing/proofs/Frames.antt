-- Frames read by way of the slots of the first six channels.
use Rattle.std.proofs.Common.{◌≡◌, refl, ℕ, ◌<◌, List, length, map, slice_index, Bool, arith}
use Rattle.std.specs.List.{range_with_len}
use Rattle.std.specs.Float.Ieee.{Float}
use Rattle.std.proofs.lemmas.List.FromFn.{get_or-map-range_with_len}
use Rattle.layout.specs.Sizes.{row_room}
use Rattle.pool.specs.Pool.{Mem, Sound, slot_of, sample}
use Rattle.mixing.specs.Moves.{slot_at}
use Rattle.mixing.specs.Mixing.{frame_of}
use Rattle.mixing.proofs.Moving.{slot_at_in}

pub six_inside : (m : Mem) (r k : ℕ) → Sound m → r < row_room → k < 6 → slice_index (map (slot_at m.state r) (range_with_len 0 6)) k < length m.pool
six_inside m r k s l p = rw (get_or-map-range_with_len (slot_at m.state r) 0 6 k k 0 p (omega arith), s.slots) (slot_at_in m.state r k s.held l)

pub frame_six : (s : List ℕ) (p : List (List Float)) (r i : ℕ) (six : Bool)
    → frame_of six (λ c. sample (slot_of p (slice_index (map (slot_at s r) (range_with_len 0 6)) c)) i) ≡ frame_of six (λ c. sample (slot_of p (slot_at s r c)) i)
unfolding frame_of
frame_six s p r i six = refl
