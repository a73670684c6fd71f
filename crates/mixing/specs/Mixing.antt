-- Mixing a row to another number of channels, and adding a row to a row.
use Rattle.std.specs.Prelude.{ℕ, ◌+◌, ◌*◌, min, max, Bool, false, ◌&&◌, ◌||◌, if◌then◌else◌, nat_lt, nat_le, ◌==◌, List, Float}
use Rattle.std.specs.List.{list_all, range_with_len}
use Rattle.std.specs.Float.Ieee.{binary32, of_bits}
use Rattle.layout.specs.Sizes.{spare}
use Rattle.layout.specs.Row.{channels_of, place_of}
use Rattle.layout.specs.declared.setting.ChannelCountMode.{ChannelCountMode}
use Rattle.layout.specs.declared.setting.ChannelCountMode.TheVariants.{Max, ClampedMax, Explicit}
use Rattle.layout.specs.declared.setting.ChannelInterpretation.{ChannelInterpretation}
use Rattle.layout.specs.declared.setting.ChannelInterpretation.TheVariants.{Speakers, Discrete}
use Rattle.layout.specs.declared.setting.Setting.{Setting}
use Rattle.pool.specs.Rows.{truncated, shared}
use Rattle.pool.specs.Pool.{Mem, mem, slot_of, sample, each_sample, owned, rewritten, added_channel, added_row}
use Rattle.mixing.specs.declared.frame.Frame.{Frame}
use Rattle.mixing.specs.declared.frame.Sum.{Sum}
use Rattle.mixing.specs.declared.frame.Sum.TheVariants.{TwoToOne, FourToOne, SixToOne, FourToLeft, FourToRight, SixToLeft, SixToRight, SixToFrontLeft, SixToFrontRight}
use Rattle.mixing.specs.Moves.{slot_at, one_to_two, one_to_four, one_to_six, two_to_four, two_to_six, four_to_five, four_to_six, surrounds_to_back, rearranged, resized}
use Rattle.mixing.specs.Sums.{sum_of}

-- ---- sums over a row
abbrev pub silent : Float
silent = of_bits binary32 0

-- the frame whose channel c is f c: all six, or left, right and the two surrounds
unfoldable pub frame_of : Bool → (ℕ → Float) → Frame
frame_of six f =
    if six
    then record { left = f 0; right = f 1; center = f 2; lfe = f 3; surround_left = f 4; surround_right = f 5 }
    else record { left = f 0; right = f 1; center = silent; lfe = silent; surround_left = f 2; surround_right = f 3 }

-- frame i of row r
abbrev pub frame_at : Mem → ℕ → ℕ → Frame
frame_at m r i = frame_of (channels_of m.state r == 6) (λ c. sample (slot_of m.pool (slot_at m.state r c)) i)

-- what a sum makes of row r
unfoldable pub mixed_down : Mem → ℕ → Sum → List Float
mixed_down m r f = each_sample (λ i. sum_of f (frame_at m r i))

-- channel c of row r has samples xs, in a slot that no other channel names
abbrev pub written : List Float → Mem → ℕ → ℕ → Mem
written xs m r c = rewritten xs (owned m r c) r c

-- row r is one channel, a sum over it
unfoldable pub down_to_one : Mem → ℕ → Sum → Mem
down_to_one m r f = let o = written (mixed_down m r f) m r 0 in mem (truncated o.state r 1) o.pool

-- the first two channels of row r are sums over it
unfoldable pub summed_front : Mem → ℕ → Sum → Sum → Mem
summed_front m r f g = written (mixed_down m r g) (written (mixed_down m r f) m r 0) r 1

-- ---- both counts as one number
-- the number of channels that there are in the tens, the number wanted in the ones; 0 where they are not looked up
unfoldable pub pair_of : ChannelInterpretation → ℕ → ℕ → ℕ
pair_of Discrete from to = 0
pair_of Speakers from to = if nat_lt 6 from || nat_lt 6 to then 0 else 10 * from + to

-- a step that the pool has no part in
abbrev pub on_state : (List ℕ → List ℕ) → Mem → Mem
on_state f m = mem (f m.state) m.pool

-- row r with n channels, by what stands beside the number p
unfoldable pub mixed_pair : ℕ → Mem → ℕ → ℕ → Mem
mixed_pair p m r n =
    if p == 12 then on_state (λ s. rearranged s r one_to_two) m else
    (if p == 14 then on_state (λ s. rearranged s r one_to_four) m else
    (if p == 16 then on_state (λ s. rearranged s r one_to_six) m else
    (if p == 24 then on_state (λ s. rearranged s r two_to_four) m else
    (if p == 26 then on_state (λ s. rearranged s r two_to_six) m else
    (if p == 45 then on_state (λ s. rearranged s r four_to_five) m else
    (if p == 46 then on_state (λ s. rearranged s r four_to_six) m else
    (if p == 21 then down_to_one m r TwoToOne else
    (if p == 41 then down_to_one m r FourToOne else
    (if p == 61 then down_to_one m r SixToOne else
    (if p == 42 then on_state (λ s. truncated s r 2) (summed_front m r FourToLeft FourToRight) else
    (if p == 62 then on_state (λ s. truncated s r 2) (summed_front m r SixToLeft SixToRight) else
    (if p == 64 then on_state (λ s. rearranged s r surrounds_to_back) (summed_front m r SixToFrontLeft SixToFrontRight) else
    on_state (λ s. resized s r n) m))))))))))))

-- row r mixed to n channels
unfoldable pub mixed : Mem → ℕ → ℕ → ChannelInterpretation → Mem
mixed m r n how = if channels_of m.state r == n then m else mixed_pair (pair_of how (channels_of m.state r) n) m r n

-- ---- one row added to another
-- how many channels the sum has
abbrev pub target_of : ChannelCountMode → ℕ → ℕ → ℕ → ℕ
target_of Max count a b = max a b
target_of ClampedMax count a b = min (max a b) count
target_of Explicit count a b = count

-- all channels of row r name one slot
unfoldable pub names_one : List ℕ → ℕ → Bool
names_one s r = list_all (λ c. place_of s r c == place_of s r 0) (range_with_len 0 (channels_of s r))

-- they do, and they are not six channels of a slot above 0
unfoldable pub keeps_one : List ℕ → ℕ → Bool
keeps_one s r = if channels_of s r == 6 && nat_lt 0 (place_of s r 0) then false else names_one s r

-- rows r and q are added as one channel each, where the sum has n channels
unfoldable pub adds_as_one : ChannelInterpretation → ℕ → List ℕ → ℕ → ℕ → Bool
adds_as_one Discrete n s r q = false
adds_as_one Speakers n s r q = nat_le n 2 && keeps_one s r && keeps_one s q

-- channel 0 of each is kept, they are added, and the sum is mixed up
unfoldable pub added_as_one : Mem → ℕ → ℕ → ℕ → Mem
added_as_one m r q n = mixed (added_channel (on_state (λ s. truncated s r 1) m) r 0 q 0) r n Speakers

-- both are mixed, row q as a copy in the spare row, and then added channel by channel
unfoldable pub added_in_full : Mem → ℕ → ℕ → ℕ → ChannelInterpretation → Mem
added_in_full m r q n how =
    let a = mixed m r n how in
    let b = mixed (on_state (λ s. shared s q spare) a) spare n how in
    on_state (λ s. truncated s spare 0) (added_row b r spare)

-- row q added to row r, which then has n channels
unfoldable pub added_to : Mem → ℕ → ℕ → ℕ → ChannelInterpretation → Mem
added_to m r q n how = if adds_as_one how n m.state r q then added_as_one m r q n else added_in_full m r q n how

-- row q added to row r, by a setting
unfoldable pub added : Mem → ℕ → ℕ → Setting → Mem
added m r q x = added_to m r q (target_of x.mode x.count (channels_of m.state r) (channels_of m.state q)) x.interpretation
