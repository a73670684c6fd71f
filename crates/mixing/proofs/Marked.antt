-- Marked cases, each one computation: two of the sum of six channels to one, and two of adding on a whole state.
use Rattle.std.proofs.Common.{◌≡◌, refl, ℕ, List, ◌∷◌, false, replicate, Float}
use Rattle.std.specs.Float.{inf}
use Rattle.std.specs.Float.Ieee.{of_bits, binary32, add, mul}
use Rattle.fused.specs.Fused.{fused_of}
use Rattle.layout.specs.Sizes.{state_length, quantum}
use Rattle.layout.specs.Header.{set_slots, set_ceiling}
use Rattle.layout.specs.declared.setting.ChannelCountMode.TheVariants.{Explicit}
use Rattle.layout.specs.declared.setting.ChannelInterpretation.TheVariants.{Speakers}
use Rattle.layout.specs.declared.setting.Setting.{Setting}
use Rattle.pool.specs.Rows.{pushed, named, gained, grown, truncated, popped_by, popped, shrunk, released, dropped, shared, shared_from, lowest_from, lowest_free_of}
use Rattle.pool.specs.Pool.{Mem, mem, samples_of, each_sample, plus, added_channel, owned, moved, rewritten, added_row, added_from}
use Rattle.mixing.specs.declared.frame.Sum.TheVariants.{SixToOne}
use Rattle.mixing.specs.Sums.{sum_of}
use Rattle.mixing.specs.Moves.{slot_at, pushed_all, taken, rearranged, resized}
use Rattle.mixing.specs.Mixing.{frame_of, mixed_down, down_to_one, summed_front, pair_of, mixed_pair, mixed, names_one, keeps_one, adds_as_one, added_as_one, added_in_full, added_to, added}

abbrev pub zero : Float
zero = of_bits binary32 0

abbrev pub one : Float
one = of_bits binary32 0x3F800000

-- left 1, right 2, and a center that cancels all but the last bits
pub m8 : sum_of SixToOne (record { left = one; right = of_bits binary32 0x40000000; center = of_bits binary32 0xC007C3B6; lfe = zero; surround_left = zero; surround_right = zero }) ≡ of_bits binary32 0x33800000
unfolding fused_of add of_bits
m8 = refl

-- all but the lfe 1
pub m9 : sum_of SixToOne (record { left = one; right = one; center = one; lfe = zero; surround_left = one; surround_right = one }) ≡ of_bits binary32 0x405A827A
unfolding fused_of add of_bits
m9 = refl

-- ---- adding, on a state of four slots under a ceiling of 6
unfoldable pub start : List ℕ
start = set_slots (set_ceiling (replicate state_length 0) 6) 4

abbrev pub loud : Float
loud = of_bits binary32 0x7F000000

-- row 0 is one silent channel, row 8 has two channels of slots 1 and k
abbrev pub box : ℕ → Mem
box k = mem (pushed (pushed (pushed start 0 0) 8 1) 8 k) (replicate quantum zero ∷ replicate 3 (replicate quantum loud))

abbrev pub to_one : Setting
to_one = record { count = 1; mode = Explicit; interpretation = Speakers }

-- two channels of one slot, into silence
pub m10 : samples_of (added (box 1) 0 8 to_one) 0 0 ≡ replicate quantum loud
unfolding start pushed named gained grown truncated popped_by popped shrunk released dropped shared shared_from lowest_from lowest_free_of each_sample plus added_channel owned moved rewritten added_row added_from slot_at pushed_all taken rearranged resized frame_of mixed_down down_to_one summed_front pair_of mixed_pair mixed names_one keeps_one adds_as_one added_as_one added_in_full added_to added
m10 = refl

-- two channels of two slots, into silence
pub m11 : samples_of (added (box 2) 0 8 to_one) 0 0 ≡ replicate quantum (inf false)
unfolding start pushed named gained grown truncated popped_by popped shrunk released dropped shared shared_from lowest_from lowest_free_of each_sample plus added_channel owned moved rewritten added_row added_from slot_at pushed_all taken rearranged resized frame_of mixed_down down_to_one summed_front pair_of mixed_pair mixed names_one keeps_one adds_as_one added_as_one added_in_full added_to added add mul of_bits
m11 = refl
