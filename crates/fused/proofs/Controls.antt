-- `fused_of` at closed cases, beside what Rust 1.95's `f32::mul_add` gives: overflow, subnormal results, cancellation, the signs of zeros, ties that a far smaller summand breaks, infinities.
use Rattle.std.proofs.Common.{◌≡◌, refl, ℕ}
use Rattle.std.specs.Float.{nan, binary32}
use Rattle.std.specs.Float.Ieee.{add, of_bits, to_bits}
use Rattle.fused.specs.Fused.{fused_of}

-- on bit patterns
abbrev on : ℕ → ℕ → ℕ → ℕ
on a b c = to_bits binary32 (fused_of (of_bits binary32 a) (of_bits binary32 b) (of_bits binary32 c))

overflow_edge : on 0x7f7f_ffff 0x3f80_0000 0x7300_0000 ≡ 0x7f80_0000
unfolding fused_of add of_bits to_bits
overflow_edge = refl

below_overflow : on 0x7f7f_ffff 0x3f80_0000 0x72ff_ffff ≡ 0x7f7f_ffff
unfolding fused_of add of_bits to_bits
below_overflow = refl

over_inside : on 0x7f00_0000 0x4000_0000 0xff00_0000 ≡ 0x7f00_0000
unfolding fused_of add of_bits to_bits
over_inside = refl

tiny : on 0x0000_0001 0x3f00_0000 0x0000_0000 ≡ 0x0000_0000
unfolding fused_of add of_bits to_bits
tiny = refl

tiny_up : on 0x0000_0001 0x3f00_0001 0x0000_0000 ≡ 0x0000_0001
unfolding fused_of add of_bits to_bits
tiny_up = refl

tiny_odd : on 0x0000_0003 0x3f00_0000 0x0000_0000 ≡ 0x0000_0002
unfolding fused_of add of_bits to_bits
tiny_odd = refl

cancel : on 0x3f80_0001 0x3f80_0001 0xbf80_0002 ≡ 0x2880_0000
unfolding fused_of add of_bits to_bits
cancel = refl

cancel_zero : on 0x4000_0000 0x3f80_0000 0xc000_0000 ≡ 0x0000_0000
unfolding fused_of add of_bits to_bits
cancel_zero = refl

minus_zeros : on 0x8000_0000 0x3f80_0000 0x8000_0000 ≡ 0x8000_0000
unfolding fused_of add of_bits to_bits
minus_zeros = refl

mixed_zeros : on 0x8000_0000 0x3f80_0000 0x0000_0000 ≡ 0x0000_0000
unfolding fused_of add of_bits to_bits
mixed_zeros = refl

sticky : on 0x3f80_0000 0x3f80_0000 0x3380_0001 ≡ 0x3f80_0001
unfolding fused_of add of_bits to_bits
sticky = refl

half_tie : on 0x3f80_0000 0x3f80_0000 0x3380_0000 ≡ 0x3f80_0000
unfolding fused_of add of_bits to_bits
half_tie = refl

sticky_less : on 0x3f80_0000 0x3f80_0000 0xb300_0001 ≡ 0x3f7f_ffff
unfolding fused_of add of_bits to_bits
sticky_less = refl

far : on 0x3f80_0000 0x3f80_0000 0x0000_0001 ≡ 0x3f80_0000
unfolding fused_of add of_bits to_bits
far = refl

far_less : on 0x3f80_0000 0x3f80_0000 0x8000_0001 ≡ 0x3f80_0000
unfolding fused_of add of_bits to_bits
far_less = refl

far_tie : on 0x3f80_0001 0x3f80_0000 0x3380_0000 ≡ 0x3f80_0002
unfolding fused_of add of_bits to_bits
far_tie = refl

infinite_product : on 0x7f80_0000 0xbf80_0000 0x3f80_0000 ≡ 0xff80_0000
unfolding fused_of add of_bits to_bits
infinite_product = refl

same_infinities : on 0x7f80_0000 0xbf80_0000 0xff80_0000 ≡ 0xff80_0000
unfolding fused_of add of_bits to_bits
same_infinities = refl

inf_by_zero : on 0x7f80_0000 0x0000_0000 0x3f80_0000 ≡ to_bits binary32 nan
unfolding fused_of add of_bits to_bits
inf_by_zero = refl

-- 3 * (√2 / 2) - 2.12.. leaves what an unfused product loses; 2 * (√2 / 2) + 2
what_is_lost : on 0x3f35_04f3 0x4040_0000 (on 0x3f00_0000 0x0000_0000 0xc007_c3b6) ≡ 0x3380_0000
unfolding fused_of add of_bits to_bits
what_is_lost = refl

root_two : on 0x3f35_04f3 0x4000_0000 (on 0x3f00_0000 0x4000_0000 0x3f80_0000) ≡ 0x405a_827a
unfolding fused_of add of_bits to_bits
root_two = refl
