-- The sums that channels of a smaller layout are made by. Every operation rounds, and the brackets say which comes first.
use Rattle.std.specs.Prelude.{Float}
use Rattle.std.specs.Float.Ieee.{add, mul, binary32, of_bits}
use Rattle.fused.specs.Fused.{fused_of}
use Rattle.mixing.specs.declared.frame.Frame.{Frame}
use Rattle.mixing.specs.declared.frame.Sum.{Sum}
use Rattle.mixing.specs.declared.frame.Sum.TheVariants.{TwoToOne, FourToOne, SixToOne, FourToLeft, FourToRight, SixToLeft, SixToRight, SixToFrontLeft, SixToFrontRight}

abbrev pub half : Float
half = of_bits binary32 0x3F000000

abbrev pub quarter : Float
quarter = of_bits binary32 0x3E800000

-- the square root of a half, as the nearest f32
abbrev pub root_half : Float
root_half = of_bits binary32 0x3F3504F3

-- a sum and a product, each rounded once
abbrev pub plus : Float → Float → Float
plus x y = add binary32 x y

abbrev pub times : Float → Float → Float
times x y = mul binary32 x y

abbrev pub sum_of : Sum → Frame → Float
sum_of TwoToOne f = times half (plus f.left f.right)
sum_of FourToOne f = times quarter (plus (plus (plus f.left f.right) f.surround_left) f.surround_right)
sum_of SixToOne f = fused_of root_half (plus f.left f.right) (fused_of half (plus f.surround_left f.surround_right) f.center)
sum_of FourToLeft f = times half (plus f.left f.surround_left)
sum_of FourToRight f = times half (plus f.right f.surround_right)
sum_of SixToLeft f = plus f.left (times root_half (plus f.center f.surround_left))
sum_of SixToRight f = plus f.right (times root_half (plus f.center f.surround_right))
sum_of SixToFrontLeft f = plus f.left (times root_half f.center)
sum_of SixToFrontRight f = plus f.right (times root_half f.center)
