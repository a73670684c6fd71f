-- Words for what `fused_of` gives at three finite values. The lemmas that say it are in `proofs/Words`.
use Rattle.std.specs.Prelude.{◌≡◌, ℕ, ◌-◌, ◌*◌, ◌/◌, ◌%◌, ◌^◌, ℤ, pos, neg_ℤ, nat_abs, ◌+ℤ◌, ◌-ℤ◌, ◌*ℤ◌, ◌⊎◌, Bool, true, false, if◌then◌else◌, IsTrue, Float, to_bits}
use Rattle.std.specs.Float.{nan, inf, fin, binary32, float_is_finite}
use Rattle.std.specs.Float.Ieee.{up, down}
use Rattle.std.specs.Float.Ieee as ieee

-- x is a finite value of binary32
pub record IsValue (x : Float) : Type 0 where
  pub fits : IsTrue (ieee.fits binary32 x)
  pub finite : IsTrue (float_is_finite x)

-- n, or -n where s is true
abbrev pub signed : Bool → ℕ → ℤ
signed s n = if s then neg_ℤ (pos n) else pos n

-- a value in units of 2 ^ -149, the smallest one: each value is a whole number of them
abbrev pub units_of : Float → ℤ
units_of nan = pos 0
units_of (inf s) = pos 0
units_of (fin s m e) = signed s (m * up e * 2 ^ 149 / down e)

-- x * y + z, exact, in units of 2 ^ -298
abbrev pub exact_of : Float → Float → Float → ℤ
exact_of x y z = units_of x *ℤ units_of y +ℤ units_of z *ℤ pos (2 ^ 149)

-- how far w is from x * y + z, in units of 2 ^ -298
abbrev pub error_of : Float → Float → Float → Float → ℕ
error_of x y z w = nat_abs (units_of w *ℤ pos (2 ^ 149) -ℤ exact_of x y z)

-- the last binary digit of w, which is that of its pattern, is even
abbrev pub IsEven : Float → Type 0
IsEven w = to_bits binary32 w % 2 ≡ 0

-- 2 ^ 128 - 2 ^ 103, in units of 2 ^ -298: halfway from the largest value to the power of two above it
abbrev pub overflow : ℕ
overflow = (2 ^ 128 - 2 ^ 103) * 2 ^ 298

-- x is y, but that it may be +0 where y is -0
abbrev pub SameButZero : Float → Float → Type 0
SameButZero x y = (x ≡ y) ⊎ ((y ≡ fin true 0 (pos 0)) × (x ≡ fin false 0 (pos 0)))
