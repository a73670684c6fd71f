-- The numbers that the code goes through on the way to `fused_of`. Nothing of this has to be believed.
use Rattle.std.specs.Prelude.{◌≡◌, ℕ, ◌+◌, ◌-◌, ◌*◌, ◌/◌, ◌%◌, ◌^◌, ◌≤◌, ◌<◌, ◌==◌, if◌then◌else◌, Bool, Float}
use Rattle.std.specs.Float.{Format, nan, inf, binary32}
use Rattle.std.specs.Float.Ieee.{round, sum, add, of_bits}
use Rattle.std.specs.Float.Ieee.Exact.{HasValue}
use Rattle.fused.specs.Fused.{exact_product}
use Rattle.fused.specs.declared.bits.Finite.{Finite}
use Rattle.fused.specs.declared.bits.Value.{Value}
use Rattle.fused.specs.declared.bits.Value.TheVariants.{Nan, Infinite, Number}

-- ---- the fields of a pattern b: a finite one is significand_of b * 2 ^ place_of b of the smallest values

abbrev pub field_of : ℕ → ℕ
field_of b = b % 2 ^ 31 / 2 ^ 23

abbrev pub significand_of : ℕ → ℕ
significand_of b = if field_of b == 0 then b % 2 ^ 23 else 2 ^ 23 + b % 2 ^ 23

abbrev pub place_of : ℕ → ℕ
place_of b = field_of b - 1

-- ---- values taken apart, in units of 2 ^ -low

-- the size of v, in those units
abbrev pub size_of : Finite → ℕ
size_of v = v.significand * 2 ^ v.place

-- v is x
abbrev pub StandsFor : ℕ → Float → Value → Type 0
StandsFor low x Nan = x ≡ nan
StandsFor low x (Infinite s) = x ≡ inf s
StandsFor low x (Number v) = HasValue x v.negative (size_of v) (2 ^ low)

-- v has at most so many digits, and 24 or more where it stands above the lowest place, which is that of a zero
pub record IsShort (low digits : ℕ) (v : Finite) : Type 0 where
  pub below : v.significand < 2 ^ digits
  pub leading : 0 < v.place → 2 ^ 23 ≤ v.significand
  pub near : v.place ≤ 2 * low

abbrev pub IsShortValue : ℕ → ℕ → Value → Type 0
IsShortValue low digits Nan = Unit {0}
IsShortValue low digits (Infinite s) = Unit {0}
IsShortValue low digits (Number v) = IsShort low digits v

-- r is the exact product of a and b
abbrev pub IsProduct : Value → Value → Value → Type 0
IsProduct a b r = (x y : Float) → StandsFor 149 x a → StandsFor 149 y b → StandsFor 298 (exact_product x y) r

-- r is the sum of the product p and c, rounded once
abbrev pub IsSum : Value → Value → Float → Type 0
IsSum p c r = (x z : Float) → StandsFor 298 x p → StandsFor 149 z c → r ≡ add binary32 x z

-- the sum of the product p and c, each in its units, rounded once
abbrev pub sum_of : Finite → Finite → Float
sum_of p c = sum binary32 p.negative (size_of p) c.negative (size_of c * 2 ^ 149) (2 ^ 298)

-- the nearest float to v, in units of 2 ^ -low
abbrev pub rounded_of : ℕ → Finite → Float
rounded_of low v = round binary32 v.negative (size_of v) (2 ^ low)

-- rounding r is what the sum of x and y is, whatever their unit
abbrev pub AddsUp : Finite → Finite → Finite → Type 0
AddsUp x y r = (f : Format) (unit : ℕ) → round f r.negative (size_of r) unit ≡ sum f x.negative (size_of x) y.negative (size_of y) unit

-- below a sign's bit, r is the pattern of the float nearest to n / 2 ^ 299
abbrev pub IsMagnitude : ℕ → ℕ → Type 0
IsMagnitude n r = (s : Bool) → of_bits binary32 ((if s then 2 ^ 31 else 0) + r) ≡ round binary32 s n (2 ^ 299)

-- ---- rounding to odd: n / d in halves, which is twice the quotient, and one more where there is a remainder

abbrev pub sticky : ℕ → ℕ
sticky r = if r == 0 then 0 else 1

unfoldable pub jam : ℕ → ℕ → ℕ
jam n d = 2 * (n / d) + sticky (n % d)

-- ---- places

-- r is where a product at 2 ^ i and a summand at 2 ^ j are cut: below both, or where one is cut, 13 or 37 places below the other
pub record IsLevel (i j r : ℕ) : Type 0 where
  pub near : i ≤ r + 13
  pub close : j ≤ r + 37
  pub first : j < r → r + 13 ≡ i
  pub second : i < r → r + 37 ≡ j

-- k digits of n / 2 ^ g are dropped for its leading 24 to be kept
pub record Drops (n g k : ℕ) : Type 0 where
  pub below : n < 2 ^ (24 + k + g)
  pub above : 0 < k → 2 ^ (23 + k + g) ≤ n
