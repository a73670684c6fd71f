-- What the code's shifts, masks and tests compute, in the numbers of the specification.
use Rattle.std.proofs.Common.{◌≡◌, refl, sym, ap, ◌∙◌, subst, inl, inr, ℕ, zero, suc, ◌+◌, ◌-◌, ◌*◌, ◌/◌, ◌%◌, ◌^◌, ◌≤◌, ◌<◌, mul_assoc, mul-le-mul_right, le_trans, le_of_eq, mul-one, zero-mul, lt_of_lt_of_le, lt_of_le_of_lt, eq-zero-or-pos, div-add-mod', mod-eq_of_lt, div-mul-le_self, one-mul, zero-add, add-zero, add-mul, suc-mul, mul-lt-mul_of_pos_right, lt_of_mul-lt-mul_right, arith, Bool, true, false, not, T, eqb, eqb→eq, T_not, bit_and, bit_or, pow-add, pow_pos, pow_mono, shl_lt}
use Rattle.std.proofs.Math.Dec.{eqb-suc-zero}
use Rattle.std.proofs.lemmas.Bool.{cases_lt}
use Rattle.std.specs.Int.{from_bool}
use Rattle.std.proofs.Math.Nat.{pow-succ'}
use Rattle.std.proofs.Math.Pow.{shr_le}
use Rattle.std.specs.Float.Ieee.{nearest}
use Rattle.std.specs.Float.Ieee.Fits.{eq→eqb}
use Rattle.std.specs.Float.Ieee.Nearest.{closest, closest_same}
use Prim.Native.Nat.{compare, Ordering}
use Rattle.std.proofs.lemmas.Nat.{and_mask, or_shifted}
use Rattle.std.specs.Int.Bits.{or_shifted_r}
use Rattle.fused.proofs.Jam.{Cut, jam_cut, cut_jam, jam_exact, closest_at, compare_lt, compare_eq}
use Rattle.fused.proofs.Rounding.{pow_eq, pow_lt_back}
use Rattle.fused.specs.Steps.{jam, Drops}

-- ---- a cut of m * 2 ^ i at 2 ^ h
-- nothing is cut off
pub cut_up : (m i h : ℕ) → h ≤ i → m * 2 ^ (i - h) < 2 ^ 61 → m * 2 ^ (i - h) % 2 ^ 64 * 2 % 2 ^ 64 ≡ jam (m * 2 ^ i) (2 ^ h)
cut_up m i h l u =
    let x = m * 2 ^ (i - h) in
    let e : x * 2 ^ h ≡ m * 2 ^ i = mul_assoc m (2 ^ (i - h)) (2 ^ h) ∙ ap (λ (z : ℕ). m * z) (sym (pow-add 2 (i - h) h) ∙ pow_eq (omega arith)) in
    let f : 2 * x ≡ jam (m * 2 ^ i) (2 ^ h) = sym (jam_exact x (2 ^ h) (pow_pos h)) ∙ ap (λ (z : ℕ). jam z (2 ^ h)) e in
    omega arith

-- a cut of m at 2 ^ d is one of m * 2 ^ i at 2 ^ (d + i)
cut_shift : (m d w a t k : ℕ) → 0 < k → Cut m d w a t → Cut (m * k) (d * k) w a (t * k)
cut_shift m d w a t k K c = record {
  whole = ap (λ (z : ℕ). z + t * k) (sym (mul_assoc a d k)) ∙ sym (add-mul (a * d) t k) ∙ ap (λ (z : ℕ). z * k) c.whole;
  rest = mul-lt-mul_of_pos_right c.rest K;
  none = λ e. c.none (zero_of t e);
  some = λ p. c.some (pos_of t p);
}
  where
    zero_of : (t : ℕ) → t * k ≡ 0 → t ≡ 0
    zero_of zero e = refl
    zero_of (suc t) e = (let p = suc-mul t k in omega arith)

    pos_of : (t : ℕ) → 0 < t * k → 0 < t
    pos_of zero p = (let e = zero-mul k in omega arith)
    pos_of (suc t) p = omega arith

jam_shift : (m i h : ℕ) → i ≤ h → jam m (2 ^ (h - i)) ≡ jam (m * 2 ^ i) (2 ^ h)
jam_shift m i h l =
    let d = 2 ^ (h - i) in
    cut_jam (m * 2 ^ i) (d * 2 ^ i) (jam m d) (m / d) (m % d * 2 ^ i) (cut_shift m d (jam m d) (m / d) (m % d) (2 ^ i) (pow_pos i) (jam_cut m d (pow_pos (h - i))))
    ∙ ap (λ (z : ℕ). jam (m * 2 ^ i) z) (sym (pow-add 2 (h - i) i) ∙ pow_eq (omega arith))

-- m is below 2 ^ 61 where i is below h
unshifted : (m i h b : ℕ) → i < h → m * 2 ^ (i - h) < b → m < b
unshifted m i h b l u = subst (λ (x : ℕ). x < b) (ap (λ (x : ℕ). m * 2 ^ x) z ∙ mul-one m) u
  where
    z : i - h ≡ 0
    z = omega arith

-- all of m is cut off
jam_small : (m d : ℕ) → m < 2 ^ d → (m ≡ 0 → 0 ≡ jam m (2 ^ d)) × (0 < m → 1 ≡ jam m (2 ^ d))
jam_small m d l = (
  λ e. cut_jam m (2 ^ d) 0 0 m (record { whole = z; rest = l; none = λ _. refl; some = λ p. omega arith }),
  λ p. cut_jam m (2 ^ d) 1 0 m (record { whole = z; rest = l; none = λ e. omega arith; some = λ _. refl }),
)
  where
    z : 0 * 2 ^ d + m ≡ m
    z = (let y = zero-mul (2 ^ d) in omega arith)

-- all is cut off
pub cut_far : (m i h : ℕ) → i < h → 61 < h - i → m * 2 ^ (i - h) < 2 ^ 61 → from_bool (not (eqb m 0)) ≡ jam (m * 2 ^ i) (2 ^ h)
cut_far m i h l g u = go m small ∙ jam_shift m i h (omega arith)
  where
    small : m < 2 ^ (h - i)
    small = lt_of_lt_of_le (unshifted m i h (2 ^ 61) l u) (pow_mono {i = 61} {j = h - i} (omega arith))

    go : (m : ℕ) → m < 2 ^ (h - i) → from_bool (not (eqb m 0)) ≡ jam m (2 ^ (h - i))
    go zero k = (jam_small zero (h - i) k).0 refl
    go (suc m) k = ap (λ (b : Bool). from_bool (not b)) (eqb-suc-zero m) ∙ (jam_small (suc m) (h - i) k).1 (omega arith)

-- the quotient's shift back, which does not wrap
back_is : (m d : ℕ) → m < 2 ^ 64 → m / 2 ^ d * 2 ^ d % 2 ^ 64 ≡ m / 2 ^ d * 2 ^ d
back_is m d l = mod-eq_of_lt (lt_of_le_of_lt (div-mul-le_self m (2 ^ d)) l)

-- some of it is
pub cut_near : (m i h : ℕ) → i < h → m * 2 ^ (i - h) < 2 ^ 61
    → bit_or (m / 2 ^ (h - i) * 2 % 2 ^ 64) (from_bool (not (eqb (m / 2 ^ (h - i) * 2 ^ (h - i) % 2 ^ 64) m))) ≡ jam (m * 2 ^ i) (2 ^ h)
cut_near m i h l u = go (eqb (q * 2 ^ d % 2 ^ 64) m) (eqb→eq (q * 2 ^ d % 2 ^ 64) m) (λ n e. T_not (eqb (q * 2 ^ d % 2 ^ 64) m) n (eq→eqb e)) ∙ jam_shift m i h (omega arith)
  where
    d : ℕ
    d = h - i

    q : ℕ
    q = m / 2 ^ d

    small : m < 2 ^ 61
    small = unshifted m i h (2 ^ 61) l u

    quotient : q ≤ m
    quotient = shr_le m d

    back : q * 2 ^ d % 2 ^ 64 ≡ q * 2 ^ d
    back = back_is m d (let k = small in omega arith)

    twice : q * 2 % 2 ^ 64 ≡ q * 2
    twice = (let k = small in let r = quotient in omega arith)

    at : Cut m (2 ^ d) (jam m (2 ^ d)) q (m % 2 ^ d)
    at = jam_cut m (2 ^ d) (pow_pos d)

    go : (b : Bool) → (T b → q * 2 ^ d % 2 ^ 64 ≡ m) → (T (not b) → q * 2 ^ d % 2 ^ 64 ≡ m → ⊥) → bit_or (q * 2 % 2 ^ 64) (from_bool (not b)) ≡ jam m (2 ^ d)
    go true e n =
        let s = div-add-mod' m (2 ^ d) in
        let b = back in
        let f = e tt in
        let j = at.none (omega arith) in
        ap (λ (x : ℕ). bit_or x 0) twice ∙ or_shifted q 1 0 (omega arith) ∙ (let z = j in omega arith)
    go false e n =
        let s = div-add-mod' m (2 ^ d) in
        let b = back in
        let f = n tt in
        let j = at.some (omega arith) in
        ap (λ (x : ℕ). bit_or x 1) twice ∙ or_shifted q 1 1 (omega arith) ∙ (let z = j in omega arith)

-- ---- the nearest whole number
-- a w below half of 2 ^ t
pub nearest_none : (w t : ℕ) → w < 2 ^ 63 → 63 < t → 0 ≡ closest w (2 ^ t)
nearest_none w t l g =
    let b : 2 ^ 64 ≤ 2 ^ t = pow_mono {i = 64} {j = t} g in
    sym (ap (λ (x : ℕ). closest x (2 ^ t)) (sym (ap (λ (x : ℕ). x + w) (zero-mul (2 ^ t)) ∙ zero-add w))
    ∙ closest_at 0 (2 ^ t) w (omega arith)
    ∙ ap (λ (o : Ordering). nearest 0 o) (compare_lt (w * 2) (2 ^ t) (omega arith)))

module _ (w t : ℕ) (l : w < 2 ^ 63) (p : 0 < t) (g : t ≤ 63) where
  -- the code's rest, its half, and what it answers where they are the same
  rest_is : w - w / 2 ^ t * 2 ^ t % 2 ^ 64 ≡ w % 2 ^ t
  rest_is =
      let b : w / 2 ^ t * 2 ^ t % 2 ^ 64 ≡ w / 2 ^ t * 2 ^ t = back_is w t (omega arith) in
      let s = div-add-mod' w (2 ^ t) in
      omega arith

  half_is : (1 * 2 ^ (t - 1) % 2 ^ 64 ≡ 2 ^ (t - 1)) × (2 ^ t ≡ 2 * 2 ^ (t - 1))
  half_is =
      let b : 2 ^ (t - 1) ≤ 2 ^ 63 = pow_mono {i = t - 1} {j = 63} (omega arith) in
      (omega arith, pow_eq (omega arith) ∙ pow-succ' 2 (t - 1))

  by : (o : Ordering) → compare (w % 2 ^ t * 2) (2 ^ t) ≡ o → nearest (w / 2 ^ t) o ≡ closest w (2 ^ t)
  by o e = ap (λ (x : Ordering). nearest (w / 2 ^ t) x) (sym e)

  pub nearest_tie : 1 * 2 ^ (t - 1) % 2 ^ 64 ≤ w - w / 2 ^ t * 2 ^ t % 2 ^ 64 → w - w / 2 ^ t * 2 ^ t % 2 ^ 64 ≤ 1 * 2 ^ (t - 1) % 2 ^ 64
      → w / 2 ^ t + bit_and (w / 2 ^ t) 1 ≡ closest w (2 ^ t)
  nearest_tie h k =
      let r = rest_is in
      let f = half_is in
      ap (λ (x : ℕ). w / 2 ^ t + x) (and_mask (w / 2 ^ t) 1) ∙ by Ordering.eq (compare_eq (w % 2 ^ t * 2) (2 ^ t) (omega arith))

-- ---- w * 2 ^ h / 2 ^ g
closest_exact : (x m : ℕ) → 0 < m → closest (x * m) m ≡ x
closest_exact x m h =
    ap (λ (y : ℕ). closest y m) (sym (add-zero (x * m))) ∙ closest_at x m 0 h ∙ ap (λ (o : Ordering). nearest x o) (compare_lt (0 * 2) m h)

times_ge : (w x : ℕ) → 0 < w → x ≤ w * x
times_ge w x h = le_trans (le_of_eq (sym (one-mul x))) (mul-le-mul_right x h)

-- the shift is less than a word
pub scaled_shift : (w h g : ℕ) → 0 < w → w * 2 ^ (h - g) < 2 ^ 63 → h - g < 64
scaled_shift w h g p l = (let k = pow_lt_back (h - g) 63 (lt_of_le_of_lt (times_ge w (2 ^ (h - g)) p) l) in omega arith)

-- shifted up, and down
pub scaled_up : (w h g : ℕ) → g ≤ h → w * 2 ^ (h - g) < 2 ^ 63 → w * 2 ^ (h - g) % 2 ^ 64 ≡ closest (w * 2 ^ h) (2 ^ g)
scaled_up w h g l u =
    let x = w * 2 ^ (h - g) in
    let e : x * 2 ^ g ≡ w * 2 ^ h = mul_assoc w (2 ^ (h - g)) (2 ^ g) ∙ ap (λ (z : ℕ). w * z) (sym (pow-add 2 (h - g) g) ∙ pow_eq (omega arith)) in
    mod-eq_of_lt {n = x} {m = 2 ^ 64} (omega arith) ∙ sym (closest_exact x (2 ^ g) (pow_pos g)) ∙ ap (λ (z : ℕ). closest z (2 ^ g)) e

pub scaled_down : (w h g : ℕ) → h < g → closest w (2 ^ (g - h)) ≡ closest (w * 2 ^ h) (2 ^ g)
scaled_down w h g l =
    closest_same w (2 ^ (g - h)) (w * 2 ^ h) (2 ^ g) (pow_pos (g - h)) (pow_pos g)
    (ap (λ (z : ℕ). w * z) (pow_eq (omega arith) ∙ pow-add 2 h (g - h)) ∙ sym (mul_assoc w (2 ^ h) (2 ^ (g - h))))

-- ---- how many digits are dropped: w has k + 1, and z zeros lead it in 64
pub Drops_by_zeros : (w h k z : ℕ) → 2 ^ k ≤ w → w < 2 ^ suc k → z + suc k ≡ 64 → Drops (w * 2 ^ h) 150 (64 - z + h - 174)
Drops_by_zeros w h k z lo hi e = record {
  below = lt_of_lt_of_le (shl_lt (suc k) h hi) (pow_mono (omega arith));
  above = λ p. subst (λ (x : ℕ). x ≤ w * 2 ^ h) (sym (pow_eq (omega arith) ∙ pow-add 2 k h)) (mul-le-mul_right (2 ^ h) lo);
}

-- ---- what is left is below 2 ^ 63, and so is each number on the way
module _ (w h k : ℕ) (p : 0 < w) (l : w < 2 ^ 63) (H : h < 1000) (d : Drops (w * 2 ^ h) 150 k) where
  pub k_lt : k < 1000
  k_lt = elim (eq-zero-or-pos k) [
    | inl e ↦ omega arith
    | inr g ↦ (let b = pow_lt_back (23 + k + 150) (63 + h) (lt_of_le_of_lt (d.above g) (shl_lt 63 h l)) in omega arith)
  ]

  pub magnitude_scaled : w * 2 ^ (h - (150 + k)) < 2 ^ 63
  magnitude_scaled = elim (cases_lt (150 + k) h) [
    | inl g ↦
        (let b : w * 2 ^ (h - (150 + k)) < 2 ^ 24 = lt_of_mul-lt-mul_right (2 ^ (150 + k))
        (subst (λ (x : ℕ). x < 2 ^ 24 * 2 ^ (150 + k)) (ap (λ (x : ℕ). w * x) (pow_eq (split g) ∙ pow-add 2 (h - (150 + k)) (150 + k)) ∙ sym (mul_assoc w (2 ^ (h - (150 + k))) (2 ^ (150 + k))))
        (subst (λ (x : ℕ). w * 2 ^ h < x) (pow_eq (omega arith) ∙ pow-add 2 24 (150 + k)) d.below)) in omega arith)
    | inr g ↦ subst (λ (x : ℕ). x < 2 ^ 63) (sym (ap (λ (x : ℕ). w * 2 ^ x) (flat g) ∙ mul-one w)) l
  ]
    where
      flat : h ≤ 150 + k → h - (150 + k) ≡ 0
      flat g = omega arith

      split : 150 + k < h → h ≡ h - (150 + k) + (150 + k)
      split g = omega arith

-- ---- the sign's bit set
pub with_sign : (r : ℕ) → r ≤ 255 * 2 ^ 23 → bit_or r 2147483648 ≡ 2 ^ 31 + r
with_sign r h = or_shifted_r 1 31 r (omega arith)
