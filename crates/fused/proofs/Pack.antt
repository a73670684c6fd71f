-- The pattern of q * 2 ^ k of binary32's smallest values is the sign, and k * 2 ^ 23 + q below it: q's leading digit adds one to the exponent's field, and a q of 25 digits another.
-- From the infinity's pattern on it is the infinity's.
use Rattle.std.proofs.Common.{◌≡◌, refl, sym, ap, ◌∙◌, subst, ◌⊎◌, inl, inr, ℕ, suc, ◌+◌, ◌-◌, ◌*◌, ◌/◌, ◌^◌, ◌≤◌, ◌<◌, min, mul-le-mul_right, le_of_eq, le_of_lt, lt_of_le_of_lt, mul-div_cancel, eq-or-lt_of_le, zero-mul, arith, Bool, true, false, cond, ltb, lit<, pow-add, pow_pos, pow_mono, shl_lt, Float}
use Rattle.std.proofs.Math.Arith.{le→nltb}
use Rattle.std.proofs.Math.Pow.{pow-lt}
use Rattle.std.proofs.Math.Nat.{min-eq_left, min-eq_right}
use Rattle.std.proofs.lemmas.Bool.{cases_lt}
use Rattle.std.proofs.lemmas.Nat.{mul-le}
use Rattle.std.specs.Float.{nan, inf, fin, binary32}
use Rattle.std.specs.Float.Ieee.{down, size, odd, units, round, of_bits, to_bits}
use Rattle.std.specs.Float.Ieee.Bits.{of_bits-to_bits, cond_no}
use Rattle.std.specs.Float.Ieee.Exact.{HasValue, units_val}
use Rattle.std.specs.Float.Ieee.Fits.{down_pos, round-fits}
use Rattle.std.specs.Float.Ieee.Nearest.{closest}
use Rattle.fused.proofs.Rounding.{HasMore, size_more, pow_swap, round_at, kept_le, kept_ge}
use Rattle.fused.specs.Steps.{Drops}

-- ---- the pattern of a finite value, by its size in units
to_bits_is : (x : Float) (s : Bool) (n : ℕ) → HasValue x s n (2 ^ 149) → to_bits binary32 x ≡ cond s (2 ^ 31) 0 + (size n - 24) * 2 ^ 23 + n / 2 ^ (size n - 24)
unfolding to_bits
to_bits_is nan s n h = absurd h
to_bits_is (inf t) s n h = absurd h
to_bits_is (fin t m e) s n h =
    ap (λ (x : ℕ). cond t (2 ^ 31) 0 + (size x - 24) * 2 ^ 23 + x / 2 ^ (size x - 24)) (ap (λ (x : ℕ). x / down e) h.1 ∙ mul-div_cancel n (down_pos e))
    ∙ ap (λ (b : Bool). cond b (2 ^ 31) 0 + (size n - 24) * 2 ^ 23 + n / 2 ^ (size n - 24)) h.0

low_bits : (q k c : ℕ) → q ≤ 2 ^ 24 → (0 < k → 2 ^ 23 ≤ q) → c + (size (q * 2 ^ k) - 24) * 2 ^ 23 + q * 2 ^ k / 2 ^ (size (q * 2 ^ k) - 24) ≡ c + (k * 2 ^ 23 + q)
low_bits q k c h r = go (eq-or-lt_of_le h)
  where
    n : ℕ
    n = q * 2 ^ k

    at : (j p : ℕ) → HasMore n j → n / 2 ^ j ≡ p → c + j * 2 ^ 23 + p ≡ c + (k * 2 ^ 23 + q) → c + (size n - 24) * 2 ^ 23 + n / 2 ^ (size n - 24) ≡ c + (k * 2 ^ 23 + q)
    at j p d e f = ap (λ (x : ℕ). c + x * 2 ^ 23 + n / 2 ^ x) (size_more n j d) ∙ ap (λ (x : ℕ). c + j * 2 ^ 23 + x) e ∙ f

    go : (q ≡ 2 ^ 24) ⊎ (q < 2 ^ 24) → c + (size n - 24) * 2 ^ 23 + n / 2 ^ (size n - 24) ≡ c + (k * 2 ^ 23 + q)
    go (inr l) = at k q (record { under = shl_lt 24 k l; reach = λ z. subst (λ (x : ℕ). x ≤ n) (sym (pow-add 2 23 k)) (mul-le-mul_right (2 ^ k) (r z)) }) (mul-div_cancel q (pow_pos k)) (omega arith)
    go (inl e) =
        let f : n ≡ 2 ^ 23 * 2 ^ suc k = ap (λ (x : ℕ). x * 2 ^ k) e ∙ pow_swap 24 k 23 (suc k) (omega arith) in
        at (suc k) (2 ^ 23)
        (record {
          under = subst (λ (x : ℕ). x < 2 ^ (24 + suc k)) (sym f) (subst (λ (x : ℕ). x < 2 ^ (24 + suc k)) (pow-add 2 23 (suc k)) (pow-lt {i = 23 + suc k} {j = 24 + suc k} (omega arith)));
          reach = λ z. le_of_eq (pow-add 2 23 (suc k) ∙ sym f);
        })
        (ap (λ (x : ℕ). x / 2 ^ suc k) f ∙ mul-div_cancel (2 ^ 23) (pow_pos (suc k)))
        (omega arith)

pub to_bits-units : (s : Bool) (q k : ℕ) → q ≤ 2 ^ 24 → (0 < k → 2 ^ 23 ≤ q) → q * 2 ^ k < 2 ^ 277 → to_bits binary32 (units binary32 s q k) ≡ cond s (2 ^ 31) 0 + (k * 2 ^ 23 + q)
to_bits-units s q k h r l = to_bits_is (units binary32 s q k) s (q * 2 ^ k) (units_val binary32 s q k l) ∙ low_bits q k (cond s (2 ^ 31) 0) h r

-- ---- where the infinities begin
pub under_top : (q k : ℕ) → q ≤ 2 ^ 24 → (0 < k → 2 ^ 23 ≤ q) → k * 2 ^ 23 + q < 255 * 2 ^ 23 → q * 2 ^ k < 2 ^ 277
under_top q k h r m = go (eq-or-lt_of_le k_le)
  where
    k_le : k ≤ 253
    k_le = elim (cases_lt 253 k) [ inl b ↦ absurd (omega (arith, r (omega arith))) | inr a ↦ a ]

    go : (k ≡ 253) ⊎ (k < 253) → q * 2 ^ k < 2 ^ 277
    go (inl e) = subst (λ (x : ℕ). q * 2 ^ x < 2 ^ 277) (sym e) (shl_lt 24 253 (omega arith))
    go (inr l) = lt_of_le_of_lt (mul-le q (2 ^ k) (2 ^ 24) (2 ^ 252) h (pow_mono {i = k} {j = 252} (omega arith))) (lit< tt)

pub over_top : (q k : ℕ) → q ≤ 2 ^ 24 → (0 < k → 2 ^ 23 ≤ q) → 255 * 2 ^ 23 ≤ k * 2 ^ 23 + q → 2 ^ 277 ≤ q * 2 ^ k
over_top q k h r m = go (eq-or-lt_of_le k_ge)
  where
    k_ge : 253 ≤ k
    k_ge = omega arith

    go : (253 ≡ k) ⊎ (253 < k) → 2 ^ 277 ≤ q * 2 ^ k
    go (inl e) = subst (λ (x : ℕ). 2 ^ 277 ≤ q * 2 ^ x) e (mul-le-mul_right {m = 2 ^ 24} {n = q} (2 ^ 253) (omega arith))
    go (inr l) = mul-le (2 ^ 23) (2 ^ 254) q (2 ^ k) (r (omega arith)) (pow_mono l)

pub units_over : (s : Bool) (q k : ℕ) → 2 ^ 277 ≤ q * 2 ^ k → units binary32 s q k ≡ inf s
unfolding units
units_over s q k h = cond_no (ltb (q * 2 ^ k) (2 ^ 277)) (odd 25 s q k 149) (inf s) (le→nltb (q * 2 ^ k) (2 ^ 277) h)

pub infinity : (s : Bool) → of_bits binary32 (cond s (2 ^ 31) 0 + 255 * 2 ^ 23) ≡ inf s
unfolding of_bits
infinity true = refl
infinity false = refl

-- ---- the number n / 2 ^ 299, that drops k digits, rounded
module _ (n k : ℕ) (p : Drops n 150 k) where
  kept_most : closest n (2 ^ (150 + k)) ≤ 2 ^ 24
  kept_most = kept_le n 150 k p

  kept_least : 0 < k → 2 ^ 23 ≤ closest n (2 ^ (150 + k))
  kept_least = kept_ge n 150 k p

  pub pack_under : (s : Bool) → k * 2 ^ 23 + closest n (2 ^ (150 + k)) < 255 * 2 ^ 23
      → of_bits binary32 (cond s (2 ^ 31) 0 + (k * 2 ^ 23 + closest n (2 ^ (150 + k)))) ≡ round binary32 s n (2 ^ 299)
  pack_under s h =
      let q = closest n (2 ^ (150 + k)) in
      ap (of_bits binary32) (sym (ap (to_bits binary32) (round_at s n 150 k p) ∙ to_bits-units s q k kept_most kept_least (under_top q k kept_most kept_least h)))
      ∙ of_bits-to_bits binary32 (round binary32 s n (2 ^ 299)) (round-fits binary32 s n (2 ^ 299))

  pub pack_over : (s : Bool) → 255 * 2 ^ 23 ≤ k * 2 ^ 23 + closest n (2 ^ (150 + k)) → of_bits binary32 (cond s (2 ^ 31) 0 + 255 * 2 ^ 23) ≡ round binary32 s n (2 ^ 299)
  pack_over s h =
      let q = closest n (2 ^ (150 + k)) in
      infinity s ∙ sym (round_at s n 150 k p ∙ units_over s q k (over_top q k kept_most kept_least h))

  -- the code takes the lesser of the two
  pub pack : (s : Bool) → of_bits binary32 (cond s (2 ^ 31) 0 + min (k * 2 ^ 23 + closest n (2 ^ (150 + k))) (255 * 2 ^ 23)) ≡ round binary32 s n (2 ^ 299)
  pack s =
      let m = k * 2 ^ 23 + closest n (2 ^ (150 + k)) in
      elim (cases_lt m (255 * 2 ^ 23)) [
        | inl l ↦ ap (λ (x : ℕ). of_bits binary32 (cond s (2 ^ 31) 0 + x)) (min-eq_left (le_of_lt l)) ∙ pack_under s l
        | inr g ↦ ap (λ (x : ℕ). of_bits binary32 (cond s (2 ^ 31) 0 + x)) (min-eq_right g) ∙ pack_over s g
      ]

zero_is : (s : Bool) → of_bits binary32 (cond s (2 ^ 31) 0 + 0) ≡ round binary32 s 0 (2 ^ 299)
unfolding of_bits round
zero_is true = refl
zero_is false = refl

pub pack_zero : (s : Bool) (h : ℕ) → of_bits binary32 (cond s (2 ^ 31) 0 + 0) ≡ round binary32 s (0 * 2 ^ h) (2 ^ 299)
pack_zero s h = zero_is s ∙ ap (λ (x : ℕ). round binary32 s x (2 ^ 299)) (sym (zero-mul (2 ^ h)))
