-- `round` at binary32 of a number over a power of two, by how many digits it drops; and a number that was rounded to odd far enough below rounds as the number itself.
use Rattle.std.proofs.Common.{le_trans, ◌≡◌, sym, ap, ◌∙◌, subst, ◌⊎◌, inl, inr, ℕ, zero, suc, ◌+◌, ◌-◌, ◌*◌, ◌/◌, ◌%◌, ◌^◌, ◌≤◌, ◌<◌, mul_assoc, mul-le-mul_right, mul_left_comm, mul-pos, lt_of_not-le, not-le_of_lt, lt_of_lt_of_le, lt_of_le_of_lt, div-lt_iff_lt-mul, le-div_iff_mul-le, mul-lt-mul_of_pos_right, arith, Bool, pow-add, pow_pos, pow_mono}
use Rattle.std.proofs.Math.Nat.{pow-succ'}
use Rattle.std.specs.Float.{binary32}
use Rattle.std.specs.Float.Ieee.{size, units, round}
use Rattle.std.specs.Float.Ieee.Digits.{size-lt, size-le, size_reaches}
use Rattle.std.specs.Float.Ieee.Fits.{core, nearest-le, round_is}
use Rattle.std.specs.Float.Ieee.Nearest.{closest, closest_same, nearest-ge}
use Prim.Native.Nat.{compare}
use Rattle.std.specs.Float.Ieee.Scale.{round_same}
use Rattle.fused.proofs.Jam.{jam_cut, jam_lt, jam_ge, cut_closest}
use Rattle.fused.specs.Steps.{jam, Drops}

-- ---- powers of two
pub pow_eq : {a b : ℕ} → a ≡ b → 2 ^ a ≡ 2 ^ b
pow_eq e = ap (λ (x : ℕ). 2 ^ x) e

-- 2 ^ a * 2 ^ b is 2 ^ c * 2 ^ d where the exponents add up to the same
pub pow_swap : (a b c d : ℕ) → a + b ≡ c + d → 2 ^ a * 2 ^ b ≡ 2 ^ c * 2 ^ d
pow_swap a b c d e = sym (pow-add 2 a b) ∙ pow_eq e ∙ pow-add 2 c d

-- ---- how many digits more than 24 n has
pub record HasMore (n k : ℕ) : Type 0 where
  pub under : n < 2 ^ (24 + k)
  pub reach : 0 < k → 2 ^ (23 + k) ≤ n

size_gt : (n j : ℕ) → 2 ^ j ≤ n → j < size n
size_gt n j h = lt_of_not-le (λ (g : size n ≤ j). not-le_of_lt (lt_of_lt_of_le (size-lt n) (pow_mono g)) h)

pub size_more : (n k : ℕ) → HasMore n k → size n - 24 ≡ k
size_more n zero r = (let h = size-le n (24 + 0) r.under in omega arith)
size_more n (suc k) r =
    let h = size-le n (24 + suc k) r.under in
    let l = size_gt n (23 + suc k) (r.reach (omega arith)) in
    omega arith

pub more_size : (n : ℕ) → HasMore n (size n - 24)
more_size n = record {
  under = lt_of_lt_of_le (size-lt n) (pow_mono {i = size n} {j = 24 + (size n - 24)} (omega arith));
  reach = λ h. size_reaches n (23 + (size n - 24)) (omega arith);
}

-- the same of n / 2 ^ g
pub places : (n g : ℕ) → Drops n g (size (n / 2 ^ g) - 24)
places n g =
    let k = size (n / 2 ^ g) - 24 in
    let d = more_size (n / 2 ^ g) in
    record {
      below = subst (λ (x : ℕ). n < x) (sym (pow-add 2 (24 + k) g)) ((div-lt_iff_lt-mul (pow_pos g)).0 d.under);
      above = λ h. subst (λ (x : ℕ). x ≤ n) (sym (pow-add 2 (23 + k) g)) ((le-div_iff_mul-le (pow_pos g)).0 (d.reach h));
    }

-- ---- `round`, by the digits that it drops
pub round_at : (s : Bool) (n g k : ℕ) → Drops n g k → round binary32 s n (2 ^ (149 + g)) ≡ units binary32 s (closest n (2 ^ (g + k))) k
round_at s n g k p =
    let D = pow_pos (149 + g) in
    let N = n * 2 ^ 149 in
    let hi : N < 2 ^ (24 + k) * 2 ^ (149 + g) =
    subst (λ (x : ℕ). N < x) (pow_swap (24 + k + g) 149 (24 + k) (149 + g) (omega arith)) (mul-lt-mul_of_pos_right p.below (pow_pos 149)) in
    let drop : size (N / 2 ^ (149 + g)) - 24 ≡ k =
    size_more (N / 2 ^ (149 + g)) k (record {
      under = (div-lt_iff_lt-mul D).1 hi;
      reach = λ h. (le-div_iff_mul-le D).1 (subst (λ (x : ℕ). x ≤ N) (pow_swap (23 + k + g) 149 (23 + k) (149 + g) (omega arith)) (mul-le-mul_right (2 ^ 149) (p.above h)));
    }) in
    round_is binary32 s n (2 ^ (149 + g))
    ∙ ap (λ (x : ℕ). core binary32 s N (2 ^ (149 + g)) x) drop
    ∙ ap (λ (x : ℕ). units binary32 s x k)
    (closest_same N (2 ^ (149 + g) * 2 ^ k) n (2 ^ (g + k)) (mul-pos D (pow_pos k)) (pow_pos (g + k))
    (mul_assoc n (2 ^ 149) (2 ^ (g + k)) ∙ ap (λ (x : ℕ). n * x) (pow_swap 149 (g + k) (149 + g) k (omega arith))))

-- what is kept has 24 digits, or is the next number up
module _ (n g k : ℕ) (p : Drops n g k) where
  pub kept_le : closest n (2 ^ (g + k)) ≤ 2 ^ 24
  kept_le =
      let u = 2 ^ (g + k) in
      le_trans (nearest-le (n / u) (compare (n % u * 2) u))
      ((div-lt_iff_lt-mul (pow_pos (g + k))).1 (subst (λ (x : ℕ). n < x) (pow_eq (omega arith) ∙ pow-add 2 24 (g + k)) p.below))

  pub kept_ge : 0 < k → 2 ^ 23 ≤ closest n (2 ^ (g + k))
  kept_ge h =
      let u = 2 ^ (g + k) in
      le_trans ((le-div_iff_mul-le (pow_pos (g + k))).1 (subst (λ (x : ℕ). x ≤ n) (pow_eq (omega arith) ∙ pow-add 2 23 (g + k)) (p.above h)))
      (nearest-ge (n / u) (compare (n % u * 2) u))

-- ---- n rounded to odd at 2 ^ h, where that is at most a quarter of what `round` rounds to
twice : (a h : ℕ) → 2 * 2 ^ a * 2 ^ h ≡ 2 ^ (suc a + h)
twice a h = ap (λ (x : ℕ). x * 2 ^ h) (sym (pow-succ' 2 a)) ∙ sym (pow-add 2 (suc a) h)

module _ (s : Bool) (n h j k : ℕ) (p : Drops n 149 k) (e : 149 + k ≡ h + suc j) where
  H : 0 < 2 ^ h
  H = pow_pos h

  at_h : (b : ℕ) → 2 ^ (b + k + 149) ≡ 2 ^ (b + suc j) * 2 ^ h
  at_h b = pow_eq (omega arith) ∙ pow-add 2 (b + suc j) h

  over_h : (b : ℕ) → 2 * 2 ^ (b + suc j) * 2 ^ h ≡ 2 ^ (b + k + 150)
  over_h b = twice (b + suc j) h ∙ pow_eq (omega arith)

  Drops-jam : Drops (jam n (2 ^ h) * 2 ^ h) 150 k
  Drops-jam = record {
    below = subst (λ (x : ℕ). jam n (2 ^ h) * 2 ^ h < x) (over_h 24)
        (mul-lt-mul_of_pos_right (jam_lt (2 ^ (24 + suc j)) n (2 ^ h) H (subst (λ (x : ℕ). n < x) (at_h 24) p.below)) H);
    above = λ z. subst (λ (x : ℕ). x ≤ jam n (2 ^ h) * 2 ^ h) (over_h 23)
        (mul-le-mul_right (2 ^ h) (jam_ge (2 ^ (23 + suc j)) n (2 ^ h) H (subst (λ (x : ℕ). x ≤ n) (at_h 23) (p.above z))));
  }

  closest-jam : closest n (2 ^ (149 + k)) ≡ closest (jam n (2 ^ h) * 2 ^ h) (2 ^ (150 + k))
  closest-jam =
      let w = jam n (2 ^ h) in
      let u = 2 * (2 * 2 ^ j) in
      let f : 2 ^ (150 + k) ≡ 2 ^ h * u =
      pow_eq (omega arith) ∙ pow-add 2 h (suc (suc j)) ∙ ap (λ (x : ℕ). 2 ^ h * x) (pow-succ' 2 (suc j) ∙ ap (λ (x : ℕ). 2 * x) (pow-succ' 2 j)) in
      ap (λ (x : ℕ). closest n x) (pow_eq e ∙ pow-add 2 h (suc j) ∙ ap (λ (x : ℕ). 2 ^ h * x) (pow-succ' 2 j))
      ∙ cut_closest n (2 ^ h) w (n / 2 ^ h) (n % 2 ^ h) (2 ^ j) (pow_pos j) (jam_cut n (2 ^ h) H)
      ∙ closest_same w u (w * 2 ^ h) (2 ^ (150 + k)) (let P = pow_pos j in omega arith) (pow_pos (150 + k)) (ap (λ (x : ℕ). w * x) f ∙ sym (mul_assoc w (2 ^ h) u))

  jam_far : round binary32 s n (2 ^ 298) ≡ round binary32 s (jam n (2 ^ h) * 2 ^ h) (2 ^ 299)
  jam_far = round_at s n 149 k p ∙ ap (λ (x : ℕ). units binary32 s x k) closest-jam ∙ sym (round_at s (jam n (2 ^ h) * 2 ^ h) 150 k Drops-jam)

-- n rounded to odd at 2 ^ h loses nothing, or 2 ^ h is below half of the format's smallest value, or it is small beside n
abbrev pub Fine : ℕ → ℕ → Type 0
Fine n h = (jam n (2 ^ h) * 2 ^ h ≡ 2 * n) ⊎ ((h < 149) ⊎ (2 ^ (25 + h) ≤ n))

pub pow_lt_back : (i p : ℕ) → 2 ^ i < 2 ^ p → i < p
pow_lt_back i p h = lt_of_not-le (λ (g : p ≤ i). not-le_of_lt h (pow_mono g))

pub round-jam : (s : Bool) (n h : ℕ) → Fine n h → round binary32 s n (2 ^ 298) ≡ round binary32 s (jam n (2 ^ h) * 2 ^ h) (2 ^ 299)
round-jam s n h (inl e) =
    round_same binary32 s n (2 ^ 298) (jam n (2 ^ h) * 2 ^ h) (2 ^ 299) (pow_pos 298) (pow_pos 299)
    (ap (λ (x : ℕ). n * x) (pow-succ' 2 298) ∙ mul_left_comm n 2 (2 ^ 298) ∙ sym (mul_assoc 2 n (2 ^ 298)) ∙ ap (λ (x : ℕ). x * 2 ^ 298) (sym e))
round-jam s n h (inr q) =
    let k = size (n / 2 ^ 149) - 24 in
    let p = places n 149 in
    let l : h < 149 + k = go p q in
    jam_far s n h (149 + k - suc h) k p (omega arith)
  where
    go : {k : ℕ} → Drops n 149 k → (h < 149) ⊎ (2 ^ (25 + h) ≤ n) → h < 149 + k
    go {k} p (inl l) = omega arith
    go {k} p (inr l) = (let g = pow_lt_back (25 + h) (24 + k + 149) (lt_of_le_of_lt l p.below) in omega arith)
