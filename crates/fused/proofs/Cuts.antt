-- Where a product and a summand are cut, nothing is lost that the rounding would see.
use Rattle.std.proofs.Common.{◌≡◌, sym, ap, ◌∙◌, subst, inl, inr, ℕ, suc, ◌+◌, ◌-◌, ◌*◌, ◌^◌, ◌≤◌, ◌<◌, mul_assoc, mul-le-mul_right, lt_of_lt_of_le, pow-add, pow_mono, shl_lt, arith}
use Rattle.fused.specs.Steps.{IsLevel}
use Rattle.std.proofs.lemmas.Bool.{cases_lt}
use Rattle.fused.proofs.Rounding.{pow_eq, pow_swap}
use Rattle.fused.proofs.Sums.{Agree, agree, agree_swap, Fines, fines_exact, fines_low, fines_first, fines_second}

module _ (p i m j h : ℕ) (l : IsLevel i j h) (P : p < 2 ^ 48) (M : m < 2 ^ 24) (big : 0 < i → 2 ^ 23 ≤ p) (lead : 149 < j → 2 ^ 23 ≤ m) where
  at_level : (x k : ℕ) → h ≤ k → x * 2 ^ (k - h) * 2 ^ h ≡ x * 2 ^ k
  at_level x k g = mul_assoc x (2 ^ (k - h)) (2 ^ h) ∙ ap (λ (z : ℕ). x * z) (sym (pow-add 2 (k - h) h) ∙ pow_eq (omega arith))

  below_level : (x w k b : ℕ) → x < 2 ^ w → w + k ≤ b → x * 2 ^ k < 2 ^ b
  below_level x w k b u v = lt_of_lt_of_le (shl_lt w k u) (pow_mono v)

  above_level : (x k b : ℕ) → 2 ^ 23 ≤ x → 23 + k ≡ suc b → 2 * 2 ^ b ≤ x * 2 ^ k
  above_level x k b u v = subst (λ (z : ℕ). z ≤ x * 2 ^ k) (pow_swap 23 k 1 b (omega arith)) (mul-le-mul_right (2 ^ k) u)

  pub same_sum : Agree (p * 2 ^ i) (m * 2 ^ j) h
  same_sum = elim (cases_lt i h) [
    | inr a ↦ subst (λ (z : ℕ). Agree z (m * 2 ^ j) h) (at_level p i a) (agree (p * 2 ^ (i - h)) (m * 2 ^ j) h)
    | inl b ↦ (let e = l.second b in agree_swap (m * 2 ^ j) (p * 2 ^ i) h (subst (λ (z : ℕ). Agree z (p * 2 ^ i) h) (at_level m j (omega arith)) (agree (m * 2 ^ (j - h)) (p * 2 ^ i) h)))
  ]

  pub fine_sum : Fines (p * 2 ^ i) (m * 2 ^ j) h
  fine_sum = elim (cases_lt i h) [
    | inr a ↦ (elim (cases_lt j h) [
      | inr c ↦ subst (λ (z : ℕ). Fines z (m * 2 ^ j) h) (at_level p i a) (subst (λ (z : ℕ). Fines (p * 2 ^ (i - h) * 2 ^ h) z h) (at_level m j c) (fines_exact (p * 2 ^ (i - h)) (m * 2 ^ (j - h)) h))
      | inl d ↦
          (let e = l.first d in
          fines_first (p * 2 ^ i) (m * 2 ^ j) h (2 ^ (35 + h)) (pow_mono {i = 25 + h} {j = 35 + h} (omega arith)) (above_level p i (35 + h) (big (omega arith)) (omega arith)) (below_level m 24 j (35 + h) M (omega arith)))
    ])
    | inl b ↦ (elim (cases_lt h 149) [
      | inr c ↦
          (let e = l.second b in
          fines_second (p * 2 ^ i) (m * 2 ^ j) h (2 ^ (59 + h)) (pow_mono {i = 25 + h} {j = 59 + h} (omega arith)) (above_level m j (59 + h) (lead (omega arith)) (omega arith)) (below_level p 48 i (59 + h) P (omega arith)))
      | inl c ↦ fines_low (p * 2 ^ i) (m * 2 ^ j) h c
    ])
  ]

  pub room_first : p * 2 ^ (i - h) < 2 ^ 61
  room_first = (let n = l.near in below_level p 48 (i - h) 61 P (omega arith))

  pub room_second : m * 2 ^ (j - h) < 2 ^ 61
  room_second = (let n = l.close in below_level m 24 (j - h) 61 M (omega arith))
