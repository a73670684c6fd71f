-- How far a rounded number is from the number: no other value of the format is nearer, and at a tie the last digit is even.
use Rattle.std.proofs.Common.{◌≡◌, sym, ap, ◌∙◌, subst, ◌⊎◌, inl, inr, ℕ, suc, ◌+◌, ◌-◌, ◌*◌, ◌/◌, ◌%◌, ◌^◌, ◌<◌, ◌≤◌, lit≤, div-add-mod', mod-lt, mul_assoc, mul-le-mul_right, le_of_eq, le_of_suc-le-suc, le_of_lt, le_trans, eq-or-lt_of_le, lt_of_lt_of_le, lt_of_le_of_lt, suc-mul, pow-add, pow_pos, pow_mono, shl_lt, arith}
use Rattle.std.proofs.lemmas.Bool.{cases_lt, cases_order}
use Rattle.std.specs.Float.Ieee.{nearest}
use Rattle.std.specs.Float.Ieee.Nearest.{closest, closest_mono}
use Prim.Native.Nat.{Ordering}
use Rattle.fused.proofs.Jam.{under, compare_lt, compare_eq, compare_gt}
use Rattle.fused.proofs.Rounding.{pow_eq, pow_swap, pow_lt_back, kept_le, kept_ge}
use Rattle.fused.specs.Steps.{Drops}

-- how far a and b are apart
abbrev pub gap : ℕ → ℕ → ℕ
gap a b = (a - b) + (b - a)

-- q * u is r below n, and c is the nearer of q and q + 1, at a tie the even one
Rounded : ℕ → ℕ → ℕ → ℕ → Type 0
Rounded u q r c = ((r * 2 ≡ u) × (c ≡ q + q % 2)) ⊎ (((r * 2 < u) × (c ≡ q)) ⊎ ((u < r * 2) × (c ≡ suc q)))

closest_rounded : (n u : ℕ) → Rounded u (n / u) (n % u) (closest n u)
unfolding Rounded
closest_rounded n u =
    let q = n / u in
    let r = n % u in
    elim (cases_order (r * 2) u) [
      | inl e ↦ inl (e, ap (λ (o : Ordering). nearest q o) (compare_eq (r * 2) u e))
      | inr (inl l) ↦ inr (inl (l, ap (λ (o : Ordering). nearest q o) (compare_lt (r * 2) u l)))
      | inr (inr g) ↦ inr (inr (g, ap (λ (o : Ordering). nearest q o) (compare_gt (r * 2) u g)))
    ]

-- so c * u is the one neighbour or the other, and the farther one only at a tie
Neighbour : ℕ → ℕ → ℕ → ℕ → Type 0
Neighbour u p r c = ((c ≡ p) × (r * 2 ≤ u)) ⊎ ((c ≡ p + u) × (u ≤ r * 2))

either : (q : ℕ) → (q + q % 2 ≡ q) ⊎ (q + q % 2 ≡ suc q)
either q = elim (cases_lt (q % 2) 1) [ inl l ↦ inl (omega arith) | inr g ↦ inr (omega arith) ]

neighbour : (u q r c : ℕ) → Rounded u q r c → Neighbour u (q * u) r (c * u)
unfolding Rounded Neighbour
neighbour u q r c (inl (e, k)) = elim (either q) [
  | inl f ↦ inl (ap (λ (x : ℕ). x * u) (k ∙ f), le_of_eq e)
  | inr f ↦ inr (ap (λ (x : ℕ). x * u) (k ∙ f) ∙ suc-mul q u, le_of_eq (sym e))
]
neighbour u q r c (inr (inl (l, k))) = inl (ap (λ (x : ℕ). x * u) k, le_of_lt l)
neighbour u q r c (inr (inr (g, k))) = inr (ap (λ (x : ℕ). x * u) k ∙ suc-mul q u, le_of_lt g)

-- a multiple of u is at most q * u, or at least the next one
apart : (q u m : ℕ) → (m * u ≤ q * u) ⊎ (q * u + u ≤ m * u)
apart q u m = elim (cases_lt q m) [ inl l ↦ inr (under q m u l) | inr g ↦ inl (mul-le-mul_right u g) ]

nearer : (n u p r k m : ℕ) → p + r ≡ n → r < u → Neighbour u p r k → (m ≤ p) ⊎ (p + u ≤ m) → gap k n ≤ gap m n
unfolding Neighbour
nearer n u p r k m e l (inl (f, h)) (inl a) = omega arith
nearer n u p r k m e l (inl (f, h)) (inr a) = omega arith
nearer n u p r k m e l (inr (f, h)) (inl a) = omega arith
nearer n u p r k m e l (inr (f, h)) (inr a) = omega arith

as_near : (n u p r k m : ℕ) → p + r ≡ n → r < u → Neighbour u p r k → (m ≤ p) ⊎ (p + u ≤ m) → gap m n ≡ gap k n → (m ≡ k → ⊥) → r * 2 ≡ u
unfolding Neighbour
as_near n u p r k m e l (inl (f, h)) (inl a) g d = omega arith
as_near n u p r k m e l (inl (f, h)) (inr a) g d = omega arith
as_near n u p r k m e l (inr (f, h)) (inl a) g d = omega arith
as_near n u p r k m e l (inr (f, h)) (inr a) g d = omega arith

even_at_tie : (u q r c : ℕ) → Rounded u q r c → r * 2 ≡ u → c % 2 ≡ 0
unfolding Rounded
even_at_tie u q r c (inl (e, k)) t = omega arith
even_at_tie u q r c (inr (inl (l, k))) t = omega arith
even_at_tie u q r c (inr (inr (g, k))) t = omega arith

pub closest_nearest : (n u m : ℕ) → 0 < u → gap (closest n u * u) n ≤ gap (m * u) n
closest_nearest n u m U =
    nearer n u (n / u * u) (n % u) (closest n u * u) (m * u) (div-add-mod' n u) (mod-lt n U) (neighbour u (n / u) (n % u) (closest n u) (closest_rounded n u)) (apart (n / u) u m)

pub closest_tie : (n u m : ℕ) → 0 < u → gap (m * u) n ≡ gap (closest n u * u) n → (m * u ≡ closest n u * u → ⊥) → closest n u % 2 ≡ 0
closest_tie n u m U g d =
    let c = closest_rounded n u in
    even_at_tie u (n / u) (n % u) (closest n u) c
    (as_near n u (n / u * u) (n % u) (closest n u * u) (m * u) (div-add-mod' n u) (mod-lt n U) (neighbour u (n / u) (n % u) (closest n u) c) (apart (n / u) u m) g d)

-- ---- among the values of the format, in units of 2 ^ -298: q * 2 ^ j, with q below 2 ^ 24, of the smallest ones
module _ (n k : ℕ) (p : Drops n 149 k) where
  abbrev c : ℕ
  c = closest n (2 ^ (149 + k))

  -- where it has fewer places than are dropped, it is below a multiple that is below n
  low : (q j : ℕ) → q < 2 ^ 24 → j < k → (q * 2 ^ j * 2 ^ 149 < 2 ^ 23 * 2 ^ (149 + k)) × (2 ^ 23 * 2 ^ (149 + k) ≤ n)
  low q j h l = (
    lt_of_lt_of_le (shl_lt (24 + j) 149 (shl_lt 24 j h)) (le_trans (pow_mono {i = 24 + j + 149} {j = 23 + (149 + k)} (omega arith)) (le_of_eq (pow-add 2 23 (149 + k)))),
    subst (λ (x : ℕ). x ≤ n) (pow_eq (omega arith) ∙ pow-add 2 23 (149 + k)) (p.above (omega arith)),
  )

  -- and else it is a multiple
  multiple : (q j : ℕ) → k ≤ j → q * 2 ^ (j - k) * 2 ^ (149 + k) ≡ q * 2 ^ j * 2 ^ 149
  multiple q j l =
      mul_assoc q (2 ^ (j - k)) (2 ^ (149 + k))
      ∙ ap (λ (x : ℕ). q * x) (pow_swap (j - k) (149 + k) j 149 (omega arith))
      ∙ sym (mul_assoc q (2 ^ j) (2 ^ 149))

  pub grid_nearest : (q j : ℕ) → q < 2 ^ 24 → gap (closest n (2 ^ (149 + k)) * 2 ^ (149 + k)) n ≤ gap (q * 2 ^ j * 2 ^ 149) n
  grid_nearest q j h = elim (cases_lt j k) [
    | inl l ↦ (let f = low q j h l in let g = closest_nearest n (2 ^ (149 + k)) (2 ^ 23) (pow_pos (149 + k)) in less (c * 2 ^ (149 + k)) (2 ^ 23 * 2 ^ (149 + k)) (q * 2 ^ j * 2 ^ 149) f.0 f.1 g)
    | inr l ↦ subst (λ (x : ℕ). gap (c * 2 ^ (149 + k)) n ≤ gap x n) (multiple q j l) (closest_nearest n (2 ^ (149 + k)) (q * 2 ^ (j - k)) (pow_pos (149 + k)))
  ]
    where
      less : (a b d : ℕ) → d < b → b ≤ n → gap a n ≤ gap b n → gap a n ≤ gap d n
      less a b d x y z = omega arith

  pub grid_tie : (q j : ℕ) → q < 2 ^ 24 → gap (q * 2 ^ j * 2 ^ 149) n ≡ gap (closest n (2 ^ (149 + k)) * 2 ^ (149 + k)) n
      → (q * 2 ^ j * 2 ^ 149 ≡ closest n (2 ^ (149 + k)) * 2 ^ (149 + k) → ⊥) → closest n (2 ^ (149 + k)) % 2 ≡ 0
  grid_tie q j h g d = elim (cases_lt j k) [
    | inl l ↦ (let f = low q j h l in let b = closest_nearest n (2 ^ (149 + k)) (2 ^ 23) (pow_pos (149 + k)) in absurd (less (c * 2 ^ (149 + k)) (2 ^ 23 * 2 ^ (149 + k)) (q * 2 ^ j * 2 ^ 149) f.0 f.1 b g))
    | inr l ↦
        (let e = multiple q j l in
        closest_tie n (2 ^ (149 + k)) (q * 2 ^ (j - k)) (pow_pos (149 + k)) (ap (λ (x : ℕ). gap x n) e ∙ g) (λ z. d (sym e ∙ z)))
  ]
    where
      less : (a b d : ℕ) → d < b → b ≤ n → gap a n ≤ gap b n → gap d n ≡ gap a n → ⊥
      less a b d x y z w = omega arith

-- ---- where the infinities begin: 2 ^ 426 - 2 ^ 401 is (2 ^ 128 - 2 ^ 103) * 2 ^ 298
module _ (n k : ℕ) (p : Drops n 149 k) where
  pub beyond : 2 ^ 426 - 2 ^ 401 ≤ n → 255 * 2 ^ 23 ≤ k * 2 ^ 23 + closest n (2 ^ (149 + k))
  beyond h = go (eq-or-lt_of_le most)
    where
      most : 253 ≤ k
      most = (let l = pow_lt_back 425 (24 + k + 149) (lt_of_le_of_lt (le_trans (lit≤ {m = 2 ^ 425} {n = 2 ^ 426 - 2 ^ 401} tt) h) p.below) in omega arith)

      half : 2 ^ 24 ≤ closest n (2 ^ 402)
      half = closest_mono (2 ^ 426 - 2 ^ 401) (2 ^ 402) n (2 ^ 402) (pow_pos 402) (pow_pos 402) (mul-le-mul_right (2 ^ 402) h)

      go : (253 ≡ k) ⊎ (253 < k) → 255 * 2 ^ 23 ≤ k * 2 ^ 23 + closest n (2 ^ (149 + k))
      go (inl e) = subst (λ (x : ℕ). 255 * 2 ^ 23 ≤ x * 2 ^ 23 + closest n (2 ^ (149 + x))) e (let g = half in omega arith)
      go (inr l) = (let g = kept_ge n 149 k p (omega arith) in omega arith)

  pub within : n < 2 ^ 426 - 2 ^ 401 → k * 2 ^ 23 + closest n (2 ^ (149 + k)) < 255 * 2 ^ 23
  within h = go (eq-or-lt_of_le most)
    where
      lower : n < 2 ^ 426
      lower = lt_of_lt_of_le h (lit≤ {m = 2 ^ 426 - 2 ^ 401} {n = 2 ^ 426} tt)

      most : k ≤ 253
      most = elim (cases_lt 253 k) [
        | inl l ↦ absurd (omega (arith, pow_lt_back (23 + k + 149) 426 (lt_of_le_of_lt (p.above (omega arith)) lower)))
        | inr g ↦ g
      ]

      largest : closest n (2 ^ 402) ≤ 2 ^ 24 - 1
      largest = closest_mono n (2 ^ 402) (2 ^ 426 - 2 ^ 401 - 1) (2 ^ 402) (pow_pos 402) (pow_pos 402) (mul-le-mul_right (2 ^ 402) (le_of_suc-le-suc h))

      go : (k ≡ 253) ⊎ (k < 253) → k * 2 ^ 23 + closest n (2 ^ (149 + k)) < 255 * 2 ^ 23
      go (inl e) = subst (λ (x : ℕ). x * 2 ^ 23 + closest n (2 ^ (149 + x)) < 255 * 2 ^ 23) (sym e) (let g = largest in omega arith)
      go (inr l) = (let g = kept_le n 149 k p in omega arith)
