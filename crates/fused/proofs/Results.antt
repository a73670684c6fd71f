-- The result of `fused_of` at three finite values: the exact number, what is dropped of it, and how far the result is from it.
use Rattle.std.proofs.Common.{◌≡◌, refl, sym, ap, ◌∙◌, subst, ◌⊎◌, inl, inr, ℕ, zero, suc, ◌+◌, ◌-◌, ◌*◌, ◌/◌, ◌%◌, ◌^◌, ◌<◌, ◌≤◌, ℤ, pos, nat_abs, ◌+ℤ◌, ◌-ℤ◌, ◌*ℤ◌, Bool, true, false, not, cond, IsTrue, T, leb, ltb, int_lt, mul_assoc, mul-pos, eq-zero-or-pos, pow-add, pow_pos, arith, Float, to_bits}
use Rattle.std.proofs.Math.Arith.{le→nltb}
use Rattle.std.proofs.lemmas.Bool.{cases_lt}
use Rattle.std.specs.Bool.{passes}
use Rattle.std.specs.Float.{nan, inf, fin, binary32, NotNan, float_is_finite}
use Rattle.std.specs.Float.Ieee.{unlike, size, round, units, fits, is_nan}
use Rattle.std.specs.Float.Ieee.Bits.{is_true, is_false}
use Rattle.std.specs.Float.Ieee.Exact.{HasValue, units_val}
use Rattle.std.specs.Float.Ieee.Fits.{add-fits}
use Rattle.std.specs.Float.Ieee.Nearest.{closest}
use Rattle.fused.specs.Fused.{exact_product, fused_of}
use Rattle.fused.specs.Steps.{significand_of, place_of, Drops}
use Rattle.fused.specs.Words.{IsValue, signed, units_of, exact_of, error_of, IsEven, overflow}
use Rattle.fused.proofs.Distances.{gap, grid_nearest, grid_tie, beyond, within}
use Rattle.fused.proofs.Exact.{exact_product_value, add_values}
use Rattle.fused.proofs.Pack.{to_bits-units, under_top, over_top, units_over}
use Rattle.fused.proofs.Patterns.{finite_is, infinite_is, significand_of-lt}
use Rattle.fused.proofs.Rounding.{pow_eq, places, round_at, kept_le, kept_ge}
use Rattle.fused.proofs.Signs.{signed-mul, signed_times, total, abs_signed, apart_like, apart_unlike, units_is}

-- ---- a value is q * 2 ^ j of the smallest ones, with q below 2 ^ 24
pub record Taken (x : Float) : Type 0 where
  pub negative : Bool
  pub digits : ℕ
  pub place : ℕ
  pub short : digits < 2 ^ 24
  pub value : HasValue x negative (digits * 2 ^ place) (2 ^ 149)

not_infinite : (x : Float) (s : Bool) → T (float_is_finite x) → x ≡ inf s → ⊥
unfolding float_is_finite
not_infinite x s f e = subst (λ (v : Float). T (float_is_finite v)) e f

not_nan : (x : Float) → T (float_is_finite x) → NotNan x
unfolding float_is_finite is_nan
not_nan nan f = absurd f
not_nan (inf s) f = tt
not_nan (fin s m e) f = tt

pub taken : (x : Float) → IsValue x → Taken x
taken x v =
    let b = to_bits binary32 x in
    let fit = passes _ v.fits in
    let finite = passes _ v.finite in
    record {
      negative = leb (2 ^ 31) b;
      digits = significand_of b;
      place = place_of b;
      short = significand_of-lt b;
      value = finite_is x fit (λ e. not_infinite x (leb (2 ^ 31) b) finite (infinite_is x fit (not_nan x finite) e));
    }

-- ---- x * y + z exactly, and what is rounded
pub record Sums (x y z : Float) : Type 0 where
  pub negative : Bool
  pub size : ℕ
  pub value : exact_of x y z ≡ signed negative size
  pub rounded : fused_of x y z ≡ round binary32 negative size (2 ^ 298)

pub sums : (x y z : Float) → IsValue x → IsValue y → IsValue z → Sums x y z
unfolding fused_of
sums x y z p q r =
    let a = taken x p in
    let b = taken y q in
    let c = taken z r in
    let A = a.digits * 2 ^ a.place in
    let B = b.digits * 2 ^ b.place in
    let C = c.digits * 2 ^ c.place in
    let s = unlike a.negative b.negative in
    let t = total s c.negative (A * B) (C * 2 ^ 149) binary32 (2 ^ 298) in
    record {
      negative = t.negative;
      size = t.size;
      value =
          ap (λ (w : ℤ). w *ℤ units_of y +ℤ units_of z *ℤ pos (2 ^ 149)) (units_is x a.negative A a.value)
          ∙ ap (λ (w : ℤ). signed a.negative A *ℤ w +ℤ units_of z *ℤ pos (2 ^ 149)) (units_is y b.negative B b.value)
          ∙ ap (λ (w : ℤ). w +ℤ units_of z *ℤ pos (2 ^ 149)) (signed-mul a.negative b.negative A B)
          ∙ ap (λ (w : ℤ). signed s (A * B) +ℤ w *ℤ pos (2 ^ 149)) (units_is z c.negative C c.value)
          ∙ ap (λ (w : ℤ). signed s (A * B) +ℤ w) (signed_times c.negative C (2 ^ 149))
          ∙ t.value;
      rounded =
          add_values binary32 (exact_product x y) z s c.negative (A * B) C (2 ^ 149) (pow_pos 149)
          (exact_product_value x y a.negative b.negative A B (2 ^ 149) (2 ^ 149) a.value b.value) c.value
          ∙ t.rounded;
    }

-- ---- the result: with k digits dropped, the nearest q at 2 ^ k of the smallest values
pub record Result (x y z : Float) (n : ℕ) (s : Bool) (k : ℕ) : Type 0 where
  pub exact : exact_of x y z ≡ signed s n
  pub drops : Drops n 149 k
  pub result : fused_of x y z ≡ units binary32 s (closest n (2 ^ (149 + k))) k

pub result_of : (x y z : Float) (t : Sums x y z) → Result x y z t.size t.negative (size (t.size / 2 ^ 149) - 24)
result_of x y z t =
    let k = size (t.size / 2 ^ 149) - 24 in
    let p = places t.size 149 in
    record { exact = t.value; drops = p; result = t.rounded ∙ round_at t.negative t.size 149 k p }

pub finite_value : (x : Float) (s : Bool) (n c : ℕ) → HasValue x s n c → float_is_finite x ≡ true
unfolding float_is_finite
finite_value nan s n c h = absurd h
finite_value (inf t) s n c h = absurd h
finite_value (fin t m e) s n c h = refl

like_or_unlike : (s t : Bool) → (t ≡ s) ⊎ (t ≡ not s)
like_or_unlike true true = inl refl
like_or_unlike true false = inr refl
like_or_unlike false true = inr refl
like_or_unlike false false = inl refl

below_zero : (s : Bool) (n : ℕ) → 0 < n → int_lt (signed s n) (pos 0) ≡ s
below_zero s zero h = absurd (omega arith)
below_zero true (suc n) h = refl
below_zero false (suc n) h = is_false (ltb (suc n) 0) (le→nltb (suc n) 0 (omega arith))

module _ (x y z : Float) (n : ℕ) (s : Bool) (k : ℕ) (r : Result x y z n s k) where
  abbrev q : ℕ
  q = closest n (2 ^ (149 + k))

  pub below_top : IsTrue (float_is_finite (fused_of x y z)) → q * 2 ^ k < 2 ^ 277
  below_top f = elim (cases_lt (q * 2 ^ k) (2 ^ 277)) [
    | inl l ↦ l
    | inr g ↦ absurd (not_infinite (fused_of x y z) s (passes _ f) (r.result ∙ units_over s q k g))
  ]

  pub has_value : q * 2 ^ k < 2 ^ 277 → HasValue (fused_of x y z) s (q * 2 ^ k) (2 ^ 149)
  has_value l = subst (λ (v : Float). HasValue v s (q * 2 ^ k) (2 ^ 149)) (sym r.result) (units_val binary32 s q k l)

  pub error_is : q * 2 ^ k < 2 ^ 277 → error_of x y z (fused_of x y z) ≡ gap (q * 2 ^ (149 + k)) n
  error_is l =
      ap (λ (w : ℤ). nat_abs (w *ℤ pos (2 ^ 149) -ℤ exact_of x y z)) (units_is (fused_of x y z) s (q * 2 ^ k) (has_value l))
      ∙ ap (λ (w : ℤ). nat_abs (w -ℤ exact_of x y z)) (signed_times s (q * 2 ^ k) (2 ^ 149))
      ∙ ap (λ (w : ℤ). nat_abs (signed s (q * 2 ^ k * 2 ^ 149) -ℤ w)) r.exact
      ∙ apart_like s (q * 2 ^ k * 2 ^ 149) n
      ∙ ap (λ (w : ℕ). gap w n) (mul_assoc q (2 ^ k) (2 ^ 149) ∙ ap (λ (w : ℕ). q * w) (sym (pow-add 2 k 149) ∙ pow_eq (omega arith)))

  -- of any value
  pub error_at : (w : Float) (t : Bool) (m : ℕ) → HasValue w t m (2 ^ 149) → error_of x y z w ≡ nat_abs (signed t (m * 2 ^ 149) -ℤ signed s n)
  error_at w t m h =
      ap (λ (v : ℤ). nat_abs (v *ℤ pos (2 ^ 149) -ℤ exact_of x y z)) (units_is w t m h)
      ∙ ap (λ (v : ℤ). nat_abs (v -ℤ exact_of x y z)) (signed_times t m (2 ^ 149))
      ∙ ap (λ (v : ℤ). nat_abs (signed t (m * 2 ^ 149) -ℤ v)) r.exact

  pub near : (t : Bool) (d j : ℕ) → d < 2 ^ 24 → gap (q * 2 ^ (149 + k)) n ≤ nat_abs (signed t (d * 2 ^ j * 2 ^ 149) -ℤ signed s n)
  near t d j h = elim (like_or_unlike s t) [
    | inl e ↦ subst (λ (v : ℕ). gap (q * 2 ^ (149 + k)) n ≤ v) (sym (ap (λ (b : Bool). nat_abs (signed b (d * 2 ^ j * 2 ^ 149) -ℤ signed s n)) e ∙ apart_like s (d * 2 ^ j * 2 ^ 149) n)) (grid_nearest n k r.drops d j h)
    | inr e ↦ subst (λ (v : ℕ). gap (q * 2 ^ (149 + k)) n ≤ v) (sym (ap (λ (b : Bool). nat_abs (signed b (d * 2 ^ j * 2 ^ 149) -ℤ signed s n)) e ∙ apart_unlike s (d * 2 ^ j * 2 ^ 149) n)) (more (q * 2 ^ (149 + k)) (d * 2 ^ j * 2 ^ 149) (grid_nearest n k r.drops 0 0 (pow_pos 24)))
  ]
    where
      more : (a b : ℕ) → gap a n ≤ gap 0 n → gap a n ≤ b + n
      more a b g = omega arith

  pub even : (t : Bool) (d j : ℕ) → d < 2 ^ 24 → nat_abs (signed t (d * 2 ^ j * 2 ^ 149) -ℤ signed s n) ≡ gap (q * 2 ^ (149 + k)) n
      → (t ≡ s → d * 2 ^ j * 2 ^ 149 ≡ q * 2 ^ (149 + k) → ⊥) → q % 2 ≡ 0
  even t d j h g u = elim (like_or_unlike s t) [
    | inl e ↦ grid_tie n k r.drops d j h (sym (ap (λ (b : Bool). nat_abs (signed b (d * 2 ^ j * 2 ^ 149) -ℤ signed s n)) e ∙ apart_like s (d * 2 ^ j * 2 ^ 149) n) ∙ g) (u e)
    | inr e ↦
        (let f : d * 2 ^ j * 2 ^ 149 + n ≡ gap (q * 2 ^ (149 + k)) n = sym (ap (λ (b : Bool). nat_abs (signed b (d * 2 ^ j * 2 ^ 149) -ℤ signed s n)) e ∙ apart_unlike s (d * 2 ^ j * 2 ^ 149) n) ∙ g in
        elim (eq-zero-or-pos q) [
          | inl z ↦ ap (λ (w : ℕ). w % 2) z
          | inr l ↦
              grid_tie n k r.drops 0 0 (pow_pos 24) (level (q * 2 ^ (149 + k)) (d * 2 ^ j * 2 ^ 149) (grid_nearest n k r.drops 0 0 (pow_pos 24)) f)
              (λ w. some (q * 2 ^ (149 + k)) (mul-pos l (pow_pos (149 + k))) w)
        ])
  ]
    where
      level : (a b : ℕ) → gap a n ≤ gap 0 n → b + n ≡ gap a n → gap 0 n ≡ gap a n
      level a b g f = omega arith

      some : (a : ℕ) → 0 < a → 0 ≡ a → ⊥
      some a l e = omega arith

  pub last_digit : q * 2 ^ k < 2 ^ 277 → q % 2 ≡ 0 → IsEven (fused_of x y z)
  last_digit l e =
      ap (λ (v : Float). to_bits binary32 v % 2) r.result
      ∙ ap (λ (v : ℕ). v % 2) (to_bits-units s q k (kept_le n 149 k r.drops) (kept_ge n 149 k r.drops) l)
      ∙ parity s k q e
    where
      parity : (t : Bool) (a b : ℕ) → b % 2 ≡ 0 → (cond t (2 ^ 31) 0 + (a * 2 ^ 23 + b)) % 2 ≡ 0
      parity true a b h = omega arith
      parity false a b h = omega arith

  pub from_top : overflow ≤ n → fused_of x y z ≡ inf s
  from_top h = r.result ∙ units_over s q k (over_top q k (kept_le n 149 k r.drops) (kept_ge n 149 k r.drops) (beyond n k r.drops h))

  pub under_all : n < overflow → q * 2 ^ k < 2 ^ 277
  under_all h = under_top q k (kept_le n 149 k r.drops) (kept_ge n 149 k r.drops) (within n k r.drops h)

  pub size_is : nat_abs (exact_of x y z) ≡ n
  size_is = ap nat_abs r.exact ∙ abs_signed s n

  pub sign_is : 0 < n → int_lt (exact_of x y z) (pos 0) ≡ s
  sign_is h = ap (λ (v : ℤ). int_lt v (pos 0)) r.exact ∙ below_zero s n h

pub result_fits : (x y z : Float) → fits binary32 (fused_of x y z) ≡ true
unfolding fused_of
result_fits x y z = is_true (fits binary32 (fused_of x y z)) (add-fits binary32 (exact_product x y) z)
