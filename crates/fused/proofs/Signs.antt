-- Sums, products and distances of numbers with signs, beside what `sum` rounds.
use Rattle.std.proofs.Common.{◌≡◌, refl, sym, ap, ◌∙◌, inl, inr, ℕ, zero, suc, ◌+◌, ◌-◌, ◌*◌, ◌/◌, ◌^◌, ◌≤◌, ℤ, pos, neg_ℤ, nat_abs, ◌+ℤ◌, ◌-ℤ◌, ◌*ℤ◌, Bool, true, false, not, cond, ltb, lt→ltb, mul-zero, zero-mul, mul-div_cancel, le_of_lt, arith, Float}
use Rattle.std.proofs.Math.Arith.{le→nltb}
use Rattle.std.proofs.Math.IntN.{+ℤ_comm, +ℤ-neg_ℤ_cancel, neg_ℤ-+ℤ, neg_ℤ-neg_ℤ}
use Rattle.std.proofs.lemmas.Bool.{cases_lt, cases_order}
use Rattle.std.specs.Float.{nan, inf, fin, Format}
use Rattle.std.specs.Float.Ieee.{unlike, down, sum, round}
use Rattle.std.specs.Float.Ieee.Bits.{is_true, is_false}
use Rattle.std.specs.Float.Ieee.Exact.{HasValue}
use Rattle.std.specs.Float.Ieee.Fits.{down_pos}
use Rattle.fused.proofs.Distances.{gap}
use Rattle.fused.specs.Words.{signed, units_of}

neg_zero : (n : ℕ) → n ≡ 0 → neg_ℤ (pos n) ≡ pos n
neg_zero n e = ap (λ (x : ℕ). neg_ℤ (pos x)) e ∙ sym (ap pos e)

-- ---- the product
pub signed-mul : (s t : Bool) (a b : ℕ) → signed s a *ℤ signed t b ≡ signed (unlike s t) (a * b)
signed-mul false false a b = refl
signed-mul false true a zero = sym (neg_zero (a * 0) (mul-zero a))
signed-mul false true a (suc b) = refl
signed-mul true false zero b = sym (neg_zero (0 * b) (zero-mul b))
signed-mul true false (suc a) b = refl
signed-mul true true zero zero = refl
signed-mul true true zero (suc b) = neg_zero (0 * suc b) (zero-mul (suc b))
signed-mul true true (suc a) zero = neg_zero (suc a * 0) (mul-zero (suc a))
signed-mul true true (suc a) (suc b) = refl

unlike_false : (s : Bool) → unlike s false ≡ s
unlike_false true = refl
unlike_false false = refl

pub signed_times : (s : Bool) (a b : ℕ) → signed s a *ℤ pos b ≡ signed s (a * b)
signed_times s a b = signed-mul s false a b ∙ ap (λ (u : Bool). signed u (a * b)) (unlike_false s)

-- ---- the difference
minus_ge : (a b : ℕ) → b ≤ a → pos a -ℤ pos b ≡ pos (a - b)
minus_ge a b h = ap (λ (x : ℕ). pos x -ℤ pos b) (omega arith) ∙ +ℤ-neg_ℤ_cancel (pos (a - b)) (pos b)

turn : (a b : ℕ) → pos a -ℤ pos b ≡ neg_ℤ (pos b -ℤ pos a)
turn a b = +ℤ_comm (pos a) (neg_ℤ (pos b)) ∙ ap (λ (z : ℤ). neg_ℤ (pos b) +ℤ z) (sym (neg_ℤ-neg_ℤ (pos a))) ∙ sym (neg_ℤ-+ℤ (pos b) (neg_ℤ (pos a)))

minus_le : (a b : ℕ) → a ≤ b → pos a -ℤ pos b ≡ neg_ℤ (pos (b - a))
minus_le a b h = turn a b ∙ ap neg_ℤ (minus_ge b a h)

-- ---- the sum, and what `sum` rounds
pub record Total (s : Bool) (a : ℕ) (t : Bool) (b : ℕ) (f : Format) (c : ℕ) : Type 0 where
  pub negative : Bool
  pub size : ℕ
  pub value : signed s a +ℤ signed t b ≡ signed negative size
  pub rounded : sum f s a t b c ≡ round f negative size c

pub total : (s t : Bool) (a b : ℕ) (f : Format) (c : ℕ) → Total s a t b f c
unfolding sum
total false false a b f c = record { negative = false; size = a + b; value = refl; rounded = refl }
total true true a b f c = record { negative = true; size = a + b; value = sym (neg_ℤ-+ℤ (pos a) (pos b)); rounded = refl }
total false true a b f c = elim (cases_lt a b) [
  | inl l ↦ record {
    negative = true;
    size = b - a;
    value = minus_le a b (le_of_lt l);
    rounded = ap (λ (z : Bool). cond z (round f true (b - a) c) (round f false (a - b) c)) (is_true (ltb a b) (lt→ltb a b l));
  }
  | inr g ↦ record {
    negative = false;
    size = a - b;
    value = minus_ge a b g;
    rounded = ap (λ (z : Bool). cond z (round f true (b - a) c) (round f false (a - b) c)) (is_false (ltb a b) (le→nltb a b g));
  }
]
total true false a b f c = elim (cases_order a b) [
  | inl e ↦ record {
    negative = false;
    size = a - b;
    value = +ℤ_comm (neg_ℤ (pos a)) (pos b) ∙ minus_ge b a (omega arith) ∙ ap pos (omega arith);
    rounded =
        ap (λ (z : Bool). cond z (round f false (b - a) c) (round f (ltb b a) (a - b) c)) (is_false (ltb a b) (le→nltb a b (omega arith)))
        ∙ ap (λ (z : Bool). round f z (a - b) c) (is_false (ltb b a) (le→nltb b a (omega arith)));
  }
  | inr (inl l) ↦ record {
    negative = false;
    size = b - a;
    value = +ℤ_comm (neg_ℤ (pos a)) (pos b) ∙ minus_ge b a (le_of_lt l);
    rounded = ap (λ (z : Bool). cond z (round f false (b - a) c) (round f (ltb b a) (a - b) c)) (is_true (ltb a b) (lt→ltb a b l));
  }
  | inr (inr g) ↦ record {
    negative = true;
    size = a - b;
    value = +ℤ_comm (neg_ℤ (pos a)) (pos b) ∙ minus_le b a (le_of_lt g);
    rounded =
        ap (λ (z : Bool). cond z (round f false (b - a) c) (round f (ltb b a) (a - b) c)) (is_false (ltb a b) (le→nltb a b (le_of_lt g)))
        ∙ ap (λ (z : Bool). round f z (a - b) c) (is_true (ltb b a) (lt→ltb b a g));
  }
]

-- ---- distances
abs_neg : (n : ℕ) → nat_abs (neg_ℤ (pos n)) ≡ n
abs_neg zero = refl
abs_neg (suc n) = refl

pub abs_signed : (s : Bool) (n : ℕ) → nat_abs (signed s n) ≡ n
abs_signed true n = abs_neg n
abs_signed false n = refl

abs_minus : (a b : ℕ) → nat_abs (pos a -ℤ pos b) ≡ gap a b
abs_minus a b = elim (cases_lt a b) [
  | inl l ↦ ap nat_abs (minus_le a b (le_of_lt l)) ∙ abs_neg (b - a) ∙ (let h = l in omega arith)
  | inr g ↦ ap nat_abs (minus_ge a b g) ∙ (let h = g in omega arith)
]

pub apart_like : (s : Bool) (a b : ℕ) → nat_abs (signed s a -ℤ signed s b) ≡ gap a b
apart_like false a b = abs_minus a b
apart_like true a b =
    ap nat_abs (ap (λ (z : ℤ). neg_ℤ (pos a) +ℤ z) (neg_ℤ-neg_ℤ (pos b)) ∙ +ℤ_comm (neg_ℤ (pos a)) (pos b)) ∙ abs_minus b a ∙ omega arith

pub apart_unlike : (s : Bool) (a b : ℕ) → nat_abs (signed (not s) a -ℤ signed s b) ≡ a + b
apart_unlike true a b = ap (λ (z : ℤ). nat_abs (pos a +ℤ z)) (neg_ℤ-neg_ℤ (pos b))
apart_unlike false a b = ap nat_abs (sym (neg_ℤ-+ℤ (pos a) (pos b))) ∙ abs_neg (a + b)

-- ---- a value of n units
pub units_is : (x : Float) (s : Bool) (n : ℕ) → HasValue x s n (2 ^ 149) → units_of x ≡ signed s n
units_is nan s n h = absurd h
units_is (inf t) s n h = absurd h
units_is (fin t m e) s n h =
    ap (λ (z : ℕ). signed t (z / down e)) h.1 ∙ ap (signed t) (mul-div_cancel n (down_pos e)) ∙ ap (λ (u : Bool). signed u n) h.0
