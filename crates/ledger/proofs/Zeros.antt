-- The pattern 0 and what it stands for.
use Rattle.std.proofs.Common.{◌≡◌, ◌↔◌, refl, sym, ap, ◌∙◌, ℕ, ◌<◌, true, false, T, ◌==◌, IsTrue, List, length, eq-eqb, eqb-true, Float, arith}
use Rattle.std.proofs.lemmas.List.{get_or_default, get_or-replicate, length-replicate, same_lists}
use Rattle.std.specs.Float.Ieee.{binary32, nan, of_bits, to_bits, eq, fits}
use Rattle.std.specs.Float.Ieee.Bits.{of_bits-to_bits}
use Rattle.layout.specs.Sizes.{quantum}
use Rattle.pool.specs.Pool.{sample, silence}

plus_zero_bits : to_bits binary32 (of_bits binary32 0) ≡ 0
unfolding to_bits of_bits
plus_zero_bits = refl

plus_zero_equal : eq (of_bits binary32 0) (of_bits binary32 0) ≡ true
unfolding of_bits eq
plus_zero_equal = refl

-- only the pattern 0 stands for +0.0
pub zero_by_bits : (x : Float) → T (fits binary32 x) → IsTrue (to_bits binary32 x == 0) ↔ (x ≡ of_bits binary32 0)
zero_by_bits x f = (
  λ h. sym (of_bits-to_bits binary32 x f) ∙ ap (of_bits binary32) (eqb-true (to_bits binary32 x) 0 h),
  λ e. eq-eqb (to_bits binary32 x) 0 (ap (to_bits binary32) e ∙ plus_zero_bits),
)

-- what is not equal to itself is not +0.0
pub not_zero : (x : Float) → eq x x ≡ false → IsTrue (eq x x) ↔ (x ≡ of_bits binary32 0)
not_zero x u = (λ t. absurd (cc), λ e. ap (λ (y : Float). eq y y) e ∙ plus_zero_equal)

-- a slot is silence where each of its samples is +0.0
pub silence_from : (xs : List Float) → length xs ≡ quantum → ((k : ℕ) → k < quantum → sample xs k ≡ of_bits binary32 0) → xs ≡ silence
silence_from xs l h =
    let z = of_bits binary32 0 in
    let e : length silence ≡ quantum = length-replicate quantum z in
    same_lists xs silence (l ∙ sym e)
    (λ k d m. get_or_default xs k d nan m ∙ h k (omega arith) ∙ sym (get_or-replicate quantum k z d (omega arith)))

pub silence_at : (xs : List Float) (k : ℕ) → k < quantum → xs ≡ silence → sample xs k ≡ of_bits binary32 0
silence_at xs k l e = ap (λ (ys : List Float). sample ys k) e ∙ get_or-replicate quantum k (of_bits binary32 0) nan l
