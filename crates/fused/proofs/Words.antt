-- What `fused_of` promises, apart from the code. In all but the last four, x, y and z are finite values of binary32.
use Rattle.std.proofs.Common.{◌≡◌, sym, ap, ◌∙◌, subst, ◌⊎◌, inl, inr, ℕ, ◌-◌, ◌*◌, ◌/◌, ◌+◌, ◌^◌, ◌<◌, ◌≤◌, pos, nat_abs, Bool, false, IsTrue, int_lt, mul_assoc, lt_of_lt_of_le, le_of_eq, le_trans, lit<, pow-add, pow_pos, arith, Float}
use Rattle.std.proofs.Math.Nat.{eq_of_mul-eq-mul_right}
use Rattle.std.proofs.lemmas.Bool.{cases_lt}
use Rattle.std.specs.Float.{inf, fin, binary32, float_is_finite, float_mul_add}
use Rattle.std.specs.Float.Ieee.{size, add, mul}
use Rattle.std.specs.Float.Ieee.Exact.{HasValue}
use Rattle.std.specs.Float.Ieee.Nearest.{closest}
use Rattle.fused.specs.Fused.{fused_of}
use Rattle.fused.specs.Words.{IsValue, signed, units_of, exact_of, error_of, IsEven, overflow, SameButZero}
use Rattle.fused.proofs.Exact.{exact_product_comm}
use Rattle.fused.proofs.Library.{product_by_one, product_plus_zero, is_float_mul_add}
use Rattle.fused.proofs.Results.{taken, sums, result_of, finite_value, result_fits, below_top, has_value, error_is, error_at, near, even, last_digit, from_top, under_all, size_is, sign_is}
use Rattle.fused.proofs.Rounding.{pow_eq}
use Rattle.fused.proofs.Signs.{units_is, abs_signed}

-- a value is a whole number of the smallest ones, and `units_of` says which
pub whole_units : (x : Float) → IsValue x → (s : Bool) × HasValue x s (nat_abs (units_of x)) (2 ^ 149)
whole_units x v =
    let t = taken x v in
    let n = t.digits * 2 ^ t.place in
    (t.negative, subst (λ (m : ℕ). HasValue x t.negative m (2 ^ 149)) (sym (ap nat_abs (units_is x t.negative n t.value) ∙ abs_signed t.negative n)) t.value)

-- the result is a value of binary32 where the exact x * y + z is below 2 ^ 128 - 2 ^ 103 in magnitude
pub finite_below : (x y z : Float) → IsValue x → IsValue y → IsValue z → nat_abs (exact_of x y z) < overflow → IsValue (fused_of x y z)
finite_below x y z a b c h =
    let t = sums x y z a b c in
    let k = size (t.size / 2 ^ 149) - 24 in
    let r = result_of x y z t in
    let l = under_all x y z t.size t.negative k r (subst (λ (v : ℕ). v < overflow) (size_is x y z t.size t.negative k r) h) in
    record { fits = result_fits x y z; finite = finite_value (fused_of x y z) t.negative _ _ (has_value x y z t.size t.negative k r l) }

-- and from there up it is the infinity of its sign
pub infinite_from : (x y z : Float) → IsValue x → IsValue y → IsValue z → overflow ≤ nat_abs (exact_of x y z) → fused_of x y z ≡ inf (int_lt (exact_of x y z) (pos 0))
infinite_from x y z a b c h =
    let t = sums x y z a b c in
    let k = size (t.size / 2 ^ 149) - 24 in
    let r = result_of x y z t in
    let g : overflow ≤ t.size = subst (λ (v : ℕ). overflow ≤ v) (size_is x y z t.size t.negative k r) h in
    from_top x y z t.size t.negative k r g ∙ ap inf (sym (sign_is x y z t.size t.negative k r (lt_of_lt_of_le (lit< tt) g)))

-- so the result is a value of binary32 or infinite
pub value_or_infinite : (x y z : Float) → IsValue x → IsValue y → IsValue z → IsValue (fused_of x y z) ⊎ ((s : Bool) × (fused_of x y z ≡ inf s))
value_or_infinite x y z a b c = elim (cases_lt (nat_abs (exact_of x y z)) overflow) [
  | inl l ↦ inl (finite_below x y z a b c l)
  | inr g ↦ inr (int_lt (exact_of x y z) (pos 0), infinite_from x y z a b c g)
]

-- no value of binary32 is nearer to the exact x * y + z than a finite result
pub nearest_value : (x y z w : Float) → IsValue x → IsValue y → IsValue z → IsValue w → IsTrue (float_is_finite (fused_of x y z)) → error_of x y z (fused_of x y z) ≤ error_of x y z w
nearest_value x y z w a b c d f =
    let t = sums x y z a b c in
    let k = size (t.size / 2 ^ 149) - 24 in
    let r = result_of x y z t in
    let v = taken w d in
    le_trans
    (le_of_eq (error_is x y z t.size t.negative k r (below_top x y z t.size t.negative k r f)))
    (le_trans (near x y z t.size t.negative k r v.negative v.digits v.place v.short) (le_of_eq (sym (error_at x y z t.size t.negative k r w v.negative (v.digits * 2 ^ v.place) v.value))))

-- where another value is as near, the result is the one with an even last digit
pub even_at_tie : (x y z w : Float) → IsValue x → IsValue y → IsValue z → IsValue w → IsTrue (float_is_finite (fused_of x y z))
    → error_of x y z w ≡ error_of x y z (fused_of x y z) → (units_of w ≡ units_of (fused_of x y z) → ⊥) → IsEven (fused_of x y z)
even_at_tie x y z w a b c d f g u =
    let t = sums x y z a b c in
    let n = t.size in
    let s = t.negative in
    let k = size (n / 2 ^ 149) - 24 in
    let r = result_of x y z t in
    let v = taken w d in
    let m = v.digits * 2 ^ v.place in
    let p = closest n (2 ^ (149 + k)) in
    let l = below_top x y z n s k r f in
    last_digit x y z n s k r l
    (even x y z n s k r v.negative v.digits v.place v.short
    (sym (error_at x y z n s k r w v.negative m v.value) ∙ g ∙ error_is x y z n s k r l)
    (λ e i. u (units_is w v.negative m v.value
    ∙ ap (λ (b : Bool). signed b m) e
    ∙ ap (signed s) (eq_of_mul-eq-mul_right (2 ^ 149) (pow_pos 149) m (p * 2 ^ k) (i ∙ ap (λ (j : ℕ). p * j) (pow_eq (omega arith) ∙ pow-add 2 k 149) ∙ sym (mul_assoc p (2 ^ k) (2 ^ 149))))
    ∙ sym (units_is (fused_of x y z) s (p * 2 ^ k) (has_value x y z n s k r l)))))

-- x and y may be swapped
pub swapped : (x y z : Float) → fused_of x y z ≡ fused_of y x z
unfolding fused_of
swapped x y z = ap (λ (p : Float). add binary32 p z) (exact_product_comm x y)

-- x * 1 + z is the library's sum x + z
pub by_one : (x z : Float) → fused_of x (fin false 1 (pos 0)) z ≡ add binary32 x z
unfolding fused_of
by_one x z = ap (λ (y : Float). add binary32 y z) (product_by_one x)

-- x * y + 0 is the library's product x * y, but that a -0 may become +0
pub plus_zero : (x y : Float) (u : Bool) → SameButZero (fused_of x y (fin u 0 (pos 0))) (mul binary32 x y)
plus_zero x y u = product_plus_zero x y u

-- it is the library's own definition of `mul_add`
pub is_mul_add : (x y z : Float) → fused_of x y z ≡ float_mul_add binary32 x y z
is_mul_add x y z = is_float_mul_add x y z
