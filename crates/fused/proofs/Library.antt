-- `fused_of` beside the library's own operations: its `mul_add`, its sum and its product.
use Rattle.std.proofs.Common.{◌≡◌, refl, sym, ap, ◌∙◌, inl, inr, ℕ, ◌-◌, ◌*◌, ◌<◌, ℤ, pos, ◌+ℤ◌, Bool, true, false, cond, eqb, ltb, lt→ltb, mul_assoc, mul_comm, mul_left_comm, mul-one, zero-mul, zero-lt-suc, mul-pos, add-zero, eq-zero-or-pos, arith, Float}
use Rattle.std.proofs.Math.Arith.{le→nltb}
use Rattle.std.proofs.Math.IntN.{+ℤ_idr}
use Rattle.std.specs.Float.{nan, inf, fin, binary32, float_mul_add}
use Rattle.std.specs.Float.Ieee.{unlike, up, down, sum, add, mul, round}
use Rattle.std.specs.Float.Ieee.Bits.{is_true, is_false}
use Rattle.std.specs.Float.Ieee.Fits.{down_pos}
use Rattle.std.specs.Float.Ieee.Scale.{round_same}
use Rattle.fused.specs.Fused.{exact_product, fused_of}
use Rattle.fused.specs.Words.{SameButZero}
use Rattle.fused.proofs.Exact.{up-+ℤ}
use Rattle.fused.proofs.Sums.{sum_same}

-- ---- times one
unlike_false : (s : Bool) → unlike s false ≡ s
unlike_false true = refl
unlike_false false = refl

pub product_by_one : (x : Float) → exact_product x (fin false 1 (pos 0)) ≡ x
product_by_one nan = refl
product_by_one (inf s) = ap inf (unlike_false s)
product_by_one (fin s m e) =
    ap (λ (t : Bool). fin t (m * 1) (e +ℤ pos 0)) (unlike_false s) ∙ ap (λ (n : ℕ). fin s n (e +ℤ pos 0)) (mul-one m) ∙ ap (λ (d : ℤ). fin s m d) (+ℤ_idr e)

-- ---- the library's `mul_add`
first : (U P uv D a b g : ℕ) → U * P ≡ uv * D → a * U * g * (P * b) ≡ a * uv * g * (D * b)
first U P uv D a b g h =
    let x : a * U * g * (P * b) ≡ U * P * (a * g * b) = simp (mul_assoc, mul_comm, mul_left_comm) in
    let y : uv * D * (a * g * b) ≡ a * uv * g * (D * b) = simp (mul_assoc, mul_comm, mul_left_comm) in
    x ∙ ap (λ (w : ℕ). w * (a * g * b)) h ∙ y

second : (c D P b : ℕ) → c * D * (P * b) ≡ c * P * (D * b)
second c D P b = simp (mul_assoc, mul_comm, mul_left_comm)

four : (a b x y : ℕ) → a * b * (x * y) ≡ a * x * (b * y)
four a b x y = simp (mul_assoc, mul_comm, mul_left_comm)

pub is_float_mul_add : (x y z : Float) → fused_of x y z ≡ float_mul_add binary32 x y z
unfolding fused_of add mul float_mul_add
is_float_mul_add nan y z = refl
is_float_mul_add (inf s) nan z = refl
is_float_mul_add (inf s) (inf t) z = refl
is_float_mul_add (inf s) (fin t n d) z = refl
is_float_mul_add (fin s m e) nan z = refl
is_float_mul_add (fin s m e) (inf t) z = refl
is_float_mul_add (fin s m e) (fin t n d) nan = refl
is_float_mul_add (fin s m e) (fin t n d) (inf u) = refl
is_float_mul_add (fin s m e) (fin t n d) (fin u o k) =
    let D = down (e +ℤ d) in
    let P = down e * down d in
    sum_same binary32 (unlike s t) u (m * n * up (e +ℤ d) * down k) (o * up k * D) (D * down k) (m * up e * (n * up d) * down k) (o * up k * P) (P * down k)
    (mul-pos (down_pos (e +ℤ d)) (down_pos k)) (mul-pos (mul-pos (down_pos e) (down_pos d)) (down_pos k))
    (first (up (e +ℤ d)) P (up e * up d) D (m * n) (down k) (down k) (up-+ℤ e d) ∙ ap (λ (w : ℕ). w * down k * (D * down k)) (four m n (up e) (up d)))
    (second (o * up k) D P (down k))

-- ---- plus zero
smallest_zero : (s : Bool) → round binary32 s 0 1 ≡ fin s 0 (pos 0)
unfolding round
smallest_zero true = refl
smallest_zero false = refl

zero_rounded : (s : Bool) (d : ℕ) → 0 < d → round binary32 s 0 d ≡ fin s 0 (pos 0)
zero_rounded s d h = round_same binary32 s 0 d 0 1 h (zero-lt-suc 0) (zero-mul 1 ∙ sym (zero-mul d)) ∙ smallest_zero s

-- the sum of ±a / d and a zero
opposite : (s u : Bool) (a d : ℕ) → cond (ltb a 0) (round binary32 u (0 - a) d) (round binary32 s (a - 0) d) ≡ round binary32 s a d
opposite s u a d =
    ap (λ (b : Bool). cond b (round binary32 u (0 - a) d) (round binary32 s (a - 0) d)) (is_false (ltb a 0) (le→nltb a 0 (omega arith)))
    ∙ ap (λ (n : ℕ). round binary32 s n d) (omega arith)

sum_with_zero : (s u : Bool) (a d : ℕ) → 0 < d → SameButZero (sum binary32 s a u 0 d) (round binary32 s a d)
unfolding sum
sum_with_zero true true a d h = inl (ap (λ (n : ℕ). round binary32 true n d) (add-zero a))
sum_with_zero false false a d h = inl (ap (λ (n : ℕ). round binary32 false n d) (add-zero a))
sum_with_zero false true a d h = inl (opposite false true a d)
sum_with_zero true false a d h = elim (eq-zero-or-pos a) [
  | inl e ↦ inr (
    ap (λ (n : ℕ). round binary32 true n d) e ∙ zero_rounded true d h,
    opposite (ltb 0 a) false a d ∙ ap (λ (n : ℕ). round binary32 (ltb 0 n) n d) e ∙ zero_rounded false d h,
  )
  | inr l ↦ inl (opposite (ltb 0 a) false a d ∙ ap (λ (b : Bool). round binary32 b a d) (is_true (ltb 0 a) (lt→ltb 0 a l)))
]

plus_zero : (b v u : Bool) → add binary32 (cond b nan (inf v)) (fin u 0 (pos 0)) ≡ cond b nan (inf v)
unfolding add
plus_zero true v u = refl
plus_zero false v u = refl

pub product_plus_zero : (x y : Float) (u : Bool) → SameButZero (fused_of x y (fin u 0 (pos 0))) (mul binary32 x y)
unfolding fused_of add mul
product_plus_zero nan y u = inl refl
product_plus_zero (inf s) nan u = inl refl
product_plus_zero (inf s) (inf t) u = inl refl
product_plus_zero (inf s) (fin t n d) u = inl (plus_zero (eqb n 0) (unlike s t) u)
product_plus_zero (fin s m e) nan u = inl refl
product_plus_zero (fin s m e) (inf t) u = inl (plus_zero (eqb m 0) (unlike s t) u)
product_plus_zero (fin s m e) (fin t n d) u =
    let v = unlike s t in
    let A = m * n * up (e +ℤ d) in
    let D = down (e +ℤ d) in
    let P = down e * down d in
    let p : sum binary32 v (A * 1) u (0 * 1 * D) (D * 1) ≡ sum binary32 v A u 0 D =
    ap (λ (w : ℕ). sum binary32 v w u (0 * 1 * D) (D * 1)) (mul-one A) ∙ ap (λ (w : ℕ). sum binary32 v A u w (D * 1)) (zero-mul D) ∙ ap (λ (w : ℕ). sum binary32 v A u 0 w) (mul-one D) in
    let q : round binary32 v (m * up e * (n * up d)) P ≡ round binary32 v A D =
    round_same binary32 v (m * up e * (n * up d)) P A D (mul-pos (down_pos e) (down_pos d)) (down_pos (e +ℤ d))
    (ap (λ (w : ℕ). w * D) (sym (four m n (up e) (up d))) ∙ mul_assoc (m * n) (up e * up d) D ∙ ap (λ (w : ℕ). m * n * w) (sym (up-+ℤ e d)) ∙ sym (mul_assoc (m * n) (up (e +ℤ d)) P)) in
    elim (sum_with_zero v u A D (down_pos (e +ℤ d))) [ inl h ↦ inl (p ∙ h ∙ sym q) | inr (h, k) ↦ inr (q ∙ h, p ∙ k) ]
