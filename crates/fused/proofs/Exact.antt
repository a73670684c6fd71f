-- The exact product and the sum of a product and a summand, by what the numbers stand for.
use Rattle.std.proofs.Common.{◌≡◌, refl, sym, ap, ◌∙◌, ℕ, zero, suc, ◌+◌, ◌-◌, ◌*◌, ◌^◌, ◌<◌, ◌≤◌, ℤ, pos, negsuc, ◌+ℤ◌, Bool, true, false, not, cond, T, eqb, ltb, mul_assoc, mul_comm, mul_left_comm, mul-pos, mul-one, one-mul, zero-mul, zero-lt-suc, ltb→lt, nltb→le, pow-add, arith, Float}
use Rattle.std.proofs.Math.Dec.{eqb-suc-zero}
use Rattle.std.proofs.Math.IntN.{sub_ℕ, +ℤ_comm}
use Rattle.std.proofs.Math.Nat.{eq_of_mul-eq-mul_right}
use Rattle.std.specs.Float.{nan, inf, fin, Format}
use Rattle.std.specs.Float.Ieee.{unlike, up, down, sum, add}
use Rattle.std.specs.Float.Ieee.Exact.{HasValue}
use Rattle.std.specs.Float.Ieee.Fits.{up_pos, down_pos}
use Rattle.fused.specs.Fused.{exact_product}
use Rattle.fused.proofs.Rounding.{pow_eq}
use Rattle.fused.proofs.Sums.{sum_same}

-- ---- 2 ^ (e + d) as a fraction
up_sub : (a b : ℕ) (t : Bool) → (T t → a < b) → (T (not t) → b ≤ a)
    → up (cond t (negsuc (b - suc a)) (pos (a - b))) * 2 ^ b ≡ 2 ^ a * down (cond t (negsuc (b - suc a)) (pos (a - b)))
up_sub a b true p q = (let l = p tt in one-mul (2 ^ b) ∙ pow_eq (omega arith) ∙ pow-add 2 a (suc (b - suc a)))
up_sub a b false p q = (let l = q tt in sym (pow-add 2 (a - b) b) ∙ pow_eq (omega arith) ∙ sym (mul-one (2 ^ a)))

up_sub_ℕ : (a b : ℕ) → up (sub_ℕ a b) * 2 ^ b ≡ 2 ^ a * down (sub_ℕ a b)
up_sub_ℕ a b = up_sub a b (ltb a b) (ltb→lt a b) (nltb→le a b)

pub up-+ℤ : (e d : ℤ) → up (e +ℤ d) * (down e * down d) ≡ up e * up d * down (e +ℤ d)
up-+ℤ (pos a) (pos b) = mul-one (2 ^ (a + b)) ∙ pow-add 2 a b ∙ sym (mul-one (2 ^ a * 2 ^ b))
up-+ℤ (pos a) (negsuc b) = (let h = up_sub_ℕ a (suc b) in rw (one-mul, mul-one) h)
up-+ℤ (negsuc a) (pos b) = (let h = up_sub_ℕ b (suc a) in rw (one-mul, mul-one) h)
up-+ℤ (negsuc a) (negsuc b) = one-mul (2 ^ suc a * 2 ^ suc b) ∙ sym (pow-add 2 (suc a) (suc b)) ∙ pow_eq (omega arith) ∙ sym (one-mul (2 ^ suc (suc (a + b))))

-- ---- the product
-- of two fractions
cross_product : (m n u v U p q D a b k l : ℕ) → U * (p * q) ≡ u * v * D → m * u * k ≡ a * p → n * v * l ≡ b * q → m * n * U * (k * l) * (p * q) ≡ a * b * D * (p * q)
cross_product m n u v U p q D a b k l e f g =
    let x : m * n * U * (k * l) * (p * q) ≡ U * (p * q) * (m * n * (k * l)) = simp (mul_assoc, mul_comm, mul_left_comm) in
    let y : u * v * D * (m * n * (k * l)) ≡ m * u * k * (n * v * l) * D = simp (mul_assoc, mul_comm, mul_left_comm) in
    let z : a * p * (b * q) * D ≡ a * b * D * (p * q) = simp (mul_assoc, mul_comm, mul_left_comm) in
    x ∙ ap (λ (w : ℕ). w * (m * n * (k * l))) e ∙ y ∙ ap (λ (w : ℕ). w * (n * v * l) * D) f ∙ ap (λ (w : ℕ). a * p * w * D) g ∙ z

pub exact_product_value : (x y : Float) (s t : Bool) (a b k l : ℕ) → HasValue x s a k → HasValue y t b l → HasValue (exact_product x y) (unlike s t) (a * b) (k * l)
exact_product_value nan y s t a b k l p q = absurd p
exact_product_value (inf s') y s t a b k l p q = absurd p
exact_product_value (fin s' m e) nan s t a b k l p q = absurd q
exact_product_value (fin s' m e) (inf t') s t a b k l p q = absurd q
exact_product_value (fin s' m e) (fin t' n d) s t a b k l p q = (
  ap (λ (v : Bool). unlike v t') p.0 ∙ ap (λ (v : Bool). unlike s v) q.0,
  eq_of_mul-eq-mul_right (down e * down d) (mul-pos (down_pos e) (down_pos d)) (m * n * up (e +ℤ d) * (k * l)) (a * b * down (e +ℤ d))
      (cross_product m n (up e) (up d) (up (e +ℤ d)) (down e) (down d) (down (e +ℤ d)) a b k l (up-+ℤ e d) p.1 q.1),
)

-- a number is zero where its significand is
zero_value : (m a l : ℕ) (e : ℤ) → 0 < l → m * up e * l ≡ a * down e → a ≡ 0 → m ≡ 0
zero_value zero a l e L h z = refl
zero_value (suc m) a l e L h z =
    let some = mul-pos (mul-pos (zero-lt-suc m) (up_pos e)) L in
    let none = h ∙ ap (λ (x : ℕ). x * down e) z ∙ zero-mul (down e) in
    absurd (omega (arith, some, none))

some_value : (m a l : ℕ) (e : ℤ) → m * up e * l ≡ a * down e → 0 < a → eqb m 0 ≡ false
some_value zero a l e h A =
    let some = mul-pos A (down_pos e) in
    let none = sym h ∙ ap (λ (x : ℕ). x * l) (zero-mul (up e)) ∙ zero-mul l in
    absurd (omega (arith, some, none))
some_value (suc m) a l e h A = eqb-suc-zero m

-- an infinity by a zero, and by another number
pub infinite_by_zero : (s : Bool) (y : Float) (t : Bool) (b l : ℕ) → 0 < l → HasValue y t b l → b ≡ 0 → exact_product (inf s) y ≡ nan
infinite_by_zero s nan t b l L h z = absurd h
infinite_by_zero s (inf t') t b l L h z = absurd h
infinite_by_zero s (fin t' n d) t b l L h z = ap (λ (m : ℕ). cond (eqb m 0) nan (inf (unlike s t'))) (zero_value n b l d L h.1 z)

pub infinite_by_number : (s : Bool) (y : Float) (t : Bool) (b l : ℕ) → HasValue y t b l → 0 < b → exact_product (inf s) y ≡ inf (unlike s t)
infinite_by_number s nan t b l h B = absurd h
infinite_by_number s (inf t') t b l h B = absurd h
infinite_by_number s (fin t' n d) t b l h B = ap (λ (z : Bool). cond z nan (inf (unlike s t'))) (some_value n b l d h.1 B) ∙ ap (λ (v : Bool). inf (unlike s v)) h.0

unlike_comm : (s t : Bool) → unlike s t ≡ unlike t s
unlike_comm true true = refl
unlike_comm true false = refl
unlike_comm false true = refl
unlike_comm false false = refl

pub exact_product_comm : (x y : Float) → exact_product x y ≡ exact_product y x
exact_product_comm nan nan = refl
exact_product_comm nan (inf t) = refl
exact_product_comm nan (fin t n d) = refl
exact_product_comm (inf s) nan = refl
exact_product_comm (inf s) (inf t) = ap inf (unlike_comm s t)
exact_product_comm (inf s) (fin t n d) = ap (λ (v : Bool). cond (eqb n 0) nan (inf v)) (unlike_comm s t)
exact_product_comm (fin s m e) nan = refl
exact_product_comm (fin s m e) (inf t) = ap (λ (v : Bool). cond (eqb m 0) nan (inf v)) (unlike_comm s t)
exact_product_comm (fin s m e) (fin t n d) =
    ap (λ (v : Bool). fin v (m * n) (e +ℤ d)) (unlike_comm s t) ∙ ap (λ (v : ℕ). fin (unlike t s) v (e +ℤ d)) (mul_comm m n) ∙ ap (λ (v : ℤ). fin (unlike t s) (n * m) v) (+ℤ_comm e d)

-- ---- the size of a product
four : (a b x y : ℕ) → a * b * (x * y) ≡ a * x * (b * y)
four a b x y = simp (mul_assoc, mul_comm, mul_left_comm)

pub product_size : (a i b j : ℕ) → a * b * 2 ^ (i + j) ≡ a * 2 ^ i * (b * 2 ^ j)
product_size a i b j = ap (λ (x : ℕ). a * b * x) (pow-add 2 i j) ∙ four a b (2 ^ i) (2 ^ j)

pub zero_size : (a b x y : ℕ) → a * b ≡ 0 → a * b * 2 ^ 0 ≡ a * x * (b * y)
zero_size a b x y h = ap (λ (z : ℕ). z * 2 ^ 0) h ∙ sym (sym (four a b x y) ∙ ap (λ (z : ℕ). z * (x * y)) h ∙ zero-mul (x * y))

-- ---- the sum of a product over l * l and a summand over l
along : (n v q c l p : ℕ) → n * v * l ≡ c * q → n * v * p * (l * l) ≡ c * l * (p * q)
along n v q c l p h =
    let x : n * v * p * (l * l) ≡ n * v * l * (p * l) = simp (mul_assoc, mul_comm, mul_left_comm) in
    let y : c * q * (p * l) ≡ c * l * (p * q) = simp (mul_assoc, mul_comm, mul_left_comm) in
    x ∙ ap (λ (w : ℕ). w * (p * l)) h ∙ y

beside : (m u p q a k : ℕ) → m * u * k ≡ a * p → m * u * q * k ≡ a * (p * q)
beside m u p q a k h =
    let x : m * u * q * k ≡ m * u * k * q = simp (mul_assoc, mul_comm, mul_left_comm) in
    x ∙ ap (λ (w : ℕ). w * q) h ∙ mul_assoc a p q

pub add_values : (f : Format) (x z : Float) (s u : Bool) (a c l : ℕ) → 0 < l → HasValue x s a (l * l) → HasValue z u c l → add f x z ≡ sum f s a u (c * l) (l * l)
unfolding add
add_values f nan z s u a c l L p q = absurd p
add_values f (inf s') z s u a c l L p q = absurd p
add_values f (fin s' m e) nan s u a c l L p q = absurd q
add_values f (fin s' m e) (inf u') s u a c l L p q = absurd q
add_values f (fin s' m e) (fin u' n d) s u a c l L p q =
    sum_same f s' u' (m * up e * down d) (n * up d * down e) (down e * down d) a (c * l) (l * l) (mul-pos (down_pos e) (down_pos d)) (mul-pos L L)
    (beside m (up e) (down e) (down d) a (l * l) p.1)
    (along n (up d) (down d) c l (down e) q.1)
    ∙ ap (λ (v : Bool). sum f v a u' (c * l) (l * l)) p.0
    ∙ ap (λ (v : Bool). sum f s a v (c * l) (l * l)) q.0

-- with an infinity, and with a NaN
pub infinite_plus : (f : Format) (s : Bool) (z : Float) (u : Bool) (c l : ℕ) → HasValue z u c l → add f (inf s) z ≡ inf s
unfolding add
infinite_plus f s nan u c l h = absurd h
infinite_plus f s (inf u') u c l h = absurd h
infinite_plus f s (fin u' n d) u c l h = refl

pub plus_infinite : (f : Format) (x : Float) (u : Bool) (s : Bool) (a l : ℕ) → HasValue x s a l → add f x (inf u) ≡ inf u
unfolding add
plus_infinite f nan u s a l h = absurd h
plus_infinite f (inf s') u s a l h = absurd h
plus_infinite f (fin s' m e) u s a l h = refl

pub plus_nan : (f : Format) (x : Float) → add f x nan ≡ nan
unfolding add
plus_nan f nan = refl
plus_nan f (inf s) = refl
plus_nan f (fin s m e) = refl
