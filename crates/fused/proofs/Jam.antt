-- Rounding to odd: a number that is cut at d, with one bit for whether anything was cut off. It is on the same side of every multiple of d as the number was,
-- so sums, differences, comparisons and a later rounding at a multiple of 2 * d see no difference.
use Rattle.std.proofs.Common.{◌≡◌, refl, sym, ap, ◌∙◌, subst, inl, inr, ℕ, zero, suc, ◌+◌, ◌-◌, ◌*◌, ◌/◌, ◌%◌, ◌≤◌, ◌<◌, div-add-mod', mod-lt, mul_comm, mul_assoc, mul-le-mul_right, le_of_eq, mul_left_comm, suc-mul, add-mul, lt_of_not-le, lt_irrefl, eq-zero-or-pos, le_of_suc-le-suc, arith, Bool, not, cond, T, eqb, eqb→eq, leb→le}
use Rattle.std.proofs.Math.Arith.{digits_div, digits_mod, digits_lt}
use Rattle.std.proofs.Math.Dec.{is_le, compare_is_eq, nleb→lt, eqb_refl, eqb-suc-zero}
use Rattle.std.proofs.lemmas.Bool.{cases_order}
use Rattle.std.specs.Float.Ieee.{nearest}
use Rattle.std.specs.Float.Ieee.Nearest.{closest}
use Prim.Native.Nat.{compare, Ordering}
use Rattle.fused.specs.Steps.{jam, sticky}

-- n is a * d + t with t below d, and w is 2 * a, or 2 * a + 1 where t is not 0
pub record Cut (n d w a t : ℕ) : Type 0 where
  pub whole : a * d + t ≡ n
  pub rest : t < d
  pub none : t ≡ 0 → w ≡ 2 * a
  pub some : 0 < t → w ≡ 2 * a + 1

bit_none : (r : ℕ) → r ≡ 0 → sticky r ≡ 0
bit_none zero e = refl
bit_none (suc r) e = absurd (omega arith)

bit_some : (r : ℕ) → 0 < r → sticky r ≡ 1
bit_some zero h = absurd (omega arith)
bit_some (suc r) h = ap (λ (b : Bool). cond b 0 1) (eqb-suc-zero r)

pub jam_cut : (n d : ℕ) → 0 < d → Cut n d (jam n d) (n / d) (n % d)
unfolding jam
jam_cut n d D = record {
  whole = div-add-mod' n d;
  rest = mod-lt n D;
  none = λ e. (let b = bit_none (n % d) e in omega arith);
  some = λ e. (let b = bit_some (n % d) e in omega arith);
}

same_w : (n d w a t v : ℕ) → Cut n d w a t → (t ≡ 0 → v ≡ 2 * a) → (0 < t → v ≡ 2 * a + 1) → w ≡ v
same_w n d w a t v c p q = elim (eq-zero-or-pos t) [ inl e ↦ c.none e ∙ sym (p e) | inr h ↦ c.some h ∙ sym (q h) ]

-- there is one such w, and it is `jam`
pub cut_jam : (n d w a t : ℕ) → Cut n d w a t → w ≡ jam n d
unfolding jam
cut_jam n d w a t c =
    let x : n / d ≡ a = ap (λ (z : ℕ). z / d) (sym c.whole) ∙ digits_div a c.rest in
    let y : n % d ≡ t = ap (λ (z : ℕ). z % d) (sym c.whole) ∙ digits_mod a c.rest in
    same_w n d w a t (2 * (n / d) + sticky (n % d)) c
    (λ e. (let b = bit_none (n % d) (y ∙ e) in omega arith))
    (λ h. (let b = bit_some (n % d) (subst (λ (z : ℕ). 0 < z) (sym y) h) in omega arith))

-- ---- x * d against a * d + t
pub under : (x a d : ℕ) → x < a → x * d + d ≤ a * d
under x a d h = subst (λ (z : ℕ). z ≤ a * d) (suc-mul x d ∙ refl) (mul-le-mul_right d h)

up_to : (x a d t : ℕ) → x * d ≤ a * d + t → t < d → x ≤ a
up_to x a d t h r = le_of_suc-le-suc (lt_of_not-le (λ (g : suc a ≤ x). no (x * d) (a * d) (under a x d g) h r))
  where
    no : (p q : ℕ) → q + d ≤ p → p ≤ q + t → t < d → ⊥
    no p q u v w = omega arith

down_to : (x a d t : ℕ) → a * d + t ≤ x * d → 0 < d → a ≤ x
down_to x a d t h r = le_of_suc-le-suc (lt_of_not-le (λ (g : suc x ≤ a). no (x * d) (a * d) (under x a d g) h r))
  where
    no : (p q : ℕ) → p + d ≤ q → q + t ≤ p → 0 < d → ⊥
    no p q u v w = omega arith

strictly : (x a d t : ℕ) → a * d + t ≤ x * d → 0 < t → t < d → a < x
strictly x a d t h s r = lt_of_not-le (λ (g : x ≤ a). no (x * d) (a * d) (mul-le-mul_right d g) h s)
  where
    no : (p q : ℕ) → p ≤ q → q + t ≤ p → 0 < t → ⊥
    no p q u v w = omega arith

-- ---- sums and differences with a multiple of d
pub cut_add : (x n d w a t : ℕ) → Cut n d w a t → Cut (x * d + n) d (2 * x + w) (x + a) t
cut_add x n d w a t c =
    let e : (x + a) * d ≡ x * d + a * d = add-mul x a d in
    let h = c.whole in
    record {
      whole = omega arith;
      rest = c.rest;
      none = λ z. (let k = c.none z in omega arith);
      some = λ z. (let k = c.some z in omega arith);
    }

pub cut_less : (x n d w a t : ℕ) → Cut n d w a t → x * d ≤ n → Cut (n - x * d) d (w - 2 * x) (a - x) t
cut_less x n d w a t c l =
    let h = c.whole in
    let le : x ≤ a = up_to x a d t (subst (λ (z : ℕ). x * d ≤ z) (sym h) l) c.rest in
    let e : (a - x + x) * d ≡ (a - x) * d + x * d = add-mul (a - x) x d in
    let f : (a - x + x) * d ≡ a * d = ap (λ (z : ℕ). z * d) (omega arith) in
    record {
      whole = omega arith;
      rest = c.rest;
      none = λ z. (let k = c.none z in omega arith);
      some = λ z. (let k = c.some z in omega arith);
    }

-- the cut of x * d - n, by whether n has a rest
from_exact : (x n d w a : ℕ) → Cut n d w a 0 → n ≤ x * d → Cut (x * d - n) d (2 * x - w) (x - a) 0
from_exact x n d w a c l =
    let h = c.whole in
    let r = c.rest in
    let le : a ≤ x = down_to x a d 0 (subst (λ (z : ℕ). z ≤ x * d) (sym h) l) r in
    let e : (x - a + a) * d ≡ (x - a) * d + a * d = add-mul (x - a) a d in
    let f : (x - a + a) * d ≡ x * d = ap (λ (z : ℕ). z * d) (omega arith) in
    let k = c.none refl in
    record { whole = omega arith; rest = r; none = λ z. omega arith; some = λ z. omega arith }

from_rest : (x n d w a t : ℕ) → 0 < t → Cut n d w a t → n ≤ x * d → Cut (x * d - n) d (2 * x - w) (x - suc a) (d - t)
from_rest x n d w a t T c l =
    let h = c.whole in
    let r = c.rest in
    let lt : a < x = strictly x a d t (subst (λ (z : ℕ). z ≤ x * d) (sym h) l) T r in
    let e : (x - suc a + suc a) * d ≡ (x - suc a) * d + suc a * d = add-mul (x - suc a) (suc a) d in
    let f : (x - suc a + suc a) * d ≡ x * d = ap (λ (z : ℕ). z * d) (omega arith) in
    let g : suc a * d ≡ a * d + d = suc-mul a d in
    let k = c.some T in
    record { whole = omega arith; rest = omega arith; none = λ z. omega arith; some = λ z. omega arith }

pub jam_from : (x n d : ℕ) → 0 < d → n ≤ x * d → 2 * x - jam n d ≡ jam (x * d - n) d
jam_from x n d D l = go (n % d) (jam_cut n d D)
  where
    go : (t : ℕ) → Cut n d (jam n d) (n / d) t → 2 * x - jam n d ≡ jam (x * d - n) d
    go zero c = cut_jam (x * d - n) d (2 * x - jam n d) (x - n / d) 0 (from_exact x n d (jam n d) (n / d) c l)
    go (suc t) c = cut_jam (x * d - n) d (2 * x - jam n d) (x - suc (n / d)) (d - suc t) (from_rest x n d (jam n d) (n / d) (suc t) (omega arith) c l)

pub jam_add : (x n d : ℕ) → 0 < d → 2 * x + jam n d ≡ jam (x * d + n) d
jam_add x n d D = cut_jam (x * d + n) d (2 * x + jam n d) (x + n / d) (n % d) (cut_add x n d (jam n d) (n / d) (n % d) (jam_cut n d D))

pub jam_less : (x n d : ℕ) → 0 < d → x * d ≤ n → jam n d - 2 * x ≡ jam (n - x * d) d
jam_less x n d D l = cut_jam (n - x * d) d (jam n d - 2 * x) (n / d - x) (n % d) (cut_less x n d (jam n d) (n / d) (n % d) (jam_cut n d D) l)

pub jam_exact : (x d : ℕ) → 0 < d → jam (x * d) d ≡ 2 * x
jam_exact x d D = sym (cut_jam (x * d) d (2 * x) x 0 (record { whole = omega arith; rest = D; none = λ z. refl; some = λ z. omega arith }))

-- ---- comparisons with a multiple of d
at_least : (n d w a t : ℕ) → Cut n d w a t → 2 * a ≤ w
at_least n d w a t c = elim (eq-zero-or-pos t) [ inl e ↦ le_of_eq (sym (c.none e)) | inr h ↦ (let k = c.some h in omega arith) ]

at_most : (n d w a t : ℕ) → Cut n d w a t → w ≤ 2 * a + 1
at_most n d w a t c = elim (eq-zero-or-pos t) [ inl e ↦ (let k = c.none e in omega arith) | inr h ↦ le_of_eq (c.some h) ]

cut_lt : (x n d w a t : ℕ) → Cut n d w a t → n < x * d → w < 2 * x
cut_lt x n d w a t c l =
    let h = c.whole in
    let g : a < x = lt_of_not-le (λ (g : x ≤ a). no (x * d) (a * d) (mul-le-mul_right d g) h l) in
    let k = at_most n d w a t c in
    omega arith
  where
    no : (p q : ℕ) → p ≤ q → q + t ≡ n → n < p → ⊥
    no p q u v y = omega arith

cut_ge : (x n d w a t : ℕ) → Cut n d w a t → x * d ≤ n → 2 * x ≤ w
cut_ge x n d w a t c l =
    let g : x ≤ a = up_to x a d t (subst (λ (z : ℕ). x * d ≤ z) (sym c.whole) l) c.rest in
    let k = at_least n d w a t c in
    omega arith

cut_le : (x n d w a t : ℕ) → Cut n d w a t → n ≤ x * d → w ≤ 2 * x
cut_le x n d w a t c l =
    let l' : a * d + t ≤ x * d = subst (λ (z : ℕ). z ≤ x * d) (sym c.whole) l in
    let r = c.rest in
    elim (eq-zero-or-pos t) [
      | inl e ↦ (let k = c.none e in let g : a ≤ x = down_to x a d t l' (omega arith) in omega arith)
      | inr h ↦ (let k = c.some h in let g : a < x = strictly x a d t l' h r in omega arith)
    ]

cut_gt : (x n d w a t : ℕ) → Cut n d w a t → x * d < n → 2 * x < w
cut_gt x n d w a t c l =
    let h = c.whole in
    elim (eq-zero-or-pos t) [
      | inl e ↦ (let k = c.none e in let g : x < a = lt_of_not-le (λ (g : a ≤ x). no (x * d) (a * d) (mul-le-mul_right d g) h l e) in omega arith)
      | inr p ↦ (let k = c.some p in let g : x ≤ a = up_to x a d t (omega arith) c.rest in omega arith)
    ]
  where
    no : (p q : ℕ) → q ≤ p → q + t ≡ n → p < n → t ≡ 0 → ⊥
    no p q u v y z = omega arith

pub jam_lt : (x n d : ℕ) → 0 < d → n < x * d → jam n d < 2 * x
jam_lt x n d D = cut_lt x n d (jam n d) (n / d) (n % d) (jam_cut n d D)

pub jam_le : (x n d : ℕ) → 0 < d → n ≤ x * d → jam n d ≤ 2 * x
jam_le x n d D = cut_le x n d (jam n d) (n / d) (n % d) (jam_cut n d D)

pub jam_ge : (x n d : ℕ) → 0 < d → x * d ≤ n → 2 * x ≤ jam n d
jam_ge x n d D = cut_ge x n d (jam n d) (n / d) (n % d) (jam_cut n d D)

pub jam_gt : (x n d : ℕ) → 0 < d → x * d < n → 2 * x < jam n d
jam_gt x n d D = cut_gt x n d (jam n d) (n / d) (n % d) (jam_cut n d D)

-- ---- what `compare` says
pub compare_lt : (a b : ℕ) → a < b → compare a b ≡ Ordering.lt
compare_lt a b h = go (compare a b) (nleb→lt a b) (λ (e : T (eqb a b)). lt_irrefl b (subst (λ (x : ℕ). x < b) (eqb→eq a b e) h))
  where
    go : (o : Ordering) → (T (not (is_le o)) → b < a) → (T (compare_is_eq o) → ⊥) → o ≡ Ordering.lt
    go Ordering.lt p q = refl
    go Ordering.eq p q = absurd (q tt)
    go Ordering.gt p q = absurd (omega (arith, p tt))

pub compare_eq : (a b : ℕ) → a ≡ b → compare a b ≡ Ordering.eq
compare_eq a b h = go (compare a b) (subst (λ (x : ℕ). T (eqb a x)) h (eqb_refl a))
  where
    go : (o : Ordering) → T (compare_is_eq o) → o ≡ Ordering.eq
    go Ordering.lt q = absurd q
    go Ordering.eq q = refl
    go Ordering.gt q = absurd q

pub compare_gt : (a b : ℕ) → b < a → compare a b ≡ Ordering.gt
compare_gt a b h = go (compare a b) (leb→le a b)
  where
    go : (o : Ordering) → (T (is_le o) → a ≤ b) → o ≡ Ordering.gt
    go Ordering.lt p = absurd (omega (arith, p tt))
    go Ordering.eq p = absurd (omega (arith, p tt))
    go Ordering.gt p = refl

-- ---- a rounding at a multiple of 2 * d

-- b * d + t against h * d as 2 * b + s against 2 * h
same_side : (b h d t s : ℕ) → t < d → (t ≡ 0 → s ≡ 0) → (0 < t → s ≡ 1) → compare ((b * d + t) * 2) (d * (2 * h)) ≡ compare ((2 * b + s) * 2) (2 * (2 * h))
same_side b h d t s r p q =
    let m : d * (2 * h) ≡ 2 * (h * d) = simp (mul_assoc, mul_comm, mul_left_comm) in
    let L = (b * d + t) * 2 in
    let R = d * (2 * h) in
    let Q = (2 * b + s) * 2 in
    let W = 2 * (2 * h) in
    let z : s ≤ 1 = elim (eq-zero-or-pos t) [ inl e ↦ (let k = p e in omega arith) | inr l ↦ (let k = q l in omega arith) ] in
    elim (cases_order b h) [
      | inr (inl l) ↦ (let u : b * d + d ≤ h * d = under b h d l in compare_lt L R (omega arith) ∙ sym (compare_lt Q W (omega arith)))
      | inl e ↦
          (let u : b * d ≡ h * d = ap (λ (x : ℕ). x * d) e in
          elim (eq-zero-or-pos t) [
            | inl i ↦ (let k = p i in compare_eq L R (omega arith) ∙ sym (compare_eq Q W (omega arith)))
            | inr i ↦ (let k = q i in compare_gt L R (omega arith) ∙ sym (compare_gt Q W (omega arith)))
          ])
      | inr (inr g) ↦ (let u : h * d + d ≤ b * d = under h b d g in compare_gt L R (omega arith) ∙ sym (compare_gt Q W (omega arith)))
    ]

-- a number q * m + r with r below m, rounded at m
pub closest_at : (q m r : ℕ) → r < m → closest (q * m + r) m ≡ nearest q (compare (r * 2) m)
closest_at q m r h = ap (λ (x : ℕ). nearest x (compare ((q * m + r) % m * 2) m)) (digits_div q h) ∙ ap (λ (x : ℕ). nearest q (compare (x * 2) m)) (digits_mod q h)

regroup : (q m b d t p n : ℕ) → (q * m + b) * d ≡ p → p + t ≡ n → q * (d * m) + (b * d + t) ≡ n
regroup q m b d t p n e g =
    let f : (q * m + b) * d ≡ q * m * d + b * d = add-mul (q * m) b d in
    let k : q * (d * m) ≡ q * m * d = simp (mul_assoc, mul_comm, mul_left_comm) in
    omega arith

-- rounded at 2 * h * d, for an h above 0, n and the odd one of its cut give the same
pub cut_closest : (n d w a t h : ℕ) → 0 < h → Cut n d w a t → closest n (d * (2 * h)) ≡ closest w (2 * (2 * h))
cut_closest n d w a t h H c =
    let m = 2 * h in
    let q = a / m in
    let b = a % m in
    let s = w - 2 * a in
    let b_lt : b < m = mod-lt a (omega arith) in
    let lo = at_least n d w a t c in
    let hi = at_most n d w a t c in
    let r = c.rest in
    let e : q * m + b ≡ a = div-add-mod' a m in
    let e1 : q * (d * m) + (b * d + t) ≡ n = regroup q m b d t (a * d) n (ap (λ (x : ℕ). x * d) e) c.whole in
    let e2 : q * (2 * m) + (2 * b + s) ≡ w = (let f : q * (2 * m) ≡ 2 * (q * m) = mul_left_comm q 2 m in omega arith) in
    let l1 : b * d + t < d * m = subst (λ (x : ℕ). b * d + t < x) (mul_comm m d) (digits_lt b_lt r) in
    let l2 : 2 * b + s < 2 * m = omega arith in
    ap (λ (x : ℕ). closest x (d * m)) (sym e1)
    ∙ closest_at q (d * m) (b * d + t) l1
    ∙ ap (λ (o : Ordering). nearest q o) (same_side b h d t s r (λ z. (let k = c.none z in omega arith)) (λ z. (let k = c.some z in omega arith)))
    ∙ sym (closest_at q (2 * m) (2 * b + s) l2)
    ∙ ap (λ (x : ℕ). closest x (2 * m)) e2
