-- `sum` sees only the values of its two fractions; and two numbers that were rounded to odd at one place, of which one lost nothing, have the sum and the difference that the numbers have.
use Rattle.std.proofs.Common.{◌≡◌, refl, sym, ap, ◌∙◌, subst, inl, inr, ℕ, ◌+◌, ◌-◌, ◌*◌, ◌^◌, ◌≤◌, ◌<◌, mul_comm, mul_assoc, mul-le-mul_right, add-mul, add_comm, lt_of_mul-lt-mul_right, mul-lt-mul_of_pos_right, le_of_lt, arith, Bool, true, false, not, ◌&&◌, cond, T, ltb, ltb→lt, lt→ltb, nltb→le, pow_pos}
use Rattle.std.proofs.lemmas.Bool.{cases_lt}
use Rattle.std.proofs.Math.Arith.{le→nltb}
use Rattle.std.proofs.Math.Nat.{mul-sub}
use Rattle.std.proofs.Math.Bool.{and-true}
use Rattle.std.specs.Bool.{beq}
use Rattle.std.specs.Float.{Format, binary32}
use Rattle.std.specs.Float.Ieee.{round, sum}
use Rattle.std.specs.Float.Ieee.Bits.{is_true, is_false}
use Rattle.std.specs.Float.Ieee.Scale.{round_same}
use Rattle.fused.proofs.Jam.{jam_exact, jam_add, jam_less, jam_from, jam_lt, jam_le, jam_gt, jam_ge}
use Rattle.fused.proofs.Rounding.{Fine, round-jam}
use Rattle.fused.specs.Steps.{jam}

same_test : (a b : Bool) → (T a → T b) → (T b → T a) → a ≡ b
same_test true true p q = refl
same_test true false p q = absurd (p tt)
same_test false true p q = absurd (q tt)
same_test false false p q = refl

pub ltb_same : (a b c d : ℕ) → (a < b → c < d) → (c < d → a < b) → ltb a b ≡ ltb c d
ltb_same a b c d p q = same_test (ltb a b) (ltb c d) (λ t. lt→ltb c d (p (ltb→lt a b t))) (λ t. lt→ltb a b (q (ltb→lt c d t)))

sub_mul : (a b c : ℕ) → (a - b) * c ≡ a * c - b * c
sub_mul a b c = mul_comm (a - b) c ∙ mul-sub c a b ∙ ap (λ (x : ℕ). x - c * b) (mul_comm c a) ∙ ap (λ (x : ℕ). a * c - x) (mul_comm c b)

and_false : (s : Bool) → (s && false) ≡ false
and_false true = refl
and_false false = refl

-- ---- `sum`, part by part
pub sum_by : (f : Format) (s t : Bool) (a b c a' b' c' : ℕ) → ltb a b ≡ ltb a' b' → ltb b a ≡ ltb b' a'
    → ((u : Bool) → round f u (a + b) c ≡ round f u (a' + b') c')
    → (a < b → (u : Bool) → round f u (b - a) c ≡ round f u (b' - a') c')
    → (b ≤ a → (u : Bool) → round f u (a - b) c ≡ round f u (a' - b') c')
    → sum f s a t b c ≡ sum f s a' t b' c'
unfolding sum
sum_by f s t a b c a' b' c' l g p q r = go (beq s t) (ltb a b) refl
  where
    go : (x y : Bool) → ltb a b ≡ y
        → cond x (round f s (a + b) c) (cond (ltb a b) (round f t (b - a) c) (round f (s && ltb b a) (a - b) c))
        ≡ cond x (round f s (a' + b') c') (cond (ltb a' b') (round f t (b' - a') c') (round f (s && ltb b' a') (a' - b') c'))
    go true y e = p s
    go false true e =
        ap (λ (z : Bool). cond z (round f t (b - a) c) (round f (s && ltb b a) (a - b) c)) e
        ∙ q (ltb→lt a b (subst T (sym e) tt)) t
        ∙ ap (λ (z : Bool). cond z (round f t (b' - a') c') (round f (s && ltb b' a') (a' - b') c')) (sym e ∙ l)
    go false false e =
        ap (λ (z : Bool). cond z (round f t (b - a) c) (round f (s && ltb b a) (a - b) c)) e
        ∙ r (nltb→le a b (subst (λ (z : Bool). T (not z)) (sym e) tt)) (s && ltb b a)
        ∙ ap (λ (z : Bool). round f (s && z) (a' - b') c') g
        ∙ ap (λ (z : Bool). cond z (round f t (b' - a') c') (round f (s && ltb b' a') (a' - b') c')) (sym e ∙ l)

scaled_lt : (a b a' b' c c' : ℕ) → 0 < c → 0 < c' → a * c' ≡ a' * c → b * c' ≡ b' * c → a < b → a' < b'
scaled_lt a b a' b' c c' C C' p q h =
    lt_of_mul-lt-mul_right c (subst (λ (x : ℕ). x < b' * c) p (subst (λ (x : ℕ). a * c' < x) q (mul-lt-mul_of_pos_right h C')))

pub sum_same : (f : Format) (s t : Bool) (a b c a' b' c' : ℕ) → 0 < c → 0 < c' → a * c' ≡ a' * c → b * c' ≡ b' * c → sum f s a t b c ≡ sum f s a' t b' c'
sum_same f s t a b c a' b' c' C C' p q =
    sum_by f s t a b c a' b' c'
    (ltb_same a b a' b' (scaled_lt a b a' b' c c' C C' p q) (scaled_lt a' b' a b c' c C' C (sym p) (sym q)))
    (ltb_same b a b' a' (scaled_lt b a b' a' c c' C C' q p) (scaled_lt b' a' b a c' c C' C (sym q) (sym p)))
    (λ u. round_same f u (a + b) c (a' + b') c' C C' (add-mul a b c' ∙ ap (λ (x : ℕ). x + b * c') p ∙ ap (λ (x : ℕ). a' * c + x) q ∙ sym (add-mul a' b' c)))
    (λ h u. round_same f u (b - a) c (b' - a') c' C C' (sub_mul b a c' ∙ ap (λ (x : ℕ). x - a * c') q ∙ ap (λ (x : ℕ). b' * c - x) p ∙ sym (sub_mul b' a' c)))
    (λ h u. round_same f u (a - b) c (a' - b') c' C C' (sub_mul a b c' ∙ ap (λ (x : ℕ). x - b * c') p ∙ ap (λ (x : ℕ). a' * c - x) q ∙ sym (sub_mul a' b' c)))

-- ---- a and b rounded to odd at 2 ^ h
pub record Agree (a b h : ℕ) : Type 0 where
  pub plus : jam a (2 ^ h) + jam b (2 ^ h) ≡ jam (a + b) (2 ^ h)
  pub less : a ≤ b → jam b (2 ^ h) - jam a (2 ^ h) ≡ jam (b - a) (2 ^ h)
  pub more : b ≤ a → jam a (2 ^ h) - jam b (2 ^ h) ≡ jam (a - b) (2 ^ h)
  pub lt : a < b → jam a (2 ^ h) < jam b (2 ^ h)
  pub gt : b < a → jam b (2 ^ h) < jam a (2 ^ h)
  pub le : a ≤ b → jam a (2 ^ h) ≤ jam b (2 ^ h)
  pub ge : b ≤ a → jam b (2 ^ h) ≤ jam a (2 ^ h)

pub agree_swap : (a b h : ℕ) → Agree a b h → Agree b a h
agree_swap a b h g = record {
  plus = add_comm (jam b (2 ^ h)) (jam a (2 ^ h)) ∙ g.plus ∙ ap (λ (x : ℕ). jam x (2 ^ h)) (add_comm a b);
  less = g.more;
  more = g.less;
  lt = g.gt;
  gt = g.lt;
  le = g.ge;
  ge = g.le;
}

pub agree : (x b h : ℕ) → Agree (x * 2 ^ h) b h
agree x b h =
    let H = pow_pos h in
    let d = 2 ^ h in
    let e : jam (x * d) d ≡ 2 * x = jam_exact x d H in
    record {
      plus = ap (λ (z : ℕ). z + jam b d) e ∙ jam_add x b d H;
      less = λ l. ap (λ (z : ℕ). jam b d - z) e ∙ jam_less x b d H l;
      more = λ l. ap (λ (z : ℕ). z - jam b d) e ∙ jam_from x b d H l;
      lt = λ l. subst (λ (z : ℕ). z < jam b d) (sym e) (jam_gt x b d H l);
      gt = λ l. subst (λ (z : ℕ). jam b d < z) (sym e) (jam_lt x b d H l);
      le = λ l. subst (λ (z : ℕ). z ≤ jam b d) (sym e) (jam_ge x b d H l);
      ge = λ l. subst (λ (z : ℕ). jam b d ≤ z) (sym e) (jam_le x b d H l);
    }

pub record Fines (a b h : ℕ) : Type 0 where
  pub plus : Fine (a + b) h
  pub less : a < b → Fine (b - a) h
  pub more : b ≤ a → Fine (a - b) h

pub sum-jam : (s t : Bool) (a b h : ℕ) → Agree a b h → Fines a b h
    → sum binary32 s a t b (2 ^ 298) ≡ sum binary32 s (jam a (2 ^ h) * 2 ^ h) t (jam b (2 ^ h) * 2 ^ h) (2 ^ 299)
sum-jam s t a b h g f =
    let d = 2 ^ h in
    let x = jam a d in
    let y = jam b d in
    let H : 0 < d = pow_pos h in
    sum_by binary32 s t a b (2 ^ 298) (x * d) (y * d) (2 ^ 299)
    (ltb_same a b (x * d) (y * d) (λ l. mul-lt-mul_of_pos_right (g.lt l) H) (λ l. back a b x y g.ge (lt_of_mul-lt-mul_right d l)))
    (ltb_same b a (y * d) (x * d) (λ l. mul-lt-mul_of_pos_right (g.gt l) H) (λ l. back b a y x g.le (lt_of_mul-lt-mul_right d l)))
    (λ u. round-jam u (a + b) h f.plus ∙ ap (λ (z : ℕ). round binary32 u z (2 ^ 299)) (ap (λ (z : ℕ). z * d) (sym g.plus) ∙ add-mul x y d))
    (λ l u. round-jam u (b - a) h (f.less l) ∙ ap (λ (z : ℕ). round binary32 u z (2 ^ 299)) (ap (λ (z : ℕ). z * d) (sym (g.less (le_of_lt l))) ∙ sub_mul y x d))
    (λ l u. round-jam u (a - b) h (f.more l) ∙ ap (λ (z : ℕ). round binary32 u z (2 ^ 299)) (ap (λ (z : ℕ). z * d) (sym (g.more l)) ∙ sub_mul x y d))
  where
    back : (a b x y : ℕ) → (b ≤ a → y ≤ x) → x < y → a < b
    back a b x y p q = elim (cases_lt a b) [ inl l ↦ l | inr l ↦ absurd (omega (arith, p l)) ]

-- ---- where the rounding to odd does no harm
-- both are multiples of 2 ^ h
multiple : (x h : ℕ) → Fine (x * 2 ^ h) h
multiple x h = inl (ap (λ (z : ℕ). z * 2 ^ h) (jam_exact x (2 ^ h) (pow_pos h)) ∙ mul_assoc 2 x (2 ^ h))

pub fines_exact : (x y h : ℕ) → Fines (x * 2 ^ h) (y * 2 ^ h) h
fines_exact x y h = record {
  plus = subst (λ (z : ℕ). Fine z h) (add-mul x y (2 ^ h)) (multiple (x + y) h);
  less = λ l. subst (λ (z : ℕ). Fine z h) (sub_mul y x (2 ^ h)) (multiple (y - x) h);
  more = λ l. subst (λ (z : ℕ). Fine z h) (sub_mul x y (2 ^ h)) (multiple (x - y) h);
}

-- 2 ^ h is below half of the smallest value
pub fines_low : (a b h : ℕ) → h < 149 → Fines a b h
fines_low a b h l = record { plus = inr (inl l); less = λ _. inr (inl l); more = λ _. inr (inl l) }

-- the one is far above 2 ^ h, and the other is less than half of it
pub fines_first : (a b h z : ℕ) → 2 ^ (25 + h) ≤ z → 2 * z ≤ a → b < z → Fines a b h
fines_first a b h z p q r = record { plus = inr (inr (omega arith)); less = λ l. absurd (omega arith); more = λ l. inr (inr (omega arith)) }

pub fines_second : (a b h z : ℕ) → 2 ^ (25 + h) ≤ z → 2 * z ≤ b → a < z → Fines a b h
fines_second a b h z p q r = record { plus = inr (inr (omega arith)); less = λ l. inr (inr (omega arith)); more = λ l. absurd (omega arith) }

-- ---- `sum` by its cases, of multiples of one number
module _ (f : Format) (s t : Bool) (x y d c : ℕ) (D : 0 < d) where
  pub sum_like : beq s t ≡ true → round f s ((x + y) * d) c ≡ sum f s (x * d) t (y * d) c
  unfolding sum
  sum_like e =
      ap (λ (z : ℕ). round f s z c) (add-mul x y d)
      ∙ ap (λ (b : Bool). cond b (round f s (x * d + y * d) c) (cond (ltb (x * d) (y * d)) (round f t (y * d - x * d) c) (round f (s && ltb (y * d) (x * d)) (x * d - y * d) c))) (sym e)

  unlike_sum : beq s t ≡ false → cond (ltb (x * d) (y * d)) (round f t (y * d - x * d) c) (round f (s && ltb (y * d) (x * d)) (x * d - y * d) c) ≡ sum f s (x * d) t (y * d) c
  unfolding sum
  unlike_sum e = ap (λ (b : Bool). cond b (round f s (x * d + y * d) c) (cond (ltb (x * d) (y * d)) (round f t (y * d - x * d) c) (round f (s && ltb (y * d) (x * d)) (x * d - y * d) c))) (sym e)

  pub sum_less : beq s t ≡ false → x < y → round f t ((y - x) * d) c ≡ sum f s (x * d) t (y * d) c
  sum_less e h =
      ap (λ (z : ℕ). round f t z c) (sub_mul y x d)
      ∙ ap (λ (b : Bool). cond b (round f t (y * d - x * d) c) (round f (s && ltb (y * d) (x * d)) (x * d - y * d) c)) (sym (is_true (ltb (x * d) (y * d)) (lt→ltb (x * d) (y * d) (mul-lt-mul_of_pos_right h D))))
      ∙ unlike_sum e

  at_least : beq s t ≡ false → y ≤ x → (u : Bool) → s && ltb (y * d) (x * d) ≡ u → round f u ((x - y) * d) c ≡ sum f s (x * d) t (y * d) c
  at_least e h u g =
      ap (λ (z : ℕ). round f u z c) (sub_mul x y d)
      ∙ ap (λ (b : Bool). round f b (x * d - y * d) c) (sym g)
      ∙ ap (λ (b : Bool). cond b (round f t (y * d - x * d) c) (round f (s && ltb (y * d) (x * d)) (x * d - y * d) c)) (sym (is_false (ltb (x * d) (y * d)) (le→nltb (x * d) (y * d) (mul-le-mul_right d h))))
      ∙ unlike_sum e

  pub sum_more : beq s t ≡ false → y < x → round f s ((x - y) * d) c ≡ sum f s (x * d) t (y * d) c
  sum_more e h = at_least e (le_of_lt h) s (ap (λ (b : Bool). s && b) (is_true (ltb (y * d) (x * d)) (lt→ltb (y * d) (x * d) (mul-lt-mul_of_pos_right h D))) ∙ and-true s)

  pub sum_none : beq s t ≡ false → y ≤ x → x ≤ y → round f false (0 * d) c ≡ sum f s (x * d) t (y * d) c
  sum_none e h k =
      ap (λ (z : ℕ). round f false (z * d) c) (omega arith)
      ∙ at_least e h false (ap (λ (b : Bool). s && b) (is_false (ltb (y * d) (x * d)) (le→nltb (y * d) (x * d) (mul-le-mul_right d k))) ∙ and_false s)

pub sum_cong : (f : Format) (c : ℕ) {s s' t t' : Bool} {a a' b b' : ℕ} → s ≡ s' → a ≡ a' → t ≡ t' → b ≡ b' → sum f s a t b c ≡ sum f s' a' t' b' c
sum_cong f c {s} {s'} {t} {t'} {a} {a'} {b} {b'} p q r u =
    ap (λ (z : Bool). sum f z a t b c) p ∙ ap (λ (z : ℕ). sum f s' z t b c) q ∙ ap (λ (z : Bool). sum f s' a' z b c) r ∙ ap (λ (z : ℕ). sum f s' a' t' z c) u
