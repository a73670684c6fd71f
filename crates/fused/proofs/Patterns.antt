-- What the pattern of a float says of it.
use Rattle.std.proofs.Common.{◌≡◌, refl, sym, ap, ◌∙◌, subst, ℕ, zero, suc, ◌+◌, ◌-◌, ◌*◌, ◌%◌, ◌^◌, ◌<◌, Bool, true, not, ◌&&◌, cond, T, leb, eqb, eqb→eq, T_not, arith, Float}
use Rattle.std.proofs.Math.Dec.{eqb-suc-zero, not_T}
use Rattle.std.specs.Float.{nan, inf, fin, binary32, NotNan}
use Rattle.std.specs.Float.Ieee.{is_nan, odd, of_fields, of_bits, to_bits, nan_bits, fits}
use Rattle.std.specs.Float.Ieee.Bits.{cond_no, of_bits-to_bits, nan_bits_is}
use Rattle.std.specs.Float.Ieee.Exact.{HasValue, odd_sign}
use Rattle.std.specs.Float.Ieee.Fits.{and_i, eq→eqb}
use Rattle.fused.specs.Steps.{field_of, significand_of, place_of}

-- ---- a finite pattern
fields_value : (s : Bool) (x t : ℕ) → x < 255 → HasValue (of_fields binary32 s x t) s (cond (eqb x 0) t (2 ^ 23 + t) * 2 ^ (x - 1)) (2 ^ 149)
unfolding of_fields
fields_value s zero t h = odd_sign 24 s t 0 149
fields_value s (suc x) t h =
    subst (λ (v : Float). HasValue v s (cond (eqb (suc x) 0) t (2 ^ 23 + t) * 2 ^ (suc x - 1)) (2 ^ 149))
    (sym (cond_no (eqb (suc x) 255) (cond (eqb t 0) (inf s) nan) (odd 24 s (2 ^ 23 + t) x 149) (not_T (eqb (suc x) 255) (λ e. no (eqb→eq (suc x) 255 e)))))
    (subst (λ (n : ℕ). HasValue (odd 24 s (2 ^ 23 + t) x 149) s n (2 ^ 149)) same (odd_sign 24 s (2 ^ 23 + t) x 149))
  where
    no : suc x ≡ 255 → ⊥
    no e = omega arith

    same : (2 ^ 23 + t) * 2 ^ x ≡ cond (eqb (suc x) 0) t (2 ^ 23 + t) * 2 ^ (suc x - 1)
    same = ap (λ (y : ℕ). (2 ^ 23 + t) * 2 ^ y) (omega arith) ∙ ap (λ (b : Bool). cond b t (2 ^ 23 + t) * 2 ^ (suc x - 1)) (sym (eqb-suc-zero x))

of_bits_value : (b : ℕ) → field_of b < 255 → HasValue (of_bits binary32 b) (leb (2 ^ 31) b) (significand_of b * 2 ^ place_of b) (2 ^ 149)
unfolding of_bits
of_bits_value b h = fields_value (leb (2 ^ 31) b) (field_of b) (b % 2 ^ 23) h

pub significand_of-lt : (b : ℕ) → significand_of b < 2 ^ 24
significand_of-lt b = go (field_of b)
  where
    go : (x : ℕ) → cond (eqb x 0) (b % 2 ^ 23) (2 ^ 23 + b % 2 ^ 23) < 2 ^ 24
    go zero = omega arith
    go (suc x) = subst (λ (t : Bool). cond t (b % 2 ^ 23) (2 ^ 23 + b % 2 ^ 23) < 2 ^ 24) (sym (eqb-suc-zero x)) (omega arith)

-- ---- an infinity's pattern
fields_infinite : (s : Bool) (x t : ℕ) → x ≡ 255 → t ≡ 0 → of_fields binary32 s x t ≡ inf s
unfolding of_fields
fields_infinite s x t p q = ap (λ (y : ℕ). of_fields binary32 s y t) p ∙ ap (λ (y : ℕ). of_fields binary32 s 255 y) q

nan_fields : (x t : ℕ) → T (not (eqb x 255 && not (eqb t 0))) → x ≡ 255 → t ≡ 0
nan_fields x zero h e = refl
nan_fields x (suc t) h e = absurd (T_not (eqb x 255 && not (eqb (suc t) 0)) h (and_i (eqb x 255) (not (eqb (suc t) 0)) (eq→eqb e) (subst (λ (b : Bool). T (not b)) (sym (eqb-suc-zero t)) tt)))

of_bits_infinite : (b : ℕ) → T (not (nan_bits binary32 b)) → field_of b ≡ 255 → of_bits binary32 b ≡ inf (leb (2 ^ 31) b)
unfolding of_bits nan_bits
of_bits_infinite b h e = fields_infinite (leb (2 ^ 31) b) (field_of b) (b % 2 ^ 23) e (nan_fields (field_of b) (b % 2 ^ 23) h e)

-- ---- of a float by its own pattern
pub nan_is : (x : Float) → is_nan x ≡ true → x ≡ nan
unfolding is_nan
nan_is nan h = refl
nan_is (inf s) h = absurd (subst T (sym h) tt)
nan_is (fin s m e) h = absurd (subst T (sym h) tt)

pub infinite_is : (x : Float) → T (fits binary32 x) → NotNan x → field_of (to_bits binary32 x) ≡ 255 → x ≡ inf (leb (2 ^ 31) (to_bits binary32 x))
infinite_is x f n e =
    let b = to_bits binary32 x in
    let same = of_bits-to_bits binary32 x f in
    sym same ∙ of_bits_infinite b (subst (λ (t : Bool). T (not t)) (sym (nan_bits_is binary32 b ∙ ap is_nan same)) n) e

pub finite_is : (x : Float) → T (fits binary32 x) → (field_of (to_bits binary32 x) ≡ 255 → ⊥)
    → HasValue x (leb (2 ^ 31) (to_bits binary32 x)) (significand_of (to_bits binary32 x) * 2 ^ place_of (to_bits binary32 x)) (2 ^ 149)
finite_is x f n =
    let b = to_bits binary32 x in
    let l : field_of b < 255 = omega arith in
    subst (λ (v : Float). HasValue v (leb (2 ^ 31) b) (significand_of b * 2 ^ place_of b) (2 ^ 149)) (of_bits-to_bits binary32 x f) (of_bits_value b l)
