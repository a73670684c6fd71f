-- Patterns and words.
use Rattle.std.proofs.Common.{◌≡◌, sym, ap, ◌∙◌, subst, ℕ, zero, suc, ◌<◌, List, [], ◌∷◌, ◌++◌, length, get_or, drop, Option, Some, None, Bor, T, Float, arith}
use Rattle.std.proofs.Math.Seq.{drop-append_seam, get_or-append_seam}
use Rattle.std.proofs.lemmas.List.{length-append}
use Rattle.std.proofs.lemmas.Str.Pattern.{IsSplitOnceResult, split_parts, split_after}
use Rattle.std.specs.Char.{digit_value}
use Rattle.std.specs.Float.{binary32}
use Rattle.std.specs.Float.Ieee.{of_bits, to_bits, fits}
use Rattle.std.specs.Float.Ieee.Bits.{of_bits-to_bits}
use Rattle.std.specs.Str.Parse.{AllDigits}
use Rattle.fused_vectors.specs.declared.vector.Vector.{Vector}
use Rattle.fused_vectors.specs.Vectors.{space, IsWord, Begins, Writes}

-- values with one pattern are one value
pub same : (x y : Float) → T (fits binary32 x) → T (fits binary32 y) → to_bits binary32 x ≡ to_bits binary32 y → x ≡ y
same x y f g e = sym (of_bits-to_bits binary32 x f) ∙ ap (λ (b : ℕ). of_bits binary32 b) e ∙ of_bits-to_bits binary32 y g

drop_word : (w rest text : List ℕ) → IsWord w → text ≡ w ++ space ∷ rest → drop 8 text ≡ space ∷ rest
drop_word w rest text i e = subst (λ (n : ℕ). drop n text ≡ space ∷ rest) i.0 (ap (λ (t : List ℕ). drop (length w) t) e ∙ drop-append_seam w (space ∷ rest))

-- a text begins in one way
pub same_rest : (text xs ys : List ℕ) (x y : Float) → Begins text x xs → Begins text y ys → xs ≡ ys
same_rest text xs ys x y a b =
    let e : space ∷ xs ≡ space ∷ ys = sym (drop_word a.word xs text a.is_word a.text_is) ∙ drop_word b.word ys text b.is_word b.text_is in
    ap (λ (t : List ℕ). drop 1 t) e

-- no digit is a space
no_space : (w : List ℕ) → AllDigits 16 w → (i : ℕ) → i < length w → get_or w i 0 ≡ space → ⊥
no_space [] d i l e = omega arith
no_space (c ∷ cs) d zero l e = omega (arith, subst (λ (n : ℕ). digit_value n < 16) e d.0)
no_space (c ∷ cs) d (suc i) l e = no_space cs d.1 i (omega (arith, l)) e

module _ (text : List ℕ) (r : Option (Bor (List ℕ) × Bor (List ℕ))) (split : IsSplitOnceResult space text r) (v : Float) (rest : List ℕ) (b : Begins text v rest) where
  -- a text that so begins has a space
  pub has_space : r ≡ None → ⊥
  has_space is =
      let none = rw is at (split_parts space text r split (omega arith)) in
      let there : get_or text (length b.word) 0 ≡ space = rw b.text_is (get_or-append_seam b.word space rest 0) in
      let inside : length b.word < length text = rw b.text_is (omega (arith, length-append b.word (space ∷ rest))) in
      none (length b.word) inside there

  -- and what stands before the first one is the word
  pub word_before : (x : Bor (List ℕ) × Bor (List ℕ)) → r ≡ Some x → IsWord x.0.now
  word_before x is =
      let parts = rw is at (split_after space text b.word rest r split (omega arith) b.text_is (no_space b.word b.is_word.1)) in
      rw parts.0 b.is_word

-- what a line that writes a vector has after one, two and three words
module _ (line : List ℕ) (v : Vector) (w : Writes line v) (x : Float) (rest : List ℕ) (a : Begins line x rest) where
  pub second : Begins rest v.b w.after_b
  second = subst (λ (t : List ℕ). Begins t v.b w.after_b) (same_rest line w.after_a rest v.a x w.a a) w.b

  module _ (y : Float) (rest_2 : List ℕ) (b : Begins rest y rest_2) where
    pub third : Begins rest_2 v.c w.last
    third = subst (λ (t : List ℕ). Begins t v.c w.last) (same_rest rest w.after_b rest_2 v.b y second b) w.c

    pub fourth : (z : Float) (rest_3 : List ℕ) → Begins rest_2 z rest_3 → IsWord rest_3
    fourth z rest_3 c = subst (λ (t : List ℕ). IsWord t) (same_rest rest_2 w.last rest_3 v.c z third c) w.is_word
