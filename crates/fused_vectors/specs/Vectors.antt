-- The lines that a vector is read from.
use Rattle.std.specs.Prelude.{◌≡◌, ℕ, List, ◌∷◌, ◌++◌, length, Float, Result, MatchResult}
use Rattle.std.specs.Borrow.{Bor}
use Rattle.std.specs.Float.{binary32}
use Rattle.std.specs.Float.Ieee.{of_bits}
use Rattle.std.specs.Str.Parse.{AllDigits, digits_value}
use Rattle.fused_vectors.specs.declared.vector.Vector.{Vector}
use Rattle.fused_vectors.specs.declared.vector.VectorError.{VectorError}

-- eight hexadecimal digits
abbrev pub IsWord : List ℕ → Type 0
IsWord text = (length text ≡ 8) × AllDigits 16 text

-- the value whose pattern they write
abbrev pub word_of : List ℕ → Float
word_of text = of_bits binary32 (digits_value 16 text)

-- the byte of ' '
abbrev pub space : ℕ
space = 32

-- the text is a word that writes x, a space and the rest
pub record Begins (text : List ℕ) (x : Float) (rest : List ℕ) : Type 0 where
  pub word : List ℕ
  pub is_word : IsWord word
  pub text_is : text ≡ word ++ space ∷ rest
  pub x_is : x ≡ word_of word

-- the line is four words, a space between two, which write the values of v
pub record Writes (line : List ℕ) (v : Vector) : Type 0 where
  pub after_a : List ℕ
  pub after_b : List ℕ
  pub last : List ℕ
  pub a : Begins line v.a after_a
  pub b : Begins after_a v.b after_b
  pub c : Begins after_b v.c last
  pub is_word : IsWord last
  pub result_is : v.result ≡ word_of last

-- r is how the text begins, or an error where it does not so begin
abbrev pub ParsesFirst : List ℕ → Result (Float × Bor (List ℕ)) VectorError → Type 0
ParsesFirst text r = MatchResult r (λ x. Begins text x.0 x.1.now) (λ _. (x : Float) (rest : List ℕ) → ¬ Begins text x rest)

-- r is the vector that the line writes, or an error where it writes none
abbrev pub ParsesVector : List ℕ → Result Vector VectorError → Type 0
ParsesVector line r = MatchResult r (λ v. Writes line v) (λ _. (v : Vector) → ¬ Writes line v)
