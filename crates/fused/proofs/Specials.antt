-- `IsSum`, by what the two values are.
use Rattle.std.proofs.Common.{◌≡◌, refl, sym, ap, ◌∙◌, ◌*◌, ◌^◌, pow_pos, Bool, true, false, cond, Float}
use Rattle.std.specs.Float.{nan, inf, binary32}
use Rattle.std.specs.Float.Ieee.{add, sum, of_bits}
use Rattle.std.specs.Bool.{beq}
use Rattle.fused.specs.declared.bits.Finite.{Finite}
use Rattle.fused.specs.declared.bits.Value.{Value}
use Rattle.fused.specs.declared.bits.Value.TheVariants.{Nan, Infinite, Number}
use Rattle.fused.specs.Steps.{StandsFor, size_of}
use Rattle.fused.proofs.Exact.{plus_nan, infinite_plus, plus_infinite, add_values}

-- the constant `f32::NAN`
nan_is : of_bits binary32 0x7fc0_0000 ≡ nan
unfolding of_bits
nan_is = refl

-- a product or a summand that is no number
pub nan_first : (v : Value) (x z : Float) → v ≡ Nan → StandsFor 298 x v → of_bits binary32 0x7fc0_0000 ≡ add binary32 x z
unfolding add
nan_first v x z e h = nan_is ∙ ap (λ (y : Float). add binary32 y z) (sym (rw e at h))

pub nan_second : (v : Value) (x z : Float) → v ≡ Nan → StandsFor 149 z v → of_bits binary32 0x7fc0_0000 ≡ add binary32 x z
nan_second v x z e h = nan_is ∙ sym (plus_nan binary32 x) ∙ ap (λ (y : Float). add binary32 x y) (sym (rw e at h))

-- one infinity beside a number
pub infinite_number : (v w : Value) (s : Bool) (n : Finite) (x z : Float) → v ≡ Infinite s → w ≡ Number n → StandsFor 298 x v → StandsFor 149 z w → inf s ≡ add binary32 x z
infinite_number v w s n x z d e h k = sym (infinite_plus binary32 s z n.negative (size_of n) (2 ^ 149) (rw e at k)) ∙ ap (λ (y : Float). add binary32 y z) (sym (rw d at h))

pub number_infinite : (v w : Value) (s : Bool) (n : Finite) (x z : Float) → v ≡ Number n → w ≡ Infinite s → StandsFor 298 x v → StandsFor 149 z w → inf s ≡ add binary32 x z
number_infinite v w s n x z d e h k = sym (plus_infinite binary32 x s n.negative (size_of n) (2 ^ 298) (rw d at h)) ∙ ap (λ (y : Float). add binary32 x y) (sym (rw e at k))

-- two infinities
both : (s t : Bool) → add binary32 (inf s) (inf t) ≡ cond (beq s t) (inf s) nan
unfolding add
both s t = refl

both_infinite : (v w : Value) (s t : Bool) (x z : Float) → v ≡ Infinite s → w ≡ Infinite t → StandsFor 298 x v → StandsFor 149 z w → cond (beq s t) (inf s) nan ≡ add binary32 x z
both_infinite v w s t x z d e h k = sym (both s t) ∙ ap (λ (y : Float). add binary32 y (inf t)) (sym (rw d at h)) ∙ ap (λ (y : Float). add binary32 x y) (sym (rw e at k))

pub like_infinities : (v w : Value) (s t : Bool) (x z : Float) → v ≡ Infinite s → w ≡ Infinite t → StandsFor 298 x v → StandsFor 149 z w → beq s t ≡ true → inf s ≡ add binary32 x z
like_infinities v w s t x z d e h k b = ap (λ (c : Bool). cond c (inf s) nan) (sym b) ∙ both_infinite v w s t x z d e h k

pub unlike_infinities : (v w : Value) (s t : Bool) (x z : Float) → v ≡ Infinite s → w ≡ Infinite t → StandsFor 298 x v → StandsFor 149 z w → beq s t ≡ false → of_bits binary32 0x7fc0_0000 ≡ add binary32 x z
unlike_infinities v w s t x z d e h k b = nan_is ∙ ap (λ (c : Bool). cond c (inf s) nan) (sym b) ∙ both_infinite v w s t x z d e h k

-- two numbers
pub numbers : (v w : Value) (m n : Finite) (x z : Float) → v ≡ Number m → w ≡ Number n → StandsFor 298 x v → StandsFor 149 z w
    → sum binary32 m.negative (size_of m) n.negative (size_of n * 2 ^ 149) (2 ^ 298) ≡ add binary32 x z
numbers v w m n x z d e h k = sym (add_values binary32 x z m.negative n.negative (size_of m) (size_of n) (2 ^ 149) (pow_pos 149) (rw d at h) (rw e at k))
