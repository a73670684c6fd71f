use Rattle.std.proofs.Common.{ap, ◌∙◌, ℕ, ◌*◌, ◌^◌, zero-mul, mul-pos, pow_pos, arith, Float}
use Rattle.fused.specs.Fused.{exact_product}
use Rattle.fused.specs.Steps.{size_of}
use Rattle.fused.proofs.Exact.{infinite_by_zero, infinite_by_number}
use Rattle.fused.proofs.combine.infinite_product.Goals as goal

pub returns-then-v-eq0-clause-value : goal.returns-then-v-eq0-clause-value
returns-then-v-eq0-clause-value c =
    let v = c.args.v in
    λ x y e h. ap (λ (z : Float). exact_product z y) e
    ∙ infinite_by_zero c.args.negative y v.negative (size_of v) (2 ^ 149) (pow_pos 149) h (ap (λ (n : ℕ). n * 2 ^ v.place) c.if-v-eq0.true ∙ zero-mul (2 ^ v.place))

pub returns-else-v-eq0-clause-value : goal.returns-else-v-eq0-clause-value
returns-else-v-eq0-clause-value c =
    let v = c.args.v in
    λ x y e h. ap (λ (z : Float). exact_product z y) e ∙ infinite_by_number c.args.negative y v.negative (size_of v) (2 ^ 149) h (mul-pos (omega arith) (pow_pos v.place))
