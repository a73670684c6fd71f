use Rattle.std.proofs.Common.{subst, ◌^◌, Float}
use Rattle.fused.proofs.Exact.{exact_product_value, exact_product_comm}
use Rattle.fused.specs.Steps.{size_of, StandsFor}
use Rattle.fused.proofs.combine.product.Goals as goal

pub returns-in-Number-Number-clause-value : goal.returns-in-Number-Number-clause-value
returns-in-Number-Number-clause-value c =
    let v = c.in-Number-Number.v in
    let w = c.in-Number-Number.w in
    let r = c.finite_product.ensures in
    λ x y p q. rw (r.sign, r.value) (exact_product_value x y v.negative w.negative (size_of v) (size_of w) (2 ^ 149) (2 ^ 149) (rw c.in-Number-Number.is-0 at p) (rw c.in-Number-Number.is-1 at q))

pub returns-in-Number-Infinite-clause-value : goal.returns-in-Number-Infinite-clause-value
returns-in-Number-Infinite-clause-value c =
    let n = c.in-Number-Infinite in
    let r = c.infinite_product-in-Number-Infinite in
    λ x y p q.
    subst (λ (z : Float). StandsFor 298 z r.result) (exact_product_comm y x) (r.ensures.value y x (rw n.is-1 at q) (rw n.is-0 at p))
