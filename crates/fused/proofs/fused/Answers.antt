use Rattle.fused.specs.Fused.{fused_of, exact_product}
use Rattle.fused.proofs.fused.Goals as goal

pub returns : goal.returns
unfolding fused_of
returns c =
    c.sum.ensures (exact_product c.args.a c.args.b) c.args.c
    (c.product-product.ensures.value c.args.a c.args.b c.unpack.ensures.value c.unpack-2.ensures.value)
    c.unpack-3.ensures.value
