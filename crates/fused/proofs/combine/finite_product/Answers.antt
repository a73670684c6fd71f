use Rattle.std.proofs.Common.{◌^◌}
use Rattle.fused.proofs.Exact.{zero_size, product_size}
use Rattle.fused.proofs.combine.finite_product.Goals as goal

pub returns-then-significand-eq0-clause-value : goal.returns-then-significand-eq0-clause-value
returns-then-significand-eq0-clause-value c = (let v = c.args.v in let w = c.args.w in zero_size v.significand w.significand (2 ^ v.place) (2 ^ w.place) c.if-significand-eq0.true)

pub returns-else-significand-eq0-clause-value : goal.returns-else-significand-eq0-clause-value
returns-else-significand-eq0-clause-value c = (let v = c.args.v in let w = c.args.w in product_size v.significand v.place w.significand w.place)
