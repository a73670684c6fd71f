use Rattle.std.proofs.Common.{sym, ap}
use Rattle.std.specs.Float.{inf}
use Rattle.std.specs.Float.Ieee.{div, of_bits}
use Rattle.fused.proofs.bits.infinity.Goals as goal

pub returns-then-negative : goal.returns-then-negative
unfolding div of_bits
returns-then-negative c = ap inf (sym c.if-negative.true)

pub returns-else-negative : goal.returns-else-negative
unfolding div of_bits
returns-else-negative c = ap inf (sym c.if-negative.false)
