-- Only the pattern 0 stands for +0.0, and a NaN is not equal to itself.
use Rattle.std.specs.Bool.{passes}
use Rattle.ledger.proofs.Zeros.{zero_by_bits, not_zero}
use Rattle.ledger.proofs.silence.zero.Goals as goal

pub returns-then-x : goal.returns-then-x
returns-then-x c = zero_by_bits c.args.x (passes _ c.well_formed.0.1)

pub returns-else-x : goal.returns-else-x
returns-else-x c = not_zero c.args.x c.if-x.false
