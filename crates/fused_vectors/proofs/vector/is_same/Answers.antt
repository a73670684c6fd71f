use Rattle.std.proofs.Common.{arith}
use Rattle.std.specs.Bool.{passes}
use Rattle.fused_vectors.proofs.Words.{same}
use Rattle.fused_vectors.proofs.vector.is_same.Goals as goal

pub returns : goal.returns
returns c =
    let back = same c.args.x c.args.y (passes _ c.well_formed.0.1) (passes _ c.well_formed.1.0.1) in
    grind (arith, back)
