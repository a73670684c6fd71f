use Rattle.std.proofs.Common.{arith}
use Rattle.std.proofs.lemmas.Float.{not_nan_f32_bits}
use Rattle.fused.proofs.Steps.{with_sign}
use Rattle.fused.proofs.round.nearest_float.Goals as goal

pub float_from_bits-result : goal.float_from_bits-result
float_from_bits-result c =
    let h = c.magnitude-bits.ensures.below in
    rw (with_sign c.magnitude-bits.result h) (not_nan_f32_bits _ (omega arith))

pub float_from_bits-result-else-v : goal.float_from_bits-result-else-v
float_from_bits-result-else-v c = (let h = c.magnitude-bits.ensures.below in not_nan_f32_bits _ (omega arith))
