use Rattle.std.proofs.Common.{arith}
use Rattle.std.proofs.lemmas.Int.Digits.{digits_value-lt}
use Rattle.fused_vectors.proofs.vector.word.Goals as goal

pub returns-in-Err : goal.returns-in-Err
returns-in-Err c = λ w. grind (arith, digits_value-lt 16 c.args.text.now w.1)
