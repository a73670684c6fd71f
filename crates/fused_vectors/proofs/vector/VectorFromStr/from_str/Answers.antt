use Rattle.std.proofs.lemmas.Result.{err_from_is_err_and}
use Rattle.fused_vectors.proofs.Words.{second, third, fourth}
use Rattle.fused_vectors.proofs.vector.VectorFromStr.from_str.Goals as goal

pub returns-in_err-a : goal.returns-in_err-a
returns-in_err-a c =
    let p = err_from_is_err_and c.from_residual.result c.from_residual.ensures.1 in
    rw p.1 (λ v w. c.in_err-a.ensures v.a w.after_a w.a)

pub returns-in_err-b : goal.returns-in_err-b
returns-in_err-b c =
    let p = err_from_is_err_and c.from_residual-in_err-b.result c.from_residual-in_err-b.ensures.1 in
    rw p.1 (λ v w. c.in_err-b.ensures v.b w.after_b (second c.args.line.now v w _ _ c.in_ok-a.ensures))

pub returns-in_err-c : goal.returns-in_err-c
returns-in_err-c c =
    let p = err_from_is_err_and c.from_residual-in_err-c.result c.from_residual-in_err-c.ensures.1 in
    rw p.1 (λ v w. c.in_err-c.ensures v.c w.last (third c.args.line.now v w _ _ c.in_ok-a.ensures _ _ c.in_ok-b.ensures))

pub returns-in_err-word : goal.returns-in_err-word
returns-in_err-word c =
    let p = err_from_is_err_and c.from_residual-in_err-word.result c.from_residual-in_err-word.ensures.1 in
    rw p.1 (λ v w. c.in_err-word.ensures (fourth c.args.line.now v w _ _ c.in_ok-a.ensures _ _ c.in_ok-b.ensures _ _ c.in_ok-c.ensures))
