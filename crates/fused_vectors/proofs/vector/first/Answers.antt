use Rattle.std.proofs.lemmas.Result.{err_from_is_err_and}
use Rattle.fused_vectors.proofs.Words.{has_space, word_before}
use Rattle.fused_vectors.proofs.vector.first.Goals as goal

pub returns-in_err-first : goal.returns-in_err-first
returns-in_err-first c =
    let p = err_from_is_err_and c.from_residual.result c.from_residual.ensures.1 in
    rw p.1 (λ x rest b. has_space c.args.text.now _ c.split_once.ensures.cases x rest b c.in_err-first.ensures.ok_part)

pub returns-in_err-word : goal.returns-in_err-word
returns-in_err-word c =
    let p = err_from_is_err_and c.from_residual-in_err-word.result c.from_residual-in_err-word.ensures.1 in
    rw p.1 (λ x rest b. c.in_err-word.ensures (word_before c.args.text.now _ c.split_once.ensures.cases x rest b _ c.in_ok-first.ensures.ok_part))
