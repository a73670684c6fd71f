-- Each sample of silence is +0.0, and a slot of +0.0 alone is silence.
use Rattle.std.proofs.Common.{below_more, refl, arith}
use Rattle.ledger.proofs.Zeros.{silence_from, silence_at}
use Rattle.ledger.proofs.silence.silent.Goals as goal

pub returns-then-not-zero : goal.returns-then-not-zero
returns-then-not-zero c = (λ t. absurd (cc), λ e. c.if-not-zero.ensures.1 (silence_at c.args.samples.now c.loop-x.x-index c.loop-x-test.true e))

pub loop-x-preserved : goal.loop-x-preserved
loop-x-preserved c = below_more _ _ c.loop-x.invariant (c.if-not-zero.ensures.0 refl)

pub returns : goal.returns
returns c = (λ t. silence_from c.args.samples.now c.told-samples (λ k l. c.loop-x.invariant k (omega arith)), λ e. refl)
