-- One edge more leads on.
use Rattle.std.proofs.Common.{below_more, refl}
use Rattle.ledger.proofs.list.forward.Goals as goal

pub loop-index-preserved : goal.loop-index-preserved
loop-index-preserved c = below_more _ _ c.loop-index.invariant (c.if-not-leads_on.ensures.0 refl)
