-- A slot with a holder is not the one.
use Rattle.std.proofs.Common.{◌∙◌}
use Rattle.pool.proofs.Free.{lowest_turn}
use Rattle.pool.proofs.slot.lowest_free.Goals as goal

pub loop-k-preserved : goal.loop-k-preserved
loop-k-preserved c =
    let t = lowest_turn _ _ c.loop-k.invariant.inside c.requires.free c.loop-k.invariant.rest (λ e. c.loop-k-test.true (c.get.ensures ∙ e)) in
    record { inside = t.0; rest = t.1 }
