use Rattle.std.proofs.lemmas.Nat.{leading_top}
use Rattle.fused.proofs.Steps.{Drops_by_zeros}
use Rattle.fused.proofs.round.dropped.Goals as goal

pub returns : goal.returns
returns c =
    let w = c.args.w in
    let h = c.args.h in
    let t = leading_top 64 w c.requires.some c.ranges.w.fits in
    rw (c.saturating_sub.ensures, c.from.ensures) (Drops_by_zeros w h t.0 _ t.2 t.3 t.1)
