-- Two sums are written, and the rule kept.
use Rattle.std.proofs.Common.{arith}
use Rattle.pool.specs.Pool.{mem}
use Rattle.mixing.specs.declared.frame.Sum.TheVariants.{FourToLeft, FourToRight, SixToLeft, SixToRight, SixToFrontLeft, SixToFrontRight}
use Rattle.mixing.proofs.Mixes.{then_sound, then_channels, then_caps, summed_front_is}
use Rattle.mixing.proofs.mix.mix.Goals as goal

pub truncate-requires : goal.truncate-requires
truncate-requires c =
    let m = mem c.args.state.now c.args.pool.now in
    let a = c.pair.ensures.counts (omega arith) in
    (then_sound _ _ _ _ (summed_front_is m c.args.row.index c.requires.sound c.args.row.in_range FourToLeft FourToRight (omega arith)) _ _ c.sum_front.ensures).held

pub truncate-requires-in-62 : goal.truncate-requires-in-62
truncate-requires-in-62 c =
    let m = mem c.args.state.now c.args.pool.now in
    let a = c.pair.ensures.counts (omega arith) in
    let b = c.pair.ensures.to_few (omega arith) in
    (then_sound _ _ _ _ (summed_front_is m c.args.row.index c.requires.sound c.args.row.in_range SixToLeft SixToRight (omega arith)) _ _ c.sum_front-in-62.ensures).held

pub rearrange-requires-in-64 : goal.rearrange-requires-in-64
rearrange-requires-in-64 c =
    let m = mem c.args.state.now c.args.pool.now in
    let a = c.pair.ensures.counts (omega arith) in
    let b = c.pair.ensures.to_few (omega arith) in
    let d = summed_front_is m c.args.row.index c.requires.sound c.args.row.in_range SixToFrontLeft SixToFrontRight (omega arith) in
    let e = then_channels _ _ _ _ d _ _ c.sum_front-in-64.ensures in
    let f = then_caps _ _ _ _ d _ _ c.sum_front-in-64.ensures c.args.row.index c.args.row.in_range in
    record { held = (then_sound _ _ _ _ d _ _ c.sum_front-in-64.ensures).held; few = omega arith; fits = omega arith }
