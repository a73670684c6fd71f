-- The first sum is written, and the rule kept.
use Rattle.std.proofs.Common.{◌≡◌, length, arith}
use Rattle.layout.specs.Sizes.{quantum}
use Rattle.pool.specs.Pool.{mem}
use Rattle.mixing.proofs.Mixes.{then_sound, then_channels, written_mixed, mixed_down_length}
use Rattle.mixing.proofs.mix.sum_front.Goals as goal

pub write-requires-2-clause-sound : goal.write-requires-2-clause-sound
write-requires-2-clause-sound c =
    let m = mem c.args.state.now c.args.pool.now in
    let long : length c.mix_down-first.result ≡ quantum = rw c.mix_down-first.ensures (mixed_down_length m c.args.row.index c.args.left) in
    then_sound _ _ _ _ (written_mixed c.mix_down-first.result m c.args.row.index 0 c.requires.sound c.args.row.in_range (omega arith) long) _ _ c.write.ensures

pub write-requires-2-clause-channel_in : goal.write-requires-2-clause-channel_in
write-requires-2-clause-channel_in c =
    let m = mem c.args.state.now c.args.pool.now in
    let long : length c.mix_down-first.result ≡ quantum = rw c.mix_down-first.ensures (mixed_down_length m c.args.row.index c.args.left) in
    let e = then_channels _ _ _ _ (written_mixed c.mix_down-first.result m c.args.row.index 0 c.requires.sound c.args.row.in_range (omega arith) long) _ _ c.write.ensures in
    omega arith
