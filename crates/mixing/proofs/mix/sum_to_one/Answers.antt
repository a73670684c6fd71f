-- The sum is written, and the rule kept.
use Rattle.pool.specs.Pool.{mem}
use Rattle.std.proofs.Common.{length, ◌≡◌}
use Rattle.layout.specs.Sizes.{quantum}
use Rattle.mixing.proofs.Mixes.{then_sound, written_mixed, mixed_down_length}
use Rattle.mixing.proofs.mix.sum_to_one.Goals as goal

pub truncate-requires : goal.truncate-requires
truncate-requires c =
    let m = mem c.args.state.now c.args.pool.now in
    let long : length c.mix_down-mixed.result ≡ quantum = rw c.mix_down-mixed.ensures (mixed_down_length m c.args.row.index c.args.sum) in
    (then_sound _ _ _ _ (written_mixed c.mix_down-mixed.result m c.args.row.index 0 c.requires.sound c.args.row.in_range c.requires.some long) _ _ c.write.ensures).held
