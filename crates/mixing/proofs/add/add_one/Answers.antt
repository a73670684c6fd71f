-- What each step needs is what the one before it leaves.
use Rattle.std.proofs.Common.{arith, rules}
use Rattle.pool.specs.Pool.{mem}
use Rattle.mixing.proofs.Mixes.{then_sound, then_channels, then_caps}
use Rattle.mixing.proofs.Adds.{Asked, first_kept, first_other, first_added}
use Rattle.mixing.proofs.add.add_one.Goals as goal

pub add_channel-requires : goal.add_channel-requires
add_channel-requires c =
    let h : Asked c.args.row.index c.args.other.index c.args.count (mem c.args.state.now c.args.pool.now) =
    record { sound = c.requires.sound; row_in = c.args.row.in_range; other_in = c.args.other.in_range; apart = c.requires.apart; some = c.requires.some; other_some = c.requires.other_some; fits = c.requires.fits } in
    let a = first_kept _ _ _ _ h in
    let b = a.channels in
    let d = first_other _ _ _ _ h in
    record { sound = rw c.truncate.ensures a.sound; channel_in = rw c.truncate.ensures (omega arith); other_in = rw c.truncate.ensures (omega arith); apart = search rules }

pub mix-requires : goal.mix-requires
mix-requires c =
    let h : Asked c.args.row.index c.args.other.index c.args.count (mem c.args.state.now c.args.pool.now) =
    record { sound = c.requires.sound; row_in = c.args.row.in_range; other_in = c.args.other.in_range; apart = c.requires.apart; some = c.requires.some; other_some = c.requires.other_some; fits = c.requires.fits } in
    let a = first_added _ _ _ _ h in
    let e = rw c.truncate.ensures at c.add_channel.ensures in
    let d = then_channels _ _ _ _ a _ _ e in
    let f = then_caps _ _ _ _ a _ _ e c.args.row.index c.args.row.in_range in
    record { sound = then_sound _ _ _ _ a _ _ e; some = omega arith; fits = omega arith }
