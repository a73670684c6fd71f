-- What each step needs is what the one before it leaves.
use Rattle.pool.specs.Pool.{mem}
use Rattle.mixing.proofs.Adds.{Asked, after_mix, after_mix_fits, after_share, after_both, after_both_alike, after_sum}
use Rattle.mixing.proofs.add.add_all.Goals as goal

pub share-requires-clause-held : goal.share-requires-clause-held
share-requires-clause-held c =
    let h : Asked c.args.row.index c.args.other.index c.args.count (mem c.args.state.now c.args.pool.now) =
    record { sound = c.requires.sound; row_in = c.args.row.in_range; other_in = c.args.other.in_range; apart = c.requires.apart; some = c.requires.some; other_some = c.requires.other_some; fits = c.requires.fits } in
    (after_mix _ _ _ _ h c.requires.row_in c.requires.other_in c.args.interpretation c.mix.new.state c.mix.new.pool c.mix.ensures).sound.held

pub share-requires-clause-fits : goal.share-requires-clause-fits
share-requires-clause-fits c =
    let h : Asked c.args.row.index c.args.other.index c.args.count (mem c.args.state.now c.args.pool.now) =
    record { sound = c.requires.sound; row_in = c.args.row.in_range; other_in = c.args.other.in_range; apart = c.requires.apart; some = c.requires.some; other_some = c.requires.other_some; fits = c.requires.fits } in
    after_mix_fits _ _ _ _ h c.requires.row_in c.requires.other_in c.args.interpretation c.mix.new.state c.mix.new.pool c.mix.ensures

pub mix-requires-2 : goal.mix-requires-2
mix-requires-2 c =
    let h : Asked c.args.row.index c.args.other.index c.args.count (mem c.args.state.now c.args.pool.now) =
    record { sound = c.requires.sound; row_in = c.args.row.in_range; other_in = c.args.other.in_range; apart = c.requires.apart; some = c.requires.some; other_some = c.requires.other_some; fits = c.requires.fits } in
    let a = after_share _ _ _ _ h c.requires.row_in c.requires.other_in c.args.interpretation c.mix.new.state c.mix.new.pool c.mix.ensures c.share.new.state c.share.ensures in
    record { sound = a.0; some = a.1; fits = a.2 }

pub add_row-requires-clause-sound : goal.add_row-requires-clause-sound
add_row-requires-clause-sound c =
    let h : Asked c.args.row.index c.args.other.index c.args.count (mem c.args.state.now c.args.pool.now) =
    record { sound = c.requires.sound; row_in = c.args.row.in_range; other_in = c.args.other.in_range; apart = c.requires.apart; some = c.requires.some; other_some = c.requires.other_some; fits = c.requires.fits } in
    (after_both _ _ _ _ h c.requires.row_in c.requires.other_in c.args.interpretation c.mix.new.state c.mix.new.pool c.mix.ensures c.share.new.state c.share.ensures c.mix-2.new.state c.mix-2.new.pool c.mix-2.ensures).sound

pub add_row-requires-clause-alike : goal.add_row-requires-clause-alike
add_row-requires-clause-alike c =
    let h : Asked c.args.row.index c.args.other.index c.args.count (mem c.args.state.now c.args.pool.now) =
    record { sound = c.requires.sound; row_in = c.args.row.in_range; other_in = c.args.other.in_range; apart = c.requires.apart; some = c.requires.some; other_some = c.requires.other_some; fits = c.requires.fits } in
    after_both_alike _ _ _ _ h c.requires.row_in c.requires.other_in c.args.interpretation c.mix.new.state c.mix.new.pool c.mix.ensures c.share.new.state c.share.ensures c.mix-2.new.state c.mix-2.new.pool c.mix-2.ensures

pub truncate-requires : goal.truncate-requires
truncate-requires c =
    let h : Asked c.args.row.index c.args.other.index c.args.count (mem c.args.state.now c.args.pool.now) =
    record { sound = c.requires.sound; row_in = c.args.row.in_range; other_in = c.args.other.in_range; apart = c.requires.apart; some = c.requires.some; other_some = c.requires.other_some; fits = c.requires.fits } in
    (after_sum _ _ _ _ h c.requires.row_in c.requires.other_in c.args.interpretation c.mix.new.state c.mix.new.pool c.mix.ensures c.share.new.state c.share.ensures c.mix-2.new.state c.mix-2.new.pool c.mix-2.ensures c.add_row.new.state c.add_row.new.pool c.add_row.ensures).held
