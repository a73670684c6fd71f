-- One move more at each turn.
use Rattle.std.proofs.Common.{arith, get_or, None}
use Rattle.mixing.proofs.Moving.{picked_is, rearranging_first, rearranging_turn}
use Rattle.mixing.proofs.moves.rearrange.Goals as goal

pub loop-i-init : goal.loop-i-init
loop-i-init c = rw c.truncate.ensures (rearranging_first c.args.state.now c.args.row.index c.args.moves.now c.requires.held c.args.row.in_range)

pub loop-i-preserved : goal.loop-i-preserved
loop-i-preserved c =
    rw (c.push.ensures, c.taken-slot.ensures, c.first_six-slots.ensures, picked_is c.args.state.now c.args.row.index (get_or c.args.moves.now c.loop-i.i None) c.requires.few)
    (rearranging_turn c.args.state.now c.args.row.index c.args.moves.now c.requires.held c.args.row.in_range c.loop-i.i c.loop-i.state c.loop-i.invariant (omega arith) c.requires.fits)
