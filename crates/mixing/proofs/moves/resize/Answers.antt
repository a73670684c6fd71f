-- One channel more at each turn.
use Rattle.std.proofs.Common.{arith}
use Rattle.mixing.proofs.Moving.{resizing_turn}
use Rattle.mixing.proofs.moves.resize.Goals as goal

pub loop-row-preserved : goal.loop-row-preserved
loop-row-preserved c =
    rw c.push.ensures
    (resizing_turn c.args.state.now c.args.row.index c.args.count c.requires.held c.args.row.in_range c.loop-row.state c.loop-row.invariant (omega arith) c.requires.fits)
