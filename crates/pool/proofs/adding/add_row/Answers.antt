-- One channel more at each turn.
use Rattle.std.proofs.Common.{arith}
use Rattle.pool.specs.Pool.{mem}
use Rattle.pool.proofs.Calls.{adding_first, adding_turn, adding_end}
use Rattle.pool.proofs.adding.add_row.Goals as goal

pub loop-c-init : goal.loop-c-init
loop-c-init c = adding_first c.args.row.index c.args.other.index (mem c.args.state.now c.args.pool.now) c.requires.sound

pub loop-c-preserved : goal.loop-c-preserved
loop-c-preserved c =
    rw c.add_channel.ensures
    (adding_turn c.args.row.index c.args.other.index (mem c.args.state.now c.args.pool.now) c.loop-c.c (mem c.loop-c.state c.loop-c.pool) c.loop-c.invariant
    c.args.row.in_range c.args.other.in_range c.requires.apart c.requires.alike (omega arith))

pub returns : goal.returns
returns c =
    adding_end c.args.row.index c.args.other.index (mem c.args.state.now c.args.pool.now) c.loop-c.c (mem c.loop-c.state c.loop-c.pool) c.loop-c.invariant (omega arith)
