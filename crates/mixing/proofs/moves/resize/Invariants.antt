-- What is left to do leads where the whole does.
use Rattle.std.proofs.Common.{◌-◌}
use Rattle.layout.specs.Row.{channels_of}
use Rattle.mixing.proofs.Moving.{Resizing}
use Rattle.mixing.proofs.moves.resize.Given as goal

abbrev pub invariant-loop-row : goal.invariant-loop-row
invariant-loop-row l = Resizing l.fn.state l.row.index l.count l.state

abbrev pub decreases-loop-row : goal.decreases-loop-row
decreases-loop-row l = l.count - channels_of l.state l.row.index
