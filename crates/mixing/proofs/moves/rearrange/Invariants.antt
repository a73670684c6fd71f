-- The moves are made as far as the loop has come.
use Rattle.mixing.proofs.Moving.{Rearranging}
use Rattle.mixing.proofs.moves.rearrange.Given as goal

abbrev pub invariant-loop-i : goal.invariant-loop-i
invariant-loop-i l = Rearranging l.fn.state l.row.index l.moves l.i l.state
