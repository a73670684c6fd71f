-- Row `to` has the channels of row `from` as far as the loop has come.
use Rattle.pool.proofs.Calls.{Sharing}
use Rattle.pool.proofs.row.share.Given as goal

abbrev pub invariant-loop-c : goal.invariant-loop-c
invariant-loop-c l = Sharing l.from.index l.to.index l.fn.state l.c l.state
