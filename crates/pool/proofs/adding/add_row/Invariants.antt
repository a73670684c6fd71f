-- The rows are added as far as the loop has come.
use Rattle.pool.specs.Pool.{mem}
use Rattle.pool.proofs.Calls.{Adding}
use Rattle.pool.proofs.adding.add_row.Given as goal

abbrev pub invariant-loop-c : goal.invariant-loop-c
invariant-loop-c l = Adding l.row.index l.other.index (mem l.fn.state l.fn.pool) l.c (mem l.state l.pool)
