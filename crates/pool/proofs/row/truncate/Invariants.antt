-- What is left to do leads where the whole does.
use Rattle.std.proofs.Common.{◌≡◌}
use Rattle.layout.specs.Row.{channels_of}
use Rattle.pool.specs.Rows.{Held, truncated}
use Rattle.pool.proofs.row.truncate.Given as goal

abbrev pub invariant-loop-row : goal.invariant-loop-row
invariant-loop-row l = record {
  held : Held l.state;
  rest : truncated l.state l.row.index l.count ≡ truncated l.fn.state l.row.index l.count;
}

abbrev pub decreases-loop-row : goal.decreases-loop-row
decreases-loop-row l = channels_of l.state l.row.index
