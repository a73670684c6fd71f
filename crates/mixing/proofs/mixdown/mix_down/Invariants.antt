-- The samples so far are sums.
use Rattle.std.proofs.Common.{◌≡◌, ℕ, ◌<◌, length}
use Rattle.layout.specs.Sizes.{quantum}
use Rattle.pool.specs.Pool.{mem, sample}
use Rattle.mixing.specs.Sums.{sum_of}
use Rattle.mixing.specs.Mixing.{frame_at}
use Rattle.mixing.proofs.mixdown.mix_down.Given as goal

abbrev pub invariant-loop-i : goal.invariant-loop-i
invariant-loop-i l = record {
  long : length l.mixed ≡ quantum;
  sums : (k : ℕ) → k < l.i → sample l.mixed k ≡ sum_of l.sum (frame_at (mem l.state l.pool) l.fn.row.index k);
}
