-- The samples so far are sums.
use Rattle.std.proofs.Common.{◌≡◌, ℕ, ◌<◌, length}
use Rattle.std.specs.Float.Ieee.{add, binary32}
use Rattle.layout.specs.Sizes.{quantum}
use Rattle.pool.specs.Pool.{sample}
use Rattle.pool.proofs.samples.plus.Given as goal

abbrev pub invariant-loop-i : goal.invariant-loop-i
invariant-loop-i l = record {
  long : length l.sum ≡ quantum;
  sums : (k : ℕ) → k < l.i → sample l.sum k ≡ add binary32 (sample l.a k) (sample l.b k);
}
