-- The samples so far are +0.0.
use Rattle.std.proofs.Common.{◌≡◌, ℕ, ◌<◌}
use Rattle.std.specs.Float.Ieee.{binary32, of_bits}
use Rattle.pool.specs.Pool.{sample}
use Rattle.ledger.proofs.silence.silent.Given as goal

abbrev pub invariant-loop-x : goal.invariant-loop-x
invariant-loop-x l = (k : ℕ) → k < l.x-index → sample l.samples k ≡ of_bits binary32 0
