-- The channels so far name the first one's slot.
use Rattle.std.proofs.Common.{◌≡◌, ℕ, ◌<◌}
use Rattle.layout.specs.Row.{place_of}
use Rattle.mixing.proofs.add.names_one.Given as goal

abbrev pub invariant-loop-c : goal.invariant-loop-c
invariant-loop-c l = (k : ℕ) → k < l.c → place_of l.state l.row.index k ≡ place_of l.state l.row.index 0
