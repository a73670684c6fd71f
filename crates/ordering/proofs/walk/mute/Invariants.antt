-- Muting the ids from here on gives what muting all of them gives.
use Rattle.std.proofs.Common.{◌≡◌, drop}
use Rattle.ordering.specs.Walk.{mute_all}
use Rattle.ordering.proofs.walk.mute.Given as goal

abbrev pub invariant-loop-x : goal.invariant-loop-x
invariant-loop-x l = mute_all l.muted (drop l.x-index l.ids) ≡ mute_all l.initial.muted l.ids
