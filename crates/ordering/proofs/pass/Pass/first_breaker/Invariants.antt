-- The search from here on gives what the whole search gives.
use Rattle.std.proofs.Common.{◌≡◌, drop}
use Rattle.std.specs.List.{find}
use Rattle.layout.specs.Node.{is_breaker}
use Rattle.ordering.proofs.pass.Pass.first_breaker.Given as goal

abbrev pub invariant-loop-x : goal.invariant-loop-x
invariant-loop-x l =
    (find (is_breaker l.state) (drop l.x-index l.x-items) ≡ find (is_breaker l.state) l.x-items) × (l.x-items ≡ drop l.at l.self.path.items)
