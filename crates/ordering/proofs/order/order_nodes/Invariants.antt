-- The passes from here on are those that the definition makes; each clearing takes a stored edge away.
use Rattle.layout.specs.Header.{edge_count}
use Rattle.ordering.proofs.Passing.{Passing}
use Rattle.ordering.proofs.order.order_nodes.Given as goal

abbrev pub invariant-loop-breaker : goal.invariant-loop-breaker
invariant-loop-breaker l = Passing l.initial.state l.state l.passes

abbrev pub decreases-loop-breaker : goal.decreases-loop-breaker
decreases-loop-breaker l = edge_count l.state
