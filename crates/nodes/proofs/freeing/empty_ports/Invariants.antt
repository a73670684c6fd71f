-- The ports below the loop's are empty.
use Rattle.nodes.proofs.Emptying.{Emptying}
use Rattle.nodes.proofs.freeing.empty_ports.Given as goal

abbrev pub invariant-loop-port : goal.invariant-loop-port
invariant-loop-port l = Emptying l.id.index l.initial.state l.port l.state
