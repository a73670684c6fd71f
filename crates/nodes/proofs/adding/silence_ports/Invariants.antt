-- The ports below the loop's are silent.
use Rattle.nodes.proofs.Silencing.{Silencing}
use Rattle.nodes.proofs.adding.silence_ports.Given as goal

abbrev pub invariant-loop-port : goal.invariant-loop-port
invariant-loop-port l = Silencing l.side l.id.index l.count l.initial.state l.port l.state
