-- The nodes below the loop's are there.
use Rattle.marked.specs.Ready.{Ready}
use Rattle.marked.proofs.build.add_nodes.Given as goal

abbrev pub invariant-loop-index : goal.invariant-loop-index
invariant-loop-index l = Ready l.state l.index
