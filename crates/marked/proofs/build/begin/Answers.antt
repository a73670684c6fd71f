-- The two words that are written make zeros a state to which nodes can be added.
use Rattle.marked.proofs.Begun.{begun}
use Rattle.marked.proofs.build.begin.Goals as goal

pub returns : goal.returns
returns c = begun c.args.state.now c.set.new.state c.set-2.new.state c.requires c.set.ensures c.set-2.ensures
