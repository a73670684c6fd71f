use Rattle.fused.proofs.Steps.{nearest_none, nearest_tie}
use Rattle.fused.proofs.round.nearest_whole.Goals as goal

pub returns-then-t-gt63 : goal.returns-then-t-gt63
returns-then-t-gt63 c = nearest_none c.args.w c.args.t c.requires.room c.if-t-gt63.true

pub returns-else-rest-half-2 : goal.returns-else-rest-half-2
returns-else-rest-half-2 c = nearest_tie c.args.w c.args.t c.requires.room c.requires.some c.if-t-gt63.false c.if-rest-half.false c.if-rest-half-2.false
