use Rattle.std.proofs.Common.{◌∙◌}
use Rattle.fused.proofs.Steps.{cut_up, cut_far, cut_near}
use Rattle.fused.proofs.align.cut.Goals as goal

pub returns-then-h-i-clause-value : goal.returns-then-h-i-clause-value
returns-then-h-i-clause-value c = cut_up c.args.m c.args.i c.args.h c.if-h-i.true c.requires.room

pub returns-then-dropped-gt61-clause-value : goal.returns-then-dropped-gt61-clause-value
returns-then-dropped-gt61-clause-value c = c.from.ensures ∙ cut_far c.args.m c.args.i c.args.h c.if-h-i.false c.if-dropped-gt61.true c.requires.room

pub returns-clause-value : goal.returns-clause-value
returns-clause-value c = rw c.from-sticky.ensures (cut_near c.args.m c.args.i c.args.h c.if-h-i.false c.requires.room)
