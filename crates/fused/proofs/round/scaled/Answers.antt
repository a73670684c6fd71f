use Rattle.std.proofs.Common.{◌∙◌}
use Rattle.fused.proofs.Steps.{scaled_shift, scaled_up, scaled_down}
use Rattle.fused.proofs.round.scaled.Goals as goal

pub overflow_shl-result : goal.overflow_shl-result
overflow_shl-result c = scaled_shift c.args.w c.args.h c.args.g c.requires.some c.requires.room

pub returns-then-g-h : goal.returns-then-g-h
returns-then-g-h c = scaled_up c.args.w c.args.h c.args.g c.if-g-h.true c.requires.room

pub returns-else-g-h : goal.returns-else-g-h
returns-else-g-h c = c.nearest_whole.ensures ∙ scaled_down c.args.w c.args.h c.args.g c.if-g-h.false
