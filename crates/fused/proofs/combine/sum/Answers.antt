use Rattle.std.proofs.Common.{◌∙◌}
use Rattle.fused.proofs.Specials.{infinite_number, number_infinite, like_infinities, unlike_infinities, numbers}
use Rattle.fused.proofs.combine.sum.Goals as goal

pub returns-then-s-t : goal.returns-then-s-t
returns-then-s-t c = λ x z p q. c.infinity.ensures ∙ like_infinities _ _ _ _ x z c.in-Infinite-Infinite.is-0 c.in-Infinite-Infinite.is-1 p q c.if-s-t.true

pub returns-else-s-t : goal.returns-else-s-t
returns-else-s-t c = λ x z p q. unlike_infinities _ _ _ _ x z c.in-Infinite-Infinite.is-0 c.in-Infinite-Infinite.is-1 p q c.if-s-t.false

pub returns-in-Infinite-Number : goal.returns-in-Infinite-Number
returns-in-Infinite-Number c = λ x z p q. c.infinity-in-Infinite-Number.ensures ∙ infinite_number _ _ _ _ x z c.in-Infinite-Number.is-0 c.in-Infinite-Number.is-1 p q

pub returns-in-Number-Infinite : goal.returns-in-Number-Infinite
returns-in-Number-Infinite c = λ x z p q. c.infinity-in-Number-Infinite.ensures ∙ number_infinite _ _ _ _ x z c.in-Number-Infinite.is-0 c.in-Number-Infinite.is-1 p q

pub returns-in-Number-Number : goal.returns-in-Number-Number
returns-in-Number-Number c = λ x z p q. c.finite_sum.ensures ∙ numbers _ _ _ _ x z c.in-Number-Number.is-0 c.in-Number-Number.is-1 p q
