use Rattle.std.proofs.Common.{◌^◌, pow_pos}
use Rattle.fused.proofs.Sums.{sum_like, sum_less, sum_more, sum_none}
use Rattle.fused.proofs.combine.add.Goals as goal

pub returns-then-x-y-clause-value : goal.returns-then-x-y-clause-value
returns-then-x-y-clause-value c =
    let x = c.args.x in
    let y = c.args.y in
    λ f d. rw (← c.requires.place) (sum_like f x.negative y.negative x.significand y.significand (2 ^ x.place) d (pow_pos x.place) c.if-x-y.true)

pub returns-then-x-y-2-clause-value : goal.returns-then-x-y-2-clause-value
returns-then-x-y-2-clause-value c =
    let x = c.args.x in
    let y = c.args.y in
    λ f d. rw (← c.requires.place) (sum_less f x.negative y.negative x.significand y.significand (2 ^ x.place) d (pow_pos x.place) c.if-x-y.false c.if-x-y-2.true)

pub returns-then-y-x-clause-value : goal.returns-then-y-x-clause-value
returns-then-y-x-clause-value c =
    let x = c.args.x in
    let y = c.args.y in
    λ f d. rw (← c.requires.place) (sum_more f x.negative y.negative x.significand y.significand (2 ^ x.place) d (pow_pos x.place) c.if-x-y.false c.if-y-x.true)

pub returns-else-y-x-clause-value : goal.returns-else-y-x-clause-value
returns-else-y-x-clause-value c =
    let x = c.args.x in
    let y = c.args.y in
    λ f d. rw (← c.requires.place) (sum_none f x.negative y.negative x.significand y.significand (2 ^ x.place) d (pow_pos x.place) c.if-x-y.false c.if-x-y-2.false c.if-y-x.false)
