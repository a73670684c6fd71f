use Rattle.std.proofs.Common.{◌≡◌, sym, ap, ◌∙◌, ℕ, ◌+◌, ◌*◌, ◌^◌, mul_assoc, pow-add, arith}
use Rattle.std.specs.Float.{binary32}
use Rattle.std.specs.Float.Ieee.{sum}
use Rattle.fused.specs.Steps.{size_of}
use Rattle.fused.proofs.Cuts.{room_first, room_second, same_sum, fine_sum}
use Rattle.fused.proofs.Sums.{sum_cong, sum-jam}
use Rattle.fused.proofs.combine.finite_sum.Goals as goal

size_is : {n m h k : ℕ} → n ≡ m → h ≡ k → n * 2 ^ h ≡ m * 2 ^ k
size_is {n} {m} {h} {k} p q = ap (λ (x : ℕ). x * 2 ^ h) p ∙ ap (λ (x : ℕ). m * 2 ^ x) q

pub align-requires-clause-room : goal.align-requires-clause-room
align-requires-clause-room c =
    let p = c.args.product in
    room_first p.significand p.place c.args.c.significand (c.args.c.place + 149) c.level-place.result c.level-place.ensures.level c.requires.product.below c.requires.summand.below c.requires.product.leading
    (λ l. c.requires.summand.leading (omega arith))

pub align-requires-2-clause-room : goal.align-requires-2-clause-room
align-requires-2-clause-room c =
    let p = c.args.product in
    room_second p.significand p.place c.args.c.significand (c.args.c.place + 149) c.level-place.result c.level-place.ensures.level c.requires.product.below c.requires.summand.below c.requires.product.leading
    (λ l. c.requires.summand.leading (omega arith))

pub returns : goal.returns
returns c =
    let p = c.args.product in
    let z = c.args.c in
    let h = c.level-place.result in
    let j = z.place + 149 in
    let l = c.level-place.ensures.level in
    let s = same_sum p.significand p.place z.significand j h l c.requires.product.below c.requires.summand.below c.requires.product.leading (λ g. c.requires.summand.leading (omega arith)) in
    let f = fine_sum p.significand p.place z.significand j h l c.requires.product.below c.requires.summand.below c.requires.product.leading (λ g. c.requires.summand.leading (omega arith)) in
    c.nearest_float.ensures
    ∙ c.add.ensures.value binary32 (2 ^ 299)
    ∙ sum_cong binary32 (2 ^ 299) c.align.ensures.sign (size_is c.align.ensures.value c.align.ensures.place) c.align-2.ensures.sign (size_is c.align-2.ensures.value c.align-2.ensures.place)
    ∙ sym (sum-jam p.negative z.negative (size_of p) (z.significand * 2 ^ j) h s f)
    ∙ ap (λ (n : ℕ). sum binary32 p.negative (size_of p) z.negative n (2 ^ 298)) (ap (λ (n : ℕ). z.significand * n) (pow-add 2 z.place 149) ∙ sym (mul_assoc z.significand (2 ^ z.place) (2 ^ 149)))
