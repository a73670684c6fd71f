use Rattle.std.proofs.Common.{◌≡◌, sym, ap, ◌∙◌, subst, ℕ, ◌+◌, ◌*◌, ◌<◌, ◌≤◌, ◌^◌, ◌%◌, arith}
use Rattle.std.specs.Float.{binary32}
use Rattle.std.specs.Float.Ieee.{round}
use Rattle.std.specs.Float.Ieee.Nearest.{closest}
use Rattle.fused.proofs.Pack.{pack, pack_zero}
use Rattle.fused.proofs.Rounding.{kept_le}
use Rattle.fused.proofs.Steps.{k_lt, magnitude_scaled}
use Rattle.fused.proofs.round.magnitude.Goals as goal

pub returns-then-w-eq0-clause-value : goal.returns-then-w-eq0-clause-value
returns-then-w-eq0-clause-value c = (λ s. pack_zero s c.args.h ∙ ap (λ (x : ℕ). round binary32 s (x * 2 ^ c.args.h) (2 ^ 299)) (sym c.if-w-eq0.true))

pub overflow_add-k : goal.overflow_add-k
overflow_add-k c = omega (arith, k_lt c.args.w c.args.h c.dropped-k.result (omega arith) c.requires.room c.requires.place c.dropped-k.ensures)

pub scaled-requires-clause-room : goal.scaled-requires-clause-room
scaled-requires-clause-room c = magnitude_scaled c.args.w c.args.h c.dropped-k.result (omega arith) c.requires.room c.requires.place c.dropped-k.ensures

pub overflow_add-bits : goal.overflow_add-bits
overflow_add-bits c =
    let w = c.args.w in
    let h = c.args.h in
    let k = c.dropped-k.result in
    let l : k < 1000 = k_lt w h k (omega arith) c.requires.room c.requires.place c.dropped-k.ensures in
    let q : c.scaled.result ≤ 2 ^ 24 = subst (λ (x : ℕ). x ≤ 2 ^ 24) (sym c.scaled.ensures) (kept_le (w * 2 ^ h) 150 k c.dropped-k.ensures) in
    omega arith

pub returns-clause-value : goal.returns-clause-value
returns-clause-value c =
    let w = c.args.w in
    let h = c.args.h in
    let k = c.dropped-k.result in
    let d = c.dropped-k.ensures in
    let l : k < 1000 = k_lt w h k (omega arith) c.requires.room c.requires.place d in
    let e : k * 2 ^ 23 % 2 ^ 64 + c.scaled.result ≡ k * 2 ^ 23 + closest (w * 2 ^ h) (2 ^ (150 + k)) = (let q = c.scaled.ensures in omega arith) in
    λ s. rw (c.min.ensures, e) (pack (w * 2 ^ h) k d s)
