-- The first channel that names another slot decides, or there is none.
use Rattle.std.proofs.Common.{◌≡◌, ◌==◌, sym, ne_eqb, eq-eqb, arith, false}
use Rattle.layout.specs.Row.{channels_of, place_of}
use Rattle.mixing.specs.Mixing.{names_one}
use Rattle.mixing.proofs.Adds.{all_pass, one_fails}
use Rattle.mixing.proofs.add.names_one.Goals as goal

pub returns-then-slot-first : goal.returns-then-slot-first
unfolding names_one
returns-then-slot-first c =
    let s = c.args.state.now in
    let r = c.args.row.index in
    let e : (place_of s r c.loop-c.c == place_of s r 0) ≡ false = ne_eqb _ _ (omega arith) in
    sym (one_fails (λ k. place_of s r k == place_of s r 0) (channels_of s r) 0 c.loop-c.c (omega arith) (omega arith) e)

pub returns : goal.returns
unfolding names_one
returns c =
    let s = c.args.state.now in
    let r = c.args.row.index in
    sym (all_pass (λ k. place_of s r k == place_of s r 0) (channels_of s r) 0 (λ k a b. eq-eqb _ _ (c.loop-c.invariant k (omega arith))))
