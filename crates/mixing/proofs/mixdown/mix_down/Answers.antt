-- One sample more at each turn, and all of them at the end.
use Rattle.std.proofs.Common.{◌≡◌, ◌∙◌, ◌==◌, length-set, arith, rules}
use Rattle.std.specs.Float.Ieee.{nan}
use Rattle.std.proofs.lemmas.List.Edits.{fill_by_more}
use Rattle.layout.specs.Row.{channels_of}
use Rattle.pool.specs.Pool.{mem}
use Rattle.pool.proofs.Each.{each_sample_from}
use Rattle.mixing.specs.Sums.{sum_of}
use Rattle.mixing.specs.Mixing.{frame_at, mixed_down}
use Rattle.mixing.proofs.Frames.{six_inside, frame_six}
use Rattle.mixing.proofs.mixdown.mix_down.Goals as goal

pub frame-requires-clause-slots_in : goal.frame-requires-clause-slots_in
frame-requires-clause-slots_in c = λ k p. rw c.first_six-slots.ensures (six_inside (mem c.args.state.now c.args.pool.now) c.args.row.index k c.requires.sound c.args.row.in_range p)

pub loop-i-preserved : goal.loop-i-preserved
loop-i-preserved c =
    let m = mem c.args.state.now c.args.pool.now in
    let frame : c.frame.result ≡ frame_at m c.args.row.index c.loop-i.i =
    c.frame.ensures ∙ rw (c.first_six-slots.ensures, c.get-six.ensures) (frame_six c.args.state.now c.args.pool.now c.args.row.index c.loop-i.i (channels_of c.args.state.now c.args.row.index == 6)) in
    rw (c.of.ensures, frame)
    (record {
      long = simp length-set c.loop-i.invariant.long;
      sums = fill_by_more (λ i. sum_of c.args.sum (frame_at m c.args.row.index i)) c.loop-i.mixed c.loop-i.i nan (omega arith) c.loop-i.invariant.sums;
    })

pub returns : goal.returns
unfolding mixed_down
returns c =
    each_sample_from (λ i. sum_of c.args.sum (frame_at (mem c.args.state.now c.args.pool.now) c.args.row.index i)) c.loop-i.mixed c.loop-i.invariant.long (search rules)
