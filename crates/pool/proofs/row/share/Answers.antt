-- The channel that is pushed names what the same channel of row `from` names.
use Rattle.std.proofs.Common.{◌≡◌, ℕ, ◌∙◌, ap, List, arith}
use Rattle.layout.specs.Row.{channels_of}
use Rattle.pool.proofs.Calls.{sharing_first, sharing_turn}
use Rattle.pool.proofs.row.share.Goals as goal

pub loop-c-preserved : goal.loop-c-preserved
loop-c-preserved c =
    let first = sharing_first c.args.from.index c.args.to.index c.args.state.now c.args.from.in_range c.args.to.in_range c.requires.apart c.requires.held in
    let count : c.get-c-end.result ≡ channels_of c.args.state.now c.args.from.index =
    c.get-c-end.ensures ∙ ap (λ (s : List ℕ). channels_of s c.args.from.index) c.truncate.ensures ∙ first.source in
    rw (c.push.ensures, c.slot-slot.ensures)
    (sharing_turn _ _ _ c.args.from.in_range c.args.to.in_range c.requires.apart _ _ c.loop-c.invariant (omega arith) c.requires.fits)
