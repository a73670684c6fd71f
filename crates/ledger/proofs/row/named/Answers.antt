-- One channel more is counted, and no count grows past the channels that there are.
use Rattle.std.proofs.Common.{◌<◌, below_more, length-set, arith}
use Rattle.layout.specs.Sizes.{slot_room}
use Rattle.layout.specs.Row.{place_of}
use Rattle.tally.specs.Tally.{is}
use Rattle.ledger.proofs.Counts.{tally_none, named_most, count_more, row_counted}
use Rattle.ledger.proofs.row.named.Goals as goal

pub loop-c-init : goal.loop-c-init
loop-c-init c = record {
  long = c.told-counts;
  named = λ k l. absurd (omega arith);
  counts = λ k l. let z = tally_none (λ d. is (place_of c.args.state.now c.args.row.index d) k) in omega arith;
}

pub overflow_add-counts : goal.overflow_add-counts
overflow_add-counts c =
    let slot = c.get-slot.result in
    let low : slot < slot_room = let h = c.requires.range.slots_high in omega arith in
    let a = c.loop-c.invariant.counts slot low in
    let b = named_most c.args.state.now c.args.row.index slot c.loop-c.c in
    let d = c.requires.counted.few slot low in
    omega arith

pub loop-c-preserved : goal.loop-c-preserved
loop-c-preserved c =
    let low : c.get-slot.result < slot_room = let h = c.requires.range.slots_high in omega arith in
    record {
      long = simp length-set c.loop-c.invariant.long;
      named = below_more _ _ c.loop-c.invariant.named (omega arith);
      counts = count_more c.args.state.now c.loop-c.counts c.args.counts.now c.args.row.index c.loop-c.c c.get-slot.result c.loop-c.invariant.long low c.get-slot.ensures c.loop-c.invariant.counts;
    }

pub returns-clause-counts : goal.returns-clause-counts
returns-clause-counts c = λ t. row_counted c.args.state.now c.args.counts.now c.loop-c.counts c.args.row.index c.loop-c.c c.requires.counted c.requires.few (omega arith) c.loop-c.invariant.counts
