-- Before the first row nothing is counted, and after the last all rows are.
use Rattle.std.proofs.Common.{◌*◌, ◌∙◌, sym, arith}
use Rattle.std.proofs.lemmas.List.{get_or-replicate}
use Rattle.layout.specs.Sizes.{node_rows, slot_room}
use Rattle.ledger.proofs.Counts.{none_counted, all_named}
use Rattle.ledger.proofs.row.rows.Goals as goal

pub loop-index-init : goal.loop-index-init
loop-index-init c = record {
  kept = λ k l. absurd (omega arith);
  counted = none_counted c.args.state.now _ (λ k l. get_or-replicate slot_room k 0 0 l);
}

pub returns : goal.returns
returns c = (
  record { ports = λ id l. c.loop-index.invariant.kept id (omega arith); spare_row = sym c.get.ensures ∙ c.if-get-ne0.false },
  all_named c.args.state.now c.loop-index.counts (node_rows * c.loop-index.index) c.loop-index.invariant.counted (omega arith) (sym c.get.ensures ∙ c.if-get-ne0.false),
)
