-- The notes after the run are those of a whole pass, and what is stored is read from them.
use Rattle.ordering.proofs.Steps.{found_none, found_some}
use Rattle.std.proofs.Common.{◌+◌, None, sym, ap, ◌∙◌, not}
use Rattle.layout.specs.Sizes.{id_room}
use Rattle.layout.specs.Views.{present_of}
use Rattle.ordering.specs.Walk.{Notes}
use Rattle.ordering.specs.Order.{sounding, silent}
use Rattle.ordering.specs.View.{notes, index_of}
use Rattle.ordering.proofs.Settling.{pass_is, unmet_of, settled_none, settled_some}
use Rattle.ordering.proofs.order.settle.Goals as goal

pub returns-then-is_none-clause-found : goal.returns-then-is_none-clause-found
returns-then-is_none-clause-found c =
    let n = notes c.run-found.new.self (index_of c.run-found.result) in
    ap (λ (m : Notes). m.found) (pass_is c.args.state.now n (notes c.new-pass.result None) c.new-pass.ensures (c.run-found.ensures (id_room + 1) (unmet_of c.new-pass.result c.new-pass.ensures)))

pub returns-then-is_none-clause-state : goal.returns-then-is_none-clause-state
returns-then-is_none-clause-state c =
    let n = notes c.run-found.new.self (index_of c.run-found.result) in
    let e = found_none c.run-found.result (c.is_none.ensures ∙ ap not c.if-is_none.true) in
    let m = ap (notes c.run-found.new.self) (sym e) in
    settled_none c.args.state.now c.put.new.state c.put-then-is_none.new.state _ _ n
    (pass_is c.args.state.now n (notes c.new-pass.result None) c.new-pass.ensures (c.run-found.ensures (id_room + 1) (unmet_of c.new-pass.result c.new-pass.ensures)))
    e c.put.ensures c.put-then-is_none.ensures (c.deref.ensures.0 ∙ c.sounding-order.ensures.ids ∙ ap sounding m)
    (c.deref-then-is_none.ensures.0 ∙ c.silent-muted.ensures.ids ∙ ap (λ (k : Notes). silent k (present_of c.args.state.now)) m)

pub returns-else-is_none-clause-found : goal.returns-else-is_none-clause-found
returns-else-is_none-clause-found c =
    let n = notes c.run-found.new.self (index_of c.run-found.result) in
    ap (λ (m : Notes). m.found) (pass_is c.args.state.now n (notes c.new-pass.result None) c.new-pass.ensures (c.run-found.ensures (id_room + 1) (unmet_of c.new-pass.result c.new-pass.ensures)))

pub returns-else-is_none-clause-state : goal.returns-else-is_none-clause-state
returns-else-is_none-clause-state c =
    let n = notes c.run-found.new.self (index_of c.run-found.result) in
    let b = found_some c.run-found.result (c.is_none.ensures ∙ ap not c.if-is_none.false) in
    settled_some c.args.state.now b.0 n
    (pass_is c.args.state.now n (notes c.new-pass.result None) c.new-pass.ensures (c.run-found.ensures (id_room + 1) (unmet_of c.new-pass.result c.new-pass.ensures)))
    b.1
