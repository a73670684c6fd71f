-- Each turn of the loop is a pass and a clearing of the definition.
use Rattle.ordering.proofs.Bounds.{unbounded}
use Rattle.ordering.specs.Shown.{Shows}
use Rattle.ordering.specs.State.{graph_of}
use Rattle.ordering.specs.Order.{ordered}
use Rattle.ordering.proofs.Counting.{promised}
use Rattle.ordering.proofs.Shown.{shown}
use Rattle.std.proofs.Common.{sym, ap, subst, List, ℕ, ◌∙◌}
use Rattle.ordering.specs.View.{index_of, Bounded}
use Rattle.ordering.proofs.Passing.{passing_first, passing_next, passing_last, settle_found}
use Rattle.ordering.proofs.order.order_nodes.Goals as goal

pub loop-breaker-init : goal.loop-breaker-init
loop-breaker-init c = passing_first c.args.state.now c.told-state c.requires

pub clear-requires : goal.clear-requires
clear-requires c =
    subst Bounded
    (sym (settle_found c.loop-breaker.state c.settle.new.state c.in-Some.breaker.index (index_of c.settle.result) c.settle.ensures.found (ap index_of c.in-Some.is) c.settle.ensures.state))
    c.loop-breaker.invariant.bounded

pub loop-breaker-smaller : goal.loop-breaker-smaller
loop-breaker-smaller c =
    (passing_next c.args.state.now c.loop-breaker.state c.settle.new.state c.clear.new.state c.loop-breaker.passes c.in-Some.breaker.index (index_of c.settle.result)
    c.loop-breaker.invariant c.settle.ensures.found (ap index_of c.in-Some.is) c.settle.ensures.state c.clear.ensures).1

pub loop-breaker-preserved : goal.loop-breaker-preserved
loop-breaker-preserved c =
    (passing_next c.args.state.now c.loop-breaker.state c.settle.new.state c.clear.new.state c.loop-breaker.passes c.in-Some.breaker.index (index_of c.settle.result)
    c.loop-breaker.invariant c.settle.ensures.found (ap index_of c.in-Some.is) c.settle.ensures.state c.clear.ensures).0

pub returns-clause-passes : goal.returns-clause-passes
returns-clause-passes c =
    (passing_last c.args.state.now c.loop-breaker.state c.settle.new.state c.loop-breaker.passes (index_of c.settle.result)
    c.loop-breaker.invariant c.settle.ensures.found (ap index_of c.in_default.is) c.settle.ensures.state).0

pub returns-clause-state : goal.returns-clause-state
returns-clause-state c =
    (passing_last c.args.state.now c.loop-breaker.state c.settle.new.state c.loop-breaker.passes (index_of c.settle.result)
    c.loop-breaker.invariant c.settle.ensures.found (ap index_of c.in_default.is) c.settle.ensures.state).1

pub returns-clause-shows : goal.returns-clause-shows
returns-clause-shows c =
    let s = c.args.state.now in
    subst (λ (t : List ℕ). Shows s t (ordered (graph_of s))) (sym (returns-clause-state c)) (shown s c.told-state c.requires).0

pub returns-clause-counts : goal.returns-clause-counts
returns-clause-counts c = returns-clause-passes c ∙ (shown c.args.state.now c.told-state c.requires).1

pub returns-clause-promised : goal.returns-clause-promised
returns-clause-promised c = promised (graph_of c.args.state.now)

pub returns-clause-unbounded : goal.returns-clause-unbounded
returns-clause-unbounded c = unbounded (graph_of c.args.state.now)
