-- The walk over the present ids is that of the definition.
use Rattle.std.proofs.Common.{ℕ, ◌+◌, ◌-◌, refl, sym, ap, ◌∙◌, List, None, arith}
use Rattle.tally.specs.Listed.{passing}
use Rattle.layout.specs.Sizes.{id_room}
use Rattle.layout.specs.Node.{is_present}
use Rattle.layout.specs.Views.{edges_of, breakers_of, present_of}
use Rattle.ordering.specs.Walk.{Notes, along, visit}
use Rattle.ordering.specs.Order.{breaks, targets}
use Rattle.ordering.specs.View.{notes, index_of}
use Rattle.ordering.proofs.Steps.{found_some, found_none, along_on, along_stops, along_ends, passing_here, passing_on, passing_end}
use Rattle.ordering.proofs.pass.Pass.run.Goals as goal
use Rattle.ordering.proofs.pass.Pass.run.Goals.{then-get+else-is_some, else-get}

abbrev go : List ℕ → ℕ → Notes → ℕ → Notes
go s f = visit (targets (edges_of s)) (breaks (breakers_of s)) f

pub loop-index-init : goal.loop-index-init
unfolding present_of
loop-index-init c = record { walks = λ f h. refl; fewer = omega arith }

pub returns-then-is_some : goal.returns-then-is_some
returns-then-is_some c = λ f h.
    let s = c.args.state.now in
    let k = c.loop-index.index in
    let todo = passing_here (is_present s) id_room k c.loop-index-test.true (sym c.get.ensures ∙ c.if-get.true) in
    let b = found_some c.visit-found.result (sym c.is_some.ensures ∙ c.if-is_some.true) in
    along_stops (go s f) (notes c.loop-index.self None) (notes c.visit-found.new.self (index_of c.visit-found.result)) k b.0 (passing (is_present s) (id_room - (k + 1)) (k + 1)) _ refl todo
    (c.visit-found.ensures.walks f (omega (arith, c.loop-index.invariant.fewer))) b.1
    ∙ c.loop-index.invariant.walks f h

pub loop-index-preserved : goal.loop-index-preserved
loop-index-preserved c =
    let s = c.args.state.now in
    let k = c.loop-index.index in
    elim c.if-get.branch [
      | then-get+else-is_some w ↦
          let todo = passing_here (is_present s) id_room k c.loop-index-test.true (sym c.get.ensures ∙ w.if-get.true) in
          let none = found_none w.visit-found.result (sym w.is_some.ensures ∙ w.if-is_some.false) in
          rw w.self-is (
          record {
            walks = λ f h.
                along_on (go s f) (notes c.loop-index.self None) (notes w.visit-found.new.self None) k (passing (is_present s) (id_room - (k + 1)) (k + 1)) _ refl todo
                (ap (notes w.visit-found.new.self) (sym none) ∙ w.visit-found.ensures.walks f (omega (arith, c.loop-index.invariant.fewer)))
                ∙ c.loop-index.invariant.walks f h;
            fewer = omega (arith, w.visit-found.ensures.fewer, c.loop-index.invariant.fewer);
          }
          )
      | else-get w ↦
          let todo = passing_on (is_present s) id_room k c.loop-index-test.true (sym c.get.ensures ∙ w.if-get.false) in
          rw w.self-is (
          record {
            walks = λ f h. ap (along (go s f) (notes c.loop-index.self None)) (sym todo) ∙ c.loop-index.invariant.walks f h;
            fewer = c.loop-index.invariant.fewer;
          }
          )
    ]

pub returns : goal.returns
returns c = λ f h.
    along_ends _ _ _ (passing_end (is_present c.args.state.now) id_room c.loop-index.index c.loop-index-test.false) ∙ c.loop-index.invariant.walks f h
