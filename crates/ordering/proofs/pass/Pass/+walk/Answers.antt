-- One visit and the walk along the edges of an id are the steps of the definition.
use Rattle.std.proofs.Math.Seq.{take-append_seam}
use Rattle.std.proofs.Common.{◌≡◌, ℕ, ◌+◌, ◌-◌, ◌<◌, refl, sym, ap, ◌∙◌, List, [], ◌∷◌, ◌++◌, None, length, take, drop, arith, length-append}
use Rattle.std.proofs.lemmas.List.Elements.{All-drop}
use Rattle.tally.specs.Listed.{listed}
use Rattle.layout.specs.Sizes.{id_room}
use Rattle.layout.specs.Edge.{edge_at}
use Rattle.layout.specs.Views.{edges_of, breakers_of}
use Rattle.layout.specs.declared.edge.Edge.{Edge}
use Rattle.ordering.specs.Walk.{Notes, unmet, opened_or_muted, along, visit}
use Rattle.ordering.specs.Order.{breaks, targets}
use Rattle.ordering.specs.View.{notes, index_of}
use Rattle.ordering.proofs.Steps.{visit_meets, visit_skips, visit_enters, leaves, found_some, found_none, along_on, along_stops, along_ends, targets_all, targets_here, targets_on, targets_end, find_breaker}
use Rattle.ordering.proofs.pass.Pass.+walk.Goals as goal
use Rattle.ordering.proofs.pass.Pass.+walk.Goals.{follow-then-edge-id+else-is_some, follow-else-edge-id}

abbrev go : List ℕ → ℕ → Notes → ℕ → Notes
go s f = visit (targets (edges_of s)) (breaks (breakers_of s)) f

pub follow-loop-e-init : goal.follow-loop-e-init
follow-loop-e-init t c =
    let s = c.args.state.now in
    record {
      walks = λ f h. ap (along (go s f) (notes c.args.self.now None)) (targets_all s c.args.id.index c.get-e-end.result c.get-e-end.ensures);
      path = refl;
      fewer = omega arith;
    }

pub follow-returns-then-is_some-clause-walks : goal.follow-returns-then-is_some-clause-walks
follow-returns-then-is_some-clause-walks t c = λ f h.
    let s = c.args.state.now in
    let id = c.args.id.index in
    let rest = targets (listed (edge_at s) (c.get-e-end.result - (c.loop-e.e + 1)) (c.loop-e.e + 1)) id in
    let todo = targets_here s id c.get-e-end.result c.loop-e.e c.loop-e-test.true (ap (λ (d : Edge). d.source) (sym c.read-edge.ensures) ∙ c.if-edge-id.true)
    ∙ ap (λ (d : Edge). d.target ∷ rest) (sym c.read-edge.ensures) in
    let b = found_some c.visit-found.result (sym c.is_some.ensures ∙ c.if-is_some.true) in
    along_stops (go s f) (notes c.loop-e.self None) (notes c.visit-found.new.self (index_of c.visit-found.result)) c.read-edge.result.target b.0 rest _ refl todo
    (c.visit-found.ensures.walks f (omega (arith, c.loop-e.invariant.fewer))) b.1
    ∙ c.loop-e.invariant.walks f h

pub follow-loop-e-preserved : goal.follow-loop-e-preserved
follow-loop-e-preserved t c =
    let s = c.args.state.now in
    let id = c.args.id.index in
    let rest = targets (listed (edge_at s) (c.get-e-end.result - (c.loop-e.e + 1)) (c.loop-e.e + 1)) id in
    elim c.if-edge-id.branch [
      | follow-then-edge-id+else-is_some w ↦
          let todo = targets_here s id c.get-e-end.result c.loop-e.e c.loop-e-test.true (ap (λ (d : Edge). d.source) (sym c.read-edge.ensures) ∙ w.if-edge-id.true)
          ∙ ap (λ (d : Edge). d.target ∷ rest) (sym c.read-edge.ensures) in
          let none = found_none w.visit-found.result (sym w.is_some.ensures ∙ w.if-is_some.false) in
          rw w.self-is (
          record {
            walks = λ f h.
                along_on (go s f) (notes c.loop-e.self None) (notes w.visit-found.new.self None) c.read-edge.result.target rest _ refl todo
                (ap (notes w.visit-found.new.self) (sym none) ∙ w.visit-found.ensures.walks f (omega (arith, c.loop-e.invariant.fewer)))
                ∙ c.loop-e.invariant.walks f h;
            path = w.visit-found.ensures.path ∙ c.loop-e.invariant.path;
            fewer = omega (arith, w.visit-found.ensures.fewer, c.loop-e.invariant.fewer);
          }
          )
      | follow-else-edge-id w ↦
          let todo = targets_on s id c.get-e-end.result c.loop-e.e c.loop-e-test.true (λ e. w.if-edge-id.false (ap (λ (d : Edge). d.source) c.read-edge.ensures ∙ e)) in
          rw w.self-is (
          record {
            walks = λ f h. ap (along (go s f) (notes c.loop-e.self None)) (sym todo) ∙ c.loop-e.invariant.walks f h;
            path = c.loop-e.invariant.path;
            fewer = c.loop-e.invariant.fewer;
          }
          )
    ]

pub follow-returns-clause-walks : goal.follow-returns-clause-walks
follow-returns-clause-walks t c = λ f h.
    along_ends _ _ _ (targets_end c.args.state.now c.args.id.index c.get-e-end.result c.loop-e.e c.loop-e-test.false) ∙ c.loop-e.invariant.walks f h

pub visit-returns-in-Some-clause-walks : goal.visit-returns-in-Some-clause-walks
visit-returns-in-Some-clause-walks t c = λ f h.
    let s = c.args.state.now in
    let n = notes c.args.self.now None in
    let loop = drop c.in-Some.at c.args.self.now.path.items in
    c.meet.ensures.meets
    ∙ ap (opened_or_muted n loop) (find_breaker s loop (All-drop (λ x. x < id_room) c.in-Some.at c.args.self.now.path.items c.args.self.now.on_path))
    ∙ visit_meets (targets (edges_of s)) (breaks (breakers_of s)) n c.args.id.index c.in-Some.at f (unmet c.args.self.now.met) (sym c.in-Some.ensures) h

pub visit-returns-then-self-id-clause-walks : goal.visit-returns-then-self-id-clause-walks
visit-returns-then-self-id-clause-walks t c = λ f h.
    let s = c.args.state.now in
    visit_skips (targets (edges_of s)) (breaks (breakers_of s)) (notes c.args.self.now None) c.args.id.index f (unmet c.args.self.now.met) (sym c.in_default.ensures) c.if-self-id.true h

back : (p q r : List ℕ) (id : ℕ) → q ≡ p ++ id ∷ [] → r ≡ take (length q - 1) q → r ≡ p
back p q r id e h =
    let k = ap length e in
    let len : length q - 1 ≡ length p = omega (arith, simp length-append at k) in
    h ∙ ap (λ (n : ℕ). take n q) len ∙ ap (take (length p)) e ∙ take-append_seam p (id ∷ [])

pub visit-returns-clause-walks : goal.visit-returns-clause-walks
visit-returns-clause-walks t c = λ f h.
    let s = c.args.state.now in
    let id = c.args.id.index in
    let p = c.args.self.now.path.items in
    let path = back p c.follow-found.new.self.path.items c.leave.new.self.path.items id (c.follow-found.ensures.path ∙ c.enter.ensures.path) c.leave.ensures.path in
    leaves c.follow-found.new.self c.leave.new.self c.follow-found.result c.is_some.result id p c.is_some.ensures c.leave.ensures.met path c.leave.ensures.finished c.leave.ensures.muted
    ∙ visit_enters (targets (edges_of s)) (breaks (breakers_of s)) (notes c.args.self.now None) (notes c.enter.new.self None) (notes c.follow-found.new.self (index_of c.follow-found.result))
    id f (unmet c.args.self.now.met) (unmet c.enter.new.self.met) (sym c.in_default.ensures) c.if-self-id.false h c.enter.ensures.fewer c.enter.ensures.enters c.follow-found.ensures.walks
