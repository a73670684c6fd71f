-- Fewer ids are left to meet: a visit of an id that was not met makes them fewer, and only then are its edges followed.
use Rattle.std.proofs.Common.{◌≡◌, ℕ, ◌+◌, ◌-◌, ◌*◌, ◌<◌, ◌≤◌, None}
use Rattle.tally.specs.Listed.{listed}
use Rattle.layout.specs.Edge.{edge_at}
use Rattle.layout.specs.Views.{edges_of, breakers_of}
use Rattle.ordering.specs.Walk.{unmet, along, visit}
use Rattle.ordering.specs.Order.{breaks, targets}
use Rattle.ordering.specs.View.{notes}
use Rattle.ordering.proofs.pass.Pass.+walk.Given as goal

abbrev pub decreases-follow : goal.decreases-follow
decreases-follow l = 2 * unmet l.self.now.met + 1

abbrev pub decreases-visit : goal.decreases-visit
decreases-visit l = 2 * unmet l.self.now.met

-- following the edges from here on gives what following all of them gives
abbrev pub invariant-follow-loop-e : goal.invariant-follow-loop-e
invariant-follow-loop-e l =
    record {
      walks : (f : ℕ) → unmet l.initial.self.met < f
          → along (visit (targets (edges_of l.state)) (breaks (breakers_of l.state)) f) (notes l.self None) (targets (listed (edge_at l.state) (l.e-end - l.e) l.e) l.id.index)
          ≡ along (visit (targets (edges_of l.state)) (breaks (breakers_of l.state)) f) (notes l.initial.self None) (targets (edges_of l.state) l.id.index);
      path : l.self.path.items ≡ l.initial.self.path.items;
      fewer : unmet l.self.met ≤ unmet l.initial.self.met;
    }
