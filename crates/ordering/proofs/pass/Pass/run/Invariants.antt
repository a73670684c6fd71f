-- Visiting the present ids from here on gives what visiting all of them gives.
use Rattle.std.proofs.Common.{◌≡◌, ℕ, ◌-◌, ◌<◌, ◌≤◌, None}
use Rattle.tally.specs.Listed.{passing}
use Rattle.layout.specs.Sizes.{id_room}
use Rattle.layout.specs.Node.{is_present}
use Rattle.layout.specs.Views.{edges_of, breakers_of, present_of}
use Rattle.ordering.specs.Walk.{unmet, along, visit}
use Rattle.ordering.specs.Order.{breaks, targets}
use Rattle.ordering.specs.View.{notes}
use Rattle.ordering.proofs.pass.Pass.run.Given as goal

abbrev pub invariant-loop-index : goal.invariant-loop-index
invariant-loop-index l =
    record {
      walks : (f : ℕ) → unmet l.initial.self.met < f
          → along (visit (targets (edges_of l.state)) (breaks (breakers_of l.state)) f) (notes l.self None) (passing (is_present l.state) (id_room - l.index) l.index)
          ≡ along (visit (targets (edges_of l.state)) (breaks (breakers_of l.state)) f) (notes l.initial.self None) (present_of l.state);
      fewer : unmet l.self.met ≤ unmet l.initial.self.met;
    }
