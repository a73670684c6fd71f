-- So far: the present ids that are muted.
use Rattle.std.proofs.Common.{◌≡◌, ◌<◌, ◌≤◌, length, filter}
use Rattle.std.specs.List.{All}
use Rattle.tally.specs.Listed.{passing}
use Rattle.layout.specs.Sizes.{id_room}
use Rattle.layout.specs.Node.{is_present}
use Rattle.ordering.specs.Walk.{flag}
use Rattle.ordering.proofs.pass.Pass.silent.Given as goal

abbrev pub invariant-loop-index : goal.invariant-loop-index
invariant-loop-index l =
    record {
      ids : l.muted.items ≡ filter (flag l.self.muted) (passing (is_present l.state) l.index 0);
      few : length l.muted.items ≤ l.index;
      low : All (λ x. x < id_room) l.muted.items;
    }
