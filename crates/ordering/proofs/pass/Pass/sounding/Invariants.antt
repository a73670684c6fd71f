-- So far: the finished ids that are not muted.
use Rattle.std.proofs.Common.{◌≡◌, ◌<◌, ◌≤◌, length, not, filter, take}
use Rattle.std.specs.List.{All}
use Rattle.layout.specs.Sizes.{id_room}
use Rattle.ordering.specs.Walk.{flag}
use Rattle.ordering.proofs.pass.Pass.sounding.Given as goal

abbrev pub invariant-loop-x : goal.invariant-loop-x
invariant-loop-x l =
    record {
      ids : l.order.items ≡ filter (λ x. not (flag l.self.muted x)) (take l.x-index l.x-items);
      few : length l.order.items ≤ l.x-index;
      low : All (λ x. x < id_room) l.order.items;
      all : l.x-items ≡ l.self.finished.items;
    }
