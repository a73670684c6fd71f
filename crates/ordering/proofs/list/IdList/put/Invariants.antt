-- Storing the ids from here on gives what storing all of them gives.
use Rattle.std.proofs.Common.{◌≡◌, drop}
use Rattle.ordering.specs.Listing.{put_list}
use Rattle.ordering.proofs.list.IdList.put.Given as goal

abbrev pub invariant-loop-index : goal.invariant-loop-index
invariant-loop-index l = put_list l.self l.state (drop l.index l.ids) l.index ≡ put_list l.self l.initial.state l.ids 0
