-- The marked cases hold of the definitions, by computing.
use Rattle.std.proofs.Common.{refl}
use Rattle.ordering.specs.Walk.{from, mute_all, opened_or_muted, enter, finished_by, leave, go_on, along, step, visit}
use Rattle.ordering.specs.Order.{breaks, targets, cleared, fresh, pass, sounding, silent, ordered_by, ordered_from, ordered}
use Rattle.ordering.specs.Marked.{Marked}

pub marked : Marked
unfolding from mute_all opened_or_muted enter finished_by leave go_on along step visit breaks targets cleared fresh pass sounding silent ordered_by ordered_from ordered
marked = refl
