-- The channels so far name slots and are counted.
use Rattle.std.proofs.Common.{◌≡◌, ℕ, ◌+◌, ◌<◌, length, slice_index}
use Rattle.layout.specs.Sizes.{slot_room}
use Rattle.layout.specs.Header.{slots_of}
use Rattle.layout.specs.Row.{place_of}
use Rattle.tally.specs.Tally.{tally, is}
use Rattle.ledger.proofs.row.named.Given as goal

abbrev pub invariant-loop-c : goal.invariant-loop-c
invariant-loop-c l =
    record {
      long : length l.counts ≡ slot_room;
      named : (c : ℕ) → c < l.c → place_of l.state l.row.index c < slots_of l.state;
      counts : (k : ℕ) → k < slot_room → slice_index l.counts k ≡ slice_index l.initial.counts k + tally (λ c. is (place_of l.state l.row.index c) k) l.c;
    }
