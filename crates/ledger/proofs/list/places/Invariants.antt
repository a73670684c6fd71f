-- The ids so far are below the bound and different, and the array has where each stands.
use Rattle.std.proofs.Common.{◌≡◌, ◌≢◌, ℕ, ◌<◌, ◌*◌, ◌⊎◌, length, slice_index}
use Rattle.layout.specs.Sizes.{id_room}
use Rattle.ledger.specs.Listed.{listed_at}
use Rattle.ledger.proofs.list.places.Given as goal

abbrev pub invariant-loop-k : goal.invariant-loop-k
invariant-loop-k l =
    record {
      long : length l.places ≡ id_room;
      low : (k : ℕ) → k < l.k → listed_at l.state k < id_room;
      distinct : (i j : ℕ) → i < j → j < l.k → listed_at l.state i ≢ listed_at l.state j;
      at : (k : ℕ) → k < l.k → slice_index l.places (listed_at l.state k) ≡ k;
      known : (x : ℕ) → x < id_room → (slice_index l.places x ≡ 2 * id_room) ⊎ ((slice_index l.places x < l.k) × (listed_at l.state (slice_index l.places x) ≡ x));
    }
