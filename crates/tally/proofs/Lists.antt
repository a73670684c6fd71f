-- Laws of lists over the numbers from one on: their length, and when two are equal.
use Rattle.std.proofs.Common.{◌≡◌, ℕ, ◌+◌, ◌<◌, length, arith}
use Rattle.std.proofs.lemmas.List.{same_lists}
use Rattle.std.proofs.lemmas.List.FromFn.{length-map-range_with_len, get_or-map-range_with_len}
use Rattle.tally.specs.Listed.{listed}

pub listed-length : {A : Type 0} (f : ℕ → A) (n k : ℕ) → length (listed f n k) ≡ n
listed-length f n k = length-map-range_with_len f k n

-- the same elements, the same list
pub listed_ext : {A : Type 0} (f g : ℕ → A) (n k : ℕ) → ((i : ℕ) → i < n → f (k + i) ≡ g (k + i)) → listed f n k ≡ listed g n k
listed_ext f g n k h =
    same_lists _ _ (simp length-map-range_with_len) (λ i d l. grind (arith, length-map-range_with_len, get_or-map-range_with_len))
