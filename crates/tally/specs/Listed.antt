-- Lists over the numbers from one on.
use Rattle.std.specs.Prelude.{ℕ, Bool, List, map, filter}
use Rattle.std.specs.List.{range_with_len}

-- f k, f (k + 1), .., n in all
abbrev pub listed : {A : Type 0} → (ℕ → A) → ℕ → ℕ → List A
listed f n k = map f (range_with_len k n)

-- those of the n numbers from k on that pass a test, upward
unfoldable pub passing : (ℕ → Bool) → ℕ → ℕ → List ℕ
passing p n k = filter p (range_with_len k n)
