-- The steps of the loops over a path.
use Rattle.std.proofs.Common.{◌≡◌, sym, ap, ◌∙◌, ℕ, ◌+◌, ◌<◌, ◌≤◌, Bool, true, false, cond, List, Some, None, length, get_or, drop, slice_set}
use Rattle.std.specs.List.{find}
use Rattle.std.proofs.lemmas.List.{at_drop_more, at_drop_all}
use Rattle.ordering.specs.Walk.{mute_all}

-- the search for the first that passes
module _ (test : ℕ → Bool) where
  pub find_here : (xs : List ℕ) (k : ℕ) → k < length xs → test (get_or xs k 0) ≡ true → find test (drop k xs) ≡ Some (get_or xs k 0)
  find_here xs k l e = at_drop_more (find test) xs k 0 l ∙ ap (λ (b : Bool). cond b (Some (get_or xs k 0)) (find test (drop (k + 1) xs))) e

  pub find_on : (xs : List ℕ) (k : ℕ) → k < length xs → test (get_or xs k 0) ≡ false → find test (drop (k + 1) xs) ≡ find test (drop k xs)
  find_on xs k l e = sym (at_drop_more (find test) xs k 0 l ∙ ap (λ (b : Bool). cond b (Some (get_or xs k 0)) (find test (drop (k + 1) xs))) e)

  pub find_end : (xs : List ℕ) (k : ℕ) → length xs ≤ k → find test (drop k xs) ≡ None
  find_end xs k l = at_drop_all (find test) xs k l

-- muting
pub mute_on : (m : List Bool) (xs : List ℕ) (k : ℕ) → k < length xs → mute_all m (drop k xs) ≡ mute_all (slice_set m (get_or xs k 0) true) (drop (k + 1) xs)
unfolding mute_all
mute_on m xs k l = at_drop_more (mute_all m) xs k 0 l

pub mute_end : (m : List Bool) (xs : List ℕ) (k : ℕ) → length xs ≤ k → mute_all m (drop k xs) ≡ m
unfolding mute_all
mute_end m xs k l = at_drop_all (mute_all m) xs k l
