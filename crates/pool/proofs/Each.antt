-- A slot made sample by sample: how long it is, what it holds, and when a slot is one.
use Rattle.std.proofs.Common.{◌≡◌, ℕ, ◌<◌, List, length, arith}
use Rattle.std.proofs.lemmas.List.FromFn.{length-map-range_with_len, get_or-map-range_with_len, fill_by_all}
use Rattle.std.specs.Float.Ieee.{Float, add, binary32, nan}
use Rattle.layout.specs.Sizes.{quantum}
use Rattle.pool.specs.Pool.{sample, each_sample, plus}

pub each_sample_length : (f : ℕ → Float) → length (each_sample f) ≡ quantum
unfolding each_sample
each_sample_length f = length-map-range_with_len f 0 quantum

pub each_sample_at : (f : ℕ → Float) (i : ℕ) → i < quantum → sample (each_sample f) i ≡ f i
unfolding each_sample
each_sample_at f i l = get_or-map-range_with_len f 0 quantum i i nan l (omega arith)

pub each_sample_from : (f : ℕ → Float) (xs : List Float) → length xs ≡ quantum → ((i : ℕ) → i < quantum → sample xs i ≡ f i) → xs ≡ each_sample f
unfolding each_sample
each_sample_from f xs l h = fill_by_all f xs quantum nan l h

pub plus_length : (xs ys : List Float) → length (plus xs ys) ≡ quantum
unfolding plus
plus_length xs ys = each_sample_length (λ i. add binary32 (sample xs i) (sample ys i))

pub plus_at : (xs ys : List Float) (i : ℕ) → i < quantum → sample (plus xs ys) i ≡ add binary32 (sample xs i) (sample ys i)
unfolding plus
plus_at xs ys i l = each_sample_at (λ i. add binary32 (sample xs i) (sample ys i)) i l
