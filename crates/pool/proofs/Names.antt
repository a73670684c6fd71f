-- How the number of places that name a slot changes with one row.
use Rattle.std.proofs.Common.{◌≡◌, refl, ap, ◌∙◌, ℕ, ◌+◌, ◌<◌, ◌≤◌, List, slice_index, arith}
use Rattle.layout.specs.Sizes.{row_room, holder_part}
use Rattle.layout.specs.Row.{channels_of, place_of, cap_of}
use Rattle.layout.proofs.Caps.{cap_same}
use Rattle.tally.specs.Tally.{is}
use Rattle.tally.proofs.Sums.{tally-suc, tally_ext, tally_one, tally_ge}
use Rattle.pool.specs.Rows.{names_in, names}

-- what a row may have, where the header and the nodes are the same
pub cap_kept : (s t : List ℕ) → ((i : ℕ) → i < holder_part → slice_index t i ≡ slice_index s i) → (r : ℕ) → r < row_room → cap_of t r ≡ cap_of s r
cap_kept s t h r l = cap_same s t (λ i p. h i (omega arith)) r l

-- what is the same in two states but for row r and the holder counts
pub record But (r : ℕ) (s t : List ℕ) : Type 0 where
  pub header : (i : ℕ) → i < holder_part → slice_index t i ≡ slice_index s i
  pub channels : (q : ℕ) → q < row_room → (q ≡ r → ⊥) → channels_of t q ≡ channels_of s q
  pub places : (q c : ℕ) → q < row_room → c < channels_of s q → (q ≡ r → ⊥) → place_of t q c ≡ place_of s q c

pub but_none : (r : ℕ) (s : List ℕ) → But r s s
but_none r s = record { header = λ i p. refl; channels = λ q p u. refl; places = λ q c p e u. refl }

pub but_then : (r : ℕ) (s t u : List ℕ) → But r s t → But r t u → But r s u
but_then r s t u a b = record {
  header = λ i p. b.header i p ∙ a.header i p;
  channels = λ q p x. b.channels q p x ∙ a.channels q p x;
  places = λ q c p e x. b.places q c p (rw (a.channels q p x) e) x ∙ a.places q c p e x;
}

module _ (s t : List ℕ) where
  pub row_same : (k r : ℕ) → channels_of t r ≡ channels_of s r → ((c : ℕ) → c < channels_of s r → place_of t r c ≡ place_of s r c) → names_in t k r ≡ names_in s k r
  unfolding names_in
  row_same k r e h = rw e (tally_ext (λ c. is (place_of t r c) k) (λ c. is (place_of s r c) k) (channels_of s r) (λ c l. ap (λ (v : ℕ). is v k) (h c l)))

  -- the same but for row r
  pub names_row : (k r : ℕ) → r < row_room → But r s t → names t k + names_in s k r ≡ names s k + names_in t k r
  unfolding names
  names_row k r l b =
      tally_one (λ q. names_in t k q) (λ q. names_in s k q) row_room r l
      (λ q m u. row_same k q (b.channels q m u) (λ c n. b.places q c m n u))

  -- row r has another name at c
  pub row_one : (k r c : ℕ) → channels_of t r ≡ channels_of s r → c < channels_of s r
      → ((d : ℕ) → d < channels_of s r → (d ≡ c → ⊥) → place_of t r d ≡ place_of s r d)
      → names_in t k r + is (place_of s r c) k ≡ names_in s k r + is (place_of t r c) k
  unfolding names_in
  row_one k r c e l h =
      rw e (tally_one (λ d. is (place_of t r d) k) (λ d. is (place_of s r d) k) (channels_of s r) c l (λ d m u. ap (λ (v : ℕ). is v k) (h d m u)))

  -- row r has one more channel
  pub row_more : (k r : ℕ) → channels_of t r ≡ channels_of s r + 1
      → ((d : ℕ) → d < channels_of s r → place_of t r d ≡ place_of s r d)
      → names_in t k r ≡ names_in s k r + is (place_of t r (channels_of s r)) k
  unfolding names_in
  row_more k r e h =
      rw e
      (let a = tally-suc (λ d. is (place_of t r d) k) (channels_of s r) in
      let b = tally_ext (λ d. is (place_of t r d) k) (λ d. is (place_of s r d) k) (channels_of s r) (λ d m. ap (λ (v : ℕ). is v k) (h d m)) in
      omega arith)

-- a place that names k is counted
pub names_ge : (s : List ℕ) (r c : ℕ) → r < row_room → c < channels_of s r → (k : ℕ) → is (place_of s r c) k ≤ names s k
unfolding names names_in
names_ge s r c l m k =
    let a = tally_ge (λ d. is (place_of s r d) k) (channels_of s r) c m in
    let b = tally_ge (λ q. names_in s k q) row_room r l in
    omega arith
