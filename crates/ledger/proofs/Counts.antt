-- Counting the places that name each slot, a row at a time.
use Rattle.std.proofs.Common.{◌≡◌, refl, sym, ap, ◌∙◌, ℕ, ◌+◌, ◌*◌, ◌<◌, ◌≤◌, List, length, slice_index, slice_set, get_or-set_same, get_or-set_other, arith}
use Rattle.std.proofs.Math.Decide.{ℕ_discrete}
use Rattle.tally.specs.Tally.{tally, is}
use Rattle.tally.proofs.Sums.{tally-suc, tally_le, tally_ones, is_same, is_other}
use Rattle.layout.specs.Sizes.{slot_room, channel_room, spare}
use Rattle.layout.specs.Row.{channels_of, place_of}
use Rattle.pool.specs.Rows.{names_in, names}
use Rattle.ledger.specs.Tests.{CountedTo, Named}

pub tally_none : (f : ℕ → ℕ) → tally f 0 ≡ 0
unfolding tally
tally_none f = refl

pub none_most : (n m : ℕ) → n ≡ 0 → n ≤ m
none_most n m e = omega arith

is_most : (a k : ℕ) → Dec (a ≡ k) → is a k ≤ 1
is_most a k (yes e) = let h = is_same a k e in omega arith
is_most a k (no u) = let h = is_other a k u in omega arith

-- n places name a slot n times at most
pub named_most : (s : List ℕ) (r k n : ℕ) → tally (λ c. is (place_of s r c) k) n ≤ n
named_most s r k n =
    let a = tally_le (λ c. is (place_of s r c) k) (λ _. 1) n (λ c l. is_most (place_of s r c) k (ℕ_discrete (place_of s r c) k)) in
    let b = tally_ones n in
    omega arith

names_in_most : (s : List ℕ) (r k : ℕ) → channels_of s r ≤ channel_room → names_in s k r ≤ channel_room
unfolding names_in
names_in_most s r k h = let a = named_most s r k (channels_of s r) in omega arith

names_in_none : (s : List ℕ) (r k : ℕ) → channels_of s r ≡ 0 → names_in s k r ≡ 0
unfolding names_in
names_in_none s r k e = rw e (tally_none (λ c. is (place_of s r c) k))

-- one place more
pub count_more : (s counts old : List ℕ) (r c slot : ℕ) → length counts ≡ slot_room → slot < slot_room → slot ≡ place_of s r c
    → ((k : ℕ) → k < slot_room → slice_index counts k ≡ slice_index old k + tally (λ d. is (place_of s r d) k) c)
    → (k : ℕ) → k < slot_room → slice_index (slice_set counts slot (slice_index counts slot + 1)) k ≡ slice_index old k + tally (λ d. is (place_of s r d) k) (c + 1)
count_more s counts old r c slot long low e h k l = go (ℕ_discrete k slot)
  where
    more : tally (λ d. is (place_of s r d) k) (c + 1) ≡ tally (λ d. is (place_of s r d) k) c + is (place_of s r c) k
    more = tally-suc (λ d. is (place_of s r d) k) c

    go : Dec (k ≡ slot) → slice_index (slice_set counts slot (slice_index counts slot + 1)) k ≡ slice_index old k + tally (λ d. is (place_of s r d) k) (c + 1)
    go (yes q) =
        let a : slice_index (slice_set counts slot (slice_index counts slot + 1)) k ≡ slice_index counts slot + 1 = rw q (get_or-set_same counts slot (slice_index counts slot + 1) 0 (omega arith)) in
        let b : slice_index counts slot ≡ slice_index counts k = ap (slice_index counts) (sym q) in
        let d = is_same (place_of s r c) k (sym e ∙ sym q) in
        let f = h k l in
        let g = more in
        omega arith
    go (no u) =
        let a : slice_index (slice_set counts slot (slice_index counts slot + 1)) k ≡ slice_index counts k = get_or-set_other counts slot k (slice_index counts slot + 1) 0 u in
        let d = is_other (place_of s r c) k (λ q. u (sym q ∙ sym e)) in
        let f = h k l in
        let g = more in
        omega arith

-- ---- one row more
pub none_counted : (s counts : List ℕ) → ((k : ℕ) → k < slot_room → slice_index counts k ≡ 0) → CountedTo s counts 0
none_counted s counts h = record {
  each = λ k l. h k l ∙ sym (tally_none (λ r. names_in s k r));
  few = λ k l. none_most (slice_index counts k) (channel_room * 0) (h k l);
}

pub row_counted : (s old counts : List ℕ) (r n : ℕ) → CountedTo s old r → channels_of s r ≤ channel_room → n ≡ channels_of s r
    → ((k : ℕ) → k < slot_room → slice_index counts k ≡ slice_index old k + tally (λ d. is (place_of s r d) k) n) → CountedTo s counts (r + 1)
unfolding names_in
row_counted s old counts r n c m e h = record {
  each = λ k l.
      let a = h k l in
      let b = c.each k l in
      let d = tally-suc (λ q. names_in s k q) r in
      let f : tally (λ d. is (place_of s r d) k) n ≡ names_in s k r = rw e refl in
      omega arith;
  few = λ k l.
      let a = h k l in
      let b = c.few k l in
      let d = named_most s r k n in
      omega arith;
}

pub row_empty : (s counts : List ℕ) (r : ℕ) → CountedTo s counts r → channels_of s r ≡ 0 → CountedTo s counts (r + 1)
row_empty s counts r c e = record {
  each = λ k l.
      let b = c.each k l in
      let d = tally-suc (λ q. names_in s k q) r in
      let f = names_in_none s r k e in
      omega arith;
  few = λ k l. let b = c.few k l in omega arith;
}

-- the spare row, which has no channels, is the last
pub all_named : (s counts : List ℕ) (n : ℕ) → CountedTo s counts n → n ≡ spare → channels_of s spare ≡ 0 → Named s counts
unfolding names
all_named s counts n c e z k l =
    let b : slice_index counts k ≡ tally (λ r. names_in s k r) spare = c.each k l ∙ ap (λ (q : ℕ). tally (λ r. names_in s k r) q) e in
    let d = tally-suc (λ q. names_in s k q) spare in
    let f = names_in_none s spare k z in
    omega arith
