-- Adding a row, channel by channel: what the sum is, and that it leaves every other row alone.
use Rattle.std.proofs.Common.{◌≡◌, refl, sym, ◌∙◌, ℕ, zero, suc, ◌+◌, ◌<◌, ◌≤◌, slice_index, arith}
use Rattle.std.proofs.Math.Decide.{ℕ_discrete}
use Rattle.layout.specs.Sizes.{row_room, holder_part}
use Rattle.layout.specs.Row.{channels_of, place_of}
use Rattle.pool.specs.Pool.{Mem, Sound, slot_of, samples_of, added_channel, added_from, added_row}
use Rattle.pool.proofs.Owning.{Added, sum_of, added_channel_is}

-- what adding channels c .. c + n - 1 of row x to those of row r leaves
pub record Summed (r x c n : ℕ) (m o : Mem) : Type 0 where
  pub sound : Sound o
  pub header : (i : ℕ) → i < holder_part → slice_index o.state i ≡ slice_index m.state i
  pub channels : (q : ℕ) → q < row_room → channels_of o.state q ≡ channels_of m.state q
  -- every channel of another row, and those of row r that are not among them
  pub places : (q d : ℕ) → q < row_room → d < channels_of m.state q → (q ≡ r → c ≤ d → d < c + n → ⊥) → place_of o.state q d ≡ place_of m.state q d
  pub samples : (q d : ℕ) → q < row_room → d < channels_of m.state q → (q ≡ r → c ≤ d → d < c + n → ⊥) → samples_of o q d ≡ samples_of m q d
  pub sums : (d : ℕ) → c ≤ d → d < c + n → samples_of o r d ≡ sum_of (place_of m.state r d) (place_of m.state x d) (samples_of m r d) (samples_of m x d)
  -- every slot, held or free, that none of them names afterwards
  pub others : (j : ℕ) → ((d : ℕ) → c ≤ d → d < c + n → j ≡ place_of o.state r d → ⊥) → slot_of o.pool j ≡ slot_of m.pool j

module _ (r x : ℕ) (l : r < row_room) (k : x < row_room) (u : r ≡ x → ⊥) where
  pub added_from_is : (m : Mem) (n c : ℕ) → Sound m → c + n ≤ channels_of m.state r → c + n ≤ channels_of m.state x → Summed r x c n m (added_from r x m n c)
  unfolding added_from
  added_from_is m zero c s a b = record {
    sound = s;
    header = λ i p. refl;
    channels = λ q p. refl;
    places = λ q d p e w. refl;
    samples = λ q d p e w. refl;
    sums = λ d p e. absurd (omega arith);
    others = λ j v. refl;
  }
  added_from_is m (suc n) c s a b =
      let t = added_channel m r c x c in
      let one = added_channel_is m r c x c s l (omega arith) k (omega arith) (λ y _. u y) in
      let kp = one.kept in
      let er = kp.channels r l in
      let ex = kp.channels x k in
      let rest = added_from_is t n (c + 1) kp.sound (omega arith) (omega arith) in
      let same = rest.places r c l (omega arith) (λ _ y z. omega arith) in
      record {
        sound = rest.sound;
        header = λ i p. rest.header i p ∙ kp.header i p;
        channels = λ q p. rest.channels q p ∙ kp.channels q p;
        places = λ q d p e w.
            rest.places q d p (rw (kp.channels q p) e) (λ y g h. w y (omega arith) (omega arith))
            ∙ kp.places q d p e (λ y z. w (sym y) (omega arith) (omega arith));
        samples = λ q d p e w.
            rest.samples q d p (rw (kp.channels q p) e) (λ y g h. w y (omega arith) (omega arith))
            ∙ kp.samples q d p e (λ y z. w (sym y) (omega arith) (omega arith));
        sums = λ d g h. at t one rest d g h (ℕ_discrete d c);
        others = λ j v.
            rest.others j (λ d g h. v d (omega arith) (omega arith))
            ∙ one.others j (λ y. v c (omega arith) (omega arith) (y ∙ sym same));
      }
    where
      at : (t : Mem) → Added r c x c m t → Summed r x (c + 1) n t (added_from r x t n (c + 1)) → (d : ℕ) → c ≤ d → d < c + suc n → Dec (d ≡ c)
          → samples_of (added_from r x t n (c + 1)) r d ≡ sum_of (place_of m.state r d) (place_of m.state x d) (samples_of m r d) (samples_of m x d)
      at t one rest d g h (yes e) =
          let er = one.kept.channels r l in
          rw e (rest.samples r c l (omega arith) (λ _ y z. omega arith) ∙ one.sum)
      at t one rest d g h (no w) =
          let kp = one.kept in
          let er = kp.channels r l in
          let ex = kp.channels x k in
          let a1 = kp.places r d l (omega arith) (λ _ y. w (sym y)) in
          let a2 = kp.places x d k (omega arith) (λ y _. u y) in
          let a3 = kp.samples r d l (omega arith) (λ _ y. w (sym y)) in
          let a4 = kp.samples x d k (omega arith) (λ y _. u y) in
          rest.sums d (omega arith) (omega arith) ∙ cc

  -- the two rows have as many channels
  pub added_row_is : (m : Mem) → Sound m → channels_of m.state r ≡ channels_of m.state x → Summed r x 0 (channels_of m.state r) m (added_row m r x)
  unfolding added_row
  added_row_is m s e = added_from_is m (channels_of m.state r) 0 s (omega arith) (omega arith)
