-- Adding a row to a row keeps the rule, gives the row the channels that are wanted, leaves the spare row empty, and leaves every other row alone.
use Rattle.std.proofs.Common.{◌≡◌, refl, sym, ◌∙◌, ℕ, zero, suc, ◌+◌, ◌<◌, ◌≤◌, Bool, true, false, ◌&&◌, List, slice_index, if◌then◌else◌, arith}
use Rattle.std.specs.List.{range_with_len, list_all}
use Rattle.std.proofs.Math.Decide.{ℕ_discrete}
use Rattle.std.specs.Float.Ieee.{Float}
use Rattle.layout.specs.Sizes.{spare, row_room, holder_part}
use Rattle.layout.specs.Row.{channels_of, place_of, cap_of}
use Rattle.layout.specs.declared.setting.ChannelInterpretation.{ChannelInterpretation}
use Rattle.layout.specs.declared.setting.ChannelInterpretation.TheVariants.{Speakers}
use Rattle.layout.specs.declared.setting.Setting.{Setting}
use Rattle.layout.proofs.Caps.{cap_spare, cap_most}
use Rattle.pool.specs.Rows.{truncated, shared}
use Rattle.pool.specs.Pool.{Mem, mem, Sound, samples_of, added_channel, added_row}
use Rattle.pool.proofs.Rows.{caps_same, truncated_turned, shared_turned}
use Rattle.pool.proofs.Owning.{added_channel_is}
use Rattle.pool.proofs.RowSums.{Summed, added_row_is}
use Rattle.mixing.specs.Mixing.{on_state, mixed, target_of, adds_as_one, added_as_one, added_in_full, added_to, added}
use Rattle.mixing.proofs.Mixes.{Mixed, mixed_then, mixed_turned, mixed_kept, mixed_is}

-- ---- whether every number from k on passes, n in all
and_false : (b : Bool) → (b && false) ≡ false
and_false true = refl
and_false false = refl

module _ (p : ℕ → Bool) where
  pub all_pass : (n k : ℕ) → ((c : ℕ) → k ≤ c → c < k + n → p c ≡ true) → list_all p (range_with_len k n) ≡ true
  all_pass zero k f = refl
  all_pass (suc n) k f = rw (f k (omega arith) (omega arith)) (all_pass n (k + 1) (λ c a b. f c (omega arith) (omega arith)))

  pub one_fails : (n k c : ℕ) → k ≤ c → c < k + n → p c ≡ false → list_all p (range_with_len k n) ≡ false
  one_fails zero k c a b e = absurd (omega arith)
  one_fails (suc n) k c a b e = go (ℕ_discrete c k) (λ q. one_fails n (k + 1) c q (omega arith) e)
    where
      go : Dec (c ≡ k) → (k + 1 ≤ c → list_all p (range_with_len (k + 1) n) ≡ false) → list_all p (range_with_len k (suc n)) ≡ false
      go (yes z) f = rw (← z, e) refl
      go (no u) f = rw (f (omega arith)) (and_false (p k))

-- ---- every row but row r and the spare one: how many channels it has, which slots these name and what they say
pub record Outside (r : ℕ) (m o : Mem) : Type 0 where
  pub header : (i : ℕ) → i < holder_part → slice_index o.state i ≡ slice_index m.state i
  pub channels : (q : ℕ) → q < spare → (q ≡ r → ⊥) → channels_of o.state q ≡ channels_of m.state q
  pub places : (q d : ℕ) → q < spare → d < channels_of m.state q → (q ≡ r → ⊥) → place_of o.state q d ≡ place_of m.state q d
  pub samples : (q d : ℕ) → q < spare → d < channels_of m.state q → (q ≡ r → ⊥) → samples_of o q d ≡ samples_of m q d

outside_then : (r : ℕ) (m n o : Mem) → Outside r m n → Outside r n o → Outside r m o
outside_then r m n o a b = record {
  header = λ i p. b.header i p ∙ a.header i p;
  channels = λ q p u. b.channels q p u ∙ a.channels q p u;
  places = λ q d p e u. b.places q d p (rw (a.channels q p u) e) u ∙ a.places q d p e u;
  samples = λ q d p e u. b.samples q d p (rw (a.channels q p u) e) u ∙ a.samples q d p e u;
}

-- a step on row x, which is r or the spare row
outside_mixed : (r x n : ℕ) (m o : Mem) → ((q : ℕ) → q < spare → (q ≡ r → ⊥) → q ≡ x → ⊥) → Mixed x n m o → Outside r m o
outside_mixed r x n m o f a = record {
  header = a.but.header;
  channels = λ q p u. a.but.channels q (omega arith) (f q p u);
  places = λ q d p e u. a.but.places q d (omega arith) e (f q p u);
  samples = λ q d p e u. a.samples q d (omega arith) e (f q p u);
}

outside_summed : (r x n : ℕ) (m o : Mem) → Summed r x 0 n m o → Outside r m o
outside_summed r x n m o a = record {
  header = a.header;
  channels = λ q p u. a.channels q (omega arith);
  places = λ q d p e u. a.places q d (omega arith) e (λ y _ _. u y);
  samples = λ q d p e u. a.samples q d (omega arith) e (λ y _ _. u y);
}

-- what is left once a row is added to row r
pub record Joined (r n : ℕ) (m o : Mem) : Type 0 where
  pub sound : Sound o
  pub count : channels_of o.state r ≡ n
  pub empty : channels_of o.state spare ≡ 0
  pub outside : Outside r m o

-- what adding row x to row r, to n channels, asks
pub record Asked (r x n : ℕ) (m : Mem) : Type 0 where
  pub sound : Sound m
  pub row_in : r < row_room
  pub other_in : x < row_room
  pub apart : r ≡ x → ⊥
  pub some : 0 < channels_of m.state r
  pub other_some : 0 < channels_of m.state x
  pub fits : n ≤ cap_of m.state r

module _ (m : Mem) (r x n : ℕ) (h : Asked r x n m) where
  -- ---- one channel of each
  pub first_kept : Mixed r 1 m (on_state (λ t. truncated t r 1) m)
  first_kept = mixed_turned r 1 m (truncated m.state r 1) h.sound (truncated_turned m.state r 1 h.sound.held h.row_in h.some)

  pub first_other : channels_of (truncated m.state r 1) x ≡ channels_of m.state x
  first_other = first_kept.but.channels x h.other_in (λ y. h.apart (sym y))

  pub first_added : Mixed r 1 m (added_channel (on_state (λ t. truncated t r 1) m) r 0 x 0)
  first_added =
      let o = on_state (λ t. truncated t r 1) m in
      let e = first_kept.channels in
      let f = first_other in
      let g = h.other_some in
      let d = mixed_kept r 0 o (added_channel o r 0 x 0) h.row_in (added_channel_is o r 0 x 0 first_kept.sound h.row_in (omega arith) h.other_in (omega arith) (λ y _. h.apart y)).kept in
      mixed_then r 1 1 m o (added_channel o r 0 x 0) first_kept (rw e at d)

  pub added_as_one_is : Mixed r n m (added_as_one m r x n)
  unfolding added_as_one
  added_as_one_is =
      let o = added_channel (on_state (λ t. truncated t r 1) m) r 0 x 0 in
      let e = first_added.channels in
      let f = caps_same r m.state o.state first_added.but r h.row_in in
      let g = h.fits in
      mixed_then r 1 n m o (mixed o r n Speakers) first_added (mixed_is o r n first_added.sound h.row_in (omega arith) (omega arith) Speakers)

  -- ---- in full: memory o is m with row r mixed
  module _ (o : Mem) (one : Mixed r n m o) (p : x < spare) where
    pub copy_fits : channels_of o.state x ≤ cap_of o.state spare
    copy_fits = let d = one.sound.held.narrow x h.other_in in let e = cap_most o.state x in let f = cap_spare o.state in omega arith

    pub copied : Mixed spare (channels_of m.state x) o (on_state (λ t. shared t x spare) o)
    copied =
        let d = mixed_turned spare (channels_of o.state x) o (shared o.state x spare) one.sound (shared_turned x spare h.other_in (omega arith) (λ y. omega arith) o.state one.sound.held copy_fits) in
        rw (one.but.channels x h.other_in (λ y. h.apart (sym y))) at d

    pub copy_caps : n ≤ cap_of (shared o.state x spare) spare
    copy_caps =
        let d = caps_same spare o.state (shared o.state x spare) copied.but spare (omega arith) in
        let e = caps_same r m.state o.state one.but r h.row_in in
        let f = cap_most o.state r in
        let g = cap_spare o.state in
        let i = h.fits in
        omega arith

    pub copy_some : 0 < channels_of (shared o.state x spare) spare
    copy_some = rw copied.channels h.other_some

    module _ (y : Mem) (two : Mixed spare n (on_state (λ t. shared t x spare) o) y) (q : r < spare) where
      pub alike : channels_of y.state r ≡ channels_of y.state spare
      alike = two.but.channels r h.row_in (λ z. omega arith) ∙ copied.but.channels r h.row_in (λ z. omega arith) ∙ one.channels ∙ sym two.channels

      pub summed_is : Summed r spare 0 (channels_of y.state r) y (added_row y r spare)
      summed_is = added_row_is r spare h.row_in (omega arith) (λ z. omega arith) y two.sound alike

  pub added_in_full_is : r < spare → x < spare → (how : ChannelInterpretation) → Joined r n m (added_in_full m r x n how)
  unfolding added_in_full
  added_in_full_is p q how =
      let m1 = mixed m r n how in
      let one = mixed_is m r n h.sound h.row_in h.some h.fits how in
      let m2 = on_state (λ t. shared t x spare) m1 in
      let copy = copied m1 one q in
      let m3 = mixed m2 spare n how in
      let two = mixed_is m2 spare n copy.sound (omega arith) (copy_some m1 one q) (copy_caps m1 one q) how in
      let m4 = added_row m3 r spare in
      let sum = summed_is m1 one q m3 two p in
      let t = truncated m4.state spare 0 in
      let cut = mixed_turned spare 0 m4 t sum.sound (truncated_turned m4.state spare 0 sum.sound.held (omega arith) (omega arith)) in
      let away : (i : ℕ) → i < spare → (i ≡ r → ⊥) → i ≡ spare → ⊥ = λ i z w y. omega arith in
      record {
        sound = cut.sound;
        count = cut.but.channels r h.row_in (λ y. omega arith) ∙ sum.channels r h.row_in ∙ two.but.channels r h.row_in (λ y. omega arith) ∙ copy.but.channels r h.row_in (λ y. omega arith) ∙ one.channels;
        empty = cut.channels;
        outside =
            outside_then r m m4 (mem t m4.pool)
            (outside_then r m m3 m4
            (outside_then r m m2 m3
            (outside_then r m m1 m2 (outside_mixed r r n m m1 (λ i z w y. w y) one) (outside_mixed r spare (channels_of m.state x) m1 m2 away copy))
            (outside_mixed r spare n m2 m3 away two))
            (outside_summed r spare (channels_of m3.state r) m3 m4 sum))
            (outside_mixed r spare 0 m4 (mem t m4.pool) away cut);
      }

  pub added_to_is : r < spare → x < spare → channels_of m.state spare ≡ 0 → (how : ChannelInterpretation) → Joined r n m (added_to m r x n how)
  unfolding added_to
  added_to_is p q z how = go (adds_as_one how n m.state r x)
    where
      go : (v : Bool) → Joined r n m (if v then added_as_one m r x n else added_in_full m r x n how)
      go true =
          let d = added_as_one_is in
          record { sound = d.sound; count = d.channels; empty = d.but.channels spare (omega arith) (λ y. omega arith) ∙ z; outside = outside_mixed r r n m (added_as_one m r x n) (λ i z w y. w y) d }
      go false = added_in_full_is p q how

-- ---- the steps of the code, each with the state and the pool that it leaves
module _ (m : Mem) (r x n : ℕ) (h : Asked r x n m) (p : r < spare) (q : x < spare) (how : ChannelInterpretation) where
  module _ (s1 : List ℕ) (p1 : List (List Float)) (e1 : mem s1 p1 ≡ mixed m r n how) where
    pub after_mix : Mixed r n m (mem s1 p1)
    after_mix = rw e1 (mixed_is m r n h.sound h.row_in h.some h.fits how)

    pub after_mix_fits : channels_of s1 x ≤ cap_of s1 spare
    after_mix_fits = copy_fits m r x n h (mem s1 p1) after_mix q

    module _ (s2 : List ℕ) (e2 : s2 ≡ shared s1 x spare) where
      pub after_share : Sound (mem s2 p1) × (0 < channels_of s2 spare) × (n ≤ cap_of s2 spare)
      after_share = rw e2 ((copied m r x n h (mem s1 p1) after_mix q).sound, copy_some m r x n h (mem s1 p1) after_mix q, copy_caps m r x n h (mem s1 p1) after_mix q)

      module _ (s3 : List ℕ) (p3 : List (List Float)) (e3 : mem s3 p3 ≡ mixed (mem s2 p1) spare n how) where
        pub after_both : Mixed spare n (mem (shared s1 x spare) p1) (mem s3 p3)
        after_both =
            let a = rw e2 at after_share in
            rw (e3, e2) (mixed_is (mem (shared s1 x spare) p1) spare n a.0 (omega arith) a.1 a.2 how)

        pub after_both_alike : channels_of s3 r ≡ channels_of s3 spare
        after_both_alike = alike m r x n h (mem s1 p1) after_mix q (mem s3 p3) after_both p

        pub after_sum : (s4 : List ℕ) (p4 : List (List Float)) → mem s4 p4 ≡ added_row (mem s3 p3) r spare → Sound (mem s4 p4)
        after_sum s4 p4 e4 = rw e4 (summed_is m r x n h (mem s1 p1) after_mix q (mem s3 p3) after_both p).sound

-- ---- by a setting
pub added_is : (m : Mem) (r x : ℕ) (setting : Setting) → Asked r x (target_of setting.mode setting.count (channels_of m.state r) (channels_of m.state x)) m
    → r < spare → x < spare → channels_of m.state spare ≡ 0 → Joined r (target_of setting.mode setting.count (channels_of m.state r) (channels_of m.state x)) m (added m r x setting)
unfolding added
added_is m r x setting h p q z = added_to_is m r x (target_of setting.mode setting.count (channels_of m.state r) (channels_of m.state x)) h p q z setting.interpretation
