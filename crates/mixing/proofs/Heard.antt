-- What the channels of a mixed row name and say: moved, truncated or filled, and summed. Each law is over the channel count.
use Rattle.std.proofs.Common.{◌≡◌, refl, sym, ap, ◌∙◌, ℕ, ◌+◌, ◌-◌, ◌<◌, ◌≤◌, List, length, get_or, Option, Some, None, arith}
use Rattle.std.proofs.Math.Decide.{dec_lt}
use Rattle.std.specs.Float.Ieee.{Float}
use Rattle.layout.specs.Sizes.{quantum, row_room, spare}
use Rattle.layout.specs.Row.{channels_of, place_of, cap_of}
use Rattle.pool.specs.Pool.{Mem, mem, Sound, slot_of, sample, samples_of, added_channel, added_row}
use Rattle.layout.specs.declared.setting.ChannelInterpretation.{ChannelInterpretation}
use Rattle.pool.specs.Rows.{Held, shared, truncated}
use Rattle.pool.proofs.Each.{each_sample_at}
use Rattle.pool.proofs.Rows.{caps_same, truncated_turned, truncated_place}
use Rattle.pool.proofs.Owning.{Written, written_is, sole_above, sum_of as plus_of, added_channel_is}
use Rattle.mixing.specs.declared.frame.Sum.{Sum}
use Rattle.mixing.specs.Moves.{slot_at, surrounds_to_back, taken, rearranged, resized}
use Rattle.mixing.specs.Sums.{sum_of}
use Rattle.mixing.specs.Mixing.{silent, frame_of, frame_at, mixed_down, written, down_to_one, summed_front, on_state, mixed, added_in_full}
use Rattle.mixing.proofs.Moving.{slot_at_live, slot_at_none, rearranged_is, resized_cut, resized_filled, zeros_length, zeros}
use Rattle.mixing.proofs.Mixes.{Mixed, mixed_turned, mixed_is, mixed_down_length, summed_front_is}
use Rattle.mixing.proofs.Adds.{Asked, first_kept, first_other, copied, copy_some, copy_caps, alike, summed_is}

taken_some : (s : List ℕ) (r c : ℕ) → taken s r (Some c) ≡ slot_at s r c
unfolding taken
taken_some s r c = refl

taken_none : (s : List ℕ) (r : ℕ) → taken s r None ≡ 0
unfolding taken
taken_none s r = refl

-- ---- moves: each channel names what its move takes, so two channels whose moves take one channel share its slot
module _ (s : List ℕ) (r : ℕ) (moves : List (Option ℕ)) (h : Held s) (l : r < row_room) (fits : length moves ≤ cap_of s r) where
  pub rearranged_place : (d : ℕ) → d < length moves → place_of (rearranged s r moves) r d ≡ taken s r (get_or moves d None)
  rearranged_place d p = (rearranged_is s r moves h l fits).places d p

  pub rearranged_shares : (d e : ℕ) → d < length moves → e < length moves → get_or moves d None ≡ get_or moves e None
      → place_of (rearranged s r moves) r d ≡ place_of (rearranged s r moves) r e
  rearranged_shares d e p q z = rearranged_place d p ∙ ap (taken s r) z ∙ sym (rearranged_place e q)

-- ---- truncated or filled: the channels that there were, then silence
pub resized_place : (s : List ℕ) (r n : ℕ) → Held s → r < row_room → n ≤ cap_of s r → (d : ℕ) → d < n → place_of (resized s r n) r d ≡ slot_at s r d
resized_place s r n h l fits d p = go (dec_lt (channels_of s r) n) (dec_lt d (channels_of s r))
  where
    go : Dec (channels_of s r < n) → Dec (d < channels_of s r) → place_of (resized s r n) r d ≡ slot_at s r d
    go (no u) v = rw (resized_cut s r n h l (omega arith), slot_at_live s r d (omega arith)) (truncated_place s r n h l (omega arith) d p)
    go (yes a) (yes b) = rw (slot_at_live s r d b) ((resized_filled s r n h l (omega arith) fits).front d b)
    go (yes a) (no v) =
        let k = n - channels_of s r in
        let e = zeros_length k in
        let i : channels_of s r + (d - channels_of s r) ≡ d = omega arith in
        let b = (resized_filled s r n h l (omega arith) fits).back (d - channels_of s r) (omega arith) in
        rw (slot_at_none s r d (omega arith)) (rw i at b ∙ zeros k (d - channels_of s r))

-- ---- sums
down_pool_is : (m : Mem) (r : ℕ) (f : Sum) → slot_of (down_to_one m r f).pool (place_of (written (mixed_down m r f) m r 0).state r 0) ≡ samples_of (written (mixed_down m r f) m r 0) r 0
unfolding down_to_one
down_pool_is m r f = refl

-- a channel that is written says the samples, in a slot of its own above 0
module _ (xs : List Float) (m : Mem) (r c : ℕ) (s : Sound m) (l : r < row_room) (p : c < channels_of m.state r) (e : length xs ≡ quantum) where
  pub written_loud : 0 < place_of (written xs m r c).state r c
  written_loud =
      let a = written_is xs m r c s l p e in
      sole_above (written xs m r c).state a.kept.sound.held r c l (rw (a.kept.channels r l) p) a.sole

module _ (m : Mem) (r : ℕ) (s : Sound m) (l : r < row_room) where
  module _ (f : Sum) (some : 0 < channels_of m.state r) where
    first_written : Written (mixed_down m r f) r 0 m (written (mixed_down m r f) m r 0)
    first_written = written_is (mixed_down m r f) m r 0 s l some (mixed_down_length m r f)

    down_place : place_of (down_to_one m r f).state r 0 ≡ place_of (written (mixed_down m r f) m r 0).state r 0
    unfolding down_to_one
    down_place =
        let o = written (mixed_down m r f) m r 0 in
        let k = first_written.kept in
        truncated_place o.state r 1 k.sound.held l (rw (k.channels r l) some) 0 (omega arith)

    -- the one channel is the sum, and never silence
    pub down_to_one_says : samples_of (down_to_one m r f) r 0 ≡ mixed_down m r f
    down_to_one_says = rw down_place (down_pool_is m r f ∙ first_written.samples)

    pub down_to_one_loud : 0 < place_of (down_to_one m r f).state r 0
    down_to_one_loud = rw down_place (written_loud (mixed_down m r f) m r 0 s l some (mixed_down_length m r f))

  module _ (f g : Sum) (two : 1 < channels_of m.state r) where
    left_written : Written (mixed_down m r f) r 0 m (written (mixed_down m r f) m r 0)
    left_written = written_is (mixed_down m r f) m r 0 s l (omega arith) (mixed_down_length m r f)

    right_written : Written (mixed_down m r g) r 1 (written (mixed_down m r f) m r 0) (summed_front m r f g)
    unfolding summed_front
    right_written =
        let a = left_written.kept in
        written_is (mixed_down m r g) (written (mixed_down m r f) m r 0) r 1 a.sound l (rw (a.channels r l) two) (mixed_down_length m r g)

    pub summed_front_left : samples_of (summed_front m r f g) r 0 ≡ mixed_down m r f
    summed_front_left =
        let a = left_written.kept in
        right_written.kept.samples r 0 l (rw (a.channels r l) (omega arith)) (λ _ y. omega arith) ∙ left_written.samples

    pub summed_front_right : samples_of (summed_front m r f g) r 1 ≡ mixed_down m r g
    summed_front_right = right_written.samples

    -- the other channels name what they named, and say what they said
    pub summed_front_places : (d : ℕ) → 1 < d → d < channels_of m.state r → place_of (summed_front m r f g).state r d ≡ place_of m.state r d
    summed_front_places d p q =
        let a = left_written.kept in
        right_written.kept.places r d l (rw (a.channels r l) q) (λ _ y. omega arith) ∙ a.places r d l q (λ _ y. omega arith)

    pub summed_front_rest : (d : ℕ) → 1 < d → d < channels_of m.state r → samples_of (summed_front m r f g) r d ≡ samples_of m r d
    summed_front_rest d p q =
        let a = left_written.kept in
        right_written.kept.samples r d l (rw (a.channels r l) q) (λ _ y. omega arith) ∙ a.samples r d l q (λ _ y. omega arith)

-- ---- a step that the pool has no part in: a channel says what the slot that it names says
pub says_named : (m : Mem) (t : List ℕ) (r d c : ℕ) → place_of t r d ≡ place_of m.state r c → samples_of (mem t m.pool) r d ≡ samples_of m r c
says_named m t r d c e = rw e refl

module _ (m : Mem) (r : ℕ) (s : Sound m) (l : r < row_room) where
  module _ (moves : List (Option ℕ)) (fits : length moves ≤ cap_of m.state r) where
    pub rearranged_says : (d c : ℕ) → d < length moves → get_or moves d None ≡ Some c → c < channels_of m.state r
        → samples_of (on_state (λ t. rearranged t r moves) m) r d ≡ samples_of m r c
    rearranged_says d c p e q =
        says_named m (rearranged m.state r moves) r d c (rearranged_place m.state r moves s.held l fits d p ∙ ap (taken m.state r) e ∙ taken_some m.state r c ∙ slot_at_live m.state r c q)

    pub rearranged_quiet : (d : ℕ) → d < length moves → get_or moves d None ≡ None → place_of (rearranged m.state r moves) r d ≡ 0
    rearranged_quiet d p e = rearranged_place m.state r moves s.held l fits d p ∙ ap (taken m.state r) e ∙ taken_none m.state r

  module _ (n : ℕ) (fits : n ≤ cap_of m.state r) (d : ℕ) (p : d < n) where
    pub resized_says : d < channels_of m.state r → samples_of (on_state (λ t. resized t r n) m) r d ≡ samples_of m r d
    resized_says q = says_named m (resized m.state r n) r d d (resized_place m.state r n s.held l fits d p ∙ slot_at_live m.state r d q)

    pub resized_quiet : channels_of m.state r ≤ d → place_of (resized m.state r n) r d ≡ 0
    resized_quiet q = resized_place m.state r n s.held l fits d p ∙ slot_at_none m.state r d q

  -- two sums, and then what the layout keeps of the rest
  module _ (f g : Sum) (two : 1 < channels_of m.state r) where
    front : Mixed r (channels_of m.state r) m (summed_front m r f g)
    front = summed_front_is m r s l f g two

    module _ (d : ℕ) (p : d < 2) where
      pub two_says : samples_of (on_state (λ t. truncated t r 2) (summed_front m r f g)) r d ≡ samples_of (summed_front m r f g) r d
      two_says =
          let o = summed_front m r f g in
          says_named o (truncated o.state r 2) r d d (truncated_place o.state r 2 front.sound.held l (rw front.channels two) d p)

    module _ (fits : 4 ≤ cap_of m.state r) (six : channels_of m.state r ≡ 6) where
      four_says : (d c : ℕ) → d < 4 → get_or surrounds_to_back d None ≡ Some c → c < 6
          → samples_of (on_state (λ t. rearranged t r surrounds_to_back) (summed_front m r f g)) r d ≡ samples_of (summed_front m r f g) r c
      four_says d c p e q =
          let o = summed_front m r f g in
          let a = caps_same r m.state o.state front.but r l in
          says_named o (rearranged o.state r surrounds_to_back) r d c
          (rearranged_place o.state r surrounds_to_back front.sound.held l (omega arith) d p ∙ ap (taken o.state r) e ∙ taken_some o.state r c ∙ slot_at_live o.state r c (rw (front.channels, six) q))

      pub four_left : samples_of (on_state (λ t. rearranged t r surrounds_to_back) (summed_front m r f g)) r 0 ≡ mixed_down m r f
      four_left = four_says 0 0 (omega arith) refl (omega arith) ∙ summed_front_left m r s l f g two

      pub four_right : samples_of (on_state (λ t. rearranged t r surrounds_to_back) (summed_front m r f g)) r 1 ≡ mixed_down m r g
      four_right = four_says 1 1 (omega arith) refl (omega arith) ∙ summed_front_right m r s l f g two

      pub four_surround_left : samples_of (on_state (λ t. rearranged t r surrounds_to_back) (summed_front m r f g)) r 2 ≡ samples_of m r 4
      four_surround_left = four_says 2 4 (omega arith) refl (omega arith) ∙ summed_front_rest m r s l f g two 4 (omega arith) (omega arith)

      pub four_surround_right : samples_of (on_state (λ t. rearranged t r surrounds_to_back) (summed_front m r f g)) r 3 ≡ samples_of m r 5
      four_surround_right = four_says 3 5 (omega arith) refl (omega arith) ∙ summed_front_rest m r s l f g two 5 (omega arith) (omega arith)

-- ---- frames: the fields are the row's channels
pub mixed_down_at : (m : Mem) (r : ℕ) (f : Sum) (i : ℕ) → i < quantum → sample (mixed_down m r f) i ≡ sum_of f (frame_at m r i)
unfolding mixed_down
mixed_down_at m r f i p = each_sample_at (λ k. sum_of f (frame_at m r k)) i p

pub frame_six_is : (m : Mem) (r i : ℕ) → channels_of m.state r ≡ 6
    → frame_at m r i
    ≡ record { left = sample (samples_of m r 0) i; right = sample (samples_of m r 1) i; center = sample (samples_of m r 2) i; lfe = sample (samples_of m r 3) i; surround_left = sample (samples_of m r 4) i; surround_right = sample (samples_of m r 5) i }
unfolding frame_of
frame_six_is m r i e =
    rw (e, slot_at_live m.state r 0 (rw e (omega arith)), slot_at_live m.state r 1 (rw e (omega arith)), slot_at_live m.state r 2 (rw e (omega arith)), slot_at_live m.state r 3 (rw e (omega arith)), slot_at_live m.state r 4 (rw e (omega arith)), slot_at_live m.state r 5 (rw e (omega arith)))
    refl

pub frame_four_is : (m : Mem) (r i : ℕ) → channels_of m.state r ≡ 4
    → frame_at m r i
    ≡ record { left = sample (samples_of m r 0) i; right = sample (samples_of m r 1) i; center = silent; lfe = silent; surround_left = sample (samples_of m r 2) i; surround_right = sample (samples_of m r 3) i }
unfolding frame_of
frame_four_is m r i e =
    rw (e, slot_at_live m.state r 0 (rw e (omega arith)), slot_at_live m.state r 1 (rw e (omega arith)), slot_at_live m.state r 2 (rw e (omega arith)), slot_at_live m.state r 3 (rw e (omega arith)))
    refl

pub frame_two_is : (m : Mem) (r i : ℕ) → channels_of m.state r ≡ 2 → ((frame_at m r i).left ≡ sample (samples_of m r 0) i) × ((frame_at m r i).right ≡ sample (samples_of m r 1) i)
unfolding frame_of
frame_two_is m r i e = rw (e, slot_at_live m.state r 0 (rw e (omega arith)), slot_at_live m.state r 1 (rw e (omega arith))) (refl, refl)

-- ---- a sum in full: channel d says what the two mixed rows say at d, added
module _ (m : Mem) (r x n : ℕ) (h : Asked r x n m) (p : r < spare) (q : x < spare) (how : ChannelInterpretation) where
  -- row r mixed, and then the copy of row x in the spare row
  abbrev pub one_mixed : Mem
  one_mixed = mixed m r n how

  abbrev pub both_mixed : Mem
  both_mixed = mixed (on_state (λ t. shared t x spare) one_mixed) spare n how

  pub added_in_full_says : (d : ℕ) → d < n
      → samples_of (added_in_full m r x n how) r d ≡ plus_of (place_of both_mixed.state r d) (place_of both_mixed.state spare d) (samples_of both_mixed r d) (samples_of both_mixed spare d)
  unfolding added_in_full
  added_in_full_says d e =
      let one = mixed_is m r n h.sound h.row_in h.some h.fits how in
      let copy = copied m r x n h one_mixed one q in
      let two = mixed_is (on_state (λ t. shared t x spare) one_mixed) spare n copy.sound (omega arith) (copy_some m r x n h one_mixed one q) (copy_caps m r x n h one_mixed one q) how in
      let sum = summed_is m r x n h one_mixed one q both_mixed two p in
      let o = added_row both_mixed r spare in
      let a = sum.channels r h.row_in in
      let b = alike m r x n h one_mixed one q both_mixed two p in
      let c = two.channels in
      let cut = mixed_turned spare 0 o (truncated o.state spare 0) sum.sound (truncated_turned o.state spare 0 sum.sound.held (omega arith) (omega arith)) in
      cut.samples r d h.row_in (omega arith) (λ y. omega arith) ∙ sum.sums d (omega arith) (omega arith)

  -- mixing the copy leaves row r
  pub both_mixed_says : (d : ℕ) → d < n → samples_of both_mixed r d ≡ samples_of one_mixed r d
  both_mixed_says d e =
      let one = mixed_is m r n h.sound h.row_in h.some h.fits how in
      let copy = copied m r x n h one_mixed one q in
      let two = mixed_is (on_state (λ t. shared t x spare) one_mixed) spare n copy.sound (omega arith) (copy_some m r x n h one_mixed one q) (copy_caps m r x n h one_mixed one q) how in
      let a = one.channels in
      let b = copy.but.channels r h.row_in (λ y. omega arith) in
      two.samples r d h.row_in (omega arith) (λ y. omega arith) ∙ copy.samples r d h.row_in (omega arith) (λ y. omega arith)

-- ---- a sum as one channel: what is then mixed up is the two first channels, added
pub first_says : (m : Mem) (r x n : ℕ) → Asked r x n m
    → samples_of (added_channel (on_state (λ t. truncated t r 1) m) r 0 x 0) r 0 ≡ plus_of (place_of m.state r 0) (place_of m.state x 0) (samples_of m r 0) (samples_of m x 0)
first_says m r x n h =
    let o = on_state (λ t. truncated t r 1) m in
    let k = first_kept m r x n h in
    let a = truncated_place m.state r 1 h.sound.held h.row_in h.some 0 (omega arith) in
    let b = k.but.places x 0 h.other_in h.other_some (λ y. h.apart (sym y)) in
    let c = k.channels in
    let d = first_other m r x n h in
    let e = h.other_some in
    rw (a, b) at ((added_channel_is o r 0 x 0 k.sound h.row_in (omega arith) h.other_in (omega arith) (λ y _. h.apart y)).sum)
