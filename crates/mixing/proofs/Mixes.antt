-- Mixing a row keeps the rule, gives the row the channels that are wanted, and leaves every other row alone.
use Rattle.std.proofs.Common.{◌≡◌, refl, sym, ap, ◌∙◌, ℕ, ◌+◌, ◌*◌, ◌/◌, ◌%◌, ◌<◌, ◌≤◌, ◌||◌, List, length, if◌then◌else◌, ◌==◌, nat_lt, eq-eqb, ne_eqb, lt-ltb, le-ltb, Option, arith}
use Rattle.std.proofs.Math.Decide.{ℕ_discrete, dec_lt}
use Rattle.std.specs.Float.Ieee.{Float}
use Rattle.layout.specs.Sizes.{quantum, row_room}
use Rattle.layout.specs.Row.{channels_of, cap_of}
use Rattle.layout.specs.declared.setting.ChannelInterpretation.{ChannelInterpretation}
use Rattle.layout.specs.declared.setting.ChannelInterpretation.TheVariants.{Speakers, Discrete}
use Rattle.pool.specs.Rows.{truncated}
use Rattle.pool.specs.Pool.{Mem, mem, Sound, samples_of}
use Rattle.pool.proofs.Each.{each_sample_length}
use Rattle.pool.proofs.Names.{But, but_none, but_then}
use Rattle.pool.proofs.Rows.{Turned, caps_same, truncated_turned}
use Rattle.pool.proofs.Facts.{turned_sound, turned_samples}
use Rattle.pool.proofs.Owning.{Kept, written_is}
use Rattle.mixing.specs.declared.frame.Sum.{Sum}
use Rattle.mixing.specs.declared.frame.Sum.TheVariants.{TwoToOne, FourToOne, SixToOne, FourToLeft, FourToRight, SixToLeft, SixToRight, SixToFrontLeft, SixToFrontRight}
use Rattle.mixing.specs.Sums.{sum_of}
use Rattle.mixing.specs.Moves.{one_to_two, one_to_four, one_to_six, two_to_four, two_to_six, four_to_five, four_to_six, surrounds_to_back, rearranged, resized}
use Rattle.mixing.specs.Mixing.{frame_at, mixed_down, written, down_to_one, summed_front, pair_of, on_state, mixed_pair, mixed}
use Rattle.mixing.proofs.Moving.{rearranged_is, resized_is}

-- what a step on row r leaves: the rule, n channels in row r, and the channels and samples of every other row
pub record Mixed (r n : ℕ) (m o : Mem) : Type 0 where
  pub sound : Sound o
  pub but : But r m.state o.state
  pub channels : channels_of o.state r ≡ n
  pub samples : (q d : ℕ) → q < row_room → d < channels_of m.state q → (q ≡ r → ⊥) → samples_of o q d ≡ samples_of m q d

pub mixed_none : (r : ℕ) (m : Mem) → Sound m → Mixed r (channels_of m.state r) m m
mixed_none r m s = record { sound = s; but = but_none r m.state; channels = refl; samples = λ q d p e u. refl }

pub mixed_then : (r k n : ℕ) (m o x : Mem) → Mixed r k m o → Mixed r n o x → Mixed r n m x
mixed_then r k n m o x a b = record {
  sound = b.sound;
  but = but_then r m.state o.state x.state a.but b.but;
  channels = b.channels;
  samples = λ q d p e u. b.samples q d p (rw (a.but.channels q p u) e) u ∙ a.samples q d p e u;
}

-- a step that the pool has no part in
pub mixed_turned : (r n : ℕ) (m : Mem) (t : List ℕ) → Sound m → Turned r n m.state t → Mixed r n m (mem t m.pool)
mixed_turned r n m t s a = record { sound = turned_sound r n m.state t a m.pool s; but = a.but; channels = a.channels; samples = turned_samples r n m.state t a m.pool }

pub mixed_kept : (r c : ℕ) (m o : Mem) → r < row_room → Kept r c m o → Mixed r (channels_of m.state r) m o
mixed_kept r c m o l k = record {
  sound = k.sound;
  but = record { header = k.header; channels = λ q p u. k.channels q p; places = λ q d p e u. k.places q d p e (λ x _. u (sym x)) };
  channels = k.channels r l;
  samples = λ q d p e u. k.samples q d p e (λ x _. u (sym x));
}

-- what it leaves, a fact at a time, of the state and the pool that are the memory after it
module _ (r n : ℕ) (m o : Mem) (a : Mixed r n m o) (t : List ℕ) (q : List (List Float)) (e : mem t q ≡ o) where
  pub then_sound : Sound (mem t q)
  then_sound = rw e a.sound

  pub then_channels : channels_of t r ≡ n
  then_channels = ap (λ (x : Mem). channels_of x.state r) e ∙ a.channels

  pub then_others : (k : ℕ) → k < row_room → (k ≡ r → ⊥) → channels_of t k ≡ channels_of m.state k
  then_others k p u = ap (λ (x : Mem). channels_of x.state k) e ∙ a.but.channels k p u

  pub then_caps : (k : ℕ) → k < row_room → cap_of t k ≡ cap_of m.state k
  then_caps k p = ap (λ (x : Mem). cap_of x.state k) e ∙ caps_same r m.state o.state a.but k p

-- ---- sums
pub mixed_down_length : (m : Mem) (r : ℕ) (f : Sum) → length (mixed_down m r f) ≡ quantum
unfolding mixed_down
mixed_down_length m r f = each_sample_length (λ i. sum_of f (frame_at m r i))

pub written_mixed : (xs : List Float) (m : Mem) (r c : ℕ) → Sound m → r < row_room → c < channels_of m.state r → length xs ≡ quantum → Mixed r (channels_of m.state r) m (written xs m r c)
written_mixed xs m r c s l p e = mixed_kept r c m (written xs m r c) l (written_is xs m r c s l p e).kept

module _ (m : Mem) (r : ℕ) (s : Sound m) (l : r < row_room) where
  pub down_to_one_is : (f : Sum) → 0 < channels_of m.state r → Mixed r 1 m (down_to_one m r f)
  unfolding down_to_one
  down_to_one_is f p =
      let o = written (mixed_down m r f) m r 0 in
      let a = written_mixed (mixed_down m r f) m r 0 s l p (mixed_down_length m r f) in
      let b = mixed_turned r 1 o (truncated o.state r 1) a.sound (truncated_turned o.state r 1 a.sound.held l (rw a.channels p)) in
      mixed_then r (channels_of m.state r) 1 m o (mem (truncated o.state r 1) o.pool) a b

  pub summed_front_is : (f g : Sum) → 1 < channels_of m.state r → Mixed r (channels_of m.state r) m (summed_front m r f g)
  unfolding summed_front
  summed_front_is f g p =
      let o = written (mixed_down m r f) m r 0 in
      let a = written_mixed (mixed_down m r f) m r 0 s l (omega arith) (mixed_down_length m r f) in
      let b = written_mixed (mixed_down m r g) o r 1 a.sound l (rw a.channels p) (mixed_down_length m r g) in
      mixed_then r (channels_of m.state r) (channels_of m.state r) m o (written (mixed_down m r g) o r 1) a (rw a.channels at b)

-- ---- what the one number says of both counts
pub record Looked (p from to : ℕ) : Type 0 where
  pub sum : 0 < p → p ≡ 10 * from + to
  pub few : 0 < p → to ≤ 6

pub looked_up : (how : ChannelInterpretation) (from to : ℕ) → Looked (pair_of how from to) from to
unfolding pair_of
looked_up Discrete from to = record { sum = λ z. absurd (omega arith); few = λ z. absurd (omega arith) }
looked_up Speakers from to = go (dec_lt 6 from) (dec_lt 6 to)
  where
    go : Dec (6 < from) → Dec (6 < to) → Looked (if nat_lt 6 from || nat_lt 6 to then 0 else 10 * from + to) from to
    go (yes a) b = rw (lt-ltb 6 from a) (record { sum = λ z. absurd (omega arith); few = λ z. absurd (omega arith) })
    go (no u) (yes b) = rw (le-ltb 6 from (omega arith), lt-ltb 6 to b) (record { sum = λ z. absurd (omega arith); few = λ z. absurd (omega arith) })
    go (no u) (no v) = rw (le-ltb 6 from (omega arith), le-ltb 6 to (omega arith)) (record { sum = λ z. refl; few = λ z. omega arith })

if_case : (P : Mem → Type 0) (p k : ℕ) (x y : Mem) → (p ≡ k → P x) → P y → P (if p == k then x else y)
if_case P p k x y f g = go (ℕ_discrete p k)
  where
    go : Dec (p ≡ k) → P (if p == k then x else y)
    go (yes e) = rw (eq-eqb p k e) (f e)
    go (no u) = rw (ne_eqb p k u) g

module _ (m : Mem) (r n : ℕ) (s : Sound m) (l : r < row_room) (any : 0 < channels_of m.state r) (fits : n ≤ cap_of m.state r) where
  moved_up : (moves : List (Option ℕ)) → length moves ≡ n → Mixed r n m (on_state (λ t. rearranged t r moves) m)
  moved_up moves e = mixed_turned r n m (rearranged m.state r moves) s (rw e at (rearranged_is m.state r moves s.held l (rw e fits)).turned)

  summed_one : (f : Sum) → n ≡ 1 → Mixed r n m (down_to_one m r f)
  summed_one f e = rw e (down_to_one_is m r s l f any)

  summed_two : (f g : Sum) → n ≡ 2 → 1 < channels_of m.state r → Mixed r n m (on_state (λ t. truncated t r 2) (summed_front m r f g))
  summed_two f g e p =
      let o = summed_front m r f g in
      let a = summed_front_is m r s l f g p in
      rw e (mixed_then r (channels_of m.state r) 2 m o (mem (truncated o.state r 2) o.pool) a (mixed_turned r 2 o (truncated o.state r 2) a.sound (truncated_turned o.state r 2 a.sound.held l (rw a.channels p))))

  summed_four : (f g : Sum) → n ≡ 4 → 1 < channels_of m.state r → Mixed r n m (on_state (λ t. rearranged t r surrounds_to_back) (summed_front m r f g))
  summed_four f g e p =
      let o = summed_front m r f g in
      let a = summed_front_is m r s l f g p in
      let c = caps_same r m.state o.state a.but r l in
      let t = rearranged o.state r surrounds_to_back in
      rw e (mixed_then r (channels_of m.state r) 4 m o (mem t o.pool) a (mixed_turned r 4 o t a.sound (rearranged_is o.state r surrounds_to_back a.sound.held l (omega arith)).turned))

  module _ (p : ℕ) (g : Looked p (channels_of m.state r) n) where
    ones : (k : ℕ) → 0 < k → p ≡ k → n ≡ k % 10
    ones k z e = let a = g.sum (omega arith) in let b = g.few (omega arith) in omega arith

    tens : (k : ℕ) → 0 < k → p ≡ k → channels_of m.state r ≡ k / 10
    tens k z e = let a = g.sum (omega arith) in let b = g.few (omega arith) in omega arith

    pub mixed_pair_is : Mixed r n m (mixed_pair p m r n)
    unfolding mixed_pair
    mixed_pair_is =
        let P : Mem → Type 0 = λ o. Mixed r n m o in
        if_case P p 12 _ _ (λ e. moved_up one_to_two (sym (ones 12 (omega arith) e)))
        (if_case P p 14 _ _ (λ e. moved_up one_to_four (sym (ones 14 (omega arith) e)))
        (if_case P p 16 _ _ (λ e. moved_up one_to_six (sym (ones 16 (omega arith) e)))
        (if_case P p 24 _ _ (λ e. moved_up two_to_four (sym (ones 24 (omega arith) e)))
        (if_case P p 26 _ _ (λ e. moved_up two_to_six (sym (ones 26 (omega arith) e)))
        (if_case P p 45 _ _ (λ e. moved_up four_to_five (sym (ones 45 (omega arith) e)))
        (if_case P p 46 _ _ (λ e. moved_up four_to_six (sym (ones 46 (omega arith) e)))
        (if_case P p 21 _ _ (λ e. summed_one TwoToOne (ones 21 (omega arith) e))
        (if_case P p 41 _ _ (λ e. summed_one FourToOne (ones 41 (omega arith) e))
        (if_case P p 61 _ _ (λ e. summed_one SixToOne (ones 61 (omega arith) e))
        (if_case P p 42 _ _ (λ e. summed_two FourToLeft FourToRight (ones 42 (omega arith) e) (rw (tens 42 (omega arith) e) (omega arith)))
        (if_case P p 62 _ _ (λ e. summed_two SixToLeft SixToRight (ones 62 (omega arith) e) (rw (tens 62 (omega arith) e) (omega arith)))
        (if_case P p 64 _ _ (λ e. summed_four SixToFrontLeft SixToFrontRight (ones 64 (omega arith) e) (rw (tens 64 (omega arith) e) (omega arith)))
        (mixed_turned r n m (resized m.state r n) s (resized_is m.state r n s.held l fits))))))))))))))

  pub mixed_is : (how : ChannelInterpretation) → Mixed r n m (mixed m r n how)
  unfolding mixed
  mixed_is how =
      if_case (λ o. Mixed r n m o) (channels_of m.state r) n _ _ (λ e. rw (← e) (mixed_none r m s))
      (mixed_pair_is (pair_of how (channels_of m.state r) n) (looked_up how (channels_of m.state r) n))
