-- Owning a channel and adding to it keep the rule, and leave the samples of every other channel alone.
use Rattle.std.proofs.Common.{◌≡◌, refl, sym, ap, ap₂, ◌∙◌, ℕ, ◌+◌, ◌<◌, List, [], length, slice_index, slice_set, if◌then◌else◌, ◌==◌, eq-eqb, ne_eqb, length-set, get_or-set_same, get_or-set_other, arith}
use Rattle.std.proofs.Math.Decide.{ℕ_discrete}
use Rattle.std.specs.Float.Ieee.{Float}
use Rattle.tally.specs.Tally.{is}
use Rattle.tally.proofs.Sums.{is_same, is_other}
use Rattle.layout.specs.Sizes.{quantum, row_room, holder_part}
use Rattle.layout.specs.Header.{slots_of}
use Rattle.layout.specs.Row.{holders_of, channels_of, place_of}
use Rattle.pool.specs.Rows.{Held, names, released, named, lowest_free_of}
use Rattle.pool.specs.Pool.{Mem, mem, Sound, slot_of, samples_of, plus, moved, owned, rewritten, summed, added_channel}
use Rattle.pool.proofs.Each.{plus_length}
use Rattle.pool.proofs.Names.{names_ge}
use Rattle.pool.proofs.Steps.{some, short, renamed_names, released_at, released_renamed, released_held, named_at, named_renamed, named_held}
use Rattle.pool.proofs.Free.{free_slot, free_slot_zero, free_slot_low}

-- ---- a slot written
pub put_length : (p : List (List Float)) (k : ℕ) (xs : List Float) → length (slice_set p k xs) ≡ length p
put_length p k xs = length-set p k xs

pub put_same : (p : List (List Float)) (k : ℕ) (xs : List Float) → k < length p → slot_of (slice_set p k xs) k ≡ xs
put_same p k xs l = get_or-set_same p k xs [] l

pub put_other : (p : List (List Float)) (k : ℕ) (xs : List Float) (j : ℕ) → (j ≡ k → ⊥) → slot_of (slice_set p k xs) j ≡ slot_of p j
put_other p k xs j u = get_or-set_other p k j xs [] u

-- a slot above 0 written, beside a state with the same number of slots
pub put_sound : (m : Mem) (t : List ℕ) (k : ℕ) (xs : List Float) → Sound m → Held t → slots_of t ≡ slots_of m.state → 0 < k → length xs ≡ quantum → Sound (mem t (slice_set m.pool k xs))
put_sound m t k xs s h e a n = record {
  held = h;
  slots = length-set m.pool k xs ∙ s.slots ∙ sym e;
  long = λ j l. long j (rw length-set at l) (ℕ_discrete j k);
  quiet = put_other m.pool k xs 0 (λ y. omega arith) ∙ s.quiet;
}
  where
    long : (j : ℕ) → j < length m.pool → Dec (j ≡ k) → length (slot_of (slice_set m.pool k xs) j) ≡ quantum
    long j l (yes y) = rw (y, put_same m.pool k xs (rw y at l)) n
    long j l (no u) = rw (put_other m.pool k xs j u) (s.long j l)

-- what a step on channel c of row r leaves: the rule, and all other channels with their samples
pub record Kept (r c : ℕ) (m n : Mem) : Type 0 where
  pub sound : Sound n
  pub header : (i : ℕ) → i < holder_part → slice_index n.state i ≡ slice_index m.state i
  pub channels : (q : ℕ) → q < row_room → channels_of n.state q ≡ channels_of m.state q
  pub places : (q d : ℕ) → q < row_room → d < channels_of m.state q → (r ≡ q → c ≡ d → ⊥) → place_of n.state q d ≡ place_of m.state q d
  pub samples : (q d : ℕ) → q < row_room → d < channels_of m.state q → (r ≡ q → c ≡ d → ⊥) → samples_of n q d ≡ samples_of m q d

pub kept_none : (r c : ℕ) (m : Mem) → Sound m → Kept r c m m
kept_none r c m s = record { sound = s; header = λ i p. refl; channels = λ q p. refl; places = λ q d p e u. refl; samples = λ q d p e u. refl }

pub kept_then : (r c : ℕ) (m n o : Mem) → Kept r c m n → Kept r c n o → Kept r c m o
kept_then r c m n o a b = record {
  sound = b.sound;
  header = λ i p. b.header i p ∙ a.header i p;
  channels = λ q p. b.channels q p ∙ a.channels q p;
  places = λ q d p e u. b.places q d p (rw (a.channels q p) e) u ∙ a.places q d p e u;
  samples = λ q d p e u. b.samples q d p (rw (a.channels q p) e) u ∙ a.samples q d p e u;
}

pub rewritten_state : (m : Mem) (r c : ℕ) (xs : List Float) → (rewritten xs m r c).state ≡ m.state
unfolding rewritten
rewritten_state m r c xs = refl

pub rewritten_place : (m : Mem) (r c : ℕ) (xs : List Float) → place_of (rewritten xs m r c).state r c ≡ place_of m.state r c
unfolding rewritten
rewritten_place m r c xs = refl

-- ---- who names a slot
module _ (s : List ℕ) (h : Held s) where
  -- nobody names a slot that nobody holds
  pub nobody : (k : ℕ) → 0 < k → k < slots_of s → holders_of s k ≡ 0 → (q d : ℕ) → q < row_room → d < channels_of s q → place_of s q d ≡ k → ⊥
  nobody k a b z q d p e x =
      let n = names_ge s q d p e k in
      let i = is_same (place_of s q d) k x in
      let w = h.counted k a b in
      omega arith

  module _ (r c : ℕ) (l : r < row_room) (m : c < channels_of s r) where
    released_names : (k : ℕ) → 0 < k → names (released s r c) k + is (place_of s r c) k ≡ names s k
    released_names k a =
        let ren = released_renamed s r c h l m in
        let b = renamed_names r c s (released s r c) h l m ren k in
        let z = ap (λ (v : ℕ). is v k) (released_at s r c h l m) in
        let o = is_other 0 k (λ e. omega arith) in
        omega arith

    pub sole_above : holders_of s (place_of s r c) ≡ 1 → 0 < place_of s r c
    sole_above o = go (ℕ_discrete (place_of s r c) 0)
      where
        go : Dec (place_of s r c ≡ 0) → 0 < place_of s r c
        go (yes z) = let a = ap (λ (v : ℕ). holders_of s v) z in let b = h.silent in absurd (omega arith)
        go (no u) = omega arith

    -- a slot with one holder has one name
    pub sole : holders_of s (place_of s r c) ≡ 1 → (q d : ℕ) → q < row_room → d < channels_of s q → (r ≡ q → c ≡ d → ⊥) → place_of s q d ≡ place_of s r c → ⊥
    sole o q d p e u x =
        let k = place_of s r c in
        let w = short s h q p in
        let ren = released_renamed s r c h l m in
        let a = released_names k (sole_above o) in
        let b = h.counted k (sole_above o) (h.inside r c l m) in
        let n = names_ge (released s r c) q d p (rw (ren.channels q p) e) k in
        let y = ren.places q d p (omega arith) u ∙ x in
        let i = is_same (place_of (released s r c) q d) k y in
        let j = is_same k k refl in
        omega arith

-- ---- a slot of its own
module _ (m : Mem) (r c k : ℕ) (s : Sound m) (l : r < row_room) (p : c < channels_of m.state r) (a : 0 < k) (b : k < slots_of m.state) (z : holders_of m.state k ≡ 0) where
  moved_step : (u : List ℕ) → u ≡ released m.state r c → (Held u) × (c < channels_of u r) × (place_of u r c ≡ 0) × (k < slots_of u)
  moved_step u e =
      let ren = released_renamed m.state r c s.held l p in
      rw e (
        released_held m.state r c s.held l p,
        rw (ren.channels r l) p,
        released_at m.state r c s.held l p,
        rw (ren.header 1 (omega arith)) b,
      )

  moved_place : place_of (moved m r c k).state r c ≡ k
  unfolding moved
  moved_place = let g = moved_step (released m.state r c) refl in named_at (released m.state r c) r c k g.0 l g.1 g.2 g.3

  -- what any live channel names, in the pool
  live_long : (q d : ℕ) → q < row_room → d < channels_of m.state q → place_of m.state q d < length m.pool
  live_long q d x e = rw s.slots (s.held.inside q d x e)

  moved_samples : samples_of (moved m r c k) r c ≡ samples_of m r c
  unfolding moved
  moved_samples = rw moved_place (put_same m.pool k (samples_of m r c) (rw s.slots b))

  moved_others : (j : ℕ) → (j ≡ k → ⊥) → slot_of (moved m r c k).pool j ≡ slot_of m.pool j
  unfolding moved
  moved_others j u = put_other m.pool k (samples_of m r c) j u

  moved_sole : holders_of (moved m r c k).state k ≡ 1
  unfolding moved
  moved_sole =
      let t = released m.state r c in
      let g = moved_step t refl in
      let ren = named_renamed t r c k g.0 l g.1 g.2 g.3 in
      let hold = named_held t r c k g.0 l g.1 g.2 g.3 in
      let n1 = released_names m.state s.held r c l p k a in
      let n2 = renamed_names r c t (named t r c k) g.0 l g.1 ren k in
      let e1 = s.held.counted k a b in
      let e2 = hold.counted k a (rw (ren.header 1 (omega arith)) g.3) in
      let i1 = ap (λ (v : ℕ). is v k) g.2 in
      let i2 = is_other 0 k (λ e. omega arith) in
      let i3 = ap (λ (v : ℕ). is v k) moved_place in
      let i4 = is_same k k refl in
      omega arith

  moved_kept : Kept r c m (moved m r c k)
  unfolding moved
  moved_kept =
      let t = released m.state r c in
      let g = moved_step t refl in
      let one = released_renamed m.state r c s.held l p in
      let two = named_renamed t r c k g.0 l g.1 g.2 g.3 in
      let hold = named_held t r c k g.0 l g.1 g.2 g.3 in
      let head : (i : ℕ) → i < holder_part → slice_index (named t r c k) i ≡ slice_index m.state i = λ i x. two.header i x ∙ one.header i x in
      let pl : (q d : ℕ) → q < row_room → d < channels_of m.state q → (r ≡ q → c ≡ d → ⊥) → place_of (named t r c k) q d ≡ place_of m.state q d = λ q d x e u.
      let w = short m.state s.held q x in
      two.places q d x (omega arith) u ∙ one.places q d x (omega arith) u in
      record {
        sound = put_sound m (named t r c k) k (samples_of m r c) s hold (head 1 (omega arith)) a (s.long (place_of m.state r c) (live_long r c l p));
        header = head;
        channels = λ q x. two.channels q x ∙ one.channels q x;
        places = pl;
        samples = λ q d x e u. rw (pl q d x e u) (put_other m.pool k (samples_of m r c) (place_of m.state q d) (λ y. nobody m.state s.held k a b z q d x e y));
      }

pub owned_same : (m : Mem) (r c : ℕ) → holders_of m.state (place_of m.state r c) ≡ 1 → owned m r c ≡ m
unfolding owned
owned_same m r c e = rw (eq-eqb (holders_of m.state (place_of m.state r c)) 1 e) refl

pub owned_moved : (m : Mem) (r c : ℕ) → (holders_of m.state (place_of m.state r c) ≡ 1 → ⊥) → owned m r c ≡ moved m r c (lowest_free_of m.state)
unfolding owned
owned_moved m r c u = rw (ne_eqb (holders_of m.state (place_of m.state r c)) 1 u) refl

-- what owning a channel leaves: a slot of its own with the same samples, and all other slots, held or free, with theirs
pub record Owned (r c : ℕ) (m n : Mem) : Type 0 where
  pub kept : Kept r c m n
  pub sole : holders_of n.state (place_of n.state r c) ≡ 1
  pub samples : samples_of n r c ≡ samples_of m r c
  pub others : (j : ℕ) → (j ≡ place_of n.state r c → ⊥) → slot_of n.pool j ≡ slot_of m.pool j

pub owned_is : (m : Mem) (r c : ℕ) → Sound m → r < row_room → c < channels_of m.state r → Owned r c m (owned m r c)
owned_is m r c s l p = go (ℕ_discrete (holders_of m.state (place_of m.state r c)) 1)
  where
    go : Dec (holders_of m.state (place_of m.state r c) ≡ 1) → Owned r c m (owned m r c)
    go (yes e) = rw (owned_same m r c e) (record { kept = kept_none r c m s; sole = e; samples = refl; others = λ j u. refl })
    go (no u) =
        let k = lowest_free_of m.state in
        let a = free_slot_low m.state in
        let b = free_slot m.state r c s.held l p u in
        let z = free_slot_zero m.state (some m.state s.held) b in
        let e = moved_place m r c k s l p a b z in
        rw (owned_moved m r c u)
        (record {
          kept = moved_kept m r c k s l p a b z;
          sole = rw e (moved_sole m r c k s l p a b z);
          samples = moved_samples m r c k s l p a b z;
          others = λ j v. moved_others m r c k s l p a b z j (λ y. v (y ∙ sym e));
        })

-- ---- a channel that a slot of its own holds has new samples
module _ (xs : List Float) (m : Mem) (r c : ℕ) (s : Sound m) (l : r < row_room) (p : c < channels_of m.state r) (o : holders_of m.state (place_of m.state r c) ≡ 1) where
  pub rewritten_kept : length xs ≡ quantum → Kept r c m (rewritten xs m r c)
  unfolding rewritten
  rewritten_kept n =
      let to = place_of m.state r c in
      record {
        sound = put_sound m m.state to xs s s.held refl (sole_above m.state s.held r c l p o) n;
        header = λ i x. refl;
        channels = λ q x. refl;
        places = λ q d x e u. refl;
        samples = λ q d x e u. put_other m.pool to xs (place_of m.state q d) (λ y. sole m.state s.held r c l p o q d x e u y);
      }

  pub rewritten_samples : samples_of (rewritten xs m r c) r c ≡ xs
  unfolding rewritten
  rewritten_samples = put_same m.pool (place_of m.state r c) xs (rw s.slots (s.held.inside r c l p))

  pub rewritten_others : (j : ℕ) → (j ≡ place_of m.state r c → ⊥) → slot_of (rewritten xs m r c).pool j ≡ slot_of m.pool j
  unfolding rewritten
  rewritten_others j u = put_other m.pool (place_of m.state r c) xs j u

-- what writing a channel, once it has a slot of its own, leaves: a slot of its own with the new samples, and all other slots with theirs
pub record Written (xs : List Float) (r c : ℕ) (m n : Mem) : Type 0 where
  pub kept : Kept r c m n
  pub sole : holders_of n.state (place_of n.state r c) ≡ 1
  pub samples : samples_of n r c ≡ xs
  pub others : (j : ℕ) → (j ≡ place_of n.state r c → ⊥) → slot_of n.pool j ≡ slot_of m.pool j

pub written_is : (xs : List Float) (m : Mem) (r c : ℕ) → Sound m → r < row_room → c < channels_of m.state r → length xs ≡ quantum → Written xs r c m (rewritten xs (owned m r c) r c)
written_is xs m r c s l p e =
    let n = owned m r c in
    let own = owned_is m r c s l p in
    let kp = own.kept in
    let live = rw (sym (kp.channels r l)) at p in
    let here = rewritten_place n r c xs in
    record {
      kept = kept_then r c m n (rewritten xs n r c) kp (rewritten_kept xs n r c kp.sound l live own.sole e);
      sole = rw (rewritten_state n r c xs) own.sole;
      samples = rewritten_samples xs n r c kp.sound l live own.sole;
      others = λ j y. rewritten_others xs n r c kp.sound l live own.sole j (λ z. y (z ∙ sym here)) ∙ own.others j (λ z. y (z ∙ sym here));
    }

-- ---- adding
-- the samples of a channel that names slot a, with those of one that names slot b added
abbrev pub sum_of : ℕ → ℕ → List Float → List Float → List Float
sum_of a b xs ys = if b == 0 then xs else (if a == 0 then ys else plus xs ys)

-- what adding a channel leaves: the rule, the other channels, the sum, and every slot but that of the sum
pub record Added (r c q d : ℕ) (m n : Mem) : Type 0 where
  pub kept : Kept r c m n
  pub sum : samples_of n r c ≡ sum_of (place_of m.state r c) (place_of m.state q d) (samples_of m r c) (samples_of m q d)
  pub others : (j : ℕ) → (j ≡ place_of n.state r c → ⊥) → slot_of n.pool j ≡ slot_of m.pool j

pub added_channel_is : (m : Mem) (r c q d : ℕ) → Sound m → r < row_room → c < channels_of m.state r → q < row_room → d < channels_of m.state q → (r ≡ q → c ≡ d → ⊥)
    → Added r c q d m (added_channel m r c q d)
unfolding added_channel
added_channel_is m r c q d s l p x e u = go (ℕ_discrete (place_of m.state q d) 0) (ℕ_discrete (place_of m.state r c) 0)
  where
    go : Dec (place_of m.state q d ≡ 0) → Dec (place_of m.state r c ≡ 0)
        → Added r c q d m (if place_of m.state q d == 0 then m else (if place_of m.state r c == 0 then mem (named m.state r c (place_of m.state q d)) m.pool else summed (owned m r c) r c q d))
    go (yes a) b = let t = eq-eqb (place_of m.state q d) 0 a in rw t (record { kept = kept_none r c m s; sum = rw t refl; others = λ j y. refl })
    go (no v) (yes b) =
        let t = ne_eqb (place_of m.state q d) 0 v in
        let t' = eq-eqb (place_of m.state r c) 0 b in
        let k = place_of m.state q d in
        let f = s.held.inside q d x e in
        let ren = named_renamed m.state r c k s.held l p b f in
        let pl : (q' d' : ℕ) → q' < row_room → d' < channels_of m.state q' → (r ≡ q' → c ≡ d' → ⊥) → place_of (named m.state r c k) q' d' ≡ place_of m.state q' d' = λ q' d' y z w.
        let sh = short m.state s.held q' y in ren.places q' d' y (omega arith) w in
        rw (t, t')
        (record {
          kept = record {
            sound = record { held = named_held m.state r c k s.held l p b f; slots = s.slots ∙ sym (ren.header 1 (omega arith)); long = s.long; quiet = s.quiet };
            header = ren.header;
            channels = ren.channels;
            places = pl;
            samples = λ q' d' y z w. rw (pl q' d' y z w) refl;
          };
          sum = rw (t, t', named_at m.state r c k s.held l p b f) refl;
          others = λ j y. refl;
        })
    go (no v) (no w) =
        let t = ne_eqb (place_of m.state q d) 0 v in
        let t' = ne_eqb (place_of m.state r c) 0 w in
        let n = owned m r c in
        let own = owned_is m r c s l p in
        let xs = plus (samples_of n r c) (samples_of n q d) in
        let wr = written_is xs m r c s l p (plus_length (samples_of n r c) (samples_of n q d)) in
        rw (t, t') (record { kept = wr.kept; sum = rw (t, t') (wr.samples ∙ ap₂ plus own.samples (own.kept.samples q d x e u)); others = wr.others })
