-- What the functions of this crate are proved by: the turns of the loops over rows, and the ways through the branches.
use Rattle.std.proofs.Common.{◌≡◌, refl, ap, ◌∙◌, slice_set, eq-eqb, ne_eqb, ℕ, suc, ◌+◌, ◌-◌, ◌<◌, ◌≤◌, List, arith}
use Rattle.layout.specs.Sizes.{row_room}
use Rattle.layout.specs.Row.{channels_of, place_of, cap_of}
use Rattle.pool.specs.Rows.{Held, named, popped, pushed, popped_by, truncated, shared_from, shared}
use Rattle.pool.specs.Pool.{Mem, mem, Sound, slot_of, plus, owned, rewritten, added_channel, added_from, added_row}
use Rattle.pool.proofs.Steps.{some, short, released_held, grown_held, grown_channels}
use Rattle.pool.proofs.Free.{free_slot}
use Rattle.pool.proofs.Facts.{released_channels, released_slots, moved_at, popped_held, popped_channels, truncated_held, truncated_channels, truncated_caps, truncated_slots, live_inside}
use Rattle.pool.proofs.Owning.{put_length, owned_same, owned_moved, owned_is, added_channel_is}
use Rattle.pool.proofs.Rows.{grown_slots, popped_turned, pushed_turned, truncated_turned, slots_same, caps_same}

-- ---- some channels less
pub truncated_turn : (s : List ℕ) (r n : ℕ) → Held s → r < row_room → n < channels_of s r → truncated (popped s r) r n ≡ truncated s r n
unfolding truncated popped_by
truncated_turn s r n h l m =
    let e : channels_of s r - n ≡ suc (channels_of s r - 1 - n) = omega arith in
    rw (popped_channels s r h l (omega arith), e) refl

pub truncated_end : (s : List ℕ) (r n : ℕ) → channels_of s r ≤ n → truncated s r n ≡ s
unfolding truncated popped_by
truncated_end s r n m = let e : channels_of s r - n ≡ 0 = omega arith in rw e refl

-- ---- the channels of another row
-- state t is on the way from state s to where row `to` has the channels of row `from`: it has the first c of them
pub record Sharing (from to : ℕ) (s : List ℕ) (c : ℕ) (t : List ℕ) : Type 0 where
  pub held : Held t
  pub source : channels_of t from ≡ channels_of s from
  pub target : channels_of t to ≡ c
  pub cap : cap_of t to ≡ cap_of s to
  pub rest : shared_from from to t (channels_of s from - c) c ≡ shared s from to

module _ (from to : ℕ) (s : List ℕ) (l : from < row_room) (m : to < row_room) (u : from ≡ to → ⊥) where
  pub sharing_first : Held s → Sharing from to s 0 (truncated s to 0)
  unfolding shared
  sharing_first h =
      let a = truncated_turned s to 0 h m (omega arith) in
      let e : channels_of s from - 0 ≡ channels_of s from = omega arith in
      record { held = a.held; source = a.but.channels from l u; target = a.channels; cap = truncated_caps s to 0 h m (omega arith) to m; rest = rw e refl }

  module _ (c : ℕ) (t : List ℕ) (g : Sharing from to s c t) where
    pub sharing_turn : c < channels_of s from → channels_of s from ≤ cap_of s to → Sharing from to s (c + 1) (pushed t to (place_of t from c))
    unfolding shared_from
    sharing_turn n f =
        let a1 = g.source in
        let a2 = g.target in
        let a3 = g.cap in
        let p = pushed_turned t to (place_of t from c) g.held m (omega arith) (g.held.inside from c l (omega arith)) in
        let e : channels_of s from - c ≡ suc (channels_of s from - (c + 1)) = omega arith in
        record {
          held = p.held;
          source = p.but.channels from l u ∙ g.source;
          target = p.channels ∙ ap (λ (v : ℕ). v + 1) g.target;
          cap = caps_same to t (pushed t to (place_of t from c)) p.but to m ∙ g.cap;
          rest = rw e at g.rest;
        }

    pub sharing_end : channels_of s from ≤ c → t ≡ shared s from to
    unfolding shared_from
    sharing_end n = let e : channels_of s from - c ≡ 0 = omega arith in rw e at g.rest

-- ---- a channel added
module _ (m : Mem) (r c q d : ℕ) where
  pub add_none : place_of m.state q d ≡ 0 → added_channel m r c q d ≡ m
  unfolding added_channel
  add_none e = rw (eq-eqb (place_of m.state q d) 0 e) refl

  pub add_names : (place_of m.state q d ≡ 0 → ⊥) → place_of m.state r c ≡ 0 → added_channel m r c q d ≡ mem (named m.state r c (place_of m.state q d)) m.pool
  unfolding added_channel
  add_names u e = rw (ne_eqb (place_of m.state q d) 0 u, eq-eqb (place_of m.state r c) 0 e) refl

  pub add_sums : Sound m → r < row_room → c < channels_of m.state r → q < row_room → d < channels_of m.state q → (r ≡ q → c ≡ d → ⊥)
      → (place_of m.state q d ≡ 0 → ⊥) → (place_of m.state r c ≡ 0 → ⊥)
      → added_channel m r c q d
      ≡ mem (owned m r c).state
      (slice_set (owned m r c).pool (place_of (owned m r c).state r c)
      (plus (slot_of (owned m r c).pool (place_of (owned m r c).state r c)) (slot_of (owned m r c).pool (place_of m.state q d))))
  unfolding added_channel rewritten
  add_sums s l p x e u v w =
      let k = (owned_is m r c s l p).kept in
      rw (ne_eqb (place_of m.state q d) 0 v, ne_eqb (place_of m.state r c) 0 w, k.places q d x e u) refl

-- ---- a row added
-- memory o is on the way from memory m to where row x is added to row r: the channels below c have been
pub record Adding (r x : ℕ) (m : Mem) (c : ℕ) (o : Mem) : Type 0 where
  pub sound : Sound o
  pub row : channels_of o.state r ≡ channels_of m.state r
  pub other : channels_of o.state x ≡ channels_of m.state x
  pub rest : added_from r x o (channels_of m.state r - c) c ≡ added_row m r x

module _ (r x : ℕ) (m : Mem) where
  pub adding_first : Sound m → Adding r x m 0 m
  unfolding added_row
  adding_first s =
      let e : channels_of m.state r - 0 ≡ channels_of m.state r = omega arith in
      record { sound = s; row = refl; other = refl; rest = rw e refl }

  module _ (c : ℕ) (o : Mem) (g : Adding r x m c o) where
    pub adding_turn : r < row_room → x < row_room → (r ≡ x → ⊥) → channels_of m.state r ≡ channels_of m.state x → c < channels_of m.state r → Adding r x m (c + 1) (added_channel o r c x c)
    unfolding added_from
    adding_turn l k u a n =
        let e1 = g.row in
        let e2 = g.other in
        let p = (added_channel_is o r c x c g.sound l (omega arith) k (omega arith) (λ y _. u y)).kept in
        let e : channels_of m.state r - c ≡ suc (channels_of m.state r - (c + 1)) = omega arith in
        record { sound = p.sound; row = p.channels r l ∙ g.row; other = p.channels x k ∙ g.other; rest = rw e at g.rest }

    pub adding_end : channels_of m.state r ≤ c → o ≡ added_row m r x
    unfolding added_from
    adding_end n = let e : channels_of m.state r - c ≡ 0 = omega arith in rw e at g.rest

-- ---- what each function's proof may use
pub ruleset pushing = (short, grown_held, grown_channels, grown_slots)

pub ruleset truncating = (popped_held, popped_channels, truncated_turn, truncated_end)

pub ruleset clearing = (some, truncated_held, truncated_channels, truncated_caps, truncated_slots)

pub ruleset sharing = (short, truncated_channels, sharing_first, sharing_end)

pub ruleset owning = (free_slot, released_held, released_channels, released_slots, moved_at, live_inside, put_length, owned_same, owned_moved)

pub ruleset adding = (live_inside, add_none, add_names, add_sums)
