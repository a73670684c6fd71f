-- The laws one fact at a time, as the proof of a caller takes them: after each step the rule, the counts of channels, the ceilings and the slots.
use Rattle.std.proofs.Common.{◌≡◌, refl, ◌∙◌, ℕ, ◌+◌, ◌-◌, ◌<◌, ◌≤◌, List, length, arith}
use Rattle.std.specs.Float.Ieee.{Float}
use Rattle.layout.specs.Sizes.{quantum, row_room}
use Rattle.layout.specs.Header.{slots_of}
use Rattle.layout.specs.Row.{holders_of, channels_of, place_of, cap_of}
use Rattle.pool.specs.Rows.{Held, released, named, popped, pushed, truncated, cleared, shared}
use Rattle.pool.specs.Pool.{Mem, mem, Sound, samples_of, owned, rewritten, added_channel, added_row}
use Rattle.pool.proofs.Names.{cap_kept}
use Rattle.pool.proofs.Steps.{released_at, released_renamed, released_held, named_at}
use Rattle.pool.proofs.Rows.{Turned, slots_same, caps_same, popped_turned, pushed_turned, truncated_turned, cleared_turned, shared_turned}
use Rattle.pool.proofs.Owning.{owned_is, written_is, added_channel_is}
use Rattle.pool.proofs.RowSums.{added_row_is}

-- ---- what a step on a row says of all steps on rows
module _ (r n : ℕ) (s t : List ℕ) (a : Turned r n s t) where
  turned_slots : slots_of t ≡ slots_of s
  turned_slots = slots_same r s t a.but

  turned_caps : (q : ℕ) → q < row_room → cap_of t q ≡ cap_of s q
  turned_caps q l = caps_same r s t a.but q l

  -- the pool beside it stays as it should be, and so does what is heard through every other row
  pub turned_sound : (p : List (List Float)) → Sound (mem s p) → Sound (mem t p)
  turned_sound p m = record { held = a.held; slots = m.slots ∙ rw turned_slots refl; long = m.long; quiet = m.quiet }

  pub turned_samples : (p : List (List Float)) (q d : ℕ) → q < row_room → d < channels_of s q → (q ≡ r → ⊥) → samples_of (mem t p) q d ≡ samples_of (mem s p) q d
  turned_samples p q d l m u = rw (a.but.places q d l m u) refl

-- ---- a place released, and named anew
module _ (s : List ℕ) (r c : ℕ) (h : Held s) (l : r < row_room) (m : c < channels_of s r) where
  pub released_channels : (q : ℕ) → q < row_room → channels_of (released s r c) q ≡ channels_of s q
  released_channels q p = (released_renamed s r c h l m).channels q p

  pub released_slots : slots_of (released s r c) ≡ slots_of s
  released_slots = (released_renamed s r c h l m).header 1 (omega arith)

  pub moved_at : (k : ℕ) → k < slots_of s → place_of (named (released s r c) r c k) r c ≡ k
  moved_at k f = named_at (released s r c) r c k (released_held s r c h l m) l (rw (released_channels r l) m) (released_at s r c h l m) (rw released_slots f)

-- ---- rows
module _ (s : List ℕ) (r : ℕ) (h : Held s) (l : r < row_room) (some : 0 < channels_of s r) where
  pub popped_held : Held (popped s r)
  popped_held = (popped_turned s r h l some).held

  pub popped_sound : (p : List (List Float)) → Sound (mem s p) → Sound (mem (popped s r) p)
  popped_sound p x = turned_sound r _ s (popped s r) (popped_turned s r h l some) p x

  pub popped_channels : channels_of (popped s r) r ≡ channels_of s r - 1
  popped_channels = (popped_turned s r h l some).channels

  pub popped_others : (q : ℕ) → q < row_room → (q ≡ r → ⊥) → channels_of (popped s r) q ≡ channels_of s q
  popped_others q m u = (popped_turned s r h l some).but.channels q m u

  pub popped_slots : slots_of (popped s r) ≡ slots_of s
  popped_slots = turned_slots r _ s (popped s r) (popped_turned s r h l some)

  pub popped_caps : (q : ℕ) → q < row_room → cap_of (popped s r) q ≡ cap_of s q
  popped_caps q m = turned_caps r _ s (popped s r) (popped_turned s r h l some) q m

module _ (s : List ℕ) (r k : ℕ) (h : Held s) (l : r < row_room) (room : channels_of s r < cap_of s r) (f : k < slots_of s) where
  pub pushed_held : Held (pushed s r k)
  pushed_held = (pushed_turned s r k h l room f).held

  pub pushed_sound : (p : List (List Float)) → Sound (mem s p) → Sound (mem (pushed s r k) p)
  pushed_sound p x = turned_sound r _ s (pushed s r k) (pushed_turned s r k h l room f) p x

  pub pushed_channels : channels_of (pushed s r k) r ≡ channels_of s r + 1
  pushed_channels = (pushed_turned s r k h l room f).channels

  pub pushed_others : (q : ℕ) → q < row_room → (q ≡ r → ⊥) → channels_of (pushed s r k) q ≡ channels_of s q
  pushed_others q m u = (pushed_turned s r k h l room f).but.channels q m u

  pub pushed_slots : slots_of (pushed s r k) ≡ slots_of s
  pushed_slots = turned_slots r _ s (pushed s r k) (pushed_turned s r k h l room f)

  pub pushed_caps : (q : ℕ) → q < row_room → cap_of (pushed s r k) q ≡ cap_of s q
  pushed_caps q m = turned_caps r _ s (pushed s r k) (pushed_turned s r k h l room f) q m

module _ (s : List ℕ) (r n : ℕ) (h : Held s) (l : r < row_room) (most : n ≤ channels_of s r) where
  pub truncated_held : Held (truncated s r n)
  truncated_held = (truncated_turned s r n h l most).held

  pub truncated_sound : (p : List (List Float)) → Sound (mem s p) → Sound (mem (truncated s r n) p)
  truncated_sound p x = turned_sound r _ s (truncated s r n) (truncated_turned s r n h l most) p x

  pub truncated_channels : channels_of (truncated s r n) r ≡ n
  truncated_channels = (truncated_turned s r n h l most).channels

  pub truncated_others : (q : ℕ) → q < row_room → (q ≡ r → ⊥) → channels_of (truncated s r n) q ≡ channels_of s q
  truncated_others q m u = (truncated_turned s r n h l most).but.channels q m u

  pub truncated_slots : slots_of (truncated s r n) ≡ slots_of s
  truncated_slots = turned_slots r _ s (truncated s r n) (truncated_turned s r n h l most)

  pub truncated_caps : (q : ℕ) → q < row_room → cap_of (truncated s r n) q ≡ cap_of s q
  truncated_caps q m = turned_caps r _ s (truncated s r n) (truncated_turned s r n h l most) q m

module _ (s : List ℕ) (r : ℕ) (h : Held s) (l : r < row_room) (some : 0 < cap_of s r) where
  pub cleared_held : Held (cleared s r)
  cleared_held = (cleared_turned s r h l some).held

  pub cleared_sound : (p : List (List Float)) → Sound (mem s p) → Sound (mem (cleared s r) p)
  cleared_sound p x = turned_sound r _ s (cleared s r) (cleared_turned s r h l some) p x

  pub cleared_channels : channels_of (cleared s r) r ≡ 1
  cleared_channels = (cleared_turned s r h l some).channels

  pub cleared_others : (q : ℕ) → q < row_room → (q ≡ r → ⊥) → channels_of (cleared s r) q ≡ channels_of s q
  cleared_others q m u = (cleared_turned s r h l some).but.channels q m u

  pub cleared_slots : slots_of (cleared s r) ≡ slots_of s
  cleared_slots = turned_slots r _ s (cleared s r) (cleared_turned s r h l some)

  pub cleared_caps : (q : ℕ) → q < row_room → cap_of (cleared s r) q ≡ cap_of s q
  cleared_caps q m = turned_caps r _ s (cleared s r) (cleared_turned s r h l some) q m

module _ (s : List ℕ) (from to : ℕ) (h : Held s) (l : from < row_room) (m : to < row_room) (apart : from ≡ to → ⊥) (fits : channels_of s from ≤ cap_of s to) where
  pub shared_held : Held (shared s from to)
  shared_held = (shared_turned from to l m apart s h fits).held

  pub shared_sound : (p : List (List Float)) → Sound (mem s p) → Sound (mem (shared s from to) p)
  shared_sound p x = turned_sound to _ s (shared s from to) (shared_turned from to l m apart s h fits) p x

  pub shared_channels : channels_of (shared s from to) to ≡ channels_of s from
  shared_channels = (shared_turned from to l m apart s h fits).channels

  pub shared_others : (q : ℕ) → q < row_room → (q ≡ to → ⊥) → channels_of (shared s from to) q ≡ channels_of s q
  shared_others q n u = (shared_turned from to l m apart s h fits).but.channels q n u

  pub shared_slots : slots_of (shared s from to) ≡ slots_of s
  shared_slots = turned_slots to _ s (shared s from to) (shared_turned from to l m apart s h fits)

  pub shared_caps : (q : ℕ) → q < row_room → cap_of (shared s from to) q ≡ cap_of s q
  shared_caps q n = turned_caps to _ s (shared s from to) (shared_turned from to l m apart s h fits) q n

-- ---- samples
-- the slot that a channel names is in the pool
pub live_inside : (m : Mem) (r c : ℕ) → Sound m → r < row_room → c < channels_of m.state r → place_of m.state r c < length m.pool
live_inside m r c s l p = rw s.slots (s.held.inside r c l p)

module _ (m : Mem) (r c : ℕ) (s : Sound m) (l : r < row_room) (p : c < channels_of m.state r) where
  pub owned_sound : Sound (owned m r c)
  owned_sound = (owned_is m r c s l p).kept.sound

  pub owned_channels : (q : ℕ) → q < row_room → channels_of (owned m r c).state q ≡ channels_of m.state q
  owned_channels q x = (owned_is m r c s l p).kept.channels q x

  pub owned_slots : slots_of (owned m r c).state ≡ slots_of m.state
  owned_slots = (owned_is m r c s l p).kept.header 1 (omega arith)

  pub owned_caps : (q : ℕ) → q < row_room → cap_of (owned m r c).state q ≡ cap_of m.state q
  owned_caps q x = cap_kept m.state (owned m r c).state (owned_is m r c s l p).kept.header q x

  pub owned_sole : holders_of (owned m r c).state (place_of (owned m r c).state r c) ≡ 1
  owned_sole = (owned_is m r c s l p).sole

  pub owned_samples : samples_of (owned m r c) r c ≡ samples_of m r c
  owned_samples = (owned_is m r c s l p).samples

  -- and then written
  module _ (xs : List Float) (e : length xs ≡ quantum) where
    pub written_sound : Sound (rewritten xs (owned m r c) r c)
    written_sound = (written_is xs m r c s l p e).kept.sound

    pub written_channels : (q : ℕ) → q < row_room → channels_of (rewritten xs (owned m r c) r c).state q ≡ channels_of m.state q
    written_channels q x = (written_is xs m r c s l p e).kept.channels q x

    pub written_slots : slots_of (rewritten xs (owned m r c) r c).state ≡ slots_of m.state
    written_slots = (written_is xs m r c s l p e).kept.header 1 (omega arith)

    pub written_caps : (q : ℕ) → q < row_room → cap_of (rewritten xs (owned m r c) r c).state q ≡ cap_of m.state q
    written_caps q x = cap_kept m.state (rewritten xs (owned m r c) r c).state (written_is xs m r c s l p e).kept.header q x

    pub written_samples : samples_of (rewritten xs (owned m r c) r c) r c ≡ xs
    written_samples = (written_is xs m r c s l p e).samples

  module _ (q d : ℕ) (x : q < row_room) (y : d < channels_of m.state q) (apart : r ≡ q → c ≡ d → ⊥) where
    pub added_channel_sound : Sound (added_channel m r c q d)
    added_channel_sound = (added_channel_is m r c q d s l p x y apart).kept.sound

    pub added_channel_channels : (k : ℕ) → k < row_room → channels_of (added_channel m r c q d).state k ≡ channels_of m.state k
    added_channel_channels k z = (added_channel_is m r c q d s l p x y apart).kept.channels k z

    pub added_channel_slots : slots_of (added_channel m r c q d).state ≡ slots_of m.state
    added_channel_slots = (added_channel_is m r c q d s l p x y apart).kept.header 1 (omega arith)

    pub added_channel_caps : (k : ℕ) → k < row_room → cap_of (added_channel m r c q d).state k ≡ cap_of m.state k
    added_channel_caps k z = cap_kept m.state (added_channel m r c q d).state (added_channel_is m r c q d s l p x y apart).kept.header k z

module _ (m : Mem) (r x : ℕ) (s : Sound m) (l : r < row_room) (k : x < row_room) (apart : r ≡ x → ⊥) (alike : channels_of m.state r ≡ channels_of m.state x) where
  pub added_row_sound : Sound (added_row m r x)
  added_row_sound = (added_row_is r x l k apart m s alike).sound

  pub added_row_channels : (q : ℕ) → q < row_room → channels_of (added_row m r x).state q ≡ channels_of m.state q
  added_row_channels q z = (added_row_is r x l k apart m s alike).channels q z

  pub added_row_slots : slots_of (added_row m r x).state ≡ slots_of m.state
  added_row_slots = (added_row_is r x l k apart m s alike).header 1 (omega arith)

  pub added_row_caps : (q : ℕ) → q < row_room → cap_of (added_row m r x).state q ≡ cap_of m.state q
  added_row_caps q z = cap_kept m.state (added_row m r x).state (added_row_is r x l k apart m s alike).header q z
