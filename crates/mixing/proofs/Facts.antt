-- The laws one fact at a time, as the proof of a caller takes them: after mixing and after adding the rule, the counts of channels, the ceilings, the
-- slots, and what every other row says.
use Rattle.std.proofs.Common.{◌≡◌, ℕ, ◌<◌, ◌≤◌, arith}
use Rattle.layout.specs.Sizes.{spare, row_room}
use Rattle.layout.specs.Header.{slots_of}
use Rattle.layout.specs.Row.{channels_of, place_of, cap_of}
use Rattle.layout.specs.declared.setting.ChannelInterpretation.{ChannelInterpretation}
use Rattle.layout.specs.declared.setting.Setting.{Setting}
use Rattle.pool.specs.Pool.{Mem, Sound, samples_of}
use Rattle.pool.proofs.Names.{cap_kept}
use Rattle.pool.proofs.Rows.{slots_same, caps_same}
use Rattle.mixing.specs.Mixing.{mixed, target_of, added}
use Rattle.mixing.proofs.Mixes.{mixed_is}
use Rattle.mixing.proofs.Adds.{Joined, added_is}

-- ---- a row mixed
module _ (m : Mem) (r n : ℕ) (how : ChannelInterpretation) (s : Sound m) (l : r < row_room) (some : 0 < channels_of m.state r) (fits : n ≤ cap_of m.state r) where
  pub mixed_sound : Sound (mixed m r n how)
  mixed_sound = (mixed_is m r n s l some fits how).sound

  pub mixed_channels : channels_of (mixed m r n how).state r ≡ n
  mixed_channels = (mixed_is m r n s l some fits how).channels

  pub mixed_others : (q : ℕ) → q < row_room → (q ≡ r → ⊥) → channels_of (mixed m r n how).state q ≡ channels_of m.state q
  mixed_others q p u = (mixed_is m r n s l some fits how).but.channels q p u

  pub mixed_places : (q d : ℕ) → q < row_room → d < channels_of m.state q → (q ≡ r → ⊥) → place_of (mixed m r n how).state q d ≡ place_of m.state q d
  mixed_places q d p e u = (mixed_is m r n s l some fits how).but.places q d p e u

  pub mixed_samples : (q d : ℕ) → q < row_room → d < channels_of m.state q → (q ≡ r → ⊥) → samples_of (mixed m r n how) q d ≡ samples_of m q d
  mixed_samples q d p e u = (mixed_is m r n s l some fits how).samples q d p e u

  pub mixed_slots : slots_of (mixed m r n how).state ≡ slots_of m.state
  mixed_slots = slots_same r m.state (mixed m r n how).state (mixed_is m r n s l some fits how).but

  pub mixed_caps : (q : ℕ) → q < row_room → cap_of (mixed m r n how).state q ≡ cap_of m.state q
  mixed_caps q p = caps_same r m.state (mixed m r n how).state (mixed_is m r n s l some fits how).but q p

-- ---- a row added to a row
-- how many channels the sum has
abbrev pub target : Mem → ℕ → ℕ → Setting → ℕ
target m r x setting = target_of setting.mode setting.count (channels_of m.state r) (channels_of m.state x)

module _ (m : Mem) (r x : ℕ) (setting : Setting) (s : Sound m) (l : r < spare) (k : x < spare) (apart : r ≡ x → ⊥) (some : 0 < channels_of m.state r) (other_some : 0 < channels_of m.state x)
    (fits : target m r x setting ≤ cap_of m.state r) (empty : channels_of m.state spare ≡ 0) where
  joined : Joined r (target m r x setting) m (added m r x setting)
  joined = added_is m r x setting (record { sound = s; row_in = omega arith; other_in = omega arith; apart = apart; some = some; other_some = other_some; fits = fits }) l k empty

  pub added_sound : Sound (added m r x setting)
  added_sound = joined.sound

  pub added_channels : channels_of (added m r x setting).state r ≡ target m r x setting
  added_channels = joined.count

  pub added_spare : channels_of (added m r x setting).state spare ≡ 0
  added_spare = joined.empty

  pub added_others : (q : ℕ) → q < spare → (q ≡ r → ⊥) → channels_of (added m r x setting).state q ≡ channels_of m.state q
  added_others q p u = joined.outside.channels q p u

  pub added_places : (q d : ℕ) → q < spare → d < channels_of m.state q → (q ≡ r → ⊥) → place_of (added m r x setting).state q d ≡ place_of m.state q d
  added_places q d p e u = joined.outside.places q d p e u

  pub added_samples : (q d : ℕ) → q < spare → d < channels_of m.state q → (q ≡ r → ⊥) → samples_of (added m r x setting) q d ≡ samples_of m q d
  added_samples q d p e u = joined.outside.samples q d p e u

  pub added_slots : slots_of (added m r x setting).state ≡ slots_of m.state
  added_slots = joined.outside.header 1 (omega arith)

  pub added_caps : (q : ℕ) → q < row_room → cap_of (added m r x setting).state q ≡ cap_of m.state q
  added_caps q p = cap_kept m.state (added m r x setting).state joined.outside.header q p

-- ---- what a caller's proof may use
pub ruleset mixing = (mixed_sound, mixed_channels, mixed_others, mixed_slots, mixed_caps)

pub ruleset adding = (added_sound, added_channels, added_spare, added_others, added_slots, added_caps)
