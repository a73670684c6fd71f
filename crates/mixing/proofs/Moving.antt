-- Moving, truncating and filling: the turns of the loops, and what a row has afterwards.
use Rattle.std.proofs.Common.{◌≡◌, refl, sym, ap, ◌∙◌, ℕ, zero, suc, ◌+◌, ◌-◌, ◌<◌, ◌≤◌, List, [], ◌∷◌, length, map, replicate, drop, get_or, slice_index, Option, Some, None, lt-ltb, le-ltb, arith, drop-cons}
use Rattle.std.specs.List.{range_with_len}
use Rattle.std.proofs.lemmas.List.{length-map, length-replicate, get_or-map, get_or_past, drop_all}
use Rattle.std.proofs.lemmas.List.FromFn.{get_or-map-range_with_len, length-map-range_with_len}
use Rattle.std.proofs.Math.Decide.{dec_lt}
use Rattle.layout.specs.Sizes.{row_room}
use Rattle.layout.specs.Header.{slots_of}
use Rattle.layout.specs.Row.{channels_of, place_of, cap_of}
use Rattle.pool.specs.Rows.{Held, pushed, truncated}
use Rattle.pool.proofs.Names.{but_none, but_then}
use Rattle.pool.proofs.Steps.{some}
use Rattle.pool.proofs.Calls.{truncated_end}
use Rattle.pool.proofs.Facts.{pushed_channels}
use Rattle.pool.proofs.Rows.{Turned, slots_same, caps_same, pushed_turned, pushed_at, pushed_place, truncated_turned}
use Rattle.mixing.specs.Moves.{slot_at, pushed_all, taken, picked, rearranged, resized}

-- ---- a slot that a row names, or silence
module _ (s : List ℕ) (r c : ℕ) where
  pub slot_at_live : c < channels_of s r → slot_at s r c ≡ place_of s r c
  unfolding slot_at
  slot_at_live l = rw (lt-ltb c (channels_of s r) l) refl

  pub slot_at_none : channels_of s r ≤ c → slot_at s r c ≡ 0
  unfolding slot_at
  slot_at_none l = rw (le-ltb c (channels_of s r) l) refl

  pub slot_at_in : Held s → r < row_room → slot_at s r c < slots_of s
  slot_at_in h l = go (dec_lt c (channels_of s r))
    where
      go : Dec (c < channels_of s r) → slot_at s r c < slots_of s
      go (yes m) = rw (slot_at_live m) (h.inside r c l m)
      go (no u) = rw (slot_at_none (omega arith)) (some s h)

pub taken_in : (s : List ℕ) (r : ℕ) (v : Option ℕ) → Held s → r < row_room → taken s r v < slots_of s
unfolding taken
taken_in s r None h l = some s h
taken_in s r (Some c) h l = slot_at_in s r c h l

-- what is read from the first six slots is what the row names
pub picked_is : (s : List ℕ) (r : ℕ) (v : Option ℕ) → channels_of s r ≤ 6 → picked (map (slot_at s r) (range_with_len 0 6)) v ≡ taken s r v
unfolding picked taken
picked_is s r None m = refl
picked_is s r (Some c) m = go (dec_lt c 6)
  where
    go : Dec (c < 6) → slice_index (map (slot_at s r) (range_with_len 0 6)) c ≡ slot_at s r c
    go (yes l) = get_or-map-range_with_len (slot_at s r) 0 6 c c 0 l (omega arith)
    go (no u) = get_or_past (map (slot_at s r) (range_with_len 0 6)) c 0 (omega (arith, length-map-range_with_len (slot_at s r) 0 6)) ∙ sym (slot_at_none s r c (omega arith))

-- ---- slots pushed one after the other
-- what pushing slots ks leaves: the channels that the row had, and then those
pub record Pushed (r : ℕ) (ks s t : List ℕ) : Type 0 where
  pub turned : Turned r (channels_of s r + length ks) s t
  pub front : (d : ℕ) → d < channels_of s r → place_of t r d ≡ place_of s r d
  pub back : (d : ℕ) → d < length ks → place_of t r (channels_of s r + d) ≡ slice_index ks d

pub pushed_all_is : (r : ℕ) (ks s : List ℕ) → r < row_room → Held s → channels_of s r + length ks ≤ cap_of s r → ((d : ℕ) → d < length ks → slice_index ks d < slots_of s) → Pushed r ks s (pushed_all s r ks)
unfolding pushed_all
pushed_all_is r [] s l h m f = record { turned = record { held = h; but = but_none r s; channels = omega arith }; front = λ d p. refl; back = λ d p. absurd (omega arith) }
pushed_all_is r (k ∷ ks) s l h m f =
    let t = pushed s r k in
    let room : channels_of s r < cap_of s r = omega arith in
    let a = pushed_turned s r k h l room (f 0 (omega arith)) in
    let n = a.channels in
    let z = slots_same r s t a.but in
    let c = caps_same r s t a.but r l in
    let b = pushed_all_is r ks t l a.held (omega arith) (λ d p. rw z (f (suc d) (omega arith))) in
    let e = b.turned.channels in
    record {
      turned = record { held = b.turned.held; but = but_then r s t (pushed_all t r ks) a.but b.turned.but; channels = omega arith };
      front = λ d p. b.front d (omega arith) ∙ pushed_place s r k h l room (f 0 (omega arith)) d p;
      back = λ d p. at d p b n;
    }
  where
    at : (d : ℕ) → d < suc (length ks) → Pushed r ks (pushed s r k) (pushed_all (pushed s r k) r ks) → channels_of (pushed s r k) r ≡ channels_of s r + 1
        → place_of (pushed_all (pushed s r k) r ks) r (channels_of s r + d) ≡ slice_index (k ∷ ks) d
    at zero p b n =
        let e : channels_of s r + 0 ≡ channels_of s r = omega arith in
        rw e (b.front (channels_of s r) (omega arith) ∙ pushed_at s r k h l (omega arith) (f 0 (omega arith)))
    at (suc d) p b n =
        let e : channels_of s r + suc d ≡ channels_of (pushed s r k) r + d = omega arith in
        rw e (b.back d (omega arith))

-- ---- a row rearranged
-- what rearranging leaves: a channel for each move
pub record Rearranged (r : ℕ) (moves : List (Option ℕ)) (s t : List ℕ) : Type 0 where
  pub turned : Turned r (length moves) s t
  pub places : (d : ℕ) → d < length moves → place_of t r d ≡ taken s r (get_or moves d None)

module _ (s : List ℕ) (r : ℕ) (moves : List (Option ℕ)) (h : Held s) (l : r < row_room) where
  taken_at : (d : ℕ) → d < length moves → slice_index (map (taken s r) moves) d ≡ taken s r (get_or moves d None)
  taken_at d p = get_or-map (taken s r) moves d None 0 p

  pub rearranged_is : length moves ≤ cap_of s r → Rearranged r moves s (rearranged s r moves)
  unfolding rearranged
  rearranged_is m =
      let t = truncated s r 0 in
      let ks = map (taken s r) moves in
      let a = truncated_turned s r 0 h l (omega arith) in
      let n = a.channels in
      let c = caps_same r s t a.but r l in
      let z = slots_same r s t a.but in
      let e = length-map moves (taken s r) in
      let b = pushed_all_is r ks t l a.held (omega arith) (λ d p. rw (z, taken_at d (omega arith)) (taken_in s r (get_or moves d None) h l)) in
      let f = b.turned.channels in
      record {
        turned = record { held = b.turned.held; but = but_then r s t (pushed_all t r ks) a.but b.turned.but; channels = omega arith };
        places = λ d p. let g : channels_of t r + d ≡ d = omega arith in rw g at (b.back d (omega arith)) ∙ taken_at d p;
      }

-- state t is on the way from state s to where row r is rearranged: the first i moves are made
pub record Rearranging (s : List ℕ) (r : ℕ) (moves : List (Option ℕ)) (i : ℕ) (t : List ℕ) : Type 0 where
  pub held : Held t
  pub count : channels_of t r ≡ i
  pub cap : cap_of t r ≡ cap_of s r
  pub slots : slots_of t ≡ slots_of s
  pub rest : pushed_all t r (map (taken s r) (drop i moves)) ≡ rearranged s r moves

module _ (s : List ℕ) (r : ℕ) (moves : List (Option ℕ)) (h : Held s) (l : r < row_room) where
  pub rearranging_first : Rearranging s r moves 0 (truncated s r 0)
  unfolding rearranged
  rearranging_first =
      let a = truncated_turned s r 0 h l (omega arith) in
      record { held = a.held; count = a.channels; cap = caps_same r s (truncated s r 0) a.but r l; slots = slots_same r s (truncated s r 0) a.but; rest = refl }

  module _ (i : ℕ) (t : List ℕ) (g : Rearranging s r moves i t) where
    pub rearranging_turn : i < length moves → length moves ≤ cap_of s r → Rearranging s r moves (i + 1) (pushed t r (taken s r (get_or moves i None)))
    unfolding pushed_all
    rearranging_turn p m =
        let k = taken s r (get_or moves i None) in
        let a1 = g.count in
        let a2 = g.cap in
        let a = pushed_turned t r k g.held l (omega arith) (rw g.slots (taken_in s r (get_or moves i None) h l)) in
        let e : i + 1 ≡ suc i = omega arith in
        record {
          held = a.held;
          count = a.channels ∙ ap (λ (v : ℕ). v + 1) g.count;
          cap = caps_same r t (pushed t r k) a.but r l ∙ g.cap;
          slots = slots_same r t (pushed t r k) a.but ∙ g.slots;
          rest = rw e (rw (drop-cons moves i None) at g.rest);
        }

    pub rearranging_end : length moves ≤ i → t ≡ rearranged s r moves
    unfolding pushed_all
    rearranging_end p = rw (drop_all i moves p) at g.rest

-- ---- a row truncated or filled
pub zeros_length : (n : ℕ) → length (replicate {A = ℕ} n 0) ≡ n
zeros_length n = length-replicate n 0

pub zeros : (n d : ℕ) → slice_index (replicate n 0) d ≡ 0
zeros zero d = refl
zeros (suc n) zero = refl
zeros (suc n) (suc d) = zeros n d

module _ (s : List ℕ) (r n : ℕ) (h : Held s) (l : r < row_room) where
  pub resized_cut : n ≤ channels_of s r → resized s r n ≡ truncated s r n
  unfolding resized pushed_all
  resized_cut m = let e : n - channels_of s r ≡ 0 = omega arith in rw e refl

  pub resized_end : n ≡ channels_of s r → resized s r n ≡ s
  resized_end e = resized_cut (omega arith) ∙ truncated_end s r n (omega arith)

  pub resized_fill : channels_of s r ≤ n → resized s r n ≡ pushed_all s r (replicate (n - channels_of s r) 0)
  unfolding resized
  resized_fill m = rw (truncated_end s r n m) refl

  -- a row that is filled: silence after the channels that it had
  pub resized_filled : channels_of s r ≤ n → n ≤ cap_of s r → Pushed r (replicate (n - channels_of s r) 0) s (resized s r n)
  resized_filled m c =
      let ks : List ℕ = replicate (n - channels_of s r) 0 in
      let e = zeros_length (n - channels_of s r) in
      rw (resized_fill m) (pushed_all_is r ks s l h (omega arith) (λ d p. rw (zeros (n - channels_of s r) d) (some s h)))

  -- what resizing leaves: n channels
  pub resized_is : n ≤ cap_of s r → Turned r n s (resized s r n)
  resized_is c = go (dec_lt (channels_of s r) n)
    where
      go : Dec (channels_of s r < n) → Turned r n s (resized s r n)
      go (no u) = rw (resized_cut (omega arith)) (truncated_turned s r n h l (omega arith))
      go (yes m) =
          let b = resized_filled (omega arith) c in
          let e = zeros_length (n - channels_of s r) in
          let f = b.turned.channels in
          record { held = b.turned.held; but = b.turned.but; channels = omega arith }

-- state t is on the way from state s to where row r has n channels
pub record Resizing (s : List ℕ) (r n : ℕ) (t : List ℕ) : Type 0 where
  pub held : Held t
  pub most : channels_of t r ≤ n
  pub cap : cap_of t r ≡ cap_of s r
  pub rest : resized t r n ≡ resized s r n

module _ (s : List ℕ) (r n : ℕ) (h : Held s) (l : r < row_room) where
  pub resizing_first : Resizing s r n (truncated s r n)
  resizing_first = go (dec_lt n (channels_of s r))
    where
      go : Dec (n < channels_of s r) → Resizing s r n (truncated s r n)
      go (no u) = rw (truncated_end s r n (omega arith)) (record { held = h; most = omega arith; cap = refl; rest = refl })
      go (yes m) =
          let a = truncated_turned s r n h l (omega arith) in
          let e = a.channels in
          record {
            held = a.held;
            most = omega arith;
            cap = caps_same r s (truncated s r n) a.but r l;
            rest = resized_end (truncated s r n) r n a.held l (sym e) ∙ sym (resized_cut s r n h l (omega arith));
          }

  module _ (t : List ℕ) (g : Resizing s r n t) where
    pub resizing_turn : channels_of t r < n → n ≤ cap_of s r → Resizing s r n (pushed t r 0)
    unfolding resized pushed_all
    resizing_turn m c =
        let a0 = g.cap in
        let a = pushed_turned t r 0 g.held l (omega arith) (some t g.held) in
        let e = a.channels in
        let f : n - channels_of t r ≡ suc (n - (channels_of t r + 1)) = omega arith in
        let b : resized (pushed t r 0) r n ≡ resized t r n = rw (truncated_end t r n (omega arith), f, truncated_end (pushed t r 0) r n (omega arith), e) refl in
        record { held = a.held; most = omega arith; cap = caps_same r t (pushed t r 0) a.but r l ∙ g.cap; rest = b ∙ g.rest }

    pub resizing_end : n ≤ channels_of t r → t ≡ resized s r n
    resizing_end m = let a = g.most in sym (resized_end t r n g.held l (omega arith)) ∙ g.rest

-- ---- what each function's proof may use
pub ruleset rearranging = (taken_in, picked_is, rearranging_first, rearranging_end)

pub ruleset resizing = (some, pushed_channels, resizing_first, resizing_end)
