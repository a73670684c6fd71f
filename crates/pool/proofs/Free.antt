-- A slot is free whenever one is wanted.
use Rattle.std.proofs.Common.{inl, ◌≡◌, refl, sym, ◌∙◌, ℕ, zero, suc, ◌+◌, ◌*◌, ◌-◌, ◌<◌, ◌≤◌, Bool, true, false, List, if◌then◌else◌, ◌==◌, eq-eqb, ne_eqb, arith}
use Rattle.std.proofs.Math.Decide.{ℕ_discrete, dec_lt}
use Rattle.layout.specs.Sizes.{slot_room, channel_room, row_room}
use Rattle.layout.specs.Header.{ceiling_of, slots_of}
use Rattle.layout.specs.Row.{holders_of, channels_of, place_of, cap_of}
use Rattle.layout.specs.Views.{ports_of}
use Rattle.layout.proofs.Caps.{Ported, cap_most, caps_in_all}
use Rattle.tally.specs.Tally.{tally, is}
use Rattle.tally.proofs.Sums.{tally_ext, tally_le, tally_slack, tally_ones, tally_ge, tally_swap, tally_is_0, tally_is_1}
use Rattle.pool.specs.Rows.{Held, names_in, names, lowest_from, lowest_free_of}
use Rattle.pool.proofs.Steps.{some, live_held}

-- ---- the lowest free slot
-- one step of the run, as a loop takes it
pub lowest_step : (s : List ℕ) (n k : ℕ) → k < n → lowest_from s (n - k) k ≡ (if holders_of s k == 0 then k else lowest_from s (n - (k + 1)) (k + 1))
unfolding lowest_from
lowest_step s n k h = let e : n - k ≡ suc (n - (k + 1)) = omega arith in rw e refl

pub lowest_low : (s : List ℕ) (n k : ℕ) → k ≤ lowest_from s n k
unfolding lowest_from
lowest_low s zero k = omega arith
lowest_low s (suc n) k = go (holders_of s k == 0) (lowest_low s n (k + 1))
  where
    go : (b : Bool) → k + 1 ≤ lowest_from s n (k + 1) → k ≤ (if b then k else lowest_from s n (k + 1))
    go true h = omega arith
    go false h = omega arith

-- one that is not past the end is free
pub lowest_is_free : (s : List ℕ) (n k : ℕ) → lowest_from s n k < k + n → holders_of s (lowest_from s n k) ≡ 0
unfolding lowest_from
lowest_is_free s zero k h = absurd (omega arith)
lowest_is_free s (suc n) k h = go (ℕ_discrete (holders_of s k) 0) (lowest_is_free s n (k + 1)) h
  where
    go : Dec (holders_of s k ≡ 0) → (lowest_from s n (k + 1) < k + 1 + n → holders_of s (lowest_from s n (k + 1)) ≡ 0)
        → (if holders_of s k == 0 then k else lowest_from s n (k + 1)) < k + suc n → holders_of s (if holders_of s k == 0 then k else lowest_from s n (k + 1)) ≡ 0
    go (yes e) ih p = rw (eq-eqb (holders_of s k) 0 e) e
    go (no u) ih p = let q = ne_eqb (holders_of s k) 0 u in let z = rw q at p in rw q (ih (omega arith))

-- those below it are not
pub lowest_below : (s : List ℕ) (n k j : ℕ) → k ≤ j → j < lowest_from s n k → 1 ≤ holders_of s j
unfolding lowest_from
lowest_below s zero k j a b = absurd (omega arith)
lowest_below s (suc n) k j a b = go (ℕ_discrete (holders_of s k) 0) (lowest_below s n (k + 1) j) b (ℕ_discrete j k)
  where
    go : Dec (holders_of s k ≡ 0) → (k + 1 ≤ j → j < lowest_from s n (k + 1) → 1 ≤ holders_of s j)
        → j < (if holders_of s k == 0 then k else lowest_from s n (k + 1)) → Dec (j ≡ k) → 1 ≤ holders_of s j
    go (yes e) ih q d = let z = rw (eq-eqb (holders_of s k) 0 e) at q in absurd (omega arith)
    go (no u) ih q (yes e) = rw e (omega arith)
    go (no u) ih q (no v) = let z = rw (ne_eqb (holders_of s k) 0 u) at q in ih (omega arith) z

-- the search begins with slot 1
pub lowest_first : (s : List ℕ) → lowest_free_of s < slots_of s → (1 < slots_of s) × (lowest_from s (slots_of s - 1) 1 ≡ lowest_free_of s)
unfolding lowest_free_of
lowest_first s l = let a = lowest_low s (slots_of s - 1) 1 in (omega arith, refl)

-- one turn of the search: where slot k has a holder, the lowest free one is among those from k + 1 on
pub lowest_turn : (s : List ℕ) (k : ℕ) → k < slots_of s → lowest_free_of s < slots_of s → lowest_from s (slots_of s - k) k ≡ lowest_free_of s → (holders_of s k ≡ 0 → ⊥)
    → (k + 1 < slots_of s) × (lowest_from s (slots_of s - (k + 1)) (k + 1) ≡ lowest_free_of s)
lowest_turn s k l m e u =
    let n = slots_of s in
    let f : lowest_from s (n - (k + 1)) (k + 1) ≡ lowest_free_of s = sym (lowest_step s n k l ∙ rw (ne_eqb (holders_of s k) 0 u) refl) ∙ e in
    let g = lowest_low s (n - (k + 1)) (k + 1) in
    (omega arith, f)

-- where it has none, it is the one
pub lowest_here : (s : List ℕ) (k : ℕ) → k < slots_of s → lowest_from s (slots_of s - k) k ≡ lowest_free_of s → holders_of s k ≡ 0 → k ≡ lowest_free_of s
lowest_here s k l e z = sym (lowest_step s (slots_of s) k l ∙ rw (eq-eqb (holders_of s k) 0 z) refl) ∙ e

-- ---- the first lines of the rule, from what set-up and adding a node see to
pub capped_from : (s : List ℕ) → ceiling_of s ≤ channel_room → (r : ℕ) → r < row_room → cap_of s r ≤ channel_room
capped_from s l r _ = let a = cap_most s r in omega arith

pub roomy_from : (s : List ℕ) → Ported s → (ports_of s + 1) * ceiling_of s < slots_of s → tally (λ r. cap_of s r) row_room < slots_of s
roomy_from s p l = let e = caps_in_all s p in omega arith

-- ---- counting
-- how many channels all rows have
unfoldable pub channels_in_all : List ℕ → ℕ
channels_in_all s = tally (λ r. channels_of s r) row_room

-- every slot above 0 and below m, summed, has at most as many names as there are places that name something
module _ (s : List ℕ) (h : Held s) (m : ℕ) where
  -- the slots 1 .. m that one place names, which is 1 at most
  once : ℕ → ℕ → ℕ
  once r c = tally (λ j. is (place_of s r c) (suc j)) m

  abbrev all : ℕ
  all = tally (λ j. names s (suc j)) m

  all_once : all ≡ tally (λ r. tally (λ c. once r c) (channels_of s r)) row_room
  unfolding names names_in once
  all_once =
      tally_swap (λ j r. names_in s (suc j) r) m row_room
      ∙ tally_ext (λ r. tally (λ j. names_in s (suc j) r) m) (λ r. tally (λ c. once r c) (channels_of s r)) row_room
      (λ r p. tally_swap (λ j c. is (place_of s r c) (suc j)) m (channels_of s r))

  row_once : (r : ℕ) → tally (λ c. once r c) (channels_of s r) ≤ channels_of s r
  unfolding once
  row_once r =
      let a = tally_le (λ c. once r c) (λ _. 1) (channels_of s r) (λ c p. tally_is_1 (place_of s r c) m) in
      let b = tally_ones (channels_of s r) in
      omega arith

  -- all names are at most all channels, and one less where a channel is silent
  all_most : all ≤ channels_in_all s
  unfolding channels_in_all
  all_most = rw all_once (tally_le (λ r. tally (λ c. once r c) (channels_of s r)) (λ r. channels_of s r) row_room (λ r p. row_once r))

  all_spare : (r c : ℕ) → r < row_room → c < channels_of s r → place_of s r c ≡ 0 → all + 1 ≤ channels_in_all s
  unfolding channels_in_all once
  all_spare r c l p z =
      let a = tally_slack (λ d. once r d) (λ _. 1) (channels_of s r) c 1 p (λ d q. tally_is_1 (place_of s r d) m) (rw (tally_is_0 (place_of s r c) m (inl z)) (omega arith)) in
      let b = tally_ones (channels_of s r) in
      rw all_once (tally_slack (λ q. tally (λ d. once q d) (channels_of s q)) (λ q. channels_of s q) row_room r 1 l (λ q x. row_once q) (omega arith))

-- the channels are fewer than the slots
all_room : (s : List ℕ) → Held s → channels_in_all s < slots_of s
unfolding channels_in_all
all_room s h =
    let a = tally_le (λ r. channels_of s r) (λ r. cap_of s r) row_room (λ r l. h.narrow r l) in
    let b = h.roomy in
    omega arith

two_of : (n : ℕ) → 1 ≤ n → (n ≡ 1 → ⊥) → 2 ≤ n
two_of n a u = omega arith

-- a place that names silence, or a slot that another place names too, can have a slot of its own
pub free_slot : (s : List ℕ) (r c : ℕ) → Held s → r < row_room → c < channels_of s r → (holders_of s (place_of s r c) ≡ 1 → ⊥) → lowest_free_of s < slots_of s
unfolding lowest_free_of
free_slot s r c h l p u = go (dec_lt (lowest_from s (slots_of s - 1) 1) (slots_of s))
  where
    -- where no slot is free, each of the slots 1 .. S - 1 has a name, and the names are more than the places
    none : 1 + (slots_of s - 1) ≤ lowest_from s (slots_of s - 1) 1 → Dec (place_of s r c ≡ 0) → ⊥
    none q d =
        let few = all_room s h in
        let m = slots_of s - 1 in
        let each : (j : ℕ) → j < m → 1 ≤ names s (suc j) = λ j x.
        let e : 1 + j ≡ suc j = omega arith in
        rw (← h.counted (suc j) (omega arith) (omega arith)) (rw e at (lowest_below s m 1 (1 + j) (omega arith) (omega arith))) in
        let ones = tally_ones m in
        elim d [
          | yes z ↦
              let a = all_spare s h m r c l p z in
              let b = tally_le (λ _. 1) (λ j. names s (suc j)) m each in
              omega arith
          | no v ↦
              let a = all_most s h m in
              let k = place_of s r c in
              let ins = h.inside r c l p in
              let e : suc (k - 1) ≡ k = omega arith in
              let x = h.counted k (omega arith) ins in
              let y = live_held s r c h l p (omega arith) in
              let two : 2 ≤ holders_of s k = two_of (holders_of s k) y u in
              let b = tally_slack (λ _. 1) (λ j. names s (suc j)) m (k - 1) 1 (omega arith) each (rw e (omega arith)) in
              omega arith
        ]

    go : Dec (lowest_from s (slots_of s - 1) 1 < slots_of s) → lowest_from s (slots_of s - 1) 1 < slots_of s
    go (yes q) = q
    go (no q) = let any = some s h in absurd (none (omega arith) (ℕ_discrete (place_of s r c) 0))

-- and what it is given is free, and is not silence
pub free_slot_zero : (s : List ℕ) → 1 ≤ slots_of s → lowest_free_of s < slots_of s → holders_of s (lowest_free_of s) ≡ 0
unfolding lowest_free_of
free_slot_zero s some l = lowest_is_free s (slots_of s - 1) 1 (omega arith)

pub free_slot_low : (s : List ℕ) → 0 < lowest_free_of s
unfolding lowest_free_of
free_slot_low s = lowest_low s (slots_of s - 1) 1

-- no slot has as many holders as there are slots
pub holders_few : (s : List ℕ) → Held s → (k : ℕ) → k < slots_of s → holders_of s k < slot_room
holders_few s h zero l = let a = h.silent in omega arith
holders_few s h (suc k) l =
    let a = tally_ge (λ j. names s (suc j)) (slots_of s - 1) k (omega arith) in
    let b = all_most s h (slots_of s - 1) in
    let c = all_room s h in
    let d = h.counted (suc k) (omega arith) l in
    let e = h.few in
    omega arith
