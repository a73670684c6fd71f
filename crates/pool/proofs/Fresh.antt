-- A fresh set-up keeps the rules: what the contracts require can be met.
use Rattle.std.proofs.Common.{◌≡◌, [], refl, sym, ◌∙◌, ℕ, ◌+◌, ◌*◌, ◌/◌, ◌<◌, ◌≤◌, false, List, replicate, slice_index, ne_eqb, length-set, arith}
use Rattle.std.proofs.lemmas.List.{length-replicate, get_or-replicate}
use Rattle.std.proofs.Math.Decide.{ℕ_discrete}
use Rattle.std.specs.Float.Ieee.{binary32, of_bits}
use Rattle.tally.specs.Tally.{tally}
use Rattle.tally.proofs.Sums.{tally_zero, tally_one}
use Rattle.layout.specs.Sizes.{Whole, quantum, slot_room, channel_room, node_rows, spare, row_room, node_words, node_part, state_length, holder_part, channel_part, flag_at}
use Rattle.layout.specs.Header.{ceiling_of, set_ceiling, slots_of, set_slots}
use Rattle.layout.specs.Row.{channels_of, cap_of}
use Rattle.layout.proofs.Words.{word_same, word_other}
use Rattle.pool.specs.Rows.{Held, names_in, names}
use Rattle.pool.specs.Pool.{mem, Sound, silence}

-- no nodes, and every slot silent
unfoldable pub fresh : ℕ → ℕ → List ℕ
fresh ceiling slots = set_slots (set_ceiling (replicate state_length 0) ceiling) slots

module _ (ceiling slots : ℕ) (a : ceiling ≤ channel_room) (b : ceiling < slots) (c : slots ≤ slot_room) where
  zeros : List ℕ
  zeros = replicate state_length 0

  zeros_whole : Whole zeros
  unfolding zeros
  zeros_whole = length-replicate {A = ℕ} state_length 0

  first_whole : Whole (set_ceiling zeros ceiling)
  first_whole = length-set zeros 0 ceiling ∙ zeros_whole

  fresh_whole : Whole (fresh ceiling slots)
  unfolding fresh zeros
  fresh_whole = length-set (set_ceiling zeros ceiling) 1 slots ∙ first_whole

  word : (i : ℕ) → 2 ≤ i → i < state_length → slice_index (fresh ceiling slots) i ≡ 0
  unfolding fresh zeros
  word i l m = word_other (set_ceiling zeros ceiling) 1 slots i (λ e. omega arith) ∙ word_other zeros 0 ceiling i (λ e. omega arith) ∙ get_or-replicate state_length i 0 0 m

  slots_is : slots_of (fresh ceiling slots) ≡ slots
  unfolding fresh zeros
  slots_is = word_same (set_ceiling zeros ceiling) 1 slots first_whole (omega arith)

  ceiling_is : ceiling_of (fresh ceiling slots) ≡ ceiling
  unfolding fresh zeros
  ceiling_is = word_other (set_ceiling zeros ceiling) 1 slots 0 (λ e. omega arith) ∙ word_same zeros 0 ceiling zeros_whole (omega arith)

  -- nobody is present
  absent : (i : ℕ) → slice_index (fresh ceiling slots) i ≡ 0 → flag_at (fresh ceiling slots) i ≡ false
  unfolding flag_at
  absent i e = rw e refl

  cap_zero : (r : ℕ) → r < row_room → (r ≡ spare → ⊥) → cap_of (fresh ceiling slots) r ≡ 0
  unfolding cap_of
  cap_zero r l u =
      let i = node_part + node_words * (r / node_rows) + 0 in
      rw (ne_eqb r spare u, absent i (word i (omega arith) (omega arith))) refl

  cap_spare : cap_of (fresh ceiling slots) spare ≡ ceiling
  unfolding cap_of
  cap_spare = ceiling_is

  cap_most : (r : ℕ) → r < row_room → Dec (r ≡ spare) → cap_of (fresh ceiling slots) r ≤ channel_room
  cap_most r l (yes e) = rw (e, cap_spare) a
  cap_most r l (no u) = rw (cap_zero r l u) (omega arith)

  empty : (r : ℕ) → r < row_room → channels_of (fresh ceiling slots) r ≡ 0
  empty r l = word (channel_part + r) (omega arith) (omega arith)

  nobody : (k : ℕ) → names (fresh ceiling slots) k ≡ 0
  unfolding names names_in tally
  nobody k = tally_zero (λ r. names_in (fresh ceiling slots) k r) row_room (λ r l. let e = empty r l in rw e refl)

  pub fresh_held : Held (fresh ceiling slots)
  fresh_held = record {
    whole = fresh_whole;
    few = rw slots_is c;
    roomy =
        let f = tally_one (λ r. cap_of (fresh ceiling slots) r) (λ _. 0) row_room spare (omega arith) (λ r l u. cap_zero r l u) in
        let z = tally_zero (λ _. 0) row_room (λ r l. refl) in
        let e = cap_spare in
        let s = slots_is in
        omega arith;
    capped = λ r l. cap_most r l (ℕ_discrete r spare);
    silent = word holder_part (omega arith) (omega arith);
    narrow = λ r l. let e = empty r l in omega arith;
    inside = λ r d l m. let e = empty r l in absurd (omega arith);
    counted = λ k l m. let s = slots_is in word (holder_part + k) (omega arith) (omega arith) ∙ sym (nobody k);
  }

  pub fresh_sound : Sound (mem (fresh ceiling slots) (replicate slots silence))
  fresh_sound = record {
    held = fresh_held;
    slots = length-replicate slots silence ∙ sym slots_is;
    long = λ k l. rw (get_or-replicate slots k silence [] (rw length-replicate at l)) (length-replicate quantum (of_bits binary32 0));
    quiet = get_or-replicate slots 0 silence [] (omega arith);
  }
