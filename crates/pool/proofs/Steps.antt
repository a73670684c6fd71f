-- The steps on rows keep the rule of the holder counts.
use Rattle.std.proofs.Common.{◌≡◌, refl, sym, ap, ◌∙◌, ℕ, zero, suc, ◌+◌, ◌*◌, ◌-◌, ◌<◌, ◌≤◌, Bool, true, false, List, length, slice_index, if◌then◌else◌, ◌==◌, ne_eqb, length-set, arith}
use Rattle.std.proofs.Math.Decide.{ℕ_discrete}
use Rattle.layout.specs.Sizes.{Whole, slot_room, channel_room, row_room, holder_part, channel_part, place_part}
use Rattle.layout.specs.Header.{slots_of}
use Rattle.layout.specs.Row.{holders_of, set_holders, channels_of, place_of, set_place, cap_of}
use Rattle.layout.proofs.Words.{word_same, word_other, place_apart}
use Rattle.tally.specs.Tally.{tally, is}
use Rattle.tally.proofs.Sums.{is_same, is_other, tally_ext}
use Rattle.pool.specs.Rows.{Held, names_in, names, dropped, gained, released, named, grown, shrunk}
use Rattle.pool.proofs.Names.{But, cap_kept, names_row, row_one, row_more, names_ge}

-- ---- what the rule gives
module _ (s : List ℕ) (h : Held s) where
  pub some : 1 ≤ slots_of s
  some = let a = h.roomy in omega arith

  pub short : (r : ℕ) → r < row_room → channels_of s r ≤ channel_room
  short r l = let a = h.narrow r l in let b = h.capped r l in omega arith

  -- the part of the rule that reads only the header and the nodes
  module _ (t : List ℕ) (same : (i : ℕ) → i < holder_part → slice_index t i ≡ slice_index s i) where
    pub slots_kept : slots_of t ≡ slots_of s
    slots_kept = same 1 (omega arith)

    pub few_kept : slots_of t ≤ slot_room
    few_kept = rw slots_kept h.few

    pub roomy_kept : tally (λ r. cap_of t r) row_room < slots_of t
    roomy_kept = rw (slots_kept, tally_ext (λ r. cap_of t r) (λ r. cap_of s r) row_room (λ r l. cap_kept s t same r l)) h.roomy

    pub capped_kept : (r : ℕ) → r < row_room → cap_of t r ≤ channel_room
    capped_kept r l = rw (cap_kept s t same r l) (h.capped r l)

-- ---- one place has another name
pub record Renamed (r c : ℕ) (s t : List ℕ) : Type 0 where
  pub length' : length t ≡ length s
  pub header : (i : ℕ) → i < holder_part → slice_index t i ≡ slice_index s i
  pub channels : (q : ℕ) → q < row_room → channels_of t q ≡ channels_of s q
  pub places : (q d : ℕ) → q < row_room → d < channel_room → (r ≡ q → c ≡ d → ⊥) → place_of t q d ≡ place_of s q d
  pub silent : holders_of t 0 ≡ holders_of s 0
  pub counted : (k : ℕ) → 0 < k → k < slot_room → holders_of t k + is (place_of s r c) k ≡ holders_of s k + is (place_of t r c) k

pub renamed_but : (r c : ℕ) (s t : List ℕ) → Held s → Renamed r c s t → But r s t
renamed_but r c s t h n = record { header = n.header; channels = λ q m u. n.channels q m; places = λ q d m l u. let w = short s h q m in n.places q d m (omega arith) (λ e _. u (sym e)) }

pub renamed_names : (r c : ℕ) (s t : List ℕ) → Held s → r < row_room → c < channels_of s r → Renamed r c s t → (k : ℕ)
    → names t k + is (place_of s r c) k ≡ names s k + is (place_of t r c) k
renamed_names r c s t h l m n k =
    let w = short s h r l in
    let a = names_row s t k r l (renamed_but r c s t h n) in
    let b = row_one s t k r c (n.channels r l) m (λ d p u. n.places r d l (omega arith) (λ _ e. u (sym e))) in
    omega arith

pub renamed_held : (r c : ℕ) (s t : List ℕ) → Held s → r < row_room → c < channels_of s r → Renamed r c s t → place_of t r c < slots_of s → Held t
renamed_held r c s t h l m n v =
    let slots : slots_of t ≡ slots_of s = n.header 1 (omega arith) in
    record {
      whole = n.length' ∙ h.whole;
      few = few_kept s h t n.header;
      roomy = roomy_kept s h t n.header;
      capped = capped_kept s h t n.header;
      silent = n.silent ∙ h.silent;
      narrow = λ q p. rw (n.channels q p, cap_kept s t n.header q p) (h.narrow q p);
      inside = λ q d p e. rw slots (inside q d p (rw (n.channels q p) at e) (ℕ_discrete r q) (ℕ_discrete c d));
      counted = λ k p e.
          let few = h.few in
          let a = renamed_names r c s t h l m n k in
          let b = n.counted k p (omega arith) in
          let z = h.counted k p (rw slots at e) in
          omega arith;
    }
  where
    inside : (q d : ℕ) → q < row_room → d < channels_of s q → Dec (r ≡ q) → Dec (c ≡ d) → place_of t q d < slots_of s
    inside q d p e (yes a) (yes b) = rw (← a, ← b) v
    inside q d p e (yes a) (no u) = let w = short s h q p in rw (n.places q d p (omega arith) (λ _ x. u x)) (h.inside q d p e)
    inside q d p e (no u) (yes b) = let w = short s h q p in rw (n.places q d p (omega arith) (λ x _. u x)) (h.inside q d p e)
    inside q d p e (no u) (no z) = let w = short s h q p in rw (n.places q d p (omega arith) (λ x _. u x)) (h.inside q d p e)

-- ---- a holder less, a holder more
pub record Counts (k : ℕ) (s t : List ℕ) : Type 0 where
  pub length' : length t ≡ length s
  pub same : (i : ℕ) → (i ≡ holder_part + k → ⊥) → slice_index t i ≡ slice_index s i

counts_cond : (k v : ℕ) (s : List ℕ) (b : Bool) → Counts k s (if b then s else set_holders s k v)
counts_cond k v s true = record { length' = refl; same = λ i u. refl }
counts_cond k v s false = record { length' = length-set s (holder_part + k) v; same = λ i u. word_other s (holder_part + k) v i u }

pub dropped_counts : (s : List ℕ) (k : ℕ) → Counts k s (dropped s k)
unfolding dropped
dropped_counts s k = counts_cond k (holders_of s k - 1) s (k == 0)

pub gained_counts : (s : List ℕ) (k : ℕ) → Counts k s (gained s k)
unfolding gained
gained_counts s k = counts_cond k (holders_of s k + 1) s (k == 0)

pub dropped_zero : (s : List ℕ) → dropped s 0 ≡ s
unfolding dropped
dropped_zero s = refl

pub dropped_pos : (s : List ℕ) (k : ℕ) → 0 < k → dropped s k ≡ set_holders s k (holders_of s k - 1)
unfolding dropped
dropped_pos s k h = rw (ne_eqb k 0 (λ e. omega arith)) refl

pub gained_zero : (s : List ℕ) → gained s 0 ≡ s
unfolding gained
gained_zero s = refl

pub gained_pos : (s : List ℕ) (k : ℕ) → 0 < k → gained s k ≡ set_holders s k (holders_of s k + 1)
unfolding gained
gained_pos s k h = rw (ne_eqb k 0 (λ e. omega arith)) refl

-- the count of j after slot k has lost a holder
pub dropped_at : (s : List ℕ) (k j : ℕ) → Whole s → k < slot_room → (0 < k → 1 ≤ holders_of s k) → 0 < j → holders_of (dropped s k) j + is k j ≡ holders_of s j
dropped_at s k j w l p z = go (ℕ_discrete k j)
  where
    go : Dec (k ≡ j) → holders_of (dropped s k) j + is k j ≡ holders_of s j
    go (no u) =
        let a = (dropped_counts s k).same (holder_part + j) (λ e. u (omega arith)) in
        let b = is_other k j u in
        omega arith
    go (yes e) =
        let b = is_same k j e in
        let q = p (omega arith) in
        let a : holders_of (dropped s k) k ≡ holders_of s k - 1 = rw (dropped_pos s k (omega arith)) (word_same s (holder_part + k) (holders_of s k - 1) w (omega arith)) in
        rw (← e) (let c = is_same k k refl in omega arith)

pub gained_at : (s : List ℕ) (k j : ℕ) → Whole s → k < slot_room → 0 < j → holders_of (gained s k) j ≡ holders_of s j + is k j
gained_at s k j w l z = go (ℕ_discrete k j)
  where
    go : Dec (k ≡ j) → holders_of (gained s k) j ≡ holders_of s j + is k j
    go (no u) =
        let a = (gained_counts s k).same (holder_part + j) (λ e. u (omega arith)) in
        let b = is_other k j u in
        omega arith
    go (yes e) =
        let a : holders_of (gained s k) k ≡ holders_of s k + 1 = rw (gained_pos s k (omega arith)) (word_same s (holder_part + k) (holders_of s k + 1) w (omega arith)) in
        rw (← e) (let c = is_same k k refl in omega arith)

pub dropped_silent : (s : List ℕ) (k : ℕ) → holders_of (dropped s k) 0 ≡ holders_of s 0
dropped_silent s zero = ap (λ (t : List ℕ). holders_of t 0) (dropped_zero s)
dropped_silent s (suc k) = (dropped_counts s (suc k)).same holder_part (λ e. omega arith)

pub gained_silent : (s : List ℕ) (k : ℕ) → holders_of (gained s k) 0 ≡ holders_of s 0
gained_silent s zero = ap (λ (t : List ℕ). holders_of t 0) (gained_zero s)
gained_silent s (suc k) = (gained_counts s (suc k)).same holder_part (λ e. omega arith)

-- ---- a count and a place together
module _ (s u : List ℕ) (r c k v : ℕ) (w : Whole s) (few : k < slot_room) (l : r < row_room) (m : c < channel_room) (n : Counts k s u) where
  put_at : place_of (set_place u r c v) r c ≡ v
  put_at = word_same u (place_part + channel_room * r + c) v (n.length' ∙ w) (omega arith)

  put_renamed : holders_of u 0 ≡ holders_of s 0 → ((j : ℕ) → 0 < j → j < slot_room → holders_of u j + is (place_of s r c) j ≡ holders_of s j + is v j) → Renamed r c s (set_place u r c v)
  put_renamed z h = record {
    length' = length-set u (place_part + channel_room * r + c) v ∙ n.length';
    header = λ i p. word_other u (place_part + channel_room * r + c) v i (λ e. omega arith) ∙ n.same i (λ e. omega arith);
    channels = λ q p. word_other u (place_part + channel_room * r + c) v (channel_part + q) (λ e. omega arith) ∙ n.same (channel_part + q) (λ e. omega arith);
    places = λ q d p e x. word_other u (place_part + channel_room * r + c) v (place_part + channel_room * q + d) (λ y. place_apart r c q d m e x (sym y)) ∙ n.same (place_part + channel_room * q + d) (λ y. omega arith);
    silent = word_other u (place_part + channel_room * r + c) v holder_part (λ e. omega arith) ∙ z;
    counted = λ j p e.
        let a = word_other u (place_part + channel_room * r + c) v (holder_part + j) (λ y. omega arith) in
        let b = h j p e in
        rw put_at (omega arith);
  }

module _ (s : List ℕ) (r c : ℕ) (h : Held s) (l : r < row_room) (m : c < channels_of s r) where
  pub live_named : place_of s r c < slot_room
  live_named = let a = h.inside r c l m in let b = h.few in omega arith

  pub live_place : c < channel_room
  live_place = let a = short s h r l in omega arith

  -- what a live place names has a holder
  pub live_held : 0 < place_of s r c → 1 ≤ holders_of s (place_of s r c)
  live_held p =
      let a = names_ge s r c l m (place_of s r c) in
      let b = is_same (place_of s r c) (place_of s r c) refl in
      let z = h.counted (place_of s r c) p (h.inside r c l m) in
      omega arith

  pub released_at : place_of (released s r c) r c ≡ 0
  unfolding released
  released_at = put_at s (dropped s (place_of s r c)) r c (place_of s r c) 0 h.whole live_named l live_place (dropped_counts s (place_of s r c))

  pub released_renamed : Renamed r c s (released s r c)
  unfolding released
  released_renamed =
      put_renamed s (dropped s (place_of s r c)) r c (place_of s r c) 0 h.whole live_named l live_place (dropped_counts s (place_of s r c))
      (dropped_silent s (place_of s r c))
      (λ j p e.
      let a = dropped_at s (place_of s r c) j h.whole live_named live_held p in
      let b = is_other 0 j (λ x. omega arith) in
      omega arith)

  pub released_held : Held (released s r c)
  released_held = renamed_held r c s (released s r c) h l m released_renamed (rw released_at (some s h))

module _ (s : List ℕ) (r c k : ℕ) (h : Held s) (l : r < row_room) (m : c < channels_of s r) (z : place_of s r c ≡ 0) (f : k < slots_of s) where
  few_k : k < slot_room
  few_k = let b = h.few in omega arith

  pub named_at : place_of (named s r c k) r c ≡ k
  unfolding named
  named_at = put_at s (gained s k) r c k k h.whole few_k l (live_place s r c h l m) (gained_counts s k)

  pub named_renamed : Renamed r c s (named s r c k)
  unfolding named
  named_renamed =
      put_renamed s (gained s k) r c k k h.whole few_k l (live_place s r c h l m) (gained_counts s k)
      (gained_silent s k)
      (λ j p e.
      let a = gained_at s k j h.whole few_k p in
      let b = is_other (place_of s r c) j (λ x. omega arith) in
      omega arith)

  pub named_held : Held (named s r c k)
  named_held = renamed_held r c s (named s r c k) h l m named_renamed (rw named_at f)

-- ---- one channel more, one channel less

-- a row has another number of channels, and as many that name each slot above 0
row_held : (r : ℕ) (s t : List ℕ) → Held s → r < row_room → length t ≡ length s → ((i : ℕ) → i < channel_part → slice_index t i ≡ slice_index s i) → But r s t → channels_of t r ≤ cap_of s r
    → ((c : ℕ) → c < channels_of t r → place_of t r c < slots_of s) → ((k : ℕ) → 0 < k → names_in t k r ≡ names_in s k r) → Held t
row_held r s t h l len low b nar ins cnt =
    let slots : slots_of t ≡ slots_of s = low 1 (omega arith) in
    record {
      whole = len ∙ h.whole;
      few = few_kept s h t b.header;
      roomy = roomy_kept s h t b.header;
      capped = capped_kept s h t b.header;
      silent = low holder_part (omega arith) ∙ h.silent;
      narrow = λ q p. narrow q p (ℕ_discrete q r);
      inside = λ q d p e. rw slots (inside q d p e (ℕ_discrete q r));
      counted = λ k p e.
          let few = h.few in
          let f = rw slots at e in
          let a = names_row s t k r l b in
          let y = cnt k p in
          let z = h.counted k p f in
          let w = low (holder_part + k) (omega arith) in
          omega arith;
    }
  where
    narrow : (q : ℕ) → q < row_room → Dec (q ≡ r) → channels_of t q ≤ cap_of t q
    narrow q p (yes e) = rw (cap_kept s t b.header q p, e) nar
    narrow q p (no u) = rw (cap_kept s t b.header q p, b.channels q p u) (h.narrow q p)

    inside : (q d : ℕ) → q < row_room → d < channels_of t q → Dec (q ≡ r) → place_of t q d < slots_of s
    inside q d p e (yes x) = rw x (ins d (rw x at e))
    inside q d p e (no u) =
        let f = rw (b.channels q p u) at e in
        rw (b.places q d p f u) (h.inside q d p f)

module _ (s : List ℕ) (r : ℕ) (h : Held s) (l : r < row_room) where
  pub grown_channels : channels_of (grown s r) r ≡ channels_of s r + 1
  unfolding grown
  grown_channels = word_same (set_place s r (channels_of s r) 0) (channel_part + r) (channels_of s r + 1) (length-set s (place_part + channel_room * r + channels_of s r) 0 ∙ h.whole) (omega arith)

  pub grown_other : (i : ℕ) → (i ≡ channel_part + r → ⊥) → (i ≡ place_part + channel_room * r + channels_of s r → ⊥) → slice_index (grown s r) i ≡ slice_index s i
  unfolding grown
  grown_other i p q = word_other (set_place s r (channels_of s r) 0) (channel_part + r) (channels_of s r + 1) i p ∙ word_other s (place_part + channel_room * r + channels_of s r) 0 i q

  grown_length : length (grown s r) ≡ length s
  unfolding grown
  grown_length = simp length-set

  module _ (more : channels_of s r < cap_of s r) where
    room : channels_of s r < channel_room
    room = let a = h.capped r l in omega arith

    pub grown_at : place_of (grown s r) r (channels_of s r) ≡ 0
    unfolding grown
    grown_at =
        word_other (set_place s r (channels_of s r) 0) (channel_part + r) (channels_of s r + 1) (place_part + channel_room * r + channels_of s r) (λ e. omega arith)
        ∙ word_same s (place_part + channel_room * r + channels_of s r) 0 h.whole (omega (arith, room))

    pub grown_place : (q d : ℕ) → q < row_room → d < channel_room → (r ≡ q → channels_of s r ≡ d → ⊥) → place_of (grown s r) q d ≡ place_of s q d
    grown_place q d p e x = grown_other (place_part + channel_room * q + d) (λ y. omega arith) (λ y. place_apart r (channels_of s r) q d room e x (sym y))

    pub grown_but : But r s (grown s r)
    grown_but = record {
      header = λ i p. grown_other i (λ y. omega arith) (λ y. omega arith);
      channels = λ q p u. grown_other (channel_part + q) (λ y. u (omega arith)) (λ y. omega arith);
      places = λ q d p e u. let w = short s h q p in grown_place q d p (omega arith) (λ x _. u (sym x));
    }

    pub grown_held : Held (grown s r)
    grown_held =
        row_held r s (grown s r) h l grown_length (λ i p. grown_other i (λ y. omega arith) (λ y. omega arith)) grown_but (rw grown_channels (omega arith))
        (λ c e. inside c (rw grown_channels at e) (ℕ_discrete (channels_of s r) c))
        (λ k p.
        let a = row_more s (grown s r) k r grown_channels (λ d e. grown_place r d l (omega (arith, room)) (λ _ y. omega arith)) in
        let b = ap (λ (v : ℕ). is v k) grown_at in
        let z = is_other 0 k (λ x. omega arith) in
        omega arith)
      where
        inside : (c : ℕ) → c < channels_of s r + 1 → Dec (channels_of s r ≡ c) → place_of (grown s r) r c < slots_of s
        inside c e (yes x) = rw (← x, grown_at) (some s h)
        inside c e (no u) = rw (grown_place r c l (omega (arith, room)) (λ _ y. u y)) (h.inside r c l (omega arith))

  pub shrunk_channels : channels_of (shrunk s r) r ≡ channels_of s r - 1
  unfolding shrunk
  shrunk_channels = word_same s (channel_part + r) (channels_of s r - 1) h.whole (omega arith)

  pub shrunk_other : (i : ℕ) → (i ≡ channel_part + r → ⊥) → slice_index (shrunk s r) i ≡ slice_index s i
  unfolding shrunk
  shrunk_other i p = word_other s (channel_part + r) (channels_of s r - 1) i p

  shrunk_length : length (shrunk s r) ≡ length s
  unfolding shrunk
  shrunk_length = length-set s (channel_part + r) (channels_of s r - 1)

  pub shrunk_but : But r s (shrunk s r)
  shrunk_but = record {
    header = λ i p. shrunk_other i (λ y. omega arith);
    channels = λ q p u. shrunk_other (channel_part + q) (λ y. u (omega arith));
    places = λ q d p e u. shrunk_other (place_part + channel_room * q + d) (λ y. omega arith);
  }

  pub shrunk_held : 1 ≤ channels_of s r → place_of s r (channels_of s r - 1) ≡ 0 → Held (shrunk s r)
  shrunk_held some z =
      let nar = h.narrow r l in
      row_held r s (shrunk s r) h l shrunk_length (λ i p. shrunk_other i (λ y. omega arith)) shrunk_but (rw shrunk_channels (omega arith))
      (λ c e.
      let f = rw shrunk_channels at e in
      rw (shrunk_other (place_part + channel_room * r + c) (λ y. omega arith)) (h.inside r c l (omega arith)))
      (λ k p.
      let e : channels_of s r ≡ channels_of (shrunk s r) r + 1 = rw shrunk_channels (omega arith) in
      let a = row_more (shrunk s r) s k r e (λ d _. sym (shrunk_other (place_part + channel_room * r + d) (λ y. omega arith))) in
      let b : place_of s r (channels_of (shrunk s r) r) ≡ 0 = rw shrunk_channels z in
      let f = ap (λ (v : ℕ). is v k) b in
      let g = is_other 0 k (λ x. omega arith) in
      omega arith)
