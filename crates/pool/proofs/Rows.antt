-- The steps on whole rows keep the rule of the holder counts, and leave the other rows alone.
use Rattle.std.proofs.Common.{◌≡◌, refl, sym, ap, ◌∙◌, ℕ, zero, suc, ◌+◌, ◌*◌, ◌-◌, ◌<◌, ◌≤◌, List, arith}
use Rattle.std.proofs.Math.Decide.{ℕ_discrete}
use Rattle.layout.specs.Sizes.{channel_room, row_room, place_part}
use Rattle.layout.specs.Header.{slots_of}
use Rattle.layout.specs.Row.{channels_of, set_channels, place_of, cap_of}
use Rattle.pool.specs.Rows.{Held, released, named, grown, shrunk, popped, pushed, popped_by, truncated, cleared, shared_from, shared}
use Rattle.pool.proofs.Names.{But, but_none, but_then, cap_kept}
use Rattle.pool.proofs.Steps.{some, short, renamed_but, released_at, released_renamed, released_held, named_at, named_renamed, named_held, grown_channels, grown_at, grown_place, grown_but, grown_held, shrunk_channels, shrunk_other, shrunk_but, shrunk_held}

-- what a step on row r leaves: the rule, the other rows, and n channels in row r
pub record Turned (r n : ℕ) (s t : List ℕ) : Type 0 where
  pub held : Held t
  pub but : But r s t
  pub channels : channels_of t r ≡ n

pub slots_same : (r : ℕ) (s t : List ℕ) → But r s t → slots_of t ≡ slots_of s
slots_same r s t b = b.header 1 (omega arith)

pub caps_same : (r : ℕ) (s t : List ℕ) → But r s t → (q : ℕ) → q < row_room → cap_of t q ≡ cap_of s q
caps_same r s t b q l = cap_kept s t b.header q l

module _ (s : List ℕ) (r : ℕ) (h : Held s) (l : r < row_room) (any : 1 ≤ channels_of s r) where
  pub popped_turned : Turned r (channels_of s r - 1) s (popped s r)
  unfolding popped
  popped_turned =
      let n = channels_of s r - 1 in
      let m : n < channels_of s r = omega arith in
      let t = released s r n in
      let ren = released_renamed s r n h l m in
      let hold = released_held s r n h l m in
      let e = ren.channels r l in
      record {
        held = shrunk_held t r hold l (rw e any) (rw e (released_at s r n h l m));
        but = but_then r s t (shrunk t r) (renamed_but r n s t h ren) (shrunk_but t r hold l);
        channels = shrunk_channels t r hold l ∙ ap (λ (v : ℕ). v - 1) e;
      }

  pub popped_place : (d : ℕ) → d < channels_of s r - 1 → place_of (popped s r) r d ≡ place_of s r d
  unfolding popped
  popped_place d p =
      let n = channels_of s r - 1 in
      let m : n < channels_of s r = omega arith in
      let w = short s h r l in
      shrunk_other (released s r n) r (released_held s r n h l m) l (place_part + channel_room * r + d) (λ y. omega arith)
      ∙ (released_renamed s r n h l m).places r d l (omega arith) (λ _ y. omega arith)

module _ (s : List ℕ) (r k : ℕ) (h : Held s) (l : r < row_room) (more : channels_of s r < cap_of s r) (f : k < slots_of s) where
  pub pushed_turned : Turned r (channels_of s r + 1) s (pushed s r k)
  unfolding pushed
  pushed_turned =
      let n = channels_of s r in
      let t = grown s r in
      let hold = grown_held s r h l more in
      let b = grown_but s r h l more in
      let e = grown_channels s r h l in
      let m : n < channels_of t r = rw e (omega arith) in
      let z = grown_at s r h l more in
      let g : k < slots_of t = rw (slots_same r s t b) f in
      let ren = named_renamed t r n k hold l m z g in
      record {
        held = named_held t r n k hold l m z g;
        but = but_then r s t (named t r n k) b (renamed_but r n t (named t r n k) hold ren);
        channels = ren.channels r l ∙ e;
      }

  pub pushed_at : place_of (pushed s r k) r (channels_of s r) ≡ k
  unfolding pushed
  pushed_at =
      let t = grown s r in
      let b = grown_but s r h l more in
      named_at t r (channels_of s r) k (grown_held s r h l more) l (rw (grown_channels s r h l) (omega arith)) (grown_at s r h l more) (rw (slots_same r s t b) f)

  pub pushed_place : (d : ℕ) → d < channels_of s r → place_of (pushed s r k) r d ≡ place_of s r d
  unfolding pushed
  pushed_place d p =
      let w = short s h r l in
      let t = grown s r in
      let b = grown_but s r h l more in
      (named_renamed t r (channels_of s r) k (grown_held s r h l more) l (rw (grown_channels s r h l) (omega arith)) (grown_at s r h l more) (rw (slots_same r s t b) f)
      ).places r d l (omega arith) (λ _ y. omega arith)
      ∙ grown_place s r h l more r d l (omega arith) (λ _ y. omega arith)

-- the last channel released, and then the row one channel less
pub pop_is : (s : List ℕ) (r : ℕ) → Held s → r < row_room → 0 < channels_of s r → set_channels (released s r (channels_of s r - 1)) r (channels_of s r - 1) ≡ popped s r
unfolding popped shrunk
pop_is s r h l m = let f = (released_renamed s r (channels_of s r - 1) h l (omega arith)).channels r l in rw f refl

pub grown_slots : (s : List ℕ) (r : ℕ) → Held s → r < row_room → channels_of s r < cap_of s r → slots_of (grown s r) ≡ slots_of s
grown_slots s r h l m = slots_same r s (grown s r) (grown_but s r h l m)

pub popped_by_turned : (s : List ℕ) (r n : ℕ) → Held s → r < row_room → n ≤ channels_of s r → Turned r (channels_of s r - n) s (popped_by s r n)
unfolding popped_by
popped_by_turned s r zero h l m = record { held = h; but = but_none r s; channels = omega arith }
popped_by_turned s r (suc n) h l m =
    let p = popped_turned s r h l (omega arith) in
    let e = p.channels in
    let q = popped_by_turned (popped s r) r n p.held l (omega arith) in
    let f = q.channels in
    record { held = q.held; but = but_then r s (popped s r) (popped_by (popped s r) r n) p.but q.but; channels = omega arith }

pub popped_by_place : (s : List ℕ) (r n : ℕ) → Held s → r < row_room → n ≤ channels_of s r → (d : ℕ) → d < channels_of s r - n → place_of (popped_by s r n) r d ≡ place_of s r d
unfolding popped_by
popped_by_place s r zero h l m d p = refl
popped_by_place s r (suc n) h l m d p =
    let t = popped_turned s r h l (omega arith) in
    let e = t.channels in
    popped_by_place (popped s r) r n t.held l (omega arith) d (omega arith) ∙ popped_place s r h l (omega arith) d (omega arith)

module _ (s : List ℕ) (r n : ℕ) (h : Held s) (l : r < row_room) (m : n ≤ channels_of s r) where
  pub truncated_turned : Turned r n s (truncated s r n)
  unfolding truncated
  truncated_turned =
      let p = popped_by_turned s r (channels_of s r - n) h l (omega arith) in
      let e = p.channels in
      record { held = p.held; but = p.but; channels = omega arith }

  pub truncated_place : (d : ℕ) → d < n → place_of (truncated s r n) r d ≡ place_of s r d
  unfolding truncated
  truncated_place d p = popped_by_place s r (channels_of s r - n) h l (omega arith) d (omega arith)

pub cleared_turned : (s : List ℕ) (r : ℕ) → Held s → r < row_room → 1 ≤ cap_of s r → Turned r 1 s (cleared s r)
unfolding cleared
cleared_turned s r h l any =
    let t = truncated s r 0 in
    let a = truncated_turned s r 0 h l (omega arith) in
    let e = a.channels in
    let f = rw (sym (slots_same r s t a.but)) at (some s h) in
    let x = cap_kept s t a.but.header r l in
    let b = pushed_turned t r 0 a.held l (omega arith) f in
    let g = b.channels in
    record { held = b.held; but = but_then r s t (pushed t r 0) a.but b.but; channels = omega arith }

pub cleared_at : (s : List ℕ) (r : ℕ) → Held s → r < row_room → 1 ≤ cap_of s r → place_of (cleared s r) r 0 ≡ 0
unfolding cleared
cleared_at s r h l any =
    let t = truncated s r 0 in
    let a = truncated_turned s r 0 h l (omega arith) in
    let e = a.channels in
    let f = rw (sym (slots_same r s t a.but)) at (some s h) in
    let x = cap_kept s t a.but.header r l in
    rw e at (pushed_at t r 0 a.held l (omega arith) f)

-- ---- sharing
module _ (from to : ℕ) (l : from < row_room) (m : to < row_room) (u : from ≡ to → ⊥) where
  pub shared_from_turned : (s : List ℕ) (n c : ℕ) → Held s → channels_of s to ≡ c → c + n ≡ channels_of s from → channels_of s from ≤ cap_of s to → Turned to (c + n) s (shared_from from to s n c)
  unfolding shared_from
  shared_from_turned s zero c h e f g = record { held = h; but = but_none to s; channels = omega arith }
  shared_from_turned s (suc n) c h e f g =
      let w = short s h from l in
      let k = place_of s from c in
      let p = pushed_turned s to k h m (omega arith) (h.inside from c l (omega arith)) in
      let x = p.channels in
      let y = p.but.channels from l u in
      let v = cap_kept s (pushed s to k) p.but.header to m in
      let q = shared_from_turned (pushed s to k) n (c + 1) p.held (omega arith) (omega arith) (omega arith) in
      let z = q.channels in
      record { held = q.held; but = but_then to s (pushed s to k) (shared_from from to (pushed s to k) n (c + 1)) p.but q.but; channels = omega arith }

  pub shared_from_place : (s : List ℕ) (n c : ℕ) → Held s → channels_of s to ≡ c → c + n ≡ channels_of s from → channels_of s from ≤ cap_of s to
      → ((d : ℕ) → d < c → place_of s to d ≡ place_of s from d) → (d : ℕ) → d < c + n → place_of (shared_from from to s n c) to d ≡ place_of s from d
  unfolding shared_from
  shared_from_place s zero c h e f o g d p = g d (omega arith)
  shared_from_place s (suc n) c h e f o g d p =
      let w = short s h from l in
      let k = place_of s from c in
      let room : channels_of s to < cap_of s to = omega arith in
      let ins = h.inside from c l (omega arith) in
      let t = pushed_turned s to k h m room ins in
      let x = t.channels in
      let y = t.but.channels from l u in
      let v = cap_kept s (pushed s to k) t.but.header to m in
      shared_from_place (pushed s to k) n (c + 1) t.held (omega arith) (omega arith) (omega arith)
      (λ b q. at b q (ℕ_discrete b c) ∙ sym (t.but.places from b l (omega arith) u))
      d (omega arith)
      ∙ t.but.places from d l (omega arith) u
    where
      at : (b : ℕ) → b < c + 1 → Dec (b ≡ c) → place_of (pushed s to (place_of s from c)) to b ≡ place_of s from b
      at b q (yes z) =
          let w = short s h from l in
          rw (z, ← e) (pushed_at s to (place_of s from (channels_of s to)) h m (omega arith) (h.inside from (channels_of s to) l (omega arith)))
      at b q (no v) =
          let w = short s h from l in
          pushed_place s to (place_of s from c) h m (omega arith) (h.inside from c l (omega arith)) b (omega arith) ∙ g b (omega arith)

  module _ (s : List ℕ) (h : Held s) (fits : channels_of s from ≤ cap_of s to) where
    pub shared_turned : Turned to (channels_of s from) s (shared s from to)
    unfolding shared
    shared_turned =
        let t = truncated s to 0 in
        let a = truncated_turned s to 0 h m (omega arith) in
        let n = channels_of s from in
        let b = shared_from_turned t n 0 a.held a.channels (rw (a.but.channels from l u) (omega arith)) (rw (a.but.channels from l u, cap_kept s t a.but.header to m) fits) in
        let e = b.channels in
        record { held = b.held; but = but_then to s t (shared_from from to t n 0) a.but b.but; channels = omega arith }

    pub shared_place : (d : ℕ) → d < channels_of s from → place_of (shared s from to) to d ≡ place_of s from d
    unfolding shared
    shared_place d p =
        let t = truncated s to 0 in
        let w = short s h from l in
        let a = truncated_turned s to 0 h m (omega arith) in
        shared_from_place t (channels_of s from) 0 a.held a.channels (rw (a.but.channels from l u) (omega arith)) (rw (a.but.channels from l u, cap_kept s t a.but.header to m) fits) (λ b q. absurd (omega arith)) d (omega arith)
        ∙ a.but.places from d l (omega arith) u
