-- What the walk keeps, and what it has reached: one induction for all promises.
use Rattle.std.proofs.Common.{◌≡◌, refl, sym, ap, ◌∙◌, subst, ℕ, zero, suc, ◌<◌, ◌≤◌, Bool, true, false, List, [], ◌∷◌, Option, Some, None, ◌==◌, ◌⊎◌, inl, inr, ⊎_elim, length, reverse, length-set, eq-eqb, eqb-true, arith}
use Rattle.std.proofs.lemmas.List.{reverse-append}
use Rattle.std.specs.List.{find}
use Rattle.layout.specs.Sizes.{id_room}
use Rattle.ordering.specs.Walk.{Notes, flag, unmet, from, mute_all, opened_or_muted, enter, finished_by, leave, go_on, along, step, visit}
use Rattle.ordering.proofs.Sets.{In, On, Chain, Distinct, Forward, Round, Ends, on_set, on_here, on_only, unmet_set, mute_keeps, mute_only, mute_length, mute_here, ends_snoc, ends_in, in_snoc, snoc_in, snoc_last, chain_snoc, chain_out, from_in, from_chain, from_head, from_nothing, from_ends, forward_more, find_none, find_some}

-- the finished ids, the last one first
abbrev pub heap : Notes → List ℕ
heap n = reverse n.finished

-- the steps of `along`
module _ (go : Notes → ℕ → Notes) where
  pub along_none : (n : Notes) → along go n [] ≡ n
  unfolding along
  along_none n = refl

  pub along_go : (n : Notes) (t : ℕ) (ts : List ℕ) → n.found ≡ None → along go n (t ∷ ts) ≡ along go (go n t) ts
  unfolding along go_on
  along_go n t ts h = ap (λ (k : Option ℕ). along go (go_on go n t k) ts) h

  pub along_found : (n : Notes) (ts : List ℕ) (b : ℕ) → n.found ≡ Some b → along go n ts ≡ n
  unfolding along go_on
  along_found n [] b h = refl
  along_found n (t ∷ ts) b h = ap (λ (k : Option ℕ). along go (go_on go n t k) ts) h ∙ along_found n ts b h

heap_leave : (path : List ℕ) (id : ℕ) (n : Notes) → n.found ≡ None → heap (leave path id n) ≡ id ∷ heap n
unfolding leave finished_by
heap_leave path id n h = rw h (reverse-append n.finished (id ∷ []))

-- What holds of notes while no breaker was found. `Q` holds of every id that may be met.
pub record Fine (out : ℕ → List ℕ) (br : ℕ → Bool) (Q : ℕ → Type 0) (n : Notes) : Type 0 where
  pub mets : length n.met ≡ id_room
  pub mutes : length n.muted ≡ id_room
  pub on_path : (x : ℕ) → In x n.path → Q x × On n.met x
  pub on_heap : (x : ℕ) → In x (heap n) → Q x × On n.met x
  pub known : (x : ℕ) → On n.met x → In x n.path ⊎ In x (heap n)
  pub apart : (x : ℕ) → In x (heap n) → In x n.path → ⊥
  pub once : Distinct (heap n)
  pub shown : (y : ℕ) → On n.muted y → On n.met y × Round out br y
  pub forward : Forward out n.muted (heap n)

-- a breaker was found, and it has an edge
pub record Stopped (out : ℕ → List ℕ) (br : ℕ → Bool) (Q : ℕ → Type 0) (n : Notes) : Type 0 where
  pub breaker : ℕ
  pub found : n.found ≡ Some breaker
  pub breaks : br breaker ≡ true
  pub may : Q breaker
  pub edge : (t : ℕ) × In t (out breaker)

-- each of `ids` was visited from n on, which led to n'
pub record Went (out : ℕ → List ℕ) (br : ℕ → Bool) (Q : ℕ → Type 0) (n : Notes) (ids : List ℕ) (n' : Notes) : Type 0 where
  pub found : n'.found ≡ None
  pub fine : Fine out br Q n'
  pub path : n'.path ≡ n.path
  pub heaps : (x : ℕ) → In x (heap n) → In x (heap n')
  pub mute : (y : ℕ) → On n.muted y → On n'.muted y
  pub less : unmet n'.met ≤ unmet n.met
  pub settled : (t : ℕ) → In t ids → In t (heap n') ⊎ (In t n.path × ((z : ℕ) → Ends n.path z → On n'.muted z))

abbrev pub Result : (ℕ → List ℕ) → (ℕ → Bool) → (ℕ → Type 0) → Notes → List ℕ → Notes → Type 0
Result out br Q n ids n' = Stopped out br Q n' ⊎ Went out br Q n ids n'

-- what a visit of id may rest on
pub record Ready (out : ℕ → List ℕ) (br : ℕ → Bool) (Q : ℕ → Type 0) (f : ℕ) (n : Notes) (id : ℕ) : Type 0 where
  pub none : n.found ≡ None
  pub fine : Fine out br Q n
  pub chain : Chain out n.path id
  pub may : Q id
  pub deep : unmet n.met < f

module _ (out : ℕ → List ℕ) (br : ℕ → Bool) (Q : ℕ → Type 0) (low : (x : ℕ) → Q x → x < id_room) (leads : (x t : ℕ) → In t (out x) → Q t) where
  went_none : (n : Notes) → n.found ≡ None → Fine out br Q n → Went out br Q n [] n
  went_none n h f =
      record { found = h; fine = f; path = refl; heaps = λ x i. i; mute = λ y o. o; less = omega arith; settled = λ t i. absurd i }

  went_more : (n : Notes) (t : ℕ) (ts : List ℕ) (n₁ n₂ : Notes) → Went out br Q n (t ∷ []) n₁ → Went out br Q n₁ ts n₂ → Went out br Q n (t ∷ ts) n₂
  went_more n t ts n₁ n₂ a b =
      record {
        found = b.found;
        fine = b.fine;
        path = b.path ∙ a.path;
        heaps = λ x i. b.heaps x (a.heaps x i);
        mute = λ y o. b.mute y (a.mute y o);
        less = omega arith;
        settled = λ x i.
            ⊎_elim
            (λ e. ⊎_elim (λ d. inl (b.heaps x d)) (λ w. inr (w.0, λ z h. b.mute z (w.1 z h))) (a.settled x (inl e)))
            (λ j. ⊎_elim (λ d. inl d) (λ w. inr (subst (In x) a.path w.0, λ z h. w.1 z (rw a.path h))) (b.settled x j))
            i;
      }

  -- along some ids, where `go` does what is promised of each
  pub along_law : (f : ℕ) (go : Notes → ℕ → Notes) (does : (n : Notes) (id : ℕ) → Ready out br Q f n id → Result out br Q n (id ∷ []) (go n id))
      (ts : List ℕ) (n : Notes) → n.found ≡ None → Fine out br Q n → unmet n.met < f
      → ((t : ℕ) → In t ts → Chain out n.path t × Q t) → Result out br Q n ts (along go n ts)
  along_law f go does [] n h g d c = rw (along_none go n) (inr (went_none n h g))
  along_law f go does (t ∷ ts) n h g d c =
      rw (along_go go n t ts h)
      (next (does n t (record { none = h; fine = g; chain = (c t (inl refl)).0; may = (c t (inl refl)).1; deep = d }))
      (λ w. along_law f go does ts (go n t) w.found w.fine (omega (arith, w.less)) (λ x i. (rw w.path ((c x (inr i)).0), (c x (inr i)).1))))
    where
      next : Result out br Q n (t ∷ []) (go n t) → (Went out br Q n (t ∷ []) (go n t) → Result out br Q (go n t) ts (along go (go n t) ts))
          → Result out br Q n (t ∷ ts) (along go (go n t) ts)
      next (inl s) r = inl (rw (along_found go (go n t) ts s.breaker s.found) s)
      next (inr w) r = ⊎_elim (λ s. inl s) (λ v. inr (went_more n t ts (go n t) (along go (go n t) ts) w v)) (r w)

  -- id is met again, on the path
  met_plain : (f : ℕ) (n : Notes) (id x : ℕ) (xs : List ℕ) → Ready out br Q f n id → from (λ k. k == id) n.path ≡ x ∷ xs
      → find br (x ∷ xs) ≡ None → Went out br Q n (id ∷ []) (opened_or_muted n (x ∷ xs) None)
  unfolding opened_or_muted
  met_plain f n id x xs r e b =
      let loop = x ∷ xs in
      let same : id ≡ x = sym (eqb-true x id (from_head (λ k. k == id) n.path x xs e)) in
      let inside : (z : ℕ) → In z loop → In z n.path = λ z i. from_in (λ k. k == id) n.path z (rw e i) in
      let closed : Chain out loop id = subst (λ (l : List ℕ). Chain out l id) e (from_chain (λ k. k == id) out n.path id r.chain) in
      let g = r.fine in
      record {
        found = r.none;
        fine = record {
          mets = g.mets;
          mutes = mute_length n.muted loop ∙ g.mutes;
          on_path = g.on_path;
          on_heap = g.on_heap;
          known = g.known;
          apart = g.apart;
          once = g.once;
          shown = λ y o.
              ⊎_elim
              (λ h. g.shown y h)
              (λ i. ((g.on_path y (inside y i)).1, record { ids = loop; on = i; closed = subst (Chain out loop) same closed; plain = λ z j. find_none br loop z b j }))
              (mute_only n.muted loop y o);
          forward = forward_more out n.muted (mute_all n.muted loop) (heap n) (mute_keeps n.muted loop) g.forward;
        };
        path = refl;
        heaps = λ z i. i;
        mute = mute_keeps n.muted loop;
        less = omega arith;
        settled = λ t i.
            inr (
              ⊎_elim (λ q. subst (λ (k : ℕ). In k n.path) (sym (q ∙ same)) (inside x (inl refl))) (λ j. absurd j) i,
              λ z h. ⊎_elim
                  (λ j. mute_here n.muted loop z (subst (In z) e j) (rw g.mutes (low z ((g.on_path z (ends_in h)).0))))
                  (λ q. cc)
                  (from_ends (λ k. k == id) h),
            );
      }

  met_found : (f : ℕ) (n : Notes) (id x : ℕ) (xs : List ℕ) (b : ℕ) → Ready out br Q f n id → from (λ k. k == id) n.path ≡ x ∷ xs
      → find br (x ∷ xs) ≡ Some b → Stopped out br Q (opened_or_muted n (x ∷ xs) (Some b))
  unfolding opened_or_muted
  met_found f n id x xs b r e h =
      let s = find_some br (x ∷ xs) b h in
      let i = s.0 in
      let j : In b n.path = from_in (λ k. k == id) n.path b (rw e i) in
      record {
        breaker = b;
        found = refl;
        breaks = s.1;
        may = (r.fine.on_path b j).0;
        edge = chain_out out n.path id b r.chain j;
      }

  met_law : (f : ℕ) (n : Notes) (id x : ℕ) (xs : List ℕ) (l : Option ℕ) → Ready out br Q f n id → from (λ k. k == id) n.path ≡ x ∷ xs
      → find br (x ∷ xs) ≡ l → Result out br Q n (id ∷ []) (opened_or_muted n (x ∷ xs) l)
  met_law f n id x xs None r e b = inr (met_plain f n id x xs r e b)
  met_law f n id x xs (Some y) r e b = inl (met_found f n id x xs y r e b)

  -- id is not on the path
  off_path : (id : ℕ) (p : List ℕ) → from (λ k. k == id) p ≡ [] → In id p → ⊥
  off_path id p e i = let k : true ≡ false = sym (eq-eqb id id refl) ∙ from_nothing (λ k. k == id) p id e i in cc

  known_law : (f : ℕ) (n : Notes) (id : ℕ) → Ready out br Q f n id → from (λ k. k == id) n.path ≡ [] → On n.met id → Went out br Q n (id ∷ []) n
  known_law f n id r e o =
      record {
        found = r.none;
        fine = r.fine;
        path = refl;
        heaps = λ x i. i;
        mute = λ y u. u;
        less = omega arith;
        settled = λ t i.
            ⊎_elim
            (λ q. inl (rw q (⊎_elim (λ p. absurd (off_path id n.path e p)) (λ d. d) (r.fine.known id o))))
            (λ j. absurd j)
            i;
      }

  pub enter_fine : (f : ℕ) (n : Notes) (id : ℕ) → Ready out br Q f n id → flag n.met id ≡ false → Fine out br Q (enter n id)
  unfolding enter
  enter_fine f n id r z =
      let g = r.fine in
      let here = on_here n.met id (rw g.mets (low id r.may)) in
      record {
        mets = length-set n.met id true ∙ g.mets;
        mutes = g.mutes;
        on_path = λ x i.
            ⊎_elim
            (λ j. ((g.on_path x j).0, on_set n.met id x ((g.on_path x j).1)))
            (λ q. (rw q r.may, rw q here))
            (in_snoc n.path id x i);
        on_heap = λ x i. ((g.on_heap x i).0, on_set n.met id x ((g.on_heap x i).1));
        known = λ x o.
            ⊎_elim
            (λ h. ⊎_elim (λ p. inl (snoc_in n.path id x p)) (λ d. inr d) (g.known x h))
            (λ q. inl (rw q (snoc_last n.path id)))
            (on_only n.met id x o);
        apart = λ x d p.
            ⊎_elim (λ j. g.apart x d j) (λ q. let k : flag n.met x ≡ false = rw q z in let l = (g.on_heap x d).1 in cc) (in_snoc n.path id x p);
        once = g.once;
        shown = λ y o. (on_set n.met id y ((g.shown y o).0), (g.shown y o).1);
        forward = g.forward;
      }

  leave_went : (f : ℕ) (n : Notes) (id : ℕ) (n₂ : Notes) → Ready out br Q f n id → from (λ k. k == id) n.path ≡ [] → flag n.met id ≡ false
      → Went out br Q (enter n id) (out id) n₂ → Went out br Q n (id ∷ []) (leave n.path id n₂)
  unfolding enter leave
  leave_went f n id n₂ r e z w =
      let g = w.fine in
      let p = w.path in
      let h = heap_leave n.path id n₂ w.found in
      let here : In id n₂.path = rw p (snoc_last n.path id) in
      let up : (x : ℕ) → In x n.path → In x n₂.path = λ x i. rw p (snoc_in n.path id x i) in
      let u = unmet_set n.met id (rw r.fine.mets (low id r.may)) z in
      record {
        found = w.found;
        fine = record {
          mets = g.mets;
          mutes = g.mutes;
          on_path = λ x i. g.on_path x (up x i);
          on_heap = λ x i. ⊎_elim (λ q. rw q (g.on_path id here)) (λ j. g.on_heap x j) (subst (In x) h i);
          known = λ x o.
              ⊎_elim
              (λ i. ⊎_elim (λ j. inl j) (λ q. inr (subst (In x) (sym h) (inl q))) (in_snoc n.path id x (subst (In x) p i)))
              (λ d. inr (subst (In x) (sym h) (inr d)))
              (g.known x o);
          apart = λ x d i. ⊎_elim (λ q. off_path id n.path e (subst (λ (k : ℕ). In k n.path) q i)) (λ j. g.apart x j (up x i)) (subst (In x) h d);
          once = subst Distinct (sym h) (λ d. g.apart id d here, g.once);
          shown = g.shown;
          forward = subst (Forward out n₂.muted) (sym h) (
            λ t i.
                ⊎_elim (λ d. inl d) (λ v. inr (v.1 id (ends_snoc n.path id))) (w.settled t i),
            g.forward,
          );
        };
        path = refl;
        heaps = λ x i. subst (In x) (sym h) (inr (w.heaps x i));
        mute = w.mute;
        less = omega (arith, w.less);
        settled = λ t i. inl (subst (In t) (sym h) (⊎_elim (λ q. inl q) (λ j. absurd j) i));
      }

  leave_stopped : (p : List ℕ) (id : ℕ) (n : Notes) → Stopped out br Q n → Stopped out br Q (leave p id n)
  unfolding leave
  leave_stopped p id n s = record { breaker = s.breaker; found = s.found; breaks = s.breaks; may = s.may; edge = s.edge }

  enter_law : (f : ℕ) (n : Notes) (id : ℕ) (n₂ : Notes) → Ready out br Q f n id → from (λ k. k == id) n.path ≡ [] → flag n.met id ≡ false
      → Result out br Q (enter n id) (out id) n₂ → Result out br Q n (id ∷ []) (leave n.path id n₂)
  enter_law f n id n₂ r e z (inl s) = inl (leave_stopped n.path id n₂ s)
  enter_law f n id n₂ r e z (inr w) = inr (leave_went f n id n₂ r e z w)

  -- id is entered: the visits of its targets are one level less deep
  inner_law : (f : ℕ) (n : Notes) (id : ℕ) → Ready out br Q (suc f) n id → flag n.met id ≡ false
      → ((m : Notes) (t : ℕ) → Ready out br Q f m t → Result out br Q m (t ∷ []) (visit out br f m t))
      → Result out br Q (enter n id) (out id) (along (visit out br f) (enter n id) (out id))
  unfolding enter
  inner_law f n id r z ih =
      let u = unmet_set n.met id (rw r.fine.mets (low id r.may)) z in
      along_law f (visit out br f) ih (out id) (enter n id) r.none (enter_fine (suc f) n id r z) (omega (arith, u, r.deep))
      (λ t i. (chain_snoc out n.path id t r.chain i, leads id t i))

  step_law : (f : ℕ) (n : Notes) (id : ℕ) (l : List ℕ) (k : Bool) → Ready out br Q (suc f) n id → from (λ k. k == id) n.path ≡ l → flag n.met id ≡ k
      → ((m : Notes) (t : ℕ) → Ready out br Q f m t → Result out br Q m (t ∷ []) (visit out br f m t))
      → Result out br Q n (id ∷ []) (step (visit out br f) out br n id l k)
  unfolding step
  step_law f n id (x ∷ xs) k r e z ih = met_law (suc f) n id x xs (find br (x ∷ xs)) r e refl
  step_law f n id [] false r e z ih = enter_law (suc f) n id (along (visit out br f) (enter n id) (out id)) r e z (inner_law f n id r z ih)
  step_law f n id [] true r e z ih = inr (known_law (suc f) n id r e z)

  pub visit_law : (f : ℕ) (n : Notes) (id : ℕ) → Ready out br Q f n id → Result out br Q n (id ∷ []) (visit out br f n id)
  unfolding visit
  visit_law zero n id r = absurd (omega (arith, r.deep))
  visit_law (suc f) n id r = step_law f n id (from (λ k. k == id) n.path) (flag n.met id) r refl refl (λ m t q. visit_law f m t q)
