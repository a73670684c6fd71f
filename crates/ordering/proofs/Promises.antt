-- What one pass has found, where it finds no breaker: what is promised of its order and its muted list.
use Rattle.std.proofs.Common.{◌≡◌, refl, ap, subst, ℕ, zero, suc, ◌+◌, ◌<◌, Bool, true, false, cond, not, List, [], ◌∷◌, ◌++◌, None, ◌⊎◌, inl, inr, ⊎_elim, filter, reverse, replicate, lit<}
use Rattle.std.specs.List.{AllPairs, Contains}
use Rattle.std.proofs.lemmas.List.Kept.{AllPairs-filter}
use Rattle.layout.specs.Sizes.{id_room}
use Rattle.layout.specs.declared.edge.Edge.{Edge}
use Rattle.ordering.specs.Walk.{Notes, flag, unmet, visit}
use Rattle.ordering.specs.Order.{Graph, breaks, targets, fresh, pass, sounding, silent}
use Rattle.ordering.specs.Promise.{Sound}
use Rattle.ordering.proofs.Sets.{In, Distinct, Forward, Round}
use Rattle.ordering.proofs.Laws.{heap, Fine, Result, Went, along_law, visit_law}
use Rattle.ordering.proofs.Lists.{in_from_contains, in_from_all, in_left, in_right, in_append, filter_in, in_filter, filter_reverse, distinct_filter, distinct_append, distinct_from_upward, edge_of_target, Runs}

off : (k x : ℕ) → flag (replicate k false) x ≡ false
off zero x = refl
off (suc k) zero = refl
off (suc k) (suc x) = off k x

none_on : (x : ℕ) → flag (replicate id_room false) x ≡ true → ⊥
none_on x o = let z : flag (replicate id_room false) x ≡ false = off id_room x in cc

pub fresh_fine : (out : ℕ → List ℕ) (br : ℕ → Bool) (Q : ℕ → Type 0) → Fine out br Q fresh
unfolding fresh
fresh_fine out br Q =
    record {
      mets = refl;
      mutes = refl;
      on_path = λ x i. absurd i;
      on_heap = λ x i. absurd i;
      known = λ x o. absurd (none_on x o);
      apart = λ x i j. i;
      once = tt;
      shown = λ y o. absurd (none_on y o);
      forward = tt;
    }

pub unmet_fresh : unmet fresh.met < id_room + 1
unfolding fresh
unmet_fresh = lit< tt

pub present_low : (g : Graph) → Sound g → (x : ℕ) → In x g.present → x < id_room
present_low g s x i = in_from_all (λ y. y < id_room) g.present s.low x i

pub present_leads : (g : Graph) → Sound g → (x t : ℕ) → In t (targets g.edges x) → In t g.present
present_leads g s x t i =
    let r = edge_of_target g.edges x t i in
    subst (λ (y : ℕ). In y g.present) r.3 (in_from_contains g.present r.0.target (in_from_all (λ (e : Edge). Contains g.present e.target) g.edges s.ends r.0 r.1))

-- one pass, where Q holds of all that is met
pub pass_with : (g : Graph) (Q : ℕ → Type 0) (low : (x : ℕ) → Q x → x < id_room) (leads : (x t : ℕ) → In t (targets g.edges x) → Q t)
    → ((x : ℕ) → In x g.present → Q x) → Result (targets g.edges) (breaks g.breakers) Q fresh g.present (pass g)
unfolding pass fresh
pass_with g Q low leads roots =
    let out = targets g.edges in
    along_law out (breaks g.breakers) Q low leads (id_room + 1) (visit out (breaks g.breakers) (id_room + 1))
    (visit_law out (breaks g.breakers) Q low leads (id_room + 1)) g.present fresh refl (fresh_fine out (breaks g.breakers) Q) unmet_fresh (λ t i. (tt, roots t i))

-- over a sound graph all that is met is present
pub pass_law : (g : Graph) → Sound g → Result (targets g.edges) (breaks g.breakers) (λ x. In x g.present) fresh g.present (pass g)
pass_law g s = pass_with g (λ x. In x g.present) (present_low g s) (present_leads g s) (λ x i. i)

-- an edge of an id that is not muted leads further down
module _ (m : List Bool) (out : ℕ → List ℕ) where
  forward_in : (xs : List ℕ) (y t : ℕ) → Forward out m xs → In y xs → flag m y ≡ false → In t (out y) → In t xs
  forward_in [] y t f i z e = absurd i
  forward_in (x ∷ xs) y t f i z e =
      ⊎_elim
      (λ q. inr (⊎_elim (λ j. j) (λ o. let k = subst (λ (k : ℕ). flag m k ≡ false) q z in absurd (cc)) (f.0 t (subst (λ (k : ℕ). In t (out k)) q e))))
      (λ j. inr (forward_in xs y t f.1 j z e))
      i

  quiet : (x : ℕ) → not (flag m x) ≡ true → flag m x ≡ false
  quiet x e = at (flag m x) e
    where
      at : (b : Bool) → not b ≡ true → b ≡ false
      at true e = cc
      at false e = refl

  runs_at : (b : Bool) (x : ℕ) (l : List ℕ) → not (flag m x) ≡ b
      → (flag m x ≡ false → (y : ℕ) → In y (x ∷ l) → In x (out y) → ⊥) → Runs out l → Runs out (cond b (x ∷ l) l)
  runs_at true x l e h r = (h (quiet x e), r)
  runs_at false x l e h r = r

  runs : (xs : List ℕ) → Forward out m xs → Distinct xs → Runs out (filter (λ x. not (flag m x)) xs)
  runs [] f d = tt
  runs (x ∷ xs) f d =
      runs_at (not (flag m x)) x (filter (λ k. not (flag m k)) xs) refl
      (λ z y i e.
      ⊎_elim
      (λ q. ⊎_elim (λ j. d.0 j) (λ o. absurd (cc)) (f.0 x (subst (λ (k : ℕ). In x (out k)) q e)))
      (λ j. let w = filter_in (λ k. not (flag m k)) xs y j in d.0 (forward_in xs y x f.1 w.0 (quiet y w.1) e))
      i)
      (runs xs f.1 d.1)

-- what a whole pass keeps
pub record Whole (g : Graph) (order muted : List ℕ) : Type 0 where
  pub once : Distinct (order ++ muted)
  pub all : (x : ℕ) → In x g.present → In x (order ++ muted)
  pub only : (x : ℕ) → In x (order ++ muted) → In x g.present
  pub upward : AllPairs ◌<◌ muted
  pub runs : Runs (targets g.edges) order
  pub rounds : (y : ℕ) → In y muted → Round (targets g.edges) (breaks g.breakers) y

flag_cases : (b : Bool) → (b ≡ true) ⊎ (b ≡ false)
flag_cases true = inl refl
flag_cases false = inr refl

whole_at : (g : Graph) (n : Notes) → Sound g → Went (targets g.edges) (breaks g.breakers) (λ x. In x g.present) fresh g.present n
    → Whole g (filter (λ x. not (flag n.muted x)) (heap n)) (filter (flag n.muted) g.present)
unfolding fresh
whole_at g n s w =
    let f = w.fine in
    let p = λ (x : ℕ). not (flag n.muted x) in
    let order = filter p (heap n) in
    let muted = filter (flag n.muted) g.present in
    let finished : (x : ℕ) → In x g.present → In x (heap n) = λ x i. ⊎_elim (λ d. d) (λ v. absurd v.0) (w.settled x i) in
    let loud : (x : ℕ) → flag n.muted x ≡ false → p x ≡ true = λ x e. ap not e in
    record {
      once = distinct_append order muted (distinct_filter p (heap n) f.once) (distinct_filter (flag n.muted) g.present (distinct_from_upward g.present s.upward))
          (λ x i j. let a = quiet n.muted (targets g.edges) x ((filter_in p (heap n) x i).1) in let b = (filter_in (flag n.muted) g.present x j).1 in cc);
      all = λ x i.
          ⊎_elim
          (λ o. in_right order muted x (in_filter (flag n.muted) g.present x o i))
          (λ o. in_left order muted x (in_filter p (heap n) x (loud x o) (finished x i)))
          (flag_cases (flag n.muted x));
      only = λ x i.
          ⊎_elim
          (λ j. (f.on_heap x ((filter_in p (heap n) x j).0)).0)
          (λ j. (filter_in (flag n.muted) g.present x j).0)
          (in_append order muted x i);
      upward = AllPairs-filter ◌<◌ (flag n.muted) g.present s.upward;
      runs = runs n.muted (targets g.edges) (heap n) f.forward f.once;
      rounds = λ y i. (f.shown y ((filter_in (flag n.muted) g.present y i).1)).1;
    }

pub whole : (g : Graph) → Sound g → (pass g).found ≡ None → Whole g (sounding (pass g)) (silent (pass g) g.present)
unfolding sounding silent
whole g s z = by (pass_law g s)
  where
    n : Notes
    n = pass g

    by : Result (targets g.edges) (breaks g.breakers) (λ x. In x g.present) fresh g.present (pass g)
        → Whole g (reverse (filter (λ x. not (flag (pass g).muted x)) (pass g).finished)) (filter (flag (pass g).muted) g.present)
    by (inl f) = let k = f.found in absurd (cc)
    by (inr w) =
        subst (λ (l : List ℕ). Whole g l (filter (flag (pass g).muted) g.present)) (filter_reverse (λ x. not (flag (pass g).muted x)) (pass g).finished) (whole_at g (pass g) s w)
