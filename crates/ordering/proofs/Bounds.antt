-- The bounds of the definitions are never reached.
use Rattle.std.proofs.Common.{◌≡◌, refl, sym, ap, ◌∙◌, ℕ, zero, suc, ◌+◌, ◌<◌, Bool, true, false, List, [], ◌∷◌, None, ◌==◌, inl, inr, length, arith}
use Rattle.layout.specs.Sizes.{id_room}
use Rattle.ordering.specs.Walk.{Notes, flag, unmet, from, enter, leave, along, step, visit}
use Rattle.ordering.specs.Order.{Graph, breaks, targets, cleared, fresh, pass, ordered_from, ordered}
use Rattle.ordering.specs.Promise.{Sound, Unbounded}
use Rattle.ordering.proofs.Sets.{In, Chain, unmet_set, chain_snoc}
use Rattle.ordering.proofs.Laws.{Fine, Went, Result, Ready, along_none, along_go, along_found, enter_fine, visit_law}
use Rattle.ordering.proofs.Lists.{edge_of_target}
use Rattle.ordering.proofs.Clearing.{cleared_less}
use Rattle.ordering.proofs.Promises.{fresh_fine, unmet_fresh, pass_law, present_low, present_leads}
use Rattle.ordering.proofs.Counting.{cleared_sound, ordered_last, ordered_next}

module _ (out : ℕ → List ℕ) (br : ℕ → Bool) (Q : ℕ → Type 0) (low : (x : ℕ) → Q x → x < id_room) (leads : (x t : ℕ) → In t (out x) → Q t) where
  -- two depths at which each visit gives the same
  abbrev Same : ℕ → ℕ → Type 0
  Same f h = (n : Notes) (id : ℕ) → Ready out br Q f n id → unmet n.met < h → visit out br f n id ≡ visit out br h n id

  along_same : (f h : ℕ) → Same f h → (ts : List ℕ) (n : Notes) → n.found ≡ None → Fine out br Q n → unmet n.met < f → unmet n.met < h
      → ((t : ℕ) → In t ts → Chain out n.path t × Q t) → along (visit out br f) n ts ≡ along (visit out br h) n ts
  along_same f h same [] n z g d e c = along_none (visit out br f) n ∙ sym (along_none (visit out br h) n)
  along_same f h same (t ∷ ts) n z g d e c =
      let r : Ready out br Q f n t = record { none = z; fine = g; chain = (c t (inl refl)).0; may = (c t (inl refl)).1; deep = d } in
      along_go (visit out br f) n t ts z
      ∙ next (visit_law out br Q low leads f n t r) (λ w. along_same f h same ts (visit out br f n t) w.found w.fine (omega (arith, w.less)) (omega (arith, w.less)) (λ x i. (rw w.path ((c x (inr i)).0), (c x (inr i)).1)))
      ∙ ap (λ (m : Notes). along (visit out br h) m ts) (same n t r e)
      ∙ sym (along_go (visit out br h) n t ts z)
    where
      next : Result out br Q n (t ∷ []) (visit out br f n t)
          → (Went out br Q n (t ∷ []) (visit out br f n t) → along (visit out br f) (visit out br f n t) ts ≡ along (visit out br h) (visit out br f n t) ts)
          → along (visit out br f) (visit out br f n t) ts ≡ along (visit out br h) (visit out br f n t) ts
      next (inl s) r = along_found (visit out br f) (visit out br f n t) ts s.breaker s.found ∙ sym (along_found (visit out br h) (visit out br f n t) ts s.breaker s.found)
      next (inr w) r = r w

  step_same : (f h : ℕ) → Same f h → (n : Notes) (id : ℕ) (l : List ℕ) (k : Bool) → Ready out br Q (suc f) n id → unmet n.met < suc h → flag n.met id ≡ k
      → step (visit out br f) out br n id l k ≡ step (visit out br h) out br n id l k
  unfolding step enter
  step_same f h same n id (x ∷ xs) k r e z = refl
  step_same f h same n id [] true r e z = refl
  step_same f h same n id [] false r e z =
      let u = unmet_set n.met id (rw r.fine.mets (low id r.may)) z in
      ap (leave n.path id)
      (along_same f h same (out id) (enter n id) r.none (enter_fine out br Q low leads (suc f) n id r z) (omega (arith, u, r.deep)) (omega (arith, u))
      (λ t i. (chain_snoc out n.path id t r.chain i, leads id t i)))

  visit_same : (f h : ℕ) → Same f h
  unfolding visit
  visit_same zero h n id r e = absurd (omega (arith, r.deep))
  visit_same (suc f) zero n id r e = absurd (omega arith)
  visit_same (suc f) (suc h) n id r e = step_same f h (visit_same f h) n id (from (λ k. k == id) n.path) (flag n.met id) r e refl

depth_free : (g : Graph) → Sound g → (f : ℕ) → id_room < f → along (visit (targets g.edges) (breaks g.breakers) f) fresh g.present ≡ pass g
unfolding pass fresh
depth_free g s f h =
    let out = targets g.edges in
    let Q : ℕ → Type 0 = λ x. In x g.present in
    along_same out (breaks g.breakers) Q (present_low g s) (present_leads g s) f (id_room + 1) (visit_same out (breaks g.breakers) Q (present_low g s) (present_leads g s) f (id_room + 1))
    g.present fresh refl (fresh_fine out (breaks g.breakers) Q) (omega (arith, unmet_fresh)) unmet_fresh (λ t i. (tt, i))

passes_free : (f h : ℕ) (g : Graph) (k : ℕ) → Sound g → length g.edges < f → length g.edges < h → ordered_from f g k ≡ ordered_from h g k
passes_free zero h g k s a b = absurd (omega arith)
passes_free (suc f) zero g k s a b = absurd (omega arith)
passes_free (suc f) (suc h) g k s a b = by (pass_law g s) (λ g' s' a' b'. passes_free f h g' (k + 1) s' a' b')
  where
    by : Result (targets g.edges) (breaks g.breakers) (λ x. In x g.present) fresh g.present (pass g)
        → ((g' : Graph) → Sound g' → length g'.edges < f → length g'.edges < h → ordered_from f g' (k + 1) ≡ ordered_from h g' (k + 1))
        → ordered_from (suc f) g k ≡ ordered_from (suc h) g k
    by (inr w) ih = ordered_last f g k w.found ∙ sym (ordered_last h g k w.found)
    by (inl w) ih =
        let e = edge_of_target g.edges w.breaker w.edge.0 w.edge.1 in
        let less = cleared_less g.edges w.breaker e.0 e.1 e.2 in
        ordered_next f g k w.breaker w.found
        ∙ ih (record g { edges = cleared g.edges w.breaker }) (cleared_sound g w.breaker s) (omega (arith, less)) (omega (arith, less))
        ∙ sym (ordered_next h g k w.breaker w.found)

pub unbounded : (g : Graph) → Sound g → Unbounded g
unfolding ordered
unbounded g s = record { depth = depth_free g s; passes = λ f h. passes_free f (length g.edges + 1) g 1 s h (omega arith) }
