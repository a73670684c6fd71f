-- What clearing a breaker's edges leaves.
use Rattle.std.proofs.Common.{◌≡◌, refl, sym, ap, ◌∙◌, subst, ℕ, suc, ◌<◌, ◌≤◌, Bool, true, false, cond, not, ◌||◌, List, [], ◌∷◌, ◌==◌, ⊎_elim, length, filter, eq-eqb, arith}
use Rattle.std.proofs.lemmas.Bool.{eqb-false}
use Rattle.std.specs.List.{list_any}
use Rattle.layout.specs.declared.edge.Edge.{Edge}
use Rattle.ordering.specs.Order.{targets, cleared}
use Rattle.ordering.specs.Promise.{without}
use Rattle.ordering.proofs.Sets.{In}
use Rattle.ordering.proofs.Lists.{filter_in, edge_of_target, target_of_edge}

-- some ids lose their edges, one after the other
abbrev pub clear_all : List Edge → List ℕ → List Edge
clear_all edges [] = edges
clear_all edges (b ∷ bs) = clear_all (cleared edges b) bs

kept_all : (edges : List Edge) → filter (λ e. true) edges ≡ edges
kept_all [] = refl
kept_all (e ∷ es) = ap (λ (l : List Edge). e ∷ l) (kept_all es)

both : (q : Edge → Bool) (a b : Bool) (e : Edge) (l m : List Edge) → q e ≡ not b → filter q l ≡ m
    → filter q (cond (not a) (e ∷ l) l) ≡ cond (not (a || b)) (e ∷ m) m
both q true b e l m v h = h
both q false b e l m v h = rw (v, h) refl

without_more : (b : ℕ) (bs : List ℕ) (edges : List Edge) → without bs (filter (λ e. not (e.source == b)) edges) ≡ without (b ∷ bs) edges
without_more b bs [] = refl
without_more b bs (e ∷ es) =
    both (λ d. not (list_any (λ c. d.source == c) bs)) (e.source == b) (list_any (λ c. e.source == c) bs) e (filter (λ d. not (d.source == b)) es) (without (b ∷ bs) es) refl (without_more b bs es)

pub clear_all_without : (ids : List ℕ) (edges : List Edge) → clear_all edges ids ≡ without ids edges
unfolding cleared
clear_all_without [] edges = sym (kept_all edges)
clear_all_without (b ∷ bs) edges = clear_all_without bs (filter (λ e. not (e.source == b)) edges) ∙ without_more b bs edges

-- what is left was there, and leaves another id than b
pub cleared_in : (edges : List Edge) (b x t : ℕ) → In t (targets (cleared edges b) x) → In t (targets edges x) × (x ≡ b → ⊥)
unfolding cleared
cleared_in edges b x t i =
    let r = edge_of_target (filter (λ e. not (e.source == b)) edges) x t i in
    let k = filter_in (λ e. not (e.source == b)) edges r.0 r.1 in
    (subst (λ (y : ℕ). In t (targets edges y)) r.2 (subst (λ (u : ℕ). In u (targets edges r.0.source)) r.3 (target_of_edge edges r.0 k.0)), λ q. no (r.0.source == b) (eq-eqb r.0.source b (r.2 ∙ q)) k.1)
  where
    no : (v : Bool) → v ≡ true → not v ≡ true → ⊥
    no true e h = cc
    no false e h = cc

-- only edges that were there
pub cleared_sub : (edges : List Edge) (b : ℕ) (e : Edge) → In e (cleared edges b) → In e edges
unfolding cleared
cleared_sub edges b e i = (filter_in (λ d. not (d.source == b)) edges e i).0

-- fewer, where b has an edge
less_at : (v : Bool) (e : Edge) (l : List Edge) (n : ℕ) → length l ≤ n → (v ≡ false → length l < n) → length (cond (not v) (e ∷ l) l) < suc n
less_at true e l n h k = omega arith
less_at false e l n h k = omega (arith, k refl)

cleared_most : (b : ℕ) (edges : List Edge) → length (filter (λ e. not (e.source == b)) edges) ≤ length edges
cleared_most b [] = omega arith
cleared_most b (e ∷ es) = at (not (e.source == b)) (filter (λ e. not (e.source == b)) es) (cleared_most b es)
  where
    at : (v : Bool) (l : List Edge) → length l ≤ length es → length (cond v (e ∷ l) l) ≤ suc (length es)
    at true l h = omega arith
    at false l h = omega arith

pub cleared_less : (edges : List Edge) (b : ℕ) (e : Edge) → In e edges → e.source ≡ b → length (cleared edges b) < length edges
unfolding cleared
cleared_less [] b e i q = absurd i
cleared_less (d ∷ ds) b e i q =
    less_at (d.source == b) d (filter (λ c. not (c.source == b)) ds) (length ds) (cleared_most b ds)
    (λ h. ⊎_elim (λ w. absurd (eqb-false d.source b h (ap (λ (c : Edge). c.source) (sym w) ∙ q))) (λ j. cleared_less ds b e j q) i)
