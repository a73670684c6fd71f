-- The loop over the passes ends: each clearing takes a stored edge away.
use Rattle.layout.specs.Node.{is_present}
use Rattle.std.proofs.lemmas.Bool.{eqb-false}
use Rattle.std.proofs.Common.{◌≡◌, refl, sym, ap, ◌∙◌, subst, ℕ, zero, suc, ◌+◌, ◌-◌, ◌<◌, ◌≤◌, Bool, true, false, List, ◌∷◌, Option, Some, None, ◌==◌, inl, inr, ⊎_elim, length, arith, eqb-true}
use Rattle.std.specs.List.{range_with_len}
use Rattle.tally.specs.Listed.{listed, passing}
use Rattle.tally.proofs.Lists.{listed-length}
use Rattle.layout.specs.Sizes.{Whole, id_room}
use Rattle.layout.specs.Header.{edge_count}
use Rattle.layout.specs.Edge.{edge_at}
use Rattle.layout.specs.Views.{edges_of, present_of}
use Rattle.layout.specs.declared.edge.Edge.{Edge}
use Rattle.ordering.specs.Order.{breaks, targets, fresh, pass}
use Rattle.ordering.specs.View.{Bounded}
use Rattle.ordering.specs.State.{graph_of, clear, settle, Ordering, order_by, order_from, order_nodes}
use Rattle.ordering.proofs.Sets.{In}
use Rattle.ordering.proofs.Laws.{Result}
use Rattle.ordering.proofs.Lists.{filter_in, edge_of_target}
use Rattle.ordering.proofs.Clearing.{cleared_less, cleared_sub}
use Rattle.ordering.proofs.Promises.{pass_with}
use Rattle.ordering.proofs.Stored.{whole_clear, edges_of-clear}

-- ---- members of such lists
pub in_listed : (f : ℕ → Edge) (n k : ℕ) (e : Edge) → In e (listed f n k) → (i : ℕ) × (i < k + n) × (e ≡ f i)
in_listed f zero k e j = absurd j
in_listed f (suc n) k e j =
    ⊎_elim (λ q. (k, omega arith, q)) (λ h. let r = in_listed f n (k + 1) e h in (r.0, omega (arith, r.1), r.2)) j

listed_in : (f : ℕ → Edge) (n k i : ℕ) → k ≤ i → i < k + n → In (f i) (listed f n k)
listed_in f zero k i l h = absurd (omega arith)
listed_in f (suc n) k i l h = at (i == k) refl (λ g. listed_in f n (k + 1) i g (omega arith))
  where
    at : (b : Bool) → (i == k) ≡ b → (k + 1 ≤ i → In (f i) (listed f n (k + 1))) → In (f i) (f k ∷ listed f n (k + 1))
    at true e r = inl (ap f (eqb-true i k e))
    at false e r = let q = eqb-false i k e in inr (r (omega arith))

low_range : (n k x : ℕ) → In x (range_with_len k n) → x < k + n
low_range zero k x i = absurd i
low_range (suc n) k x i = ⊎_elim (λ e. omega arith) (λ j. let r = low_range n (k + 1) x j in omega arith) i

pub low_present : (s : List ℕ) (x : ℕ) → In x (present_of s) → x < id_room
unfolding present_of passing
low_present s x i = omega (arith, low_range id_room 0 x ((filter_in (is_present s) (range_with_len 0 id_room) x i).0))

pub count_of_edges : (s : List ℕ) → length (edges_of s) ≡ edge_count s
unfolding edges_of
count_of_edges s = listed-length (edge_at s) (edge_count s) 0

end_of : (s : List ℕ) (e : Edge) → Bounded s → In e (edges_of s) → e.target < id_room
unfolding edges_of
end_of s e b i = let r = in_listed (edge_at s) (edge_count s) 0 e i in let l = b.ends r.0 (omega (arith, r.1)) in rw r.2 l

at_end : (s : List ℕ) → ((e : Edge) → In e (edges_of s) → e.target < id_room) → (k : ℕ) → k < edge_count s → (edge_at s k).target < id_room
unfolding edges_of
at_end s h k l = h (edge_at s k) (listed_in (edge_at s) (edge_count s) 0 k (omega arith) (omega arith))

-- ---- one pass over a bounded state
pub pass_low : (s : List ℕ) → Bounded s → Result (targets (edges_of s)) (breaks (graph_of s).breakers) (λ x. x < id_room) fresh (present_of s) (pass (graph_of s))
unfolding graph_of
pass_low s b =
    pass_with (graph_of s) (λ x. x < id_room) (λ x h. h) (λ x t i. let r = edge_of_target (edges_of s) x t i in subst (λ (y : ℕ). y < id_room) r.3 (end_of s r.0 b r.1)) (low_present s)

pub pass_clears : (s : List ℕ) (b : ℕ) → Whole s → Bounded s → (pass (graph_of s)).found ≡ Some b → Bounded (clear s b) × (edge_count (clear s b) < edge_count s)
pass_clears s b w h z = by (pass_low s h)
  where
    by : Result (targets (edges_of s)) (breaks (graph_of s).breakers) (λ x. x < id_room) fresh (present_of s) (pass (graph_of s))
        → Bounded (clear s b) × (edge_count (clear s b) < edge_count s)
    by (inr v) = let k = v.found in absurd (cc)
    by (inl v) =
        let k = v.found in
        let q : v.breaker ≡ b = cc in
        let r = edge_of_target (edges_of s) v.breaker v.edge.0 v.edge.1 in
        let view = edges_of-clear s b w h.few in
        let less : edge_count (clear s b) < edge_count s =
        omega (arith, cleared_less (edges_of s) b r.0 r.1 (r.2 ∙ q), count_of_edges s, count_of_edges (clear s b), ap length view) in (
          record {
            few = omega (arith, less, h.few);
            ends = at_end (clear s b) (λ e i. end_of s e h (cleared_sub (edges_of s) b e (subst (In e) view i)));
          },
          less,
        )

-- ---- the loop over the passes
pub order_last : (f : ℕ) (s : List ℕ) (k : ℕ) → 0 < f → (pass (graph_of s)).found ≡ None
    → order_from f s k ≡ record { state = settle s (pass (graph_of s)) (pass (graph_of s)).found; passes = k }
unfolding order_from order_by
order_last zero s k h z = absurd (omega arith)
order_last (suc f) s k h z = ap (order_by (order_from f) (settle s (pass (graph_of s)) (pass (graph_of s)).found) k) z

pub order_next : (f : ℕ) (s : List ℕ) (k b : ℕ) → 0 < f → (pass (graph_of s)).found ≡ Some b → order_from f s k ≡ order_from (f - 1) (clear s b) (k + 1)
unfolding order_from order_by settle
order_next zero s k b h z = absurd (omega arith)
order_next (suc f) s k b h z =
    let e : suc f - 1 ≡ f = omega arith in
    ap (λ (r : Option ℕ). order_by (order_from f) (settle s (pass (graph_of s)) r) k r) z ∙ ap (λ (m : ℕ). order_from m (clear s b) (k + 1)) (sym e)

-- k passes were begun from s₀ on, and the k-th is over s
pub record Passing (s₀ s : List ℕ) (k : ℕ) : Type 0 where
  pub whole : Whole s
  pub bounded : Bounded s
  pub bound : ℕ
  pub enough : edge_count s < bound
  pub few : k + edge_count s ≤ 257
  pub run : order_from bound s k ≡ order_nodes s₀

pub passing_first : (s : List ℕ) → Whole s → Bounded s → Passing s s 1
unfolding order_nodes
passing_first s w b = record { whole = w; bounded = b; bound = edge_count s + 1; enough = omega arith; few = omega (arith, b.few); run = refl }

pub passing_next : (s₀ s s₁ s₂ : List ℕ) (k b : ℕ) (r : Option ℕ) → Passing s₀ s k → r ≡ (pass (graph_of s)).found → r ≡ Some b
    → s₁ ≡ settle s (pass (graph_of s)) (pass (graph_of s)).found → s₂ ≡ clear s₁ b → Passing s₀ s₂ (k + 1) × (edge_count s₂ < edge_count s)
unfolding settle
passing_next s₀ s s₁ s₂ k b r p e z q c =
    let f : (pass (graph_of s)).found ≡ Some b = sym e ∙ z in
    let d = pass_clears s b p.whole p.bounded f in
    let t : s₂ ≡ clear s b = c ∙ ap (λ (x : List ℕ). clear x b) (q ∙ ap (settle s (pass (graph_of s))) f) in
    rw t (
      record {
        whole = whole_clear s b p.whole;
        bounded = d.0;
        bound = p.bound - 1;
        enough = omega (arith, d.1, p.enough);
        few = omega (arith, d.1, p.few);
        run = sym (order_next p.bound s k b (omega (arith, p.enough)) f) ∙ p.run;
      },
      d.1,
    )

-- a pass that found a breaker left the state as it was
pub settle_found : (s s₁ : List ℕ) (b : ℕ) (r : Option ℕ) → r ≡ (pass (graph_of s)).found → r ≡ Some b → s₁ ≡ settle s (pass (graph_of s)) (pass (graph_of s)).found → s₁ ≡ s
unfolding settle
settle_found s s₁ b r e z q = q ∙ ap (settle s (pass (graph_of s))) (sym e ∙ z)

pub passing_last : (s₀ s s₁ : List ℕ) (k : ℕ) (r : Option ℕ) → Passing s₀ s k → r ≡ (pass (graph_of s)).found → r ≡ None
    → s₁ ≡ settle s (pass (graph_of s)) (pass (graph_of s)).found → (k ≡ (order_nodes s₀).passes) × (s₁ ≡ (order_nodes s₀).state)
passing_last s₀ s s₁ k r p e z q =
    let l = sym (order_last p.bound s k (omega (arith, p.enough)) (sym e ∙ z)) ∙ p.run in
    (ap (λ (o : Ordering). o.passes) l, q ∙ ap (λ (o : Ordering). o.state) l)
