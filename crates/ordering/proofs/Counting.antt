-- All passes together: each clearing is of another breaker, and what the last pass notes keeps the promises.
use Rattle.std.proofs.Common.{◌≡◌, refl, sym, ap, ◌∙◌, subst, ℕ, zero, suc, ◌+◌, ◌<◌, not, List, [], ◌∷◌, ◌++◌, Some, None, ◌==◌, inl, inr, ⊎_elim, length, map, arith}
use Rattle.std.specs.List.{Contains}
use Rattle.std.proofs.lemmas.List.Elements.{All-filter}
use Rattle.layout.specs.declared.edge.Edge.{Edge}
use Rattle.ordering.specs.Order.{Graph, breaks, Ordered, targets, cleared, fresh, pass, sounding, silent, ordered_by, ordered_from, ordered}
use Rattle.ordering.specs.Promise.{Sound, Leads, OnCycle, Promised}
use Rattle.ordering.proofs.Sets.{In, Distinct, Chain, first, Round}
use Rattle.ordering.proofs.Laws.{Result}
use Rattle.ordering.proofs.Lists.{contains_from_in, all_from_in, any_from_in, all_pairs_from_distinct, no_longer, edge_of_target, forward_from_runs, breaks_in, in_breaks, in_from_contains}
use Rattle.ordering.proofs.Clearing.{clear_all, clear_all_without, cleared_in, cleared_less}
use Rattle.ordering.proofs.Promises.{pass_law, whole}

-- ---- the cycle of a muted id, by its edges
record Edges (edges : List Edge) (xs : List ℕ) (t : ℕ) : Type 0 where
  by : List Edge
  leads : Leads by (first xs t) t
  sources : map (λ e. e.source) by ≡ xs
  stored : (e : Edge) → In e by → In e edges

edges_of_chain : (edges : List Edge) (xs : List ℕ) (t : ℕ) → Chain (targets edges) xs t → Edges edges xs t
edges_of_chain edges [] t c = record { by = []; leads = refl; sources = refl; stored = λ e i. absurd i }
edges_of_chain edges (x ∷ xs) t c =
    let r = edge_of_target edges x (first xs t) c.0 in
    let q = edges_of_chain edges xs t c.1 in
    record {
      by = r.0 ∷ q.by;
      leads = (r.2, subst (λ (k : ℕ). Leads q.by k t) (sym r.3) q.leads);
      sources = rw (r.2, q.sources) refl;
      stored = λ e i. ⊎_elim (λ w. rw w r.1) (λ j. q.stored e j) i;
    }

through : (es : List Edge) (y : ℕ) → In y (map (λ e. e.source) es) → (e : Edge) × In e es × (e.source ≡ y)
through [] y i = absurd i
through (e ∷ es) y i = ⊎_elim (λ q. (e, inl refl, sym q)) (λ j. let r = through es y j in (r.0, inr r.1, r.2)) i

source_in : (es : List Edge) (e : Edge) → In e es → In e.source (map (λ d. d.source) es)
source_in [] e i = absurd i
source_in (d ∷ ds) e i = ⊎_elim (λ q. inl (ap (λ (c : Edge). c.source) q)) (λ j. inr (source_in ds e j)) i

first_again : (xs : List ℕ) (y : ℕ) → In y xs → first xs (first xs y) ≡ first xs y
first_again [] y i = absurd i
first_again (x ∷ xs) y i = refl

pub cycle_of_round : (edges : List Edge) (breakers : List ℕ) (y : ℕ) → Round (targets edges) (breaks breakers) y → OnCycle edges breakers y
cycle_of_round edges breakers y r =
    let c = edges_of_chain edges r.ids (first r.ids y) r.closed in
    let t = through c.by y (rw c.sources r.on) in
    record {
      cycle = c.by;
      start = first r.ids y;
      closed = subst (λ (k : ℕ). Leads c.by k (first r.ids y)) (first_again r.ids y r.on) c.leads;
      through = any_from_in (λ e. e.source ≡ y) c.by t.0 t.1 t.2;
      stored = all_from_in (Contains edges) c.by (λ e i. contains_from_in edges e (c.stored e i));
      unmarked = all_from_in (λ e. ¬ Contains breakers e.source) c.by
          (λ e i. λ k. let u = breaks_in breakers e.source (in_from_contains breakers e.source k) in let v = r.plain e.source (subst (In e.source) c.sources (source_in c.by e i)) in cc);
    }

-- ---- the passes
abbrev opened : Graph → List ℕ → Graph
opened g ids = record g { edges = clear_all g.edges ids }

pub cleared_sound : (g : Graph) (b : ℕ) → Sound g → Sound (record g { edges = cleared g.edges b })
unfolding cleared
cleared_sound g b s =
    record { low = s.low; upward = s.upward; ends = All-filter (λ e. not (e.source == b)) (λ e. Contains g.present e.target) g.edges s.ends }

-- the passes from g on, the k-th being the next: `ids` lose their edges
record Run (g : Graph) (r : Ordered) (k : ℕ) (ids : List ℕ) : Type 0 where
  once : Distinct ids
  edge : (b : ℕ) → In b ids → (t : ℕ) × In t (targets g.edges b)
  breaking : (b : ℕ) → In b ids → In b g.breakers × In b g.present
  sound : Sound (opened g ids)
  last : (pass (opened g ids)).found ≡ None
  found : r ≡ record { order = sounding (pass (opened g ids)); muted = silent (pass (opened g ids)) g.present; passes = length ids + k; edges = clear_all g.edges ids }

pub ordered_last : (f : ℕ) (g : Graph) (k : ℕ) → (pass g).found ≡ None
    → ordered_from (suc f) g k ≡ record { order = sounding (pass g); muted = silent (pass g) g.present; passes = k; edges = g.edges }
unfolding ordered_from ordered_by
ordered_last f g k z = ap (ordered_by (ordered_from f) g k (pass g)) z

pub ordered_next : (f : ℕ) (g : Graph) (k b : ℕ) → (pass g).found ≡ Some b
    → ordered_from (suc f) g k ≡ ordered_from f (record g { edges = cleared g.edges b }) (k + 1)
unfolding ordered_from ordered_by
ordered_next f g k b z = ap (ordered_by (ordered_from f) g k (pass g)) z

run_last : (f : ℕ) (g : Graph) (k : ℕ) → Sound g → (pass g).found ≡ None → Run g (ordered_from (suc f) g k) k []
run_last f g k s z =
    record {
      once = tt;
      edge = λ b i. absurd i;
      breaking = λ b i. absurd i;
      sound = s;
      last = z;
      found = ordered_last f g k z ∙ ap (λ (j : ℕ). record { order = sounding (pass g); muted = silent (pass g) g.present; passes = j; edges = g.edges }) (none k);
    }
  where
    none : (k : ℕ) → k ≡ 0 + k
    none k = omega arith

run_more : (g : Graph) (b k : ℕ) (o : Ordered) (ids : List ℕ) → In b g.breakers × In b g.present → (t : ℕ) → In t (targets g.edges b)
    → Run (record g { edges = cleared g.edges b }) o (k + 1) ids → Run g o k (b ∷ ids)
run_more g b k o ids m t i n =
    record {
      once = (λ j. let w = n.edge b j in (cleared_in g.edges b b w.0 w.1).1 refl, n.once);
      edge = λ x j. ⊎_elim (λ e. (t, rw e i)) (λ a. let w = n.edge x a in (w.0, (cleared_in g.edges b x w.0 w.1).0)) j;
      breaking = λ x j. ⊎_elim (λ e. rw e m) (λ a. n.breaking x a) j;
      sound = n.sound;
      last = n.last;
      found = n.found ∙ ap (λ (j : ℕ). record { order = sounding (pass (opened g (b ∷ ids))); muted = silent (pass (opened g (b ∷ ids))) g.present; passes = j; edges = clear_all g.edges (b ∷ ids) }) (shift (length ids) k);
    }
  where
    shift : (a k : ℕ) → a + (k + 1) ≡ suc a + k
    shift a k = omega arith

run_law : (f : ℕ) (g : Graph) (k : ℕ) → Sound g → length g.edges < f → (ids : List ℕ) × Run g (ordered_from f g k) k ids
run_law zero g k s h = absurd (omega arith)
run_law (suc f) g k s h = by (pass_law g s) (λ g' s' h'. run_law f g' (k + 1) s' h')
  where
    by : Result (targets g.edges) (breaks g.breakers) (λ x. In x g.present) fresh g.present (pass g)
        → ((g' : Graph) → Sound g' → length g'.edges < f → (ids : List ℕ) × Run g' (ordered_from f g' (k + 1)) (k + 1) ids)
        → (ids : List ℕ) × Run g (ordered_from (suc f) g k) k ids
    by (inr w) ih = ([], run_last f g k s w.found)
    by (inl w) ih =
        let b = w.breaker in
        let e = edge_of_target g.edges b w.edge.0 w.edge.1 in
        let n = ih (record g { edges = cleared g.edges b }) (cleared_sound g b s) (omega (arith, cleared_less g.edges b e.0 e.1 e.2, h)) in (
          b ∷ n.0,
          subst (λ (x : Ordered). Run g x k (b ∷ n.0)) (sym (ordered_next f g k b w.found))
              (run_more g b k (ordered_from f (record g { edges = cleared g.edges b }) (k + 1)) n.0 (in_breaks g.breakers b w.breaks, w.may) w.edge.0 w.edge.1 n.1),
        )

-- ---- all promises, of the ordering of a sound graph
promised_of : (g : Graph) (ids : List ℕ) (r : Ordered) → Run g r 1 ids → Promised g r
promised_of g ids r n =
    let h = opened g ids in
    let w = whole h n.sound n.last in
    let order = sounding (pass h) in
    let muted = silent (pass h) g.present in
    subst (Promised g) (sym n.found) (
    record {
      once = all_pairs_from_distinct (order ++ muted) w.once;
      all = all_from_in (Contains (order ++ muted)) g.present (λ x i. contains_from_in (order ++ muted) x (w.all x i));
      only = all_from_in (Contains g.present) (order ++ muted) (λ x i. contains_from_in g.present x (w.only x i));
      upward = w.upward;
      forward = forward_from_runs h.edges order w.runs;
      cycles = all_from_in (OnCycle h.edges g.breakers) muted (λ y i. cycle_of_round h.edges g.breakers y (w.rounds y i));
      opened = ids;
      opened_once = all_pairs_from_distinct ids n.once;
      marked = all_from_in (Contains g.breakers) ids (λ b i. contains_from_in g.breakers b ((n.breaking b i).0));
      there = all_from_in (Contains g.present) ids (λ b i. contains_from_in g.present b ((n.breaking b i).1));
      left = clear_all_without ids g.edges;
      passes = refl;
      most = omega (arith, no_longer ids g.breakers n.once (λ b i. (n.breaking b i).0));
    }
    )

pub promised : (g : Graph) → Sound g → Promised g (ordered g)
unfolding ordered
promised g s = let r = run_law (length g.edges + 1) g 1 s (omega arith) in promised_of g r.0 (ordered_from (length g.edges + 1) g 1) r.1
