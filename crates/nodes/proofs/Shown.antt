-- What follows from what each edit leaves: who is present and who is a breaker, and where no edge leads.
use Rattle.std.proofs.Common.{◌≡◌, refl, ap, ◌∙◌, ℕ, zero, suc, ◌+◌, ◌<◌, ◌≤◌, Bool, true, false, cond, not, if◌then◌else◌, List, [], ◌∷◌, ◌==◌, filter, length, get_or, eq-eqb, ne_eqb, arith}
use Rattle.std.specs.List.{All}
use Rattle.std.proofs.lemmas.List.Elements.{All-filter}
use Rattle.std.proofs.lemmas.Bool.{eqb-true}
use Rattle.std.proofs.Math.Decide.{ℕ_discrete}
use Rattle.tally.specs.Listed.{passing}
use Rattle.layout.specs.Sizes.{id_room}
use Rattle.layout.specs.Node.{is_present, is_breaker}
use Rattle.layout.specs.Views.{Node, node_of, edges_of, present_of, breakers_of}
use Rattle.layout.specs.declared.edge.Edge.{Edge}
use Rattle.nodes.specs.Edges.{is_edge}
use Rattle.nodes.specs.Kept.{Freed}

-- ---- ids
passing_same : (p q : ℕ → Bool) (n k : ℕ) → ((i : ℕ) → k ≤ i → i < k + n → p i ≡ q i) → passing p n k ≡ passing q n k
unfolding passing
passing_same p q zero k h = refl
passing_same p q (suc n) k h = rw (h k (omega arith) (omega arith), passing_same p q n (k + 1) (λ i a b. h i (omega arith) (omega arith))) refl

-- where the nodes under all ids but one are the same
module _ (s t : List ℕ) (id : ℕ) (h : (x : ℕ) → x < id_room → (x ≡ id → ⊥) → node_of t x ≡ node_of s x) (b : Bool) where
  pub present_of-but : is_present t id ≡ b → present_of t ≡ passing (λ x. if x == id then b else is_present s x) id_room 0
  unfolding present_of node_of
  present_of-but e = passing_same (is_present t) (λ x. if x == id then b else is_present s x) id_room 0 (λ i a l. at i (omega arith) (ℕ_discrete i id))
    where
      at : (i : ℕ) → i < id_room → Dec (i ≡ id) → is_present t i ≡ (if i == id then b else is_present s i)
      at i l (yes q) = rw (eq-eqb i id q) (ap (is_present t) q ∙ e)
      at i l (no u) = rw (ne_eqb i id u) (ap (λ (k : Node). k.present) (h i l u))

  pub breakers_of-but : is_breaker t id ≡ b → breakers_of t ≡ passing (λ x. if x == id then b else is_breaker s x) id_room 0
  unfolding breakers_of node_of
  breakers_of-but e = passing_same (is_breaker t) (λ x. if x == id then b else is_breaker s x) id_room 0 (λ i a l. at i (omega arith) (ℕ_discrete i id))
    where
      at : (i : ℕ) → i < id_room → Dec (i ≡ id) → is_breaker t i ≡ (if i == id then b else is_breaker s i)
      at i l (yes q) = rw (eq-eqb i id q) (ap (is_breaker t) q ∙ e)
      at i l (no u) = rw (ne_eqb i id u) (ap (λ (k : Node). k.breaker) (h i l u))

-- ---- edges
pub all_filtered : (q : Edge → Bool) (xs : List Edge) → All (λ e. q e ≡ true) (filter q xs)
all_filtered q [] = λ k d l. absurd (omega arith)
all_filtered q (x ∷ xs) = at (q x) refl (filter q xs) (all_filtered q xs)
  where
    at : (b : Bool) → q x ≡ b → (ys : List Edge) → All (λ e. q e ≡ true) ys → All (λ e. q e ≡ true) (cond b (x ∷ ys) ys)
    at true e ys h = λ k d l. go k d l
      where
        go : (k : ℕ) → (d : Edge) → k < suc (length ys) → q (get_or (x ∷ ys) k d) ≡ true
        go zero d l = e
        go (suc k) d l = h k d (omega arith)
    at false e ys h = h

unlike : (a b : ℕ) → not (a == b) ≡ true → a ≡ b → ⊥
unlike a b h e = no (a == b) (eq-eqb a b e) h
  where
    no : (v : Bool) → v ≡ true → not v ≡ true → ⊥
    no true e h = cc
    no false e h = cc

module _ (s t : List ℕ) (id : ℕ) (f : Freed s t id) where
  -- no edge leads into the freed node
  pub freed_entered : All (λ e. e.target ≡ id → ⊥) (edges_of t)
  freed_entered =
      rw f.edges
      (λ k d l. unlike _ _ (all_filtered (λ e. not (e.target == id)) (filter (λ e. not (e.source == id)) (edges_of s)) k d l))

  -- and none leaves it
  pub freed_left : All (λ e. e.source ≡ id → ⊥) (edges_of t)
  freed_left =
      rw f.edges
      (All-filter (λ e. not (e.target == id)) (λ e. e.source ≡ id → ⊥) (filter (λ e. not (e.source == id)) (edges_of s))
      (λ k d l. unlike _ _ (all_filtered (λ e. not (e.source == id)) (edges_of s) k d l)))

-- the test for an equal edge is just that
pub is_edge_self : (x : Edge) → is_edge x x ≡ true
is_edge_self x = rw (eq-eqb x.source x.source refl, eq-eqb x.output x.output refl, eq-eqb x.target x.target refl) (eq-eqb x.input x.input refl)

both : (a b : Bool) → (if a then b else false) ≡ true → (a ≡ true) × (b ≡ true)
both true b h = (refl, h)
both false b h = cc

-- an edge by its four numbers
abbrev copy : Edge → Edge
copy k = record { source = k.source; output = k.output; target = k.target; input = k.input }

pub is_edge_equal : (x e : Edge) → is_edge x e ≡ true → e ≡ x
is_edge_equal x e h =
    let a = both (e.source == x.source) (if e.output == x.output then (if e.target == x.target then e.input == x.input else false) else false) h in
    let b = both (e.output == x.output) (if e.target == x.target then e.input == x.input else false) a.1 in
    let c = both (e.target == x.target) (e.input == x.input) b.1 in
    same e x (eqb-true e.source x.source a.0) (eqb-true e.output x.output b.0) (eqb-true e.target x.target c.0) (eqb-true e.input x.input c.1)
  where
    same : (y z : Edge) → y.source ≡ z.source → y.output ≡ z.output → y.target ≡ z.target → y.input ≡ z.input → copy y ≡ copy z
    same y z p q r u = rw (p, q, r, u) refl
