-- Membership by recursion against the library's words, filters, and targets.
use Rattle.std.proofs.Common.{◌≡◌, ◌≢◌, refl, sym, ap, ◌∙◌, subst, ℕ, zero, suc, ◌<◌, ◌≤◌, Bool, true, false, cond, List, [], ◌∷◌, ◌++◌, ◌==◌, ◌⊎◌, inl, inr, ⊎_elim, length, get_or, map, filter, reverse, eqb-true, eq-eqb, arith, ◌||◌}
use Rattle.std.specs.List.{All, AllPairs, Any, Contains, list_any}
use Rattle.std.proofs.lemmas.List.Elements.{All-nil, All-cons, filter-append}
use Rattle.std.proofs.lemmas.Grind.{reverse_onto}
use Rattle.layout.specs.declared.edge.Edge.{Edge}
use Rattle.ordering.specs.Order.{targets, breaks}
use Rattle.ordering.specs.Promise.{RunsForward}
use Rattle.ordering.proofs.Sets.{In, Distinct}

-- membership
module _ {A : Type 0} where
  pub contains_from_in : (xs : List A) (x : A) → In x xs → Contains xs x
  contains_from_in [] x i = absurd i
  contains_from_in (y ∷ ys) x i =
      ⊎_elim (λ e. (0, omega arith, sym e)) (λ j. let r = contains_from_in ys x j in (suc r.0, omega (arith, r.1), r.2)) i

  in_at : (xs : List A) (x : A) (k : ℕ) → k < length xs → get_or xs k x ≡ x → In x xs
  in_at [] x k l e = absurd (omega arith)
  in_at (y ∷ ys) x zero l e = inl (sym e)
  in_at (y ∷ ys) x (suc k) l e = inr (in_at ys x k (omega arith) e)

  pub in_from_contains : (xs : List A) (x : A) → Contains xs x → In x xs
  in_from_contains xs x c = in_at xs x c.0 c.1 c.2

  pub in_get : (xs : List A) (k : ℕ) (d : A) → k < length xs → In (get_or xs k d) xs
  in_get [] k d l = absurd (omega arith)
  in_get (y ∷ ys) zero d l = inl refl
  in_get (y ∷ ys) (suc k) d l = inr (in_get ys k d (omega arith))

  pub all_from_in : (P : A → Type 0) (xs : List A) → ((x : A) → In x xs → P x) → All P xs
  all_from_in P [] h = All-nil P
  all_from_in P (x ∷ xs) h = All-cons P x xs (h x (inl refl)) (all_from_in P xs (λ y i. h y (inr i)))

  pub in_from_all : (P : A → Type 0) (xs : List A) → All P xs → (x : A) → In x xs → P x
  in_from_all P xs h x i = let c = contains_from_in xs x i in subst P c.2 (h c.0 x c.1)

  pub any_from_in : (P : A → Type 0) (xs : List A) (x : A) → In x xs → P x → Any P xs
  any_from_in P xs x i p = let c = contains_from_in xs x i in (c.0, x, c.1, c.2, p)

  pub in_left : (xs ys : List A) (x : A) → In x xs → In x (xs ++ ys)
  in_left [] ys x i = absurd i
  in_left (y ∷ xs) ys x i = ⊎_elim (λ e. inl e) (λ j. inr (in_left xs ys x j)) i

  pub in_right : (xs ys : List A) (x : A) → In x ys → In x (xs ++ ys)
  in_right [] ys x i = i
  in_right (y ∷ xs) ys x i = inr (in_right xs ys x i)

  pub in_append : (xs ys : List A) (x : A) → In x (xs ++ ys) → In x xs ⊎ In x ys
  in_append [] ys x i = inr i
  in_append (y ∷ xs) ys x i = ⊎_elim (λ e. inl (inl e)) (λ j. ⊎_elim (λ k. inl (inr k)) (λ k. inr k) (in_append xs ys x j)) i

  -- filters
  keep_in : (p : A → Bool) (b : Bool) (x y : A) (l xs : List A) → p y ≡ b → (In x l → In x xs × (p x ≡ true)) → In x (cond b (y ∷ l) l) → In x (y ∷ xs) × (p x ≡ true)
  keep_in p true x y l xs e r i = ⊎_elim (λ q. (inl q, ap p q ∙ e)) (λ j. (inr ((r j).0), (r j).1)) i
  keep_in p false x y l xs e r i = (inr ((r i).0), (r i).1)

  pub filter_in : (p : A → Bool) (xs : List A) (x : A) → In x (filter p xs) → In x xs × (p x ≡ true)
  filter_in p [] x i = absurd i
  filter_in p (y ∷ ys) x i = keep_in p (p y) x y (filter p ys) ys refl (filter_in p ys x) i

  in_keep : (p : A → Bool) (b : Bool) (x y : A) (l xs : List A) → p y ≡ b → p x ≡ true → (In x xs → In x l) → In x (y ∷ xs) → In x (cond b (y ∷ l) l)
  in_keep p true x y l xs e z r i = ⊎_elim (λ q. inl q) (λ j. inr (r j)) i
  in_keep p false x y l xs e z r i = ⊎_elim (λ q. let k : p x ≡ false = ap p q ∙ e in absurd (cc)) (λ j. r j) i

  pub in_filter : (p : A → Bool) (xs : List A) (x : A) → p x ≡ true → In x xs → In x (filter p xs)
  in_filter p [] x z i = i
  in_filter p (y ∷ ys) x z i = in_keep p (p y) x y (filter p ys) ys refl z (in_filter p ys x z) i

  reverse_keep : (b : Bool) (x : A) (l : List A) → reverse l ++ cond b (x ∷ []) [] ≡ reverse (cond b (x ∷ l) l)
  reverse_keep true x l = sym (reverse_onto l x [])
  reverse_keep false x l = append_none (reverse l)
    where
      append_none : (xs : List A) → xs ++ [] ≡ xs
      append_none [] = refl
      append_none (y ∷ ys) = ap (λ (r : List A). y ∷ r) (append_none ys)

  pub filter_reverse : (p : A → Bool) (xs : List A) → filter p (reverse xs) ≡ reverse (filter p xs)
  filter_reverse p [] = refl
  filter_reverse p (x ∷ xs) =
      ap (filter p) (reverse_onto xs x []) ∙ filter-append p (reverse xs) (x ∷ [])
      ∙ ap (λ (l : List A). l ++ cond (p x) (x ∷ []) []) (filter_reverse p xs) ∙ reverse_keep (p x) x (filter p xs)

-- lists of different ids
pub distinct_filter : (p : ℕ → Bool) (xs : List ℕ) → Distinct xs → Distinct (filter p xs)
distinct_filter p [] d = d
distinct_filter p (y ∷ ys) d = at (p y) y (filter p ys) (λ i. d.0 ((filter_in p ys y i).0)) (distinct_filter p ys d.1)
  where
    at : (b : Bool) (y : ℕ) (l : List ℕ) → (In y l → ⊥) → Distinct l → Distinct (cond b (y ∷ l) l)
    at true y l h d = (h, d)
    at false y l h d = d

pub distinct_append : (xs ys : List ℕ) → Distinct xs → Distinct ys → ((x : ℕ) → In x xs → In x ys → ⊥) → Distinct (xs ++ ys)
distinct_append [] ys d e h = e
distinct_append (x ∷ xs) ys d e h =
    (λ i. ⊎_elim (λ j. d.0 j) (λ j. h x (inl refl) j) (in_append xs ys x i), distinct_append xs ys d.1 e (λ y i j. h y (inr i) j))

pub all_pairs_from_distinct : (xs : List ℕ) → Distinct xs → AllPairs ◌≢◌ xs
all_pairs_from_distinct xs d i j k l m = at xs d i j k l m
  where
    at : (xs : List ℕ) → Distinct xs → (i j k : ℕ) → i < j → j < length xs → get_or xs i k ≢ get_or xs j k
    at [] d i j k l m = absurd (omega arith)
    at (x ∷ xs) d i zero k l m = absurd (omega arith)
    at (x ∷ xs) d zero (suc j) k l m = λ e. d.0 (subst (λ (y : ℕ). In y xs) (sym e) (in_get xs j k (omega arith)))
    at (x ∷ xs) d (suc i) (suc j) k l m = at xs d.1 i j k (omega arith) (omega arith)

pub distinct_from_upward : (xs : List ℕ) → AllPairs ◌<◌ xs → Distinct xs
distinct_from_upward [] h = tt
distinct_from_upward (x ∷ xs) h =
    (λ i. let c = contains_from_in xs x i in omega (arith, h 0 (suc c.0) x (omega arith) (omega (arith, c.1)), c.2), distinct_from_upward xs (λ i j d l m. h (suc i) (suc j) d (omega arith) (omega arith)))

-- a list of different ids, all in another list, is no longer than that
one_less : (x : ℕ) (ys : List ℕ) → In x ys → (zs : List ℕ) × (length ys ≡ suc (length zs)) × ((z : ℕ) → In z ys → (z ≡ x → ⊥) → In z zs)
one_less x [] i = absurd i
one_less x (y ∷ ys) i =
    ⊎_elim
    (λ e. (ys, refl, λ z j w. ⊎_elim (λ q. absurd (w (q ∙ sym e))) (λ a. a) j))
    (λ j. let r = one_less x ys j in (y ∷ r.0, ap suc r.1, λ z a w. ⊎_elim (λ q. inl q) (λ k. inr (r.2 z k w)) a))
    i

pub no_longer : (xs ys : List ℕ) → Distinct xs → ((x : ℕ) → In x xs → In x ys) → length xs ≤ length ys
no_longer [] ys d h = omega arith
no_longer (x ∷ xs) ys d h =
    let r = one_less x ys (h x (inl refl)) in
    let ih = no_longer xs r.0 d.1 (λ z i. r.2 z (h z (inr i)) (λ q. d.0 (subst (λ (k : ℕ). In k xs) q i))) in
    omega (arith, ih, r.1)

-- whether an id is marked
pub in_breaks : (bs : List ℕ) (x : ℕ) → breaks bs x ≡ true → In x bs
unfolding breaks
in_breaks [] x e = absurd (cc)
in_breaks (b ∷ bs) x e = at (b == x) refl (λ h. in_breaks bs x h) e
  where
    at : (v : Bool) → (b == x) ≡ v → (list_any (λ c. c == x) bs ≡ true → In x bs) → (v || list_any (λ c. c == x) bs) ≡ true → In x (b ∷ bs)
    at true q r h = inl (sym (eqb-true b x q))
    at false q r h = inr (r h)

pub breaks_in : (bs : List ℕ) (x : ℕ) → In x bs → breaks bs x ≡ true
unfolding breaks
breaks_in [] x i = absurd i
breaks_in (b ∷ bs) x i = ⊎_elim (λ q. rw (eq-eqb b x (sym q)) refl) (λ j. at (b == x) (breaks_in bs x j)) i
  where
    at : (v : Bool) → list_any (λ c. c == x) bs ≡ true → (v || list_any (λ c. c == x) bs) ≡ true
    at true h = refl
    at false h = h

-- the targets of an id are those of its edges
target_at : (b : Bool) (e : Edge) (x t : ℕ) (l : List Edge) (es : List Edge) → (e.source == x) ≡ b
    → (In t (map (λ d. d.target) l) → (d : Edge) × In d es × (d.source ≡ x) × (d.target ≡ t))
    → In t (map (λ d. d.target) (cond b (e ∷ l) l)) → (d : Edge) × In d (e ∷ es) × (d.source ≡ x) × (d.target ≡ t)
target_at true e x t l es q r i =
    ⊎_elim (λ w. (e, inl refl, eqb-true e.source x q, sym w)) (λ j. let a = r j in (a.0, inr a.1, a.2, a.3)) i
target_at false e x t l es q r i = let a = r i in (a.0, inr a.1, a.2, a.3)

pub edge_of_target : (edges : List Edge) (x t : ℕ) → In t (targets edges x) → (e : Edge) × In e edges × (e.source ≡ x) × (e.target ≡ t)
unfolding targets
edge_of_target [] x t i = absurd i
edge_of_target (e ∷ es) x t i = target_at (e.source == x) e x t (filter (λ d. d.source == x) es) es refl (edge_of_target es x t) i

pub target_of_edge : (edges : List Edge) (e : Edge) → In e edges → In e.target (targets edges e.source)
unfolding targets
target_of_edge edges e i = mapped (filter (λ d. d.source == e.source) edges) (in_filter (λ d. d.source == e.source) edges e (eq-eqb e.source e.source refl) i)
  where
    mapped : (es : List Edge) → In e es → In e.target (map (λ d. d.target) es)
    mapped [] i = i
    mapped (d ∷ ds) i = ⊎_elim (λ q. inl (ap (λ (c : Edge). c.target) q)) (λ j. inr (mapped ds j)) i

-- Edges between ids of the list run forward: no id of it leads to itself or to one before it.
abbrev pub Runs : (ℕ → List ℕ) → List ℕ → Type 0
Runs out [] = Unit {0}
Runs out (x ∷ xs) = ((y : ℕ) → In y (x ∷ xs) → In x (out y) → ⊥) × Runs out xs

runs_at : (out : ℕ → List ℕ) (xs : List ℕ) → Runs out xs → (i j : ℕ) → i < length xs → j < length xs → In (get_or xs j 0) (out (get_or xs i 0)) → i < j
runs_at out [] r i j l m e = absurd (omega arith)
runs_at out (x ∷ xs) r i zero l m e = absurd (r.0 (get_or (x ∷ xs) i 0) (in_get (x ∷ xs) i 0 l) e)
runs_at out (x ∷ xs) r zero (suc j) l m e = omega arith
runs_at out (x ∷ xs) r (suc i) (suc j) l m e = omega (arith, runs_at out xs r.1 i j (omega arith) (omega arith) e)

pub forward_from_runs : (edges : List Edge) (order : List ℕ) → Runs (targets edges) order → All (RunsForward order) edges
forward_from_runs edges order r =
    all_from_in (RunsForward order) edges
    (λ e i. λ a b l m p q. runs_at (targets edges) order r a b l m
    (subst (λ (t : ℕ). In t (targets edges (get_or order a 0))) (sym q) (subst (λ (x : ℕ). In e.target (targets edges x)) (sym p) (target_of_edge edges e i))))
