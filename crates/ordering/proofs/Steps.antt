-- The steps of the walk as the code takes them.
use Rattle.std.proofs.lemmas.Bool.{ltb-true, ltb-false, eqb-false}
use Rattle.std.proofs.Common.{◌≡◌, refl, sym, ap, ◌∙◌, subst, ℕ, zero, suc, ◌+◌, ◌-◌, ◌<◌, ◌≤◌, Bool, true, false, cond, if◌then◌else◌, not, List, [], ◌∷◌, ◌++◌, Option, Some, None, ◌==◌, nat_lt, ◌⊎◌, inl, inr, ⊎_elim, length, drop, is_some, eq-eqb, ne_eqb, arith, eqb-true}
use Rattle.std.specs.List.{find, position, position_or_len, range_with_len, All}
use Rattle.std.proofs.lemmas.List.{drop_more, drop_all}
use Rattle.tally.specs.Listed.{listed, passing}
use Rattle.layout.specs.Sizes.{id_room}
use Rattle.layout.specs.Header.{edge_count}
use Rattle.layout.specs.Edge.{edge_at}
use Rattle.layout.specs.Node.{is_breaker}
use Rattle.layout.specs.Views.{edges_of, breakers_of}
use Rattle.layout.specs.declared.index.Below.{Below}
use Rattle.ordering.specs.Walk.{Notes, flag, from, opened_or_muted, enter, finished_by, leave, along, step, visit}
use Rattle.ordering.specs.Order.{breaks, targets}
use Rattle.ordering.specs.View.{index_of, notes}
use Rattle.ordering.specs.declared.pass.Pass.{Pass}
use Rattle.ordering.proofs.Sets.{In}
use Rattle.ordering.proofs.Laws.{along_go, along_found}
use Rattle.ordering.proofs.Lists.{filter_in, in_filter, breaks_in, in_breaks, in_from_all}

-- ---- where an id stands on the path
from_len : (test : ℕ → Bool) (xs : List ℕ) → from test xs ≡ drop (position_or_len test xs) xs
unfolding from
from_len test [] = refl
from_len test (x ∷ xs) = at (test x) (from_len test xs)
  where
    at : (b : Bool) → from test xs ≡ drop (position_or_len test xs) xs
        → cond b (x ∷ xs) (from test xs) ≡ drop (cond (not b) (1 + position_or_len test xs) 0) (x ∷ xs)
    at true h = refl
    at false h = h ∙ ap (λ (n : ℕ). drop n (x ∷ xs)) (one (position_or_len test xs))
      where
        one : (n : ℕ) → suc n ≡ 1 + n
        one n = omega arith

place_some : (test : ℕ → Bool) (xs : List ℕ) (b : Bool) (k : ℕ) → nat_lt (position_or_len test xs) (length xs) ≡ b → cond b (Some (position_or_len test xs)) None ≡ Some k
    → (from test xs ≡ drop k xs) × (k < length xs)
place_some test xs true k t e =
    let q : position_or_len test xs ≡ k = cc in
    (from_len test xs ∙ ap (λ (n : ℕ). drop n xs) q, subst (λ (n : ℕ). n < length xs) q (ltb-true (position_or_len test xs) (length xs) t))
place_some test xs false k t e = absurd (cc)

place_none : (test : ℕ → Bool) (xs : List ℕ) (b : Bool) → nat_lt (position_or_len test xs) (length xs) ≡ b → cond b (Some (position_or_len test xs)) None ≡ None → from test xs ≡ []
place_none test xs true t e = absurd (cc)
place_none test xs false t e = from_len test xs ∙ drop_all (position_or_len test xs) xs (ltb-false (position_or_len test xs) (length xs) t)

pub from_some : (test : ℕ → Bool) (xs : List ℕ) (k : ℕ) → position test xs ≡ Some k → (from test xs ≡ drop k xs) × (k < length xs)
from_some test xs k e = place_some test xs (nat_lt (position_or_len test xs) (length xs)) k refl e

pub from_none : (test : ℕ → Bool) (xs : List ℕ) → position test xs ≡ None → from test xs ≡ []
from_none test xs e = place_none test xs (nat_lt (position_or_len test xs) (length xs)) refl e

-- ---- one visit
module _ (out : ℕ → List ℕ) (br : ℕ → Bool) where
  pub visit_meets : (n : Notes) (id k f u : ℕ) → position (λ x. x == id) n.path ≡ Some k → u < f
      → opened_or_muted n (drop k n.path) (find br (drop k n.path)) ≡ visit out br f n id
  unfolding visit step
  visit_meets n id k zero u e h = absurd (omega arith)
  visit_meets n id k (suc f) u e h =
      let w = from_some (λ x. x == id) n.path k e in
      let s = drop_more n.path k 0 w.1 in
      ap (λ (l : List ℕ). opened_or_muted n l (find br l)) s
      ∙ ap (λ (l : List ℕ). step (visit out br f) out br n id l (flag n.met id)) (sym s ∙ sym w.0)

  pub visit_skips : (n : Notes) (id f u : ℕ) → position (λ x. x == id) n.path ≡ None → flag n.met id ≡ true → u < f → n ≡ visit out br f n id
  unfolding visit step
  visit_skips n id zero u e o h = absurd (omega arith)
  visit_skips n id (suc f) u e o h = rw (from_none (λ x. x == id) n.path e, o) refl

  pub visit_enters : (n n₁ n₂ : Notes) (id f u v : ℕ) → position (λ x. x == id) n.path ≡ None → flag n.met id ≡ false → u < f → v + 1 ≡ u
      → n₁ ≡ enter n id → ((h : ℕ) → v < h → n₂ ≡ along (visit out br h) n₁ (out id)) → leave n.path id n₂ ≡ visit out br f n id
  unfolding visit step
  visit_enters n n₁ n₂ id zero u v e o h w p q = absurd (omega arith)
  visit_enters n n₁ n₂ id (suc f) u v e o h w p q =
      ap (leave n.path id) (q f (omega arith) ∙ ap (λ (m : Notes). along (visit out br f) m (out id)) p)
      ∙ ap (λ (b : Bool). step (visit out br f) out br n id [] b) (sym o)
      ∙ ap (λ (l : List ℕ). step (visit out br f) out br n id l (flag n.met id)) (sym (from_none (λ x. x == id) n.path e))

-- back from an id, in the words of the code
pub leaves : (w w' : Pass) (r : Option (Below id_room)) (b : Bool) (id : ℕ) (path : List ℕ) → b ≡ is_some r → w'.met ≡ w.met → w'.path.items ≡ path
    → w'.finished.items ≡ (if b then w.finished.items else w.finished.items ++ id ∷ []) → w'.muted ≡ w.muted
    → notes w' (index_of r) ≡ leave path id (notes w (index_of r))
unfolding leave finished_by
leaves w w' None true id path e p q s u = absurd (cc)
leaves w w' None false id path e p q s u = cc
leaves w w' (Some x) true id path e p q s u = cc
leaves w w' (Some x) false id path e p q s u = absurd (cc)

pub found_some : (r : Option (Below id_room)) → is_some r ≡ true → (b : ℕ) × (index_of r ≡ Some b)
found_some None e = absurd (cc)
found_some (Some x) e = (x.index, refl)

pub found_none : (r : Option (Below id_room)) → is_some r ≡ false → index_of r ≡ None
found_none None e = refl
found_none (Some x) e = absurd (cc)

-- ---- along some ids
module _ (go : Notes → ℕ → Notes) where
  -- the next one found nothing
  pub along_on : (n n' : Notes) (t : ℕ) (rest todo : List ℕ) → n.found ≡ None → todo ≡ t ∷ rest → n' ≡ go n t → along go n' rest ≡ along go n todo
  along_on n n' t rest todo z e q = ap (λ (m : Notes). along go m rest) q ∙ sym (along_go go n t rest z) ∙ ap (along go n) (sym e)

  -- the next one found a breaker
  pub along_stops : (n n' : Notes) (t b : ℕ) (rest todo : List ℕ) → n.found ≡ None → todo ≡ t ∷ rest → n' ≡ go n t → n'.found ≡ Some b → n' ≡ along go n todo
  along_stops n n' t b rest todo z e q s = sym (along_found go n' rest b s) ∙ along_on n n' t rest todo z e q

  pub along_ends : (n : Notes) (todo : List ℕ) → todo ≡ [] → n ≡ along go n todo
  unfolding along
  along_ends n todo e = rw e refl

-- ---- the stored edges of an id
left : (n k : ℕ) → k < n → n - k ≡ suc (n - (k + 1))
left n k h = omega arith

none_left : (n k : ℕ) → n ≤ k → n - k ≡ 0
none_left n k h = omega arith

module _ (s : List ℕ) (id : ℕ) where
  pub targets_all : (n : ℕ) → n ≡ edge_count s → targets (listed (edge_at s) (n - 0) 0) id ≡ targets (edges_of s) id
  unfolding edges_of
  targets_all n e = ap (λ (k : ℕ). targets (listed (edge_at s) k 0) id) (same n e)
    where
      same : (n : ℕ) → n ≡ edge_count s → n - 0 ≡ edge_count s
      same n e = omega arith

  pub targets_here : (n k : ℕ) → k < n → (edge_at s k).source ≡ id
      → targets (listed (edge_at s) (n - k) k) id ≡ (edge_at s k).target ∷ targets (listed (edge_at s) (n - (k + 1)) (k + 1)) id
  unfolding targets
  targets_here n k h e = ap (λ (m : ℕ). targets (listed (edge_at s) m k) id) (left n k h) ∙ rw (eq-eqb (edge_at s k).source id e) refl

  pub targets_on : (n k : ℕ) → k < n → ((edge_at s k).source ≡ id → ⊥)
      → targets (listed (edge_at s) (n - k) k) id ≡ targets (listed (edge_at s) (n - (k + 1)) (k + 1)) id
  unfolding targets
  targets_on n k h e = ap (λ (m : ℕ). targets (listed (edge_at s) m k) id) (left n k h) ∙ rw (ne_eqb (edge_at s k).source id e) refl

  pub targets_end : (n k : ℕ) → n ≤ k → targets (listed (edge_at s) (n - k) k) id ≡ []
  unfolding targets
  targets_end n k h = rw (none_left n k h) refl

-- ---- the ids that pass a test
module _ (p : ℕ → Bool) where
  pub passing_here : (n k : ℕ) → k < n → p k ≡ true → passing p (n - k) k ≡ k ∷ passing p (n - (k + 1)) (k + 1)
  unfolding passing
  passing_here n k h e = rw (left n k h, e) refl

  pub passing_on : (n k : ℕ) → k < n → p k ≡ false → passing p (n - k) k ≡ passing p (n - (k + 1)) (k + 1)
  unfolding passing
  passing_on n k h e = rw (left n k h, e) refl

  pub passing_end : (n k : ℕ) → n ≤ k → passing p (n - k) k ≡ []
  unfolding passing
  passing_end n k h = rw (none_left n k h) refl

  pub in_range : (n k x : ℕ) → k ≤ x → x < k + n → In x (range_with_len k n)
  in_range zero k x h l = absurd (omega arith)
  in_range (suc n) k x h l = ⊎_elim (λ e. inl e) (λ g. inr (in_range n (k + 1) x g (omega arith))) (next x k h)
    where
      next : (x k : ℕ) → k ≤ x → (x ≡ k) ⊎ (k + 1 ≤ x)
      next x k h = at (x == k) refl
        where
          at : (b : Bool) → (x == k) ≡ b → (x ≡ k) ⊎ (k + 1 ≤ x)
          at true e = inl (eqb-true x k e)
          at false e = inr (omega (arith, eqb-false x k e))

  pub in_passing : (n k x : ℕ) → k ≤ x → x < k + n → p x ≡ true → In x (passing p n k)
  unfolding passing
  in_passing n k x h l e = in_filter p (range_with_len k n) x e (in_range n k x h l)

  pub passing_in : (n k x : ℕ) → In x (passing p n k) → p x ≡ true
  unfolding passing
  passing_in n k x i = (filter_in p (range_with_len k n) x i).1

  breaks_passing_at : (n k x : ℕ) (b c : Bool) → p x ≡ b → breaks (passing p n k) x ≡ c → k ≤ x → x < k + n → c ≡ b
  breaks_passing_at n k x true true e h l m = refl
  breaks_passing_at n k x false false e h l m = refl
  breaks_passing_at n k x true false e h l m = let q = breaks_in (passing p n k) x (in_passing n k x l m e) in cc
  breaks_passing_at n k x false true e h l m = let q = passing_in n k x (in_breaks (passing p n k) x h) in cc

  pub breaks_passing : (n k x : ℕ) → k ≤ x → x < k + n → breaks (passing p n k) x ≡ p x
  breaks_passing n k x h l = breaks_passing_at n k x (p x) (breaks (passing p n k) x) refl refl h l

pub breaks_is : (s : List ℕ) (x : ℕ) → x < id_room → breaks (breakers_of s) x ≡ is_breaker s x
unfolding breakers_of
breaks_is s x l = breaks_passing (is_breaker s) id_room 0 x (omega arith) (omega arith)

-- the first breaker among ids below the bound
pub find_breaker : (s xs : List ℕ) → All (λ x. x < id_room) xs → find (is_breaker s) xs ≡ find (breaks (breakers_of s)) xs
find_breaker s xs a = at xs (in_from_all (λ x. x < id_room) xs a)
  where
    at : (xs : List ℕ) → ((x : ℕ) → In x xs → x < id_room) → find (is_breaker s) xs ≡ find (breaks (breakers_of s)) xs
    at [] h = refl
    at (x ∷ xs) h = rw (breaks_is s x (h x (inl refl)), at xs (λ y i. h y (inr i))) refl
