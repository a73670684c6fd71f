-- Membership, flags, chains of ids, and the part of a path from an id on.
use Rattle.std.proofs.Common.{◌≡◌, refl, sym, ap, ◌∙◌, subst, ℕ, zero, suc, ◌+◌, ◌<◌, Bool, true, false, cond, not, List, [], ◌∷◌, ◌++◌, Option, Some, None, ◌⊎◌, inl, inr, ⊎_elim, length, slice_set, length-set, arith}
use Rattle.std.specs.List.{find}
use Rattle.std.proofs.lemmas.List.Sums.{sum_by-set}
use Rattle.ordering.specs.Walk.{flag, from, mute_all, unmet}

abbrev pub In : {A : Type 0} → A → List A → Type 0
In x [] = ⊥
In x (y ∷ ys) = (x ≡ y) ⊎ In x ys

abbrev pub Distinct : List ℕ → Type 0
Distinct [] = Unit {0}
Distinct (x ∷ xs) = (In x xs → ⊥) × Distinct xs

-- a flag is set
abbrev pub On : List Bool → ℕ → Type 0
On m x = flag m x ≡ true

abbrev pub first : List ℕ → ℕ → ℕ
first [] id = id
first (x ∷ xs) id = x

-- from each id of the list an edge leads to the next one, and from the last to id
abbrev pub Chain : (ℕ → List ℕ) → List ℕ → ℕ → Type 0
Chain out [] id = Unit {0}
Chain out (x ∷ xs) id = In (first xs id) (out x) × Chain out xs id

-- y lies on a cycle of ids that are no breakers
pub record Round (out : ℕ → List ℕ) (br : ℕ → Bool) (y : ℕ) : Type 0 where
  pub ids : List ℕ
  pub on : In y ids
  pub closed : Chain out ids (first ids y)
  pub plain : (z : ℕ) → In z ids → br z ≡ false

-- Of a list whose last comes first: each edge of an id that is not muted leads to an id further down.
abbrev pub Forward : (ℕ → List ℕ) → List Bool → List ℕ → Type 0
Forward out m [] = Unit {0}
Forward out m (x ∷ xs) = ((t : ℕ) → In t (out x) → In t xs ⊎ On m x) × Forward out m xs

-- flags
pub on_set : (m : List Bool) (x y : ℕ) → On m y → On (slice_set m x true) y
on_set [] x y h = h
on_set (a ∷ as') zero zero h = refl
on_set (a ∷ as') zero (suc y) h = h
on_set (a ∷ as') (suc x) zero h = h
on_set (a ∷ as') (suc x) (suc y) h = on_set as' x y h

pub on_here : (m : List Bool) (x : ℕ) → x < length m → On (slice_set m x true) x
on_here [] x h = absurd (omega arith)
on_here (a ∷ as') zero h = refl
on_here (a ∷ as') (suc x) h = on_here as' x (omega arith)

pub on_only : (m : List Bool) (x y : ℕ) → On (slice_set m x true) y → On m y ⊎ (y ≡ x)
on_only [] x y h = inl h
on_only (a ∷ as') zero zero h = inr refl
on_only (a ∷ as') zero (suc y) h = inl h
on_only (a ∷ as') (suc x) zero h = inl h
on_only (a ∷ as') (suc x) (suc y) h = ⊎_elim (λ l. inl l) (λ e. inr (ap suc e)) (on_only as' x y h)

-- a flag more is an id fewer that was not met
pub unmet_set : (m : List Bool) (x : ℕ) → x < length m → flag m x ≡ false → unmet (slice_set m x true) + 1 ≡ unmet m
unmet_set m x h e = let k = sum_by-set (λ met. cond (not met) 1 0) m x true false h in omega (arith, rw e at k)

pub mute_keeps : (m : List Bool) (xs : List ℕ) (y : ℕ) → On m y → On (mute_all m xs) y
unfolding mute_all
mute_keeps m [] y h = h
mute_keeps m (x ∷ xs) y h = mute_keeps (slice_set m x true) xs y (on_set m x y h)

pub mute_only : (m : List Bool) (xs : List ℕ) (y : ℕ) → On (mute_all m xs) y → On m y ⊎ In y xs
unfolding mute_all
mute_only m [] y h = inl h
mute_only m (x ∷ xs) y h =
    ⊎_elim (λ l. ⊎_elim (λ o. inl o) (λ e. inr (inl e)) (on_only m x y l)) (λ i. inr (inr i)) (mute_only (slice_set m x true) xs y h)

pub mute_length : (m : List Bool) (xs : List ℕ) → length (mute_all m xs) ≡ length m
unfolding mute_all
mute_length m [] = refl
mute_length m (x ∷ xs) = mute_length (slice_set m x true) xs ∙ length-set m x true

pub mute_here : (m : List Bool) (xs : List ℕ) (y : ℕ) → In y xs → y < length m → On (mute_all m xs) y
unfolding mute_all
mute_here m [] y i h = absurd i
mute_here m (x ∷ xs) y i h =
    ⊎_elim
    (λ e. mute_keeps (slice_set m x true) xs y (subst (λ (z : ℕ). On (slice_set m z true) y) e (on_here m y h)))
    (λ j. mute_here (slice_set m x true) xs y j (rw (length-set m x true) h))
    i

-- the end of a list
pub data Ends : List ℕ → ℕ → Type 0 where
  end : {z : ℕ} → Ends (z ∷ []) z
  more : {y z : ℕ} {p : List ℕ} → Ends p z → Ends (y ∷ p) z

pub ends_snoc : (p : List ℕ) (z : ℕ) → Ends (p ++ (z ∷ [])) z
ends_snoc [] z = end
ends_snoc (y ∷ p) z = more (ends_snoc p z)

pub ends_in : {p : List ℕ} {z : ℕ} → Ends p z → In z p
ends_in end = inl refl
ends_in (more e) = inr (ends_in e)

pub in_snoc : (p : List ℕ) (z x : ℕ) → In x (p ++ (z ∷ [])) → In x p ⊎ (x ≡ z)
in_snoc [] z x i = ⊎_elim (λ e. inr e) (λ j. absurd j) i
in_snoc (y ∷ p) z x i = ⊎_elim (λ e. inl (inl e)) (λ j. ⊎_elim (λ k. inl (inr k)) (λ e. inr e) (in_snoc p z x j)) i

pub snoc_in : (p : List ℕ) (z x : ℕ) → In x p → In x (p ++ (z ∷ []))
snoc_in [] z x i = absurd i
snoc_in (y ∷ p) z x i = ⊎_elim (λ e. inl e) (λ j. inr (snoc_in p z x j)) i

pub snoc_last : (p : List ℕ) (z : ℕ) → In z (p ++ (z ∷ []))
snoc_last [] z = inl refl
snoc_last (y ∷ p) z = inr (snoc_last p z)

-- chains
first_snoc : (out : ℕ → List ℕ) (p : List ℕ) (z t x : ℕ) → In (first p z) (out x) → In (first (p ++ (z ∷ [])) t) (out x)
first_snoc out [] z t x i = i
first_snoc out (y ∷ p) z t x i = i

pub chain_snoc : (out : ℕ → List ℕ) (p : List ℕ) (z t : ℕ) → Chain out p z → In t (out z) → Chain out (p ++ (z ∷ [])) t
chain_snoc out [] z t c i = (i, tt)
chain_snoc out (y ∷ p) z t c i = (first_snoc out p z t y c.0, chain_snoc out p z t c.1 i)

pub chain_out : (out : ℕ → List ℕ) (p : List ℕ) (z x : ℕ) → Chain out p z → In x p → (t : ℕ) × In t (out x)
chain_out out [] z x c i = absurd i
chain_out out (y ∷ p) z x c i = ⊎_elim (λ e. (first p z, rw e c.0)) (λ j. chain_out out p z x c.1 j) i

-- the part from the first id on that passes the test
module _ (test : ℕ → Bool) where
  in_at : (b : Bool) (y : ℕ) (ys l : List ℕ) (z : ℕ) → (In z l → In z ys) → In z (cond b (y ∷ ys) l) → In z (y ∷ ys)
  in_at true y ys l z r i = i
  in_at false y ys l z r i = inr (r i)

  pub from_in : (p : List ℕ) (z : ℕ) → In z (from test p) → In z p
  unfolding from
  from_in [] z i = i
  from_in (y ∷ ys) z i = in_at (test y) y ys (from test ys) z (from_in ys z) i

  chain_at : (out : ℕ → List ℕ) (b : Bool) (y : ℕ) (ys l : List ℕ) (z : ℕ) → Chain out l z → Chain out (y ∷ ys) z → Chain out (cond b (y ∷ ys) l) z
  chain_at out true y ys l z r c = c
  chain_at out false y ys l z r c = r

  pub from_chain : (out : ℕ → List ℕ) (p : List ℕ) (z : ℕ) → Chain out p z → Chain out (from test p) z
  unfolding from
  from_chain out [] z c = c
  from_chain out (y ∷ ys) z c = chain_at out (test y) y ys (from test ys) z (from_chain out ys z c.1) c

  head_at : (b : Bool) (y : ℕ) (ys l : List ℕ) (x : ℕ) (xs : List ℕ) → test y ≡ b → (l ≡ x ∷ xs → test x ≡ true) → cond b (y ∷ ys) l ≡ x ∷ xs → test x ≡ true
  head_at true y ys l x xs t r e = let q : y ≡ x = cc in ap test (sym q) ∙ t
  head_at false y ys l x xs t r e = r e

  pub from_head : (p : List ℕ) (x : ℕ) (xs : List ℕ) → from test p ≡ x ∷ xs → test x ≡ true
  unfolding from
  from_head [] x xs e = cc
  from_head (y ∷ ys) x xs e = head_at (test y) y ys (from test ys) x xs refl (from_head ys x xs) e

  none_at : (b : Bool) (y : ℕ) (ys l : List ℕ) (z : ℕ) → test y ≡ b → (l ≡ [] → In z ys → test z ≡ false) → cond b (y ∷ ys) l ≡ [] → In z (y ∷ ys) → test z ≡ false
  none_at true y ys l z t r e i = cc
  none_at false y ys l z t r e i = ⊎_elim (λ q. ap test q ∙ t) (λ j. r e j) i

  pub from_nothing : (p : List ℕ) (z : ℕ) → from test p ≡ [] → In z p → test z ≡ false
  unfolding from
  from_nothing [] z e i = absurd i
  from_nothing (y ∷ ys) z e i = none_at (test y) y ys (from test ys) z refl (from_nothing ys z) e i

  ends_at : (b : Bool) (y : ℕ) (ys l : List ℕ) (z : ℕ) → Ends ys z → In z l ⊎ (l ≡ []) → In z (cond b (y ∷ ys) l) ⊎ (cond b (y ∷ ys) l ≡ [])
  ends_at true y ys l z h r = inl (inr (ends_in h))
  ends_at false y ys l z h r = r

  end_at : (b : Bool) (z : ℕ) → In z (cond b (z ∷ []) []) ⊎ (cond b (z ∷ []) [] ≡ [])
  end_at true z = inl (inl refl)
  end_at false z = inr refl

  pub from_ends : {p : List ℕ} {z : ℕ} → Ends p z → In z (from test p) ⊎ (from test p ≡ [])
  unfolding from
  from_ends (end {z = z}) = end_at (test z) z
  from_ends (more {y = y} {z = z} {p = p} h) = ends_at (test y) y p (from test p) z h (from_ends h)

  some_at : (b : Bool) (y z : ℕ) (ys : List ℕ) (r : Option ℕ) → test y ≡ b → (r ≡ Some z → In z ys × (test z ≡ true)) → cond b (Some y) r ≡ Some z → In z (y ∷ ys) × (test z ≡ true)
  some_at true y z ys r t h e = let q : y ≡ z = cc in (inl (sym q), ap test (sym q) ∙ t)
  some_at false y z ys r t h e = let k = h e in (inr k.0, k.1)

  pub find_some : (p : List ℕ) (z : ℕ) → find test p ≡ Some z → In z p × (test z ≡ true)
  find_some [] z e = absurd (cc)
  find_some (y ∷ ys) z e = some_at (test y) y z ys (find test ys) refl (find_some ys z) e

  missing_at : (b : Bool) (y z : ℕ) (ys : List ℕ) (r : Option ℕ) → test y ≡ b → (r ≡ None → In z ys → test z ≡ false) → cond b (Some y) r ≡ None → In z (y ∷ ys) → test z ≡ false
  missing_at true y z ys r t h e i = cc
  missing_at false y z ys r t h e i = ⊎_elim (λ q. ap test q ∙ t) (λ j. h e j) i

  pub find_none : (p : List ℕ) (z : ℕ) → find test p ≡ None → In z p → test z ≡ false
  find_none [] z e i = absurd i
  find_none (y ∷ ys) z e i = missing_at (test y) y z ys (find test ys) refl (find_none ys z) e i

-- muting more keeps what is forward
pub forward_more : (out : ℕ → List ℕ) (m m' : List Bool) (xs : List ℕ) → ((y : ℕ) → On m y → On m' y) → Forward out m xs → Forward out m' xs
forward_more out m m' [] g f = tt
forward_more out m m' (x ∷ xs) g f = (λ t i. ⊎_elim (λ j. inl j) (λ o. inr (g x o)) (f.0 t i), forward_more out m m' xs g f.1)
