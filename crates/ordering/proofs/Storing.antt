-- The steps by which the lists are made and stored, and edges cleared.
use Rattle.std.proofs.Math.Seq.{take-append_seam}
use Rattle.std.proofs.Common.{◌≡◌, refl, sym, ap, ◌∙◌, ℕ, zero, suc, ◌+◌, ◌-◌, ◌<◌, ◌≤◌, Bool, true, false, cond, if◌then◌else◌, not, List, [], ◌∷◌, ◌++◌, length, get_or, take, drop, filter, reverse, eq-eqb, ne_eqb, arith, subst}
use Rattle.std.specs.List.{range_with_len, refill, All}
use Rattle.std.proofs.lemmas.List.{at_drop_more, at_drop_all, append-nil, length-reverse, get_or-reverse}
use Rattle.std.proofs.lemmas.List.Elements.{filter-append, filter_more}
use Rattle.tally.specs.Listed.{passing}
use Rattle.layout.specs.Sizes.{id_room}
use Rattle.layout.specs.Header.{edge_count, set_edge_count}
use Rattle.layout.specs.Edge.{edge_at, edge_word, set_edge_at}
use Rattle.layout.specs.Node.{is_present}
use Rattle.layout.specs.Views.{present_of}
use Rattle.ordering.specs.Walk.{Notes, flag}
use Rattle.ordering.specs.Order.{sounding, silent}
use Rattle.ordering.specs.State.{clear_from, clear}
use Rattle.ordering.specs.Listing.{set_at, set_length, put_list}
use Rattle.ordering.specs.declared.list.IdList.{IdList}

-- storing
pub list_on : (list : IdList) (s ids : List ℕ) (k : ℕ) → k < length ids → put_list list (set_at list s k (get_or ids k 0)) (drop (k + 1) ids) (k + 1) ≡ put_list list s (drop k ids) k
unfolding put_list
list_on list s ids k l = sym (at_drop_more (λ xs. put_list list s xs k) ids k 0 l)

pub list_end : (list : IdList) (s ids : List ℕ) (k : ℕ) → length ids ≤ k → put_list list s (drop k ids) k ≡ set_length list s k
unfolding put_list
list_end list s ids k l = at_drop_all (λ xs. put_list list s xs k) ids k l

-- the muted ids among those present
pub passing_none : (p : ℕ → Bool) (k : ℕ) → passing p 0 k ≡ []
unfolding passing
passing_none p k = refl

range_more : (n k : ℕ) → range_with_len k (suc n) ≡ range_with_len k n ++ (k + n) ∷ []
range_more zero k = let e : k ≡ k + 0 = omega arith in ap (λ (x : ℕ). x ∷ []) e
range_more (suc n) k = let e : k + 1 + n ≡ k + suc n = omega arith in ap (λ (l : List ℕ). k ∷ l) (range_more n (k + 1) ∙ ap (λ (x : ℕ). range_with_len (k + 1) n ++ x ∷ []) e)

pub passing_more : (p : ℕ → Bool) (n : ℕ) → passing p (n + 1) 0 ≡ passing p n 0 ++ cond (p n) (n ∷ []) []
unfolding passing
passing_more p n =
    let a : n + 1 ≡ suc n = omega arith in
    let b : 0 + n ≡ n = omega arith in
    ap (λ (m : ℕ). filter p (range_with_len 0 m)) a ∙ ap (filter p) (range_more n 0 ∙ ap (λ (x : ℕ). range_with_len 0 n ++ x ∷ []) b) ∙ filter-append p (range_with_len 0 n) (n ∷ [])

module _ (p q : ℕ → Bool) where
  silent_more : (n : ℕ) → filter q (passing p (n + 1) 0) ≡ filter q (passing p n 0) ++ filter q (cond (p n) (n ∷ []) [])
  silent_more n = ap (filter q) (passing_more p n) ∙ filter-append q (passing p n 0) (cond (p n) (n ∷ []) [])

  pub silent_yes : (n : ℕ) → p n ≡ true → q n ≡ true → filter q (passing p (n + 1) 0) ≡ filter q (passing p n 0) ++ n ∷ []
  silent_yes n e h = silent_more n ∙ rw (e, h) refl

  pub silent_no : (n : ℕ) → p n ≡ true → q n ≡ false → filter q (passing p (n + 1) 0) ≡ filter q (passing p n 0)
  silent_no n e h = silent_more n ∙ rw (e, h) (append-nil (filter q (passing p n 0)))

  pub silent_absent : (n : ℕ) → p n ≡ false → filter q (passing p (n + 1) 0) ≡ filter q (passing p n 0)
  silent_absent n e = silent_more n ∙ rw e (append-nil (filter q (passing p n 0)))

-- clearing
left : (n k : ℕ) → k < n → n - k ≡ suc (n - (k + 1))
left n k h = omega arith

none_left : (n k : ℕ) → n ≤ k → n - k ≡ 0
none_left n k h = omega arith

pub clear_kept : (b : ℕ) (s : List ℕ) (n i j : ℕ) → i < n → (edge_word s i 0 ≡ b → ⊥) → clear_from b (set_edge_at s j (edge_at s i)) (n - (i + 1)) (i + 1) (j + 1) ≡ clear_from b s (n - i) i j
unfolding clear_from
clear_kept b s n i j h q =
    sym (ap (λ (m : ℕ). clear_from b s m i j) (left n i h)
    ∙ ap (λ (t : Bool). clear_from b (if t then s else set_edge_at s j (edge_at s i)) (n - (i + 1)) (i + 1) (if t then j else j + 1)) (ne_eqb (edge_word s i 0) b q))

pub clear_gone : (b : ℕ) (s : List ℕ) (n i j : ℕ) → i < n → edge_word s i 0 ≡ b → clear_from b s (n - (i + 1)) (i + 1) j ≡ clear_from b s (n - i) i j
unfolding clear_from
clear_gone b s n i j h q =
    sym (ap (λ (m : ℕ). clear_from b s m i j) (left n i h)
    ∙ ap (λ (t : Bool). clear_from b (if t then s else set_edge_at s j (edge_at s i)) (n - (i + 1)) (i + 1) (if t then j else j + 1)) (eq-eqb (edge_word s i 0) b q))

pub clear_end : (b : ℕ) (s : List ℕ) (n i j : ℕ) → n ≤ i → clear_from b s (n - i) i j ≡ set_edge_count s j
unfolding clear_from
clear_end b s n i j h = ap (λ (m : ℕ). clear_from b s m i j) (none_left n i h)

pub clear_all : (b : ℕ) (s : List ℕ) (n : ℕ) → n ≡ edge_count s → clear_from b s (n - 0) 0 0 ≡ clear s b
unfolding clear
clear_all b s n e = ap (λ (m : ℕ). clear_from b s m 0 0) (same n e)
  where
    same : (n : ℕ) → n ≡ edge_count s → n - 0 ≡ edge_count s
    same n e = omega arith

-- a list written over another of its length
pub refilled : (n : ℕ) (xs ws : List ℕ) → length ws ≡ n → refill n xs ws ≡ ws
refilled n xs ws e = ap (λ (m : ℕ). take m (ws ++ drop (length ws) xs)) (sym e) ∙ take-append_seam ws (drop (length ws) xs)

-- a list filtered as far as an index, and one element more
pub kept_yes : (p : ℕ → Bool) (xs : List ℕ) (k : ℕ) → k < length xs → p (get_or xs k 0) ≡ true → filter p (take (k + 1) xs) ≡ filter p (take k xs) ++ get_or xs k 0 ∷ []
kept_yes p xs k l e = filter_more p xs k 0 l ∙ rw e refl

pub kept_no : (p : ℕ → Bool) (xs : List ℕ) (k : ℕ) → k < length xs → p (get_or xs k 0) ≡ false → filter p (take (k + 1) xs) ≡ filter p (take k xs)
kept_no p xs k l e = filter_more p xs k 0 l ∙ rw e (append-nil (filter p (take k xs)))

pub all_reverse : (P : ℕ → Type 0) (xs : List ℕ) → All P xs → All P (reverse xs)
all_reverse P xs h = λ k d l.
    let n = length-reverse xs in
    subst P (sym (get_or-reverse xs k d (omega arith))) (h (length xs - 1 - k) d (omega arith))

-- the order
pub sounding_all : (n : Notes) → reverse (filter (λ x. not (flag n.muted x)) n.finished) ≡ sounding n
unfolding sounding
sounding_all n = refl

pub silent_all : (s : List ℕ) (n : Notes) → filter (flag n.muted) (passing (is_present s) id_room 0) ≡ silent n (present_of s)
unfolding silent present_of
silent_all s n = refl
