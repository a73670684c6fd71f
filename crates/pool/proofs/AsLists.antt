-- What the steps on rows are where a row is seen as the list of the slots that it names.
use Rattle.std.proofs.Common.{◌≡◌, refl, sym, ap, ◌∙◌, ℕ, ◌+◌, ◌-◌, ◌<◌, ◌≤◌, List, [], ◌∷◌, ◌++◌, take, arith}
use Rattle.std.proofs.lemmas.List.FromFn.{take-map-range_with_len, map-range_with_len_more}
use Rattle.tally.specs.Listed.{listed}
use Rattle.tally.proofs.Lists.{listed_ext}
use Rattle.layout.specs.Sizes.{row_room}
use Rattle.layout.specs.Header.{slots_of}
use Rattle.layout.specs.Row.{channels_of, place_of, cap_of}
use Rattle.layout.specs.Views.{row_of}
use Rattle.pool.specs.Rows.{Held, popped, pushed, truncated, cleared, shared}
use Rattle.pool.proofs.Names.{But}
use Rattle.pool.proofs.Rows.{popped_turned, popped_place, pushed_turned, pushed_at, pushed_place, truncated_turned, truncated_place, cleared_turned, cleared_at, shared_turned, shared_place}

-- a row that has n channels, each naming what f says
row_is : (s : List ℕ) (r n : ℕ) (f : ℕ → ℕ) → channels_of s r ≡ n → ((c : ℕ) → c < n → place_of s r c ≡ f c) → row_of s r ≡ listed f n 0
unfolding row_of
row_is s r n f e h = rw e (listed_ext (place_of s r) f n 0 (λ c l. h (0 + c) (omega arith)))

row_list : (s : List ℕ) (r : ℕ) → listed (place_of s r) (channels_of s r) 0 ≡ row_of s r
unfolding row_of
row_list s r = refl

-- the first n channels
front : (s : List ℕ) (r n : ℕ) → n ≤ channels_of s r → listed (place_of s r) n 0 ≡ take n (row_of s r)
unfolding row_of
front s r n l = sym (take-map-range_with_len (place_of s r) 0 (channels_of s r) n l)

-- a step on row r leaves the list of every other row
pub other_list : (s t : List ℕ) (r q : ℕ) → But r s t → q < row_room → (q ≡ r → ⊥) → row_of t q ≡ row_of s q
other_list s t r q b l u = row_is t q (channels_of s q) (place_of s q) (b.channels q l u) (λ c m. b.places q c l m u) ∙ row_list s q

module _ (s : List ℕ) (r : ℕ) (h : Held s) (l : r < row_room) where
  pub popped_list : 0 < channels_of s r → row_of (popped s r) r ≡ take (channels_of s r - 1) (row_of s r)
  popped_list m =
      row_is (popped s r) r (channels_of s r - 1) (place_of s r) (popped_turned s r h l m).channels (λ c p. popped_place s r h l m c p)
      ∙ front s r (channels_of s r - 1) (omega arith)

  pub truncated_list : (n : ℕ) → n ≤ channels_of s r → row_of (truncated s r n) r ≡ take n (row_of s r)
  truncated_list n m =
      row_is (truncated s r n) r n (place_of s r) (truncated_turned s r n h l m).channels (λ c p. truncated_place s r n h l m c p) ∙ front s r n m

  pub pushed_list : (k : ℕ) → channels_of s r < cap_of s r → k < slots_of s → row_of (pushed s r k) r ≡ row_of s r ++ (k ∷ [])
  unfolding row_of
  pushed_list k m f =
      let t = pushed s r k in
      let n = channels_of s r in
      let e = (pushed_turned s r k h l m f).channels in
      rw e
      (map-range_with_len_more (place_of t r) 0 n n (omega arith)
      ∙ rw (pushed_at s r k h l m f)
      (ap (λ (xs : List ℕ). xs ++ (k ∷ [])) (listed_ext (place_of t r) (place_of s r) n 0 (λ c p. pushed_place s r k h l m f (0 + c) (omega arith)))))

  pub cleared_list : 0 < cap_of s r → row_of (cleared s r) r ≡ 0 ∷ []
  cleared_list m =
      row_is (cleared s r) r 1 (λ _. 0) (cleared_turned s r h l m).channels
      (λ c p. let e : c ≡ 0 = omega arith in ap (place_of (cleared s r) r) e ∙ cleared_at s r h l m)

pub shared_list : (s : List ℕ) (from to : ℕ) → Held s → from < row_room → to < row_room → (from ≡ to → ⊥) → channels_of s from ≤ cap_of s to → row_of (shared s from to) to ≡ row_of s from
shared_list s from to h l m u f =
    row_is (shared s from to) to (channels_of s from) (place_of s from) (shared_turned from to l m u s h f).channels (λ c p. shared_place from to l m u s h f c p) ∙ row_list s from
