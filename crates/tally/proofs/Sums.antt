-- Laws of sums: what one changed term does to a sum, bounds, and the swap of two sums.
use Rattle.std.proofs.Common.{◌≡◌, ◌⊎◌, ℕ, zero, suc, ◌+◌, ◌*◌, ◌-◌, ◌<◌, ◌≤◌, if◌then◌else◌, nat_lt, refl, sym, mul-suc, mul-zero, add-mul, add-one, add-suc, add-zero, arith, eq-eqb, ne_eqb, lt-ltb, le-ltb, one-mul}
use Rattle.tally.specs.Tally.{tally, is}

pub is_same : (a k : ℕ) → a ≡ k → is a k ≡ 1
unfolding is
is_same a k e = rw eq-eqb

pub is_other : (a k : ℕ) → (a ≡ k → ⊥) → is a k ≡ 0
unfolding is
is_other a k h = rw ne_eqb

pub tally-suc : (f : ℕ → ℕ) (n : ℕ) → tally f (n + 1) ≡ tally f n + f n
unfolding tally
tally-suc f n = rw add-one

-- equal terms, equal sums
pub tally_ext : (f g : ℕ → ℕ) (n : ℕ) → ((i : ℕ) → i < n → f i ≡ g i) → tally f n ≡ tally g n
unfolding tally
tally_ext f g zero h = refl
tally_ext f g (suc n) h = omega (arith, tally_ext f g n (λ i p. h i (omega arith)))

-- terms that are equal but for one
pub tally_one : (f g : ℕ → ℕ) (n p : ℕ) → p < n → ((i : ℕ) → i < n → (i ≡ p → ⊥) → f i ≡ g i) → tally f n + g p ≡ tally g n + f p
unfolding tally
tally_one f g zero p l h = absurd (omega arith)
tally_one f g (suc n) p l h =
    let here = λ (e : p ≡ n). tally_ext f g n (λ i m. h i (omega arith) (omega arith)) in
    let below = λ (b : p < n). tally_one f g n p b (λ i m. h i (omega arith)) in
    grind arith

pub tally_zero : (f : ℕ → ℕ) (n : ℕ) → ((i : ℕ) → i < n → f i ≡ 0) → tally f n ≡ 0
unfolding tally
tally_zero f zero h = refl
tally_zero f (suc n) h = omega (arith, tally_zero f n (λ i p. h i (omega arith)))

pub tally_le : (f g : ℕ → ℕ) (n : ℕ) → ((i : ℕ) → i < n → f i ≤ g i) → tally f n ≤ tally g n
unfolding tally
tally_le f g zero h = omega arith
tally_le f g (suc n) h = omega (arith, tally_le f g n (λ i p. h i (omega arith)))

-- the same with d to spare at one term
pub tally_slack : (f g : ℕ → ℕ) (n p d : ℕ) → p < n → ((i : ℕ) → i < n → f i ≤ g i) → f p + d ≤ g p → tally f n + d ≤ tally g n
unfolding tally
tally_slack f g zero p d l h k = absurd (omega arith)
tally_slack f g (suc n) p d l h k =
    let rest = tally_le f g n (λ i m. h i (omega arith)) in
    let below = λ (b : p < n). tally_slack f g n p d b (λ i m. h i (omega arith)) k in
    grind arith

pub tally_ones : (n : ℕ) → tally (λ _. 1) n ≡ n
unfolding tally
tally_ones zero = refl
tally_ones (suc n) = omega (arith, tally_ones n)

-- a term is at most the sum
pub tally_ge : (f : ℕ → ℕ) (n p : ℕ) → p < n → f p ≤ tally f n
tally_ge f n p l = omega (arith, tally_slack (λ _. 0) f n p (f p) l (λ i m. omega arith) (omega arith), tally_zero (λ _. 0) n (λ i m. refl))

pub tally_add : (f g : ℕ → ℕ) (n : ℕ) → tally (λ i. f i + g i) n ≡ tally f n + tally g n
unfolding tally
tally_add f g zero = refl
tally_add f g (suc n) = omega (arith, tally_add f g n)

pub tally_swap : (f : ℕ → ℕ → ℕ) (n m : ℕ) → tally (λ i. tally (λ j. f i j) m) n ≡ tally (λ j. tally (λ i. f i j) n) m
unfolding tally
tally_swap f zero m = sym (tally_zero (λ j. 0) m (λ j p. refl))
tally_swap f (suc n) m = omega (arith, tally_swap f n m, tally_add (λ j. tally (λ i. f i j) n) (λ j. f n j) m)

-- v is one of 1 .. m at most once, and never where it is 0
pub tally_is_0 : (v m : ℕ) → (v ≡ 0) ⊎ (m < v) → tally (λ j. is v (suc j)) m ≡ 0
tally_is_0 v m h = tally_zero (λ j. is v (suc j)) m (λ j p. is_other v (suc j) (λ e. omega arith))

pub tally_is_1 : (v m : ℕ) → tally (λ j. is v (suc j)) m ≤ 1
unfolding tally
tally_is_1 v zero = omega arith
tally_is_1 v (suc m) = grind (arith, tally_is_1 v m, tally_is_0, is_same, is_other)

-- a sum in two parts, in blocks of k terms, and of multiples
pub tally_split : (f : ℕ → ℕ) (m n : ℕ) → tally f (m + n) ≡ tally f m + tally (λ i. f (m + i)) n
unfolding tally
tally_split f m zero = simp add-zero
tally_split f m (suc n) = rw add-suc (omega (arith, tally_split f m n))

pub tally_blocks : (f : ℕ → ℕ) (k n : ℕ) → tally f (k * n) ≡ tally (λ i. tally (λ j. f (k * i + j)) k) n
unfolding tally
tally_blocks f k zero = rw mul-zero
tally_blocks f k (suc n) = rw mul-suc (omega (arith, tally_blocks f k n, tally_split f (k * n) k))

pub tally_times : (f : ℕ → ℕ) (c n : ℕ) → tally (λ i. f i * c) n ≡ tally f n * c
unfolding tally
tally_times f c zero = omega arith
tally_times f c (suc n) = grind (arith, tally_times f c n, add-mul)

-- the first m of n terms are c, and the others 0
pub tally_first : (c m n : ℕ) → m ≤ n → tally (λ i. if nat_lt i m then c else 0) n ≡ m * c
tally_first c m n l =
    let f = λ (i : ℕ). if nat_lt i m then c else 0 in
    let e : m + (n - m) ≡ n = omega arith in
    let front = tally_ext f (λ _. 1 * c) m (λ i k. rw (lt-ltb, one-mul)) in
    let back = tally_zero (λ i. f (m + i)) (n - m) (λ i k. rw (le-ltb (m + i) m (omega arith))) in
    omega (arith, rw e at (tally_split f m (n - m)), rw tally_ones at (tally_times (λ _. 1) c m))
