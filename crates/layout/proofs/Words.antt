-- Reading after writing. Every reader is a word of the state and every writer sets one, so two laws serve all pairs of fields:
-- the same word, and another word. That two words of two fields are not the same is `omega`'s, but for the parts with a stride.
use Rattle.std.proofs.Common.{◌≡◌, refl, ℕ, ◌+◌, ◌*◌, ◌<◌, Bool, true, false, List, slice_index, slice_set, if◌then◌else◌, length-set, get_or-set_same, get_or-set_other, arith}
use Rattle.layout.specs.Sizes.{Whole, state_length, flag_at, set_flag, channel_room, node_words, edge_words, edge_part, place_part}

pub word_same : (s : List ℕ) (i v : ℕ) → Whole s → i < state_length → slice_index (slice_set s i v) i ≡ v
word_same s i v w l = get_or-set_same s i v 0 (omega arith)

pub word_other : (s : List ℕ) (i v j : ℕ) → (j ≡ i → ⊥) → slice_index (slice_set s i v) j ≡ slice_index s j
word_other s i v j h = get_or-set_other s i j v 0 h

pub whole_set : (s : List ℕ) (i v : ℕ) → Whole s → Whole (slice_set s i v)
whole_set s i v w = simp length-set w

-- ---- flags
pub flag_same : (s : List ℕ) (i : ℕ) (v : Bool) → Whole s → i < state_length → flag_at (set_flag s i v) i ≡ v
unfolding flag_at set_flag
flag_same s i true w l = rw (word_same s i 1 w l) refl
flag_same s i false w l = rw (word_same s i 0 w l) refl

-- the words of a flag that was written
pub flag_word : (s : List ℕ) (i : ℕ) (v : Bool) (j : ℕ) → (j ≡ i → ⊥) → slice_index (set_flag s i v) j ≡ slice_index s j
unfolding set_flag
flag_word s i v j h = word_other s i (if v then 1 else 0) j h

pub flag_whole : (s : List ℕ) (i : ℕ) (v : Bool) → Whole s → Whole (set_flag s i v)
unfolding set_flag
flag_whole s i v w = whole_set s i (if v then 1 else 0) w

-- a flag is read from its word alone
pub flag_read : (s t : List ℕ) (i : ℕ) → slice_index t i ≡ slice_index s i → flag_at t i ≡ flag_at s i
unfolding flag_at
flag_read s t i e = rw e refl

-- ---- a part with a stride: two words are the same only where both numbers are
pub stride_apart : (base a w b v : ℕ) → w < node_words → v < node_words → (a ≡ b → w ≡ v → ⊥) → base + node_words * a + w ≡ base + node_words * b + v → ⊥
stride_apart base a w b v l m h e = let p : a ≡ b = omega arith in h p (omega arith)

pub edge_apart : (a w b v : ℕ) → w < edge_words → v < edge_words → (a ≡ b → w ≡ v → ⊥) → edge_part + edge_words * a + w ≡ edge_part + edge_words * b + v → ⊥
edge_apart a w b v l m h e = let p : a ≡ b = omega arith in h p (omega arith)

pub place_apart : (r c q d : ℕ) → c < channel_room → d < channel_room → (r ≡ q → c ≡ d → ⊥) → place_part + channel_room * r + c ≡ place_part + channel_room * q + d → ⊥
place_apart r c q d l m h e = let a : r ≡ q = omega arith in h a (omega arith)
