-- The turns of the loop over edges that go.
use Rattle.std.proofs.Common.{◌≡◌, refl, sym, ap, ◌∙◌, ℕ, suc, ◌+◌, ◌-◌, ◌<◌, ◌≤◌, Bool, true, false, if◌then◌else◌, List, ◌==◌, arith}
use Rattle.layout.specs.Sizes.{id_room}
use Rattle.layout.specs.Header.{edge_count, set_edge_count}
use Rattle.layout.specs.Edge.{edge_at, set_edge_at}
use Rattle.layout.specs.declared.edge.Edge.{Edge}
use Rattle.layout.specs.declared.index.Below.{Below}
use Rattle.nodes.specs.declared.edges.Gone.TheVariants.{Equal, From, Into}
use Rattle.nodes.specs.Edges.{is_edge, takes, left_from, edges_left}

left : (n k : ℕ) → k < n → n - k ≡ suc (n - (k + 1))
left n k h = omega arith

none_left : (n k : ℕ) → n ≤ k → n - k ≡ 0
none_left n k h = omega arith

module _ (goes : Edge → Bool) (s : List ℕ) (n i j : ℕ) where
  going_turn : i < n → (t : Bool) → goes (edge_at s i) ≡ t → left_from goes s (n - i) i j ≡ left_from goes (if t then s else set_edge_at s j (edge_at s i)) (n - (i + 1)) (i + 1) (if t then j else j + 1)
  unfolding left_from
  going_turn h t e =
      ap (λ (m : ℕ). left_from goes s m i j) (left n i h)
      ∙ ap (λ (t : Bool). left_from goes (if t then s else set_edge_at s j (edge_at s i)) (n - (i + 1)) (i + 1) (if t then j else j + 1)) e

  pub going_kept : i < n → goes (edge_at s i) ≡ false → left_from goes (set_edge_at s j (edge_at s i)) (n - (i + 1)) (i + 1) (j + 1) ≡ left_from goes s (n - i) i j
  going_kept h e = sym (going_turn h false e)

  pub going_gone : i < n → goes (edge_at s i) ≡ true → left_from goes s (n - (i + 1)) (i + 1) j ≡ left_from goes s (n - i) i j
  going_gone h e = sym (going_turn h true e)

  pub going_end : n ≤ i → left_from goes s (n - i) i j ≡ set_edge_count s j
  unfolding left_from
  going_end h = ap (λ (m : ℕ). left_from goes s m i j) (none_left n i h)

pub going_first : (goes : Edge → Bool) (s : List ℕ) (n : ℕ) → n ≡ edge_count s → left_from goes s (n - 0) 0 0 ≡ edges_left goes s
unfolding edges_left
going_first goes s n e = ap (λ (m : ℕ). left_from goes s m 0 0) (same n e)
  where
    same : (n : ℕ) → n ≡ edge_count s → n - 0 ≡ edge_count s
    same n e = omega arith

pub ruleset going = (going_kept, going_gone, going_end, going_first)

pub takes_equal : (x : Edge) → takes (Equal x) ≡ is_edge x
unfolding takes
takes_equal x = refl

pub takes_from : (id : Below id_room) → takes (From id) ≡ (λ e. e.source == id.index)
unfolding takes
takes_from id = refl

pub takes_into : (id : Below id_room) → takes (Into id) ≡ (λ e. e.target == id.index)
unfolding takes
takes_into id = refl
