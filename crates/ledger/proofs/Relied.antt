-- What the calls rely on and the ledger gives: the rule of the pool, and that no more edges are stored than there is room for and none leads too far.
use Rattle.std.proofs.Common.{◌≡◌, refl, ◌∙◌, ap, ℕ, ◌+◌, ◌*◌, ◌/◌, ◌%◌, ◌<◌, ◌≤◌, Bool, true, false, T, IsTrue, if◌then◌else◌, arith}
use Rattle.std.proofs.Math.Decide.{ℕ_discrete}
use Rattle.layout.specs.Sizes.{id_room, node_rows, spare, row_room}
use Rattle.layout.specs.Header.{ceiling_of}
use Rattle.layout.specs.Node.{is_present}
use Rattle.layout.specs.Row.{channels_of, is_port, cap_of}
use Rattle.layout.proofs.Caps.{Ported, cap_port}
use Rattle.pool.specs.Rows.{Held}
use Rattle.pool.specs.Pool.{Mem, Sound}
use Rattle.pool.proofs.Free.{capped_from, roomy_from}
use Rattle.ordering.specs.View.{Bounded}
use Rattle.ordering.specs.State.{graph_of}
use Rattle.ordering.specs.Promise as Ordering
use Rattle.ordering.proofs.Shown.{sound_graph}
use Rattle.ledger.specs.Ranges.{has_port}
use Rattle.ledger.specs.Ledger.{Ledger}

true_of : (b : Bool) → T b → b ≡ true
true_of true t = refl
true_of false t = absurd t

-- ---- the pool's rule
cap_has : (a b : Bool) (n : ℕ) → (if a then (if b then n else 0) else 0) ≡ (if (if a then b else false) then n else 0)
cap_has true b n = refl
cap_has false b n = refl

has_narrow : (n c : ℕ) (b : Bool) → (IsTrue b → n ≤ c) → (b ≡ false → n ≡ 0) → n ≤ (if b then c else 0)
has_narrow n c true h k = h refl
has_narrow n c false h k = let e = k refl in omega arith

module _ (m : Mem) (g : Ledger m) where
  ported : Ported m.state
  ported = record {
    inputs = λ id l p. ((g.ranges.ids id l).node (true_of (is_present m.state id) p)).inputs;
    outputs = λ id l p. ((g.ranges.ids id l).node (true_of (is_present m.state id) p)).outputs;
  }

  narrow : (r : ℕ) → r < row_room → Dec (r ≡ spare) → channels_of m.state r ≤ cap_of m.state r
  narrow r l (yes e) = let z : channels_of m.state r ≡ 0 = ap (channels_of m.state) e ∙ g.ranges.spare_row in omega arith
  narrow r l (no u) =
      let i = r / node_rows in
      let w = r % node_rows in
      let e : r ≡ node_rows * i + w = omega arith in
      let li : i < id_room = omega arith in
      let lw : w < node_rows = omega arith in
      let c = cap_port m.state i w li lw ∙ cap_has (is_present m.state i) (is_port m.state i w) (ceiling_of m.state) in
      rw (e, c) (has_narrow (channels_of m.state (node_rows * i + w)) (ceiling_of m.state) (has_port m.state i w) (λ h. (g.channels i w li lw h).most) (λ h. g.ranges.idle i w li lw h))

  pub held_of : Held m.state
  held_of = record {
    whole = g.lengths.state;
    few = g.ranges.header.slots_high;
    roomy = roomy_from m.state ported (let h = g.roomy in omega arith);
    capped = capped_from m.state g.ranges.header.ceiling_high;
    silent = g.silent;
    narrow = λ r l. narrow r l (ℕ_discrete r spare);
    inside = g.ranges.places;
    counted = g.counted;
  }

  pub sound_of : Sound m
  sound_of = record { held = held_of; slots = g.lengths.pool; long = g.lengths.slots; quiet = g.quiet }

  -- ---- what the ordering asks
  pub bounded_of : Bounded m.state
  bounded_of = record { few = g.ranges.header.edges; ends = λ e l. (g.ranges.edges e l).target }

  pub graph_sound_of : Ordering.Sound (graph_of m.state)
  graph_sound_of = sound_graph m.state bounded_of (λ e l. (g.ends e l).target)
