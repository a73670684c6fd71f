-- The parts of the test and the sentences of the ledger.
use Rattle.std.proofs.Common.{◌≡◌, refl, ap, ◌∙◌, ℕ, ◌+◌, ◌*◌, ◌/◌, ◌%◌, ◌<◌, Bool, true, false, List, IsTrue, MatchBool, arith}
use Rattle.std.proofs.Math.Decide.{ℕ_discrete}
use Rattle.layout.specs.Sizes.{id_room, node_rows, spare, row_room}
use Rattle.layout.specs.Header.{slots_of}
use Rattle.layout.specs.Row.{channels_of, place_of}
use Rattle.pool.specs.Pool.{Mem, slot_of, silence}
use Rattle.ledger.specs.Ranges.{has_port}
use Rattle.ledger.specs.Ledger.{HasChannels, Lengths, Ledger}
use Rattle.ledger.specs.Tests.{EdgesKept, RowsKept, ListsRight, Counted, InRange, Balanced}

-- ---- rows
row_idle : (s : List ℕ) (r : ℕ) (live : Bool) → MatchBool live (HasChannels s r) (channels_of s r ≡ 0) → live ≡ false → channels_of s r ≡ 0
row_idle s r true h e = absurd (cc)
row_idle s r false h e = h

row_live : (s : List ℕ) (r : ℕ) (live : Bool) → MatchBool live (HasChannels s r) (channels_of s r ≡ 0) → IsTrue live → HasChannels s r
row_live s r true h e = h
row_live s r false h e = absurd (cc)

row_either : (s : List ℕ) (r : ℕ) (live : Bool) → (IsTrue live → HasChannels s r) → (live ≡ false → channels_of s r ≡ 0) → MatchBool live (HasChannels s r) (channels_of s r ≡ 0)
row_either s r true h k = h refl
row_either s r false h k = k refl

rows_places : (s : List ℕ) → RowsKept s → (r c : ℕ) → r < row_room → c < channels_of s r → place_of s r c < slots_of s
rows_places s k r c l m = go (ℕ_discrete r spare)
  where
    go : Dec (r ≡ spare) → place_of s r c < slots_of s
    go (yes e) = let z : channels_of s r ≡ 0 = ap (channels_of s) e ∙ k.spare_row in absurd (omega arith)
    go (no u) =
        let e : r ≡ node_rows * (r / node_rows) + r % node_rows = omega arith in
        let i : r / node_rows < id_room = omega arith in
        let w : r % node_rows < node_rows = omega arith in
        let n : c < channels_of s (node_rows * (r / node_rows) + r % node_rows) = rw (← e) m in
        let d = (k.ports (r / node_rows) i (r % node_rows) w).places c n in
        let f : place_of s r c ≡ place_of s (node_rows * (r / node_rows) + r % node_rows) c = ap (λ (q : ℕ). place_of s q c) e in
        omega arith

-- ---- all parts give the ledger
pub ledger_from : (m : Mem) → Lengths m → InRange m.state → RowsKept m.state → Balanced m.state → slot_of m.pool 0 ≡ silence → Ledger m
ledger_from m long r rows b quiet =
    record {
      lengths = long;
      ranges = record {
        header = r.header;
        ids = r.ids;
        listed = b.lists.kept.low;
        edges = λ e l. (r.edges e l).low;
        idle = λ id w l k e. row_idle m.state (node_rows * id + w) (has_port m.state id w) (rows.ports id l w k).channels e;
        spare_row = rows.spare_row;
        places = rows_places m.state rows;
      };
      ends = λ e l. (r.edges e l).there;
      quiet = quiet;
      silent = b.counted.silent;
      counted = b.counted.counted;
      roomy = b.roomy;
      distinct = b.lists.kept.distinct;
      there = b.lists.there;
      ordered = b.lists.ordered;
      cover = b.lists.cover;
      forward = b.lists.forward;
      channels = λ id w l k e. row_live m.state (node_rows * id + w) (has_port m.state id w) (rows.ports id l w k).channels e;
    }

-- ---- and the ledger gives each part
module _ (m : Mem) (g : Ledger m) where
  edges_from : EdgesKept m.state
  edges_from e l = record { low = g.ranges.edges e l; there = g.ends e l }

  pub rows_from : RowsKept m.state
  rows_from = record {
    ports = λ id l w k. record {
      channels = row_either m.state (node_rows * id + w) (has_port m.state id w) (g.channels id w l k) (g.ranges.idle id w l k);
      places = λ c n. g.ranges.places (node_rows * id + w) c (omega arith) n;
    };
    spare_row = g.ranges.spare_row;
  }

  lists_from : ListsRight m.state
  lists_from = record {
    kept = record { low = g.ranges.listed; distinct = g.distinct };
    there = g.there;
    ordered = g.ordered;
    cover = g.cover;
    forward = g.forward;
  }

  counted_from : Counted m.state
  counted_from = record { silent = g.silent; counted = g.counted }

  pub in_range_from : InRange m.state
  in_range_from = record { header = g.ranges.header; ids = g.ranges.ids; edges = edges_from }

  pub balanced_from : Balanced m.state
  balanced_from = record { lists = lists_from; roomy = g.roomy; counted = counted_from }
