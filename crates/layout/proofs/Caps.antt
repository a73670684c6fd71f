-- How many channels the rows may have: what it is read from, a row at a time and in all.
use Rattle.std.proofs.Common.{◌≡◌, refl, sym, ap, ◌∙◌, ℕ, ◌+◌, ◌*◌, ◌-◌, ◌/◌, ◌%◌, ◌<◌, ◌≤◌, Bool, true, false, T, List, slice_index, if◌then◌else◌, ◌==◌, nat_lt, ne_eqb, lt-ltb, le-ltb, zero-mul, add-mul, arith}
use Rattle.std.proofs.Math.Decide.{ℕ_discrete}
use Rattle.tally.specs.Tally.{tally}
use Rattle.tally.proofs.Sums.{tally-suc, tally_ext, tally_zero, tally_split, tally_blocks, tally_times, tally_first}
use Rattle.layout.specs.Sizes.{id_room, port_room, node_rows, spare, row_room, node_words, node_part, edge_part}
use Rattle.layout.specs.Header.{ceiling_of}
use Rattle.layout.specs.Node.{is_present, inputs_of, outputs_of}
use Rattle.layout.specs.Row.{is_port, cap_of}
use Rattle.layout.specs.Views.{ports_at, ports_of}
use Rattle.layout.proofs.Words.{flag_read}

pub cap_spare : (s : List ℕ) → cap_of s spare ≡ ceiling_of s
unfolding cap_of
cap_spare s = refl

-- what the row of port w of node id may have
pub cap_port : (s : List ℕ) (id w : ℕ) → id < id_room → w < node_rows → cap_of s (node_rows * id + w) ≡ (if is_present s id then (if is_port s id w then ceiling_of s else 0) else 0)
unfolding cap_of
cap_port s id w l m =
    let a : (node_rows * id + w) / node_rows ≡ id = omega arith in
    let b : (node_rows * id + w) % node_rows ≡ w = omega arith in
    rw (ne_eqb (node_rows * id + w) spare (λ e. omega arith), a, b) refl

-- what a row may have is read from the header and the nodes alone
pub cap_same : (s t : List ℕ) → ((i : ℕ) → i < edge_part → slice_index t i ≡ slice_index s i) → (r : ℕ) → r < row_room → cap_of t r ≡ cap_of s r
cap_same s t h r l = go (ℕ_discrete r spare)
  where
    a : ceiling_of t ≡ ceiling_of s
    a = h 0 (omega arith)

    go : Dec (r ≡ spare) → cap_of t r ≡ cap_of s r
    go (yes e) = rw (e, cap_spare t, cap_spare s) a
    go (no u) =
        let i = r / node_rows in
        let w = r % node_rows in
        let e : r ≡ node_rows * i + w = omega arith in
        let k : i < id_room = omega arith in
        let b : is_present t i ≡ is_present s i = flag_read s t (node_part + node_words * i + 0) (h (node_part + node_words * i + 0) (omega arith)) in
        let c : inputs_of t i ≡ inputs_of s i = h (node_part + node_words * i + 1) (omega arith) in
        let d : outputs_of t i ≡ outputs_of s i = h (node_part + node_words * i + 2) (omega arith) in
        ap (cap_of t) e ∙ cap_port t i w k (omega arith) ∙ rw (a, b, c, d) (sym (ap (cap_of s) e ∙ cap_port s i w k (omega arith)))

-- no row may have more than the spare row
cond_most : (a b c : Bool) (n : ℕ) → (if a then n else (if b then (if c then n else 0) else 0)) ≤ n
cond_most true b c n = omega arith
cond_most false true true n = omega arith
cond_most false true false n = omega arith
cond_most false false c n = omega arith

pub cap_most : (s : List ℕ) (r : ℕ) → cap_of s r ≤ ceiling_of s
unfolding cap_of
cap_most s r = cond_most (r == spare) (is_present s (r / node_rows)) (is_port s (r / node_rows) (r % node_rows)) (ceiling_of s)

-- ---- in all: the ports of the present nodes and the spare row, each with the ceiling
pub record Ported (s : List ℕ) : Type 0 where
  pub inputs : (id : ℕ) → id < id_room → T (is_present s id) → inputs_of s id ≤ port_room
  pub outputs : (id : ℕ) → id < id_room → T (is_present s id) → outputs_of s id ≤ port_room

-- the ports of one node
caps_at : (c i o : ℕ) (b : Bool) → (T b → i ≤ port_room) → (T b → o ≤ port_room)
    → tally (λ w. if b then (if (if nat_lt w port_room then nat_lt w i else nat_lt (w - port_room) o) then c else 0) else 0) node_rows ≡ (if b then i + o else 0) * c
caps_at c i o false h k = rw zero-mul (tally_zero (λ w. 0) node_rows (λ w l. refl))
caps_at c i o true h k =
    let f : ℕ → ℕ = λ w. if (if nat_lt w port_room then nat_lt w i else nat_lt (w - port_room) o) then c else 0 in
    let a : tally f port_room ≡ i * c = tally_ext f (λ w. if nat_lt w i then c else 0) port_room (λ w l. rw (lt-ltb w port_room l) refl) ∙ tally_first c i port_room (h tt) in
    let e : (w : ℕ) → w < port_room → f (port_room + w) ≡ (if nat_lt w o then c else 0) =
    λ w l. let d : port_room + w - port_room ≡ w = omega arith in rw (le-ltb (port_room + w) port_room (omega arith), d) refl in
    let b : tally (λ w. f (port_room + w)) port_room ≡ o * c = tally_ext (λ w. f (port_room + w)) (λ w. if nat_lt w o then c else 0) port_room e ∙ tally_first c o port_room (k tt) in
    let q = tally_split f port_room port_room in
    let r = add-mul i o c in
    omega arith

pub caps_in_all : (s : List ℕ) → Ported s → tally (cap_of s) row_room ≡ (ports_of s + 1) * ceiling_of s
unfolding ports_of
caps_in_all s p =
    let c = ceiling_of s in
    let a = tally-suc (cap_of s) spare in
    let b = tally_blocks (cap_of s) node_rows id_room in
    let e : (id : ℕ) → id < id_room → tally (λ w. cap_of s (node_rows * id + w)) node_rows ≡ ports_at s id * c =
    λ id l. tally_ext (λ w. cap_of s (node_rows * id + w)) (λ w. if is_present s id then (if is_port s id w then c else 0) else 0) node_rows (λ w m. cap_port s id w l m)
    ∙ caps_at c (inputs_of s id) (outputs_of s id) (is_present s id) (p.inputs id l) (p.outputs id l) in
    let d = tally_ext (λ id. tally (λ w. cap_of s (node_rows * id + w)) node_rows) (λ id. ports_at s id * c) id_room e in
    let f = tally_times (ports_at s) c id_room in
    let g = add-mul (tally (ports_at s) id_room) 1 c in
    let h = cap_spare s in
    omega arith
