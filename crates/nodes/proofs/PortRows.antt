-- What the rows of a node's ports are once they are made silent, or emptied.
use Rattle.std.proofs.Common.{◌≡◌, refl, sym, ap, ◌∙◌, ℕ, zero, suc, ◌+◌, ◌<◌, ◌≤◌, List, [], ◌∷◌, slice_index, length, arith}
use Rattle.std.proofs.Math.Decide.{ℕ_discrete}
use Rattle.tally.proofs.Lists.{listed-length}
use Rattle.layout.specs.Sizes.{id_room, port_room, row_room, holder_part}
use Rattle.layout.specs.Row.{input_row, output_row, port_row, channels_of, place_of, cap_of}
use Rattle.layout.specs.Views.{row_of}
use Rattle.layout.specs.declared.row.Side.{Side}
use Rattle.layout.specs.declared.row.Side.TheVariants.{Input, Output}
use Rattle.pool.specs.Rows.{Held, cleared, truncated}
use Rattle.pool.proofs.Rows.{cleared_turned, truncated_turned, caps_same}
use Rattle.pool.proofs.AsLists.{other_list, cleared_list, truncated_list}
use Rattle.nodes.specs.Nodes.{ports_silent, ports_empty}
use Rattle.nodes.proofs.Silencing.{port_row_in}

pub port_row_apart : (side : Side) (id p q : ℕ) → (p ≡ q → ⊥) → port_row side id p ≡ port_row side id q → ⊥
port_row_apart Input id p q u e = u (omega arith)
port_row_apart Output id p q u e = u (omega arith)

-- a row with no channels, seen as a list
pub no_channels : (s : List ℕ) (r : ℕ) → row_of s r ≡ [] → channels_of s r ≡ 0
unfolding row_of
no_channels s r e = sym (listed-length (place_of s r) (channels_of s r) 0) ∙ ap length e

-- ---- silent
pub record Silenced (side : Side) (id p n : ℕ) (s t : List ℕ) : Type 0 where
  pub held : Held t
  pub header : (i : ℕ) → i < holder_part → slice_index t i ≡ slice_index s i
  pub others : (q : ℕ) → q < row_room → ((x : ℕ) → p ≤ x → x < p + n → q ≡ port_row side id x → ⊥) → row_of t q ≡ row_of s q
  pub here : (x : ℕ) → p ≤ x → x < p + n → row_of t (port_row side id x) ≡ 0 ∷ []

module _ (side : Side) (id : ℕ) (l : id < id_room) where
  pub silenced : (s : List ℕ) (n p : ℕ) → Held s → p + n ≤ port_room → ((x : ℕ) → p ≤ x → x < p + n → 0 < cap_of s (port_row side id x)) → Silenced side id p n s (ports_silent side id s n p)
  unfolding ports_silent
  silenced s zero p h m f = record { held = h; header = λ i k. refl; others = λ q k u. refl; here = λ x a b. absurd (omega arith) }
  silenced s (suc n) p h m f =
      let r = port_row side id p in
      let i : r < row_room = port_row_in side id p l (omega arith) in
      let any = f p (omega arith) (omega arith) in
      let c = cleared_turned s r h i any in
      let d = silenced (cleared s r) n (p + 1) c.held (omega arith) (λ x a b. rw (caps_same r s (cleared s r) c.but (port_row side id x) (port_row_in side id x l (omega arith))) (f x (omega arith) (omega arith))) in
      record {
        held = d.held;
        header = λ k z. d.header k z ∙ c.but.header k z;
        others = λ q z u. d.others q z (λ x a b. u x (omega arith) (omega arith)) ∙ other_list s (cleared s r) r q c.but z (u p (omega arith) (omega arith));
        here = λ x a b. at x a b (ℕ_discrete x p) d any i;
      }
    where
      at : (x : ℕ) → p ≤ x → x < p + suc n → Dec (x ≡ p) → Silenced side id (p + 1) n (cleared s (port_row side id p)) (ports_silent side id (cleared s (port_row side id p)) n (p + 1))
          → 0 < cap_of s (port_row side id p) → port_row side id p < row_room → row_of (ports_silent side id (cleared s (port_row side id p)) n (p + 1)) (port_row side id x) ≡ 0 ∷ []
      at x a b (yes e) d any i =
          rw e (d.others (port_row side id p) i (λ y a b. port_row_apart side id p y (λ e. omega arith)) ∙ cleared_list s (port_row side id p) h i any)
      at x a b (no u) d any i = d.here x (omega arith) (omega arith)

-- ---- empty
pub record Emptied (id p n : ℕ) (s t : List ℕ) : Type 0 where
  pub held : Held t
  pub header : (i : ℕ) → i < holder_part → slice_index t i ≡ slice_index s i
  pub others : (q : ℕ) → q < row_room → ((x : ℕ) → p ≤ x → x < p + n → (q ≡ input_row id x → ⊥) × (q ≡ output_row id x → ⊥)) → row_of t q ≡ row_of s q
  pub inputs : (x : ℕ) → p ≤ x → x < p + n → row_of t (input_row id x) ≡ []
  pub outputs : (x : ℕ) → p ≤ x → x < p + n → row_of t (output_row id x) ≡ []

module _ (id : ℕ) (l : id < id_room) where
  pub emptied : (s : List ℕ) (n p : ℕ) → Held s → p + n ≤ port_room → Emptied id p n s (ports_empty id s n p)
  unfolding ports_empty
  emptied s zero p h m = record { held = h; header = λ i k. refl; others = λ q k u. refl; inputs = λ x a b. absurd (omega arith); outputs = λ x a b. absurd (omega arith) }
  emptied s (suc n) p h m =
      let a1 = truncated_turned s (input_row id p) 0 h (omega arith) (omega arith) in
      let s1 = truncated s (input_row id p) 0 in
      let a2 = truncated_turned s1 (output_row id p) 0 a1.held (omega arith) (omega arith) in
      let s2 = truncated s1 (output_row id p) 0 in
      let in1 : row_of s1 (input_row id p) ≡ [] = truncated_list s (input_row id p) h (omega arith) 0 (omega arith) in
      let in2 : row_of s2 (input_row id p) ≡ [] = other_list s1 s2 (output_row id p) (input_row id p) a2.but (omega arith) (λ e. omega arith) ∙ in1 in
      let out2 : row_of s2 (output_row id p) ≡ [] = truncated_list s1 (output_row id p) a1.held (omega arith) 0 (omega arith) in
      let d = emptied s2 n (p + 1) a2.held (omega arith) in
      record {
        held = d.held;
        header = λ k z. d.header k z ∙ a2.but.header k z ∙ a1.but.header k z;
        others = λ q z u. d.others q z (λ x a b. u x (omega arith) (omega arith)) ∙ other_list s1 s2 (output_row id p) q a2.but z ((u p (omega arith) (omega arith)).1)
            ∙ other_list s s1 (input_row id p) q a1.but z ((u p (omega arith) (omega arith)).0);
        inputs = λ x a b. at_in s2 x a b (ℕ_discrete x p) d in2;
        outputs = λ x a b. at_out s2 x a b (ℕ_discrete x p) d out2;
      }
    where
      at_in : (t : List ℕ) (x : ℕ) → p ≤ x → x < p + suc n → Dec (x ≡ p) → Emptied id (p + 1) n t (ports_empty id t n (p + 1)) → row_of t (input_row id p) ≡ [] → row_of (ports_empty id t n (p + 1)) (input_row id x) ≡ []
      at_in t x a b (yes e) d z = rw e (d.others (input_row id p) (omega arith) (λ y a b. (λ e. omega arith, λ e. omega arith)) ∙ z)
      at_in t x a b (no u) d z = d.inputs x (omega arith) (omega arith)

      at_out : (t : List ℕ) (x : ℕ) → p ≤ x → x < p + suc n → Dec (x ≡ p) → Emptied id (p + 1) n t (ports_empty id t n (p + 1)) → row_of t (output_row id p) ≡ [] → row_of (ports_empty id t n (p + 1)) (output_row id x) ≡ []
      at_out t x a b (yes e) d z = rw e (d.others (output_row id p) (omega arith) (λ y a b. (λ e. omega arith, λ e. omega arith)) ∙ z)
      at_out t x a b (no u) d z = d.outputs x (omega arith) (omega arith)
