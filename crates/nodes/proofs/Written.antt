-- The words of a node that begins, and what they leave.
use Rattle.std.proofs.Common.{◌≡◌, refl, sym, ap, ◌∙◌, ℕ, ◌+◌, ◌*◌, ◌-◌, ◌/◌, ◌%◌, ◌<◌, ◌≤◌, Bool, true, false, T, List, slice_index, ⊎_elim, lt-ltb, le-ltb, arith}
use Rattle.std.proofs.Math.Decide.{ℕ_discrete}
use Rattle.tally.proofs.Sums.{tally_one}
use Rattle.layout.specs.Sizes.{Whole, id_room, port_room, channel_room, node_part, node_words, node_rows, spare, row_room, flag_at, set_flag}
use Rattle.layout.specs.Header.{ceiling_of, slots_of}
use Rattle.layout.specs.Node.{is_present, inputs_of, outputs_of, set_node_word}
use Rattle.layout.specs.Setting.{fresh_setting, words_of}
use Rattle.layout.specs.Row.{input_row, output_row, channels_of, cap_of}
use Rattle.layout.specs.Views.{node_of, ports_at, ports_of}
use Rattle.layout.proofs.Words.{word_same, word_other, whole_set, flag_read, flag_same, flag_word, flag_whole}
use Rattle.layout.proofs.Caps.{Ported, cap_spare, cap_port}
use Rattle.pool.specs.Rows.{Held}
use Rattle.pool.proofs.Free.{capped_from, roomy_from}
use Rattle.nodes.specs.Nodes.{Addable, node_new, node_written, setting_written}
use Rattle.nodes.specs.Kept.{ButNode}
use Rattle.nodes.proofs.Frames.{rows_like, cap_like, held_from}
use Rattle.nodes.proofs.NodeLaws.{Elsewhere, but_node, other_word, below, above}

module _ (s : List ℕ) (id inputs outputs : ℕ) (effects : Bool) where
  -- the state after each word
  abbrev u1 : List ℕ
  u1 = set_flag s (node_part + node_words * id + 0) true

  abbrev u2 : List ℕ
  u2 = set_node_word u1 id 1 inputs

  abbrev u3 : List ℕ
  u3 = set_node_word u2 id 2 outputs

  abbrev u4 : List ℕ
  u4 = set_node_word u3 id 3 ((words_of (fresh_setting (ceiling_of s))).count)

  abbrev u5 : List ℕ
  u5 = set_node_word u4 id 4 ((words_of (fresh_setting (ceiling_of s))).mode)

  abbrev u6 : List ℕ
  u6 = set_node_word u5 id 5 ((words_of (fresh_setting (ceiling_of s))).interpretation)

  abbrev u7 : List ℕ
  u7 = set_flag u6 (node_part + node_words * id + 6) false

  abbrev u8 : List ℕ
  u8 = set_flag u7 (node_part + node_words * id + 7) false

  abbrev u9 : List ℕ
  u9 = set_flag u8 (node_part + node_words * id + 8) false

  abbrev pub u10 : List ℕ
  u10 = set_flag u9 (node_part + node_words * id + 9) effects

  whole1 : Whole s → Whole u1
  whole1 w = flag_whole s (node_part + node_words * id + 0) true w

  whole2 : Whole s → Whole u2
  whole2 w = whole_set u1 (node_part + node_words * id + 1) (inputs) (whole1 w)

  whole3 : Whole s → Whole u3
  whole3 w = whole_set u2 (node_part + node_words * id + 2) (outputs) (whole2 w)

  whole4 : Whole s → Whole u4
  whole4 w = whole_set u3 (node_part + node_words * id + 3) ((words_of (fresh_setting (ceiling_of s))).count) (whole3 w)

  whole5 : Whole s → Whole u5
  whole5 w = whole_set u4 (node_part + node_words * id + 4) ((words_of (fresh_setting (ceiling_of s))).mode) (whole4 w)

  whole6 : Whole s → Whole u6
  whole6 w = whole_set u5 (node_part + node_words * id + 5) ((words_of (fresh_setting (ceiling_of s))).interpretation) (whole5 w)

  whole7 : Whole s → Whole u7
  whole7 w = flag_whole u6 (node_part + node_words * id + 6) false (whole6 w)

  whole8 : Whole s → Whole u8
  whole8 w = flag_whole u7 (node_part + node_words * id + 7) false (whole7 w)

  whole9 : Whole s → Whole u9
  whole9 w = flag_whole u8 (node_part + node_words * id + 8) false (whole8 w)

  pub whole10 : Whole s → Whole u10
  whole10 w = flag_whole u9 (node_part + node_words * id + 9) effects (whole9 w)

  outside : (k : ℕ) → ((v : ℕ) → v < node_words → k ≡ node_part + node_words * id + v → ⊥) → slice_index u10 k ≡ slice_index s k
  outside k h =
      flag_word u9 (node_part + node_words * id + 9) (effects) (k) (h 9 (omega arith))
      ∙ flag_word u8 (node_part + node_words * id + 8) (false) (k) (h 8 (omega arith))
      ∙ flag_word u7 (node_part + node_words * id + 7) (false) (k) (h 7 (omega arith))
      ∙ flag_word u6 (node_part + node_words * id + 6) (false) (k) (h 6 (omega arith))
      ∙ word_other u5 (node_part + node_words * id + 5) ((words_of (fresh_setting (ceiling_of s))).interpretation) (k) (h 5 (omega arith))
      ∙ word_other u4 (node_part + node_words * id + 4) ((words_of (fresh_setting (ceiling_of s))).mode) (k) (h 4 (omega arith))
      ∙ word_other u3 (node_part + node_words * id + 3) ((words_of (fresh_setting (ceiling_of s))).count) (k) (h 3 (omega arith))
      ∙ word_other u2 (node_part + node_words * id + 2) (outputs) (k) (h 2 (omega arith))
      ∙ word_other u1 (node_part + node_words * id + 1) (inputs) (k) (h 1 (omega arith))
      ∙ flag_word s (node_part + node_words * id + 0) (true) (k) (h 0 (omega arith))

  word0 : id < id_room → Whole s → flag_at u10 (node_part + node_words * id + 0) ≡ true
  word0 l w =
      flag_read u1 u10 (node_part + node_words * id + 0)
      (flag_word u9 (node_part + node_words * id + 9) (effects) (node_part + node_words * id + 0) (λ e. omega arith)
      ∙ flag_word u8 (node_part + node_words * id + 8) (false) (node_part + node_words * id + 0) (λ e. omega arith)
      ∙ flag_word u7 (node_part + node_words * id + 7) (false) (node_part + node_words * id + 0) (λ e. omega arith)
      ∙ flag_word u6 (node_part + node_words * id + 6) (false) (node_part + node_words * id + 0) (λ e. omega arith)
      ∙ word_other u5 (node_part + node_words * id + 5) ((words_of (fresh_setting (ceiling_of s))).interpretation) (node_part + node_words * id + 0) (λ e. omega arith)
      ∙ word_other u4 (node_part + node_words * id + 4) ((words_of (fresh_setting (ceiling_of s))).mode) (node_part + node_words * id + 0) (λ e. omega arith)
      ∙ word_other u3 (node_part + node_words * id + 3) ((words_of (fresh_setting (ceiling_of s))).count) (node_part + node_words * id + 0) (λ e. omega arith)
      ∙ word_other u2 (node_part + node_words * id + 2) (outputs) (node_part + node_words * id + 0) (λ e. omega arith)
      ∙ word_other u1 (node_part + node_words * id + 1) (inputs) (node_part + node_words * id + 0) (λ e. omega arith))
      ∙ flag_same s (node_part + node_words * id + 0) true w (omega arith)

  word1 : id < id_room → Whole s → slice_index u10 (node_part + node_words * id + 1) ≡ inputs
  word1 l w =
      flag_word u9 (node_part + node_words * id + 9) (effects) (node_part + node_words * id + 1) (λ e. omega arith)
      ∙ flag_word u8 (node_part + node_words * id + 8) (false) (node_part + node_words * id + 1) (λ e. omega arith)
      ∙ flag_word u7 (node_part + node_words * id + 7) (false) (node_part + node_words * id + 1) (λ e. omega arith)
      ∙ flag_word u6 (node_part + node_words * id + 6) (false) (node_part + node_words * id + 1) (λ e. omega arith)
      ∙ word_other u5 (node_part + node_words * id + 5) ((words_of (fresh_setting (ceiling_of s))).interpretation) (node_part + node_words * id + 1) (λ e. omega arith)
      ∙ word_other u4 (node_part + node_words * id + 4) ((words_of (fresh_setting (ceiling_of s))).mode) (node_part + node_words * id + 1) (λ e. omega arith)
      ∙ word_other u3 (node_part + node_words * id + 3) ((words_of (fresh_setting (ceiling_of s))).count) (node_part + node_words * id + 1) (λ e. omega arith)
      ∙ word_other u2 (node_part + node_words * id + 2) (outputs) (node_part + node_words * id + 1) (λ e. omega arith)
      ∙ word_same u1 (node_part + node_words * id + 1) (inputs) (whole1 w) (omega arith)

  word2 : id < id_room → Whole s → slice_index u10 (node_part + node_words * id + 2) ≡ outputs
  word2 l w =
      flag_word u9 (node_part + node_words * id + 9) (effects) (node_part + node_words * id + 2) (λ e. omega arith)
      ∙ flag_word u8 (node_part + node_words * id + 8) (false) (node_part + node_words * id + 2) (λ e. omega arith)
      ∙ flag_word u7 (node_part + node_words * id + 7) (false) (node_part + node_words * id + 2) (λ e. omega arith)
      ∙ flag_word u6 (node_part + node_words * id + 6) (false) (node_part + node_words * id + 2) (λ e. omega arith)
      ∙ word_other u5 (node_part + node_words * id + 5) ((words_of (fresh_setting (ceiling_of s))).interpretation) (node_part + node_words * id + 2) (λ e. omega arith)
      ∙ word_other u4 (node_part + node_words * id + 4) ((words_of (fresh_setting (ceiling_of s))).mode) (node_part + node_words * id + 2) (λ e. omega arith)
      ∙ word_other u3 (node_part + node_words * id + 3) ((words_of (fresh_setting (ceiling_of s))).count) (node_part + node_words * id + 2) (λ e. omega arith)
      ∙ word_same u2 (node_part + node_words * id + 2) (outputs) (whole2 w) (omega arith)

  word3 : id < id_room → Whole s → slice_index u10 (node_part + node_words * id + 3) ≡ (words_of (fresh_setting (ceiling_of s))).count
  word3 l w =
      flag_word u9 (node_part + node_words * id + 9) (effects) (node_part + node_words * id + 3) (λ e. omega arith)
      ∙ flag_word u8 (node_part + node_words * id + 8) (false) (node_part + node_words * id + 3) (λ e. omega arith)
      ∙ flag_word u7 (node_part + node_words * id + 7) (false) (node_part + node_words * id + 3) (λ e. omega arith)
      ∙ flag_word u6 (node_part + node_words * id + 6) (false) (node_part + node_words * id + 3) (λ e. omega arith)
      ∙ word_other u5 (node_part + node_words * id + 5) ((words_of (fresh_setting (ceiling_of s))).interpretation) (node_part + node_words * id + 3) (λ e. omega arith)
      ∙ word_other u4 (node_part + node_words * id + 4) ((words_of (fresh_setting (ceiling_of s))).mode) (node_part + node_words * id + 3) (λ e. omega arith)
      ∙ word_same u3 (node_part + node_words * id + 3) ((words_of (fresh_setting (ceiling_of s))).count) (whole3 w) (omega arith)

  word4 : id < id_room → Whole s → slice_index u10 (node_part + node_words * id + 4) ≡ (words_of (fresh_setting (ceiling_of s))).mode
  word4 l w =
      flag_word u9 (node_part + node_words * id + 9) (effects) (node_part + node_words * id + 4) (λ e. omega arith)
      ∙ flag_word u8 (node_part + node_words * id + 8) (false) (node_part + node_words * id + 4) (λ e. omega arith)
      ∙ flag_word u7 (node_part + node_words * id + 7) (false) (node_part + node_words * id + 4) (λ e. omega arith)
      ∙ flag_word u6 (node_part + node_words * id + 6) (false) (node_part + node_words * id + 4) (λ e. omega arith)
      ∙ word_other u5 (node_part + node_words * id + 5) ((words_of (fresh_setting (ceiling_of s))).interpretation) (node_part + node_words * id + 4) (λ e. omega arith)
      ∙ word_same u4 (node_part + node_words * id + 4) ((words_of (fresh_setting (ceiling_of s))).mode) (whole4 w) (omega arith)

  word5 : id < id_room → Whole s → slice_index u10 (node_part + node_words * id + 5) ≡ (words_of (fresh_setting (ceiling_of s))).interpretation
  word5 l w =
      flag_word u9 (node_part + node_words * id + 9) (effects) (node_part + node_words * id + 5) (λ e. omega arith)
      ∙ flag_word u8 (node_part + node_words * id + 8) (false) (node_part + node_words * id + 5) (λ e. omega arith)
      ∙ flag_word u7 (node_part + node_words * id + 7) (false) (node_part + node_words * id + 5) (λ e. omega arith)
      ∙ flag_word u6 (node_part + node_words * id + 6) (false) (node_part + node_words * id + 5) (λ e. omega arith)
      ∙ word_same u5 (node_part + node_words * id + 5) ((words_of (fresh_setting (ceiling_of s))).interpretation) (whole5 w) (omega arith)

  word6 : id < id_room → Whole s → flag_at u10 (node_part + node_words * id + 6) ≡ false
  word6 l w =
      flag_read u7 u10 (node_part + node_words * id + 6)
      (flag_word u9 (node_part + node_words * id + 9) (effects) (node_part + node_words * id + 6) (λ e. omega arith)
      ∙ flag_word u8 (node_part + node_words * id + 8) (false) (node_part + node_words * id + 6) (λ e. omega arith)
      ∙ flag_word u7 (node_part + node_words * id + 7) (false) (node_part + node_words * id + 6) (λ e. omega arith))
      ∙ flag_same u6 (node_part + node_words * id + 6) false (whole6 w) (omega arith)

  word7 : id < id_room → Whole s → flag_at u10 (node_part + node_words * id + 7) ≡ false
  word7 l w =
      flag_read u8 u10 (node_part + node_words * id + 7)
      (flag_word u9 (node_part + node_words * id + 9) (effects) (node_part + node_words * id + 7) (λ e. omega arith)
      ∙ flag_word u8 (node_part + node_words * id + 8) (false) (node_part + node_words * id + 7) (λ e. omega arith))
      ∙ flag_same u7 (node_part + node_words * id + 7) false (whole7 w) (omega arith)

  word8 : id < id_room → Whole s → flag_at u10 (node_part + node_words * id + 8) ≡ false
  word8 l w =
      flag_read u9 u10 (node_part + node_words * id + 8)
      (flag_word u9 (node_part + node_words * id + 9) (effects) (node_part + node_words * id + 8) (λ e. omega arith))
      ∙ flag_same u8 (node_part + node_words * id + 8) false (whole8 w) (omega arith)

  word9 : id < id_room → Whole s → flag_at u10 (node_part + node_words * id + 9) ≡ effects
  word9 l w = flag_same u9 (node_part + node_words * id + 9) effects (whole9 w) (omega arith)

  pub written_is : node_written s id inputs outputs effects ≡ u10
  unfolding node_written setting_written
  written_is = refl

  pub elsewhere : Elsewhere id s u10
  elsewhere k o = outside k (λ v m e. ⊎_elim (λ p. omega arith) (λ p. omega arith) o)

  pub written_node : id < id_room → Whole s → node_of u10 id ≡ node_new (ceiling_of s) inputs outputs effects
  unfolding node_of node_new
  written_node l w = rw (word0 l w, word1 l w, word2 l w, word3 l w, word4 l w, word5 l w, word6 l w, word7 l w, word8 l w, word9 l w) refl

  written_but : id < id_room → ButNode id s u10
  written_but l = but_node s u10 id l whole10 elsewhere

  module _ (g : Addable s id inputs outputs) (l : id < id_room) where
    w : Whole s
    w = g.held.whole

    same : (x v : ℕ) → v < node_words → (x ≡ id → ⊥) → slice_index u10 (node_part + node_words * x + v) ≡ slice_index s (node_part + node_words * x + v)
    same x v m u = other_word s u10 id l whole10 elsewhere x v m u

    same_present : (x : ℕ) → (x ≡ id → ⊥) → is_present u10 x ≡ is_present s x
    same_present x u = flag_read s u10 (node_part + node_words * x + 0) (same x 0 (omega arith) u)

    written_ported : Ported u10
    written_ported = record {
      inputs = λ x m p. in_at x m p (ℕ_discrete x id);
      outputs = λ x m p. out_at x m p (ℕ_discrete x id);
    }
      where
        in_at : (x : ℕ) → x < id_room → T (is_present u10 x) → Dec (x ≡ id) → inputs_of u10 x ≤ port_room
        in_at x m p (yes e) = rw (e, word1 l w) g.inputs_in
        in_at x m p (no u) = rw (same x 1 (omega arith) u) (g.ported_in x m (rw (same_present x u) at p))

        out_at : (x : ℕ) → x < id_room → T (is_present u10 x) → Dec (x ≡ id) → outputs_of u10 x ≤ port_room
        out_at x m p (yes e) = rw (e, word2 l w) g.outputs_in
        out_at x m p (no u) = rw (same x 2 (omega arith) u) (g.ported_out x m (rw (same_present x u) at p))

    pub written_ports : ports_of u10 ≡ ports_of s + (inputs + outputs)
    unfolding ports_of
    written_ports =
        let a = tally_one (ports_at u10) (ports_at s) id_room id l (λ x m u. rw (same_present x u, same x 1 (omega arith) u, same x 2 (omega arith) u) refl) in
        let b : ports_at s id ≡ 0 = rw g.absent refl in
        let c : ports_at u10 id ≡ inputs + outputs = rw (word0 l w, word1 l w, word2 l w) refl in
        omega arith

    pub written_ceiling : ceiling_of u10 ≡ ceiling_of s
    written_ceiling = below s u10 id l whole10 elsewhere 0 (omega arith)

    written_slots : slots_of u10 ≡ slots_of s
    written_slots = below s u10 id l whole10 elsewhere 1 (omega arith)

    -- a row of an absent node has no channels
    empty : (r : ℕ) → r < row_room → r / node_rows ≡ id → channels_of s r ≡ 0
    empty r m e =
        let q = r % node_rows in
        let d : r ≡ node_rows * id + q = omega arith in
        let c : cap_of s r ≡ 0 = ap (cap_of s) d ∙ cap_port s id q l (omega arith) ∙ rw g.absent refl in
        let n = g.held.narrow r m in
        omega arith

    other_cap : (r : ℕ) → r < row_room → (r / node_rows ≡ id → ⊥) → cap_of u10 r ≡ cap_of s r
    other_cap r m u =
        cap_like s u10 written_ceiling r m
        (λ x k e. (same_present x (λ d. u (sym e ∙ d)), same x 1 (omega arith) (λ d. u (sym e ∙ d)), same x 2 (omega arith) (λ d. u (sym e ∙ d))))

    pub written_held : Held u10
    written_held =
        held_from s u10 g.held (whole10 w) written_slots (rows_like s u10 (λ i a. above s u10 id l whole10 elsewhere i (omega arith)))
        (roomy_from u10 written_ported (rw (written_ports, written_ceiling, written_slots) g.room))
        (capped_from u10 (rw written_ceiling low))
        (λ r m. at r m (ℕ_discrete (r / node_rows) id))
      where
        low : ceiling_of s ≤ channel_room
        low = rw (cap_spare s) at (g.held.capped spare (omega arith))

        at : (r : ℕ) → r < row_room → Dec (r / node_rows ≡ id) → channels_of s r ≤ cap_of u10 r
        at r m (yes e) = rw (empty r m e) (omega arith)
        at r m (no u) = rw (other_cap r m u) (g.held.narrow r m)

    pub written_input : (p : ℕ) → p < inputs → cap_of u10 (input_row id p) ≡ ceiling_of s
    written_input p m =
        let a = g.inputs_in in
        cap_port u10 id p l (omega arith) ∙ rw (word0 l w, lt-ltb p port_room (omega arith), word1 l w, lt-ltb p inputs m) written_ceiling

    pub written_output : (p : ℕ) → p < outputs → cap_of u10 (output_row id p) ≡ ceiling_of s
    written_output p m =
        let a = g.outputs_in in
        let e : node_rows * id + port_room + p ≡ node_rows * id + (port_room + p) = omega arith in
        let d : port_room + p - port_room ≡ p = omega arith in
        ap (cap_of u10) e ∙ cap_port u10 id (port_room + p) l (omega arith)
        ∙ rw (word0 l w, le-ltb (port_room + p) port_room (omega arith), d, word2 l w, lt-ltb p outputs m) written_ceiling
