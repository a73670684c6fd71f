-- One id more: it is muted, or it is not, or it is absent.
use Rattle.std.proofs.Common.{◌≡◌, ◌<◌, ◌++◌, ℕ, List, [], ◌∷◌, None, sym, ap, ◌∙◌, filter, arith}
use Rattle.std.proofs.lemmas.List.Elements.{All-same, All-push}
use Rattle.tally.specs.Listed.{passing}
use Rattle.layout.specs.Sizes.{id_room}
use Rattle.layout.specs.Node.{is_present}
use Rattle.ordering.specs.Walk.{flag}
use Rattle.ordering.specs.View.{notes}
use Rattle.ordering.proofs.Storing.{silent_yes, silent_no, silent_absent, silent_all}
use Rattle.ordering.proofs.pass.Pass.silent.Goals as goal
use Rattle.ordering.proofs.pass.Pass.silent.Goals.{then-get+then-self-index, then-get+else-self-index, else-get}

pub loop-index-preserved : goal.loop-index-preserved
loop-index-preserved c =
    let k = c.loop-index.index in
    let p = is_present c.args.state.now in
    let q = flag c.args.self.now.muted in
    let i = c.loop-index.invariant in
    elim c.if-get.branch [
      | then-get+then-self-index w ↦
          rw w.muted-is (
          record {
            ids = w.push.ensures.items ∙ ap (λ (l : List ℕ). l ++ k ∷ []) i.ids ∙ sym (silent_yes p q k (sym c.get.ensures ∙ w.if-get.true) w.if-self-index.true);
            few = omega (arith, w.push.ensures.len, i.few);
            low = All-same (λ x. x < id_room) w.push.new.self.items _ w.push.ensures.items (All-push (λ x. x < id_room) c.loop-index.muted.items k i.low (omega arith));
          }
          )
      | then-get+else-self-index w ↦
          rw w.muted-is (record { ids = i.ids ∙ sym (silent_no p q k (sym c.get.ensures ∙ w.if-get.true) w.if-self-index.false); few = omega (arith, i.few); low = i.low })
      | else-get w ↦ rw w.muted-is (record { ids = i.ids ∙ sym (silent_absent p q k (sym c.get.ensures ∙ w.if-get.false)); few = omega (arith, i.few); low = i.low })
    ]

pub returns-clause-ids : goal.returns-clause-ids
returns-clause-ids c =
    let s = c.args.state.now in
    let end : c.loop-index.index ≡ id_room = omega arith in
    c.loop-index.invariant.ids
    ∙ ap (λ (n : ℕ). filter (flag c.args.self.now.muted) (passing (is_present s) n 0)) end
    ∙ silent_all s (notes c.args.self.now None)
