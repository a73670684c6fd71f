-- One finished id more: it is kept unless it is muted. Then the list is reversed in place.
use Rattle.layout.specs.Sizes.{id_room}
use Rattle.std.proofs.lemmas.List.Elements.{All-same, All-push, All-get_or}
use Rattle.std.proofs.Common.{ℕ, not, ap, ◌∙◌, length, filter, reverse, None, ◌<◌, ◌++◌, [], ◌∷◌, get_or, List, sym, arith}
use Rattle.std.proofs.lemmas.List.{take_all}
use Rattle.ordering.specs.Walk.{flag}
use Rattle.ordering.specs.View.{notes}
use Rattle.ordering.proofs.Storing.{refilled, sounding_all, kept_yes, kept_no, all_reverse}
use Rattle.ordering.proofs.pass.Pass.sounding.Goals as goal
use Rattle.ordering.proofs.pass.Pass.sounding.Goals.{then-not-self-x, else-not-self-x}

pub returns-clause-ids : goal.returns-clause-ids
returns-clause-ids c =
    let i = c.loop-x.invariant in
    let p = λ (x : ℕ). not (flag c.args.self.now.muted x) in
    refilled _ c.loop-x.order.items c.reverse.new.self (c.reverse.ensures.len ∙ ap length c.deref_mut.ensures.value)
    ∙ c.reverse.ensures.after
    ∙ ap reverse (c.deref_mut.ensures.value ∙ i.ids ∙ ap (filter p) (take_all c.loop-x.x-index _ c.loop-x-test.false ∙ i.all))
    ∙ sounding_all (notes c.args.self.now None)

pub loop-x-preserved : goal.loop-x-preserved
loop-x-preserved c =
    let i = c.loop-x.invariant in
    let k = c.loop-x.x-index in
    let xs = c.as_slice-x-items.result.now in
    let p = λ (x : ℕ). not (flag c.args.self.now.muted x) in
    let low = All-get_or (λ x. x < id_room) xs k 0 c.loop-x-test.true (All-same (λ x. x < id_room) xs c.args.self.now.finished.items i.all c.args.self.now.on_finished) in
    elim c.if-not-self-x.branch [
      | then-not-self-x w ↦
          rw w.order-is (
          record {
            ids = w.push.ensures.items ∙ ap (λ (l : List ℕ). l ++ get_or xs k 0 ∷ []) i.ids ∙ sym (kept_yes p xs k c.loop-x-test.true (ap not w.if-not-self-x.true));
            few = omega (arith, w.push.ensures.len, i.few);
            low = All-same (λ x. x < id_room) w.push.new.self.items _ w.push.ensures.items (All-push (λ x. x < id_room) c.loop-x.order.items (get_or xs k 0) i.low low);
            all = i.all;
          }
          )
      | else-not-self-x w ↦
          rw w.order-is (record { ids = i.ids ∙ sym (kept_no p xs k c.loop-x-test.true (ap not w.if-not-self-x.false)); few = omega (arith, i.few); low = i.low; all = i.all })
    ]

pub returns-clause-low : goal.returns-clause-low
returns-clause-low c =
    let P = λ (x : ℕ). x < id_room in
    All-same P _ c.reverse.new.self (refilled _ c.loop-x.order.items c.reverse.new.self (c.reverse.ensures.len ∙ ap length c.deref_mut.ensures.value))
    (All-same P c.reverse.new.self _ (c.reverse.ensures.after ∙ ap reverse c.deref_mut.ensures.value) (all_reverse P c.loop-x.order.items c.loop-x.invariant.low))
