-- One pass over the state, and what follows from it.
use Rattle.std.proofs.Common.{◌≡◌, sym, ap, ◌∙◌, subst, ℕ, ◌+◌, ◌<◌, List, Some, None}
use Rattle.layout.specs.Sizes.{id_room}
use Rattle.layout.specs.Views.{edges_of, breakers_of, present_of}
use Rattle.ordering.specs.Walk.{Notes, unmet, along, visit}
use Rattle.ordering.specs.Order.{breaks, targets, fresh, pass, sounding, silent}
use Rattle.ordering.specs.View.{notes}
use Rattle.ordering.specs.Listing.{put_list}
use Rattle.ordering.specs.declared.list.IdList.TheVariants.{Order, Muted}
use Rattle.ordering.specs.State.{graph_of, settle}
use Rattle.ordering.specs.declared.pass.Pass.{Pass}
use Rattle.ordering.proofs.Promises.{unmet_fresh}

pub unmet_of : (w : Pass) → notes w None ≡ fresh → unmet w.met < id_room + 1
unmet_of w e = subst (λ (n : Notes). unmet n.met < id_room + 1) (sym e) unmet_fresh

pub pass_is : (s : List ℕ) (n m : Notes) → m ≡ fresh → n ≡ along (visit (targets (edges_of s)) (breaks (breakers_of s)) (id_room + 1)) m (present_of s) → n ≡ pass (graph_of s)
unfolding pass graph_of
pass_is s n m e h = h ∙ ap (λ (k : Notes). along (visit (targets (edges_of s)) (breaks (breakers_of s)) (id_room + 1)) k (present_of s)) e

pub settled_none : (s s₁ s₂ order muted : List ℕ) (n : Notes) → n ≡ pass (graph_of s) → n.found ≡ None
    → s₁ ≡ put_list Order s order 0 → s₂ ≡ put_list Muted s₁ muted 0 → order ≡ sounding n → muted ≡ silent n (present_of s)
    → s₂ ≡ settle s (pass (graph_of s)) (pass (graph_of s)).found
unfolding settle
settled_none s s₁ s₂ order muted n e z p q o m =
    q ∙ ap (λ (t : List ℕ). put_list Muted t muted 0) (p ∙ ap (λ (l : List ℕ). put_list Order s l 0) o)
    ∙ ap (λ (l : List ℕ). put_list Muted (put_list Order s (sounding n) 0) l 0) m
    ∙ ap (settle s n) (sym z) ∙ ap (λ (k : Notes). settle s k k.found) e

pub settled_some : (s : List ℕ) (b : ℕ) (n : Notes) → n ≡ pass (graph_of s) → n.found ≡ Some b → s ≡ settle s (pass (graph_of s)) (pass (graph_of s)).found
unfolding settle
settled_some s b n e z = ap (settle s n) (sym z) ∙ ap (λ (k : Notes). settle s k k.found) e
