-- Before the first id nothing is known of any place.
use Rattle.std.proofs.Common.{arith, inl, refl}
use Rattle.std.proofs.lemmas.List.{get_or-replicate}
use Rattle.ledger.proofs.list.places.Goals as goal

pub loop-k-init : goal.loop-k-init
loop-k-init c =
    record {
      long = refl;
      low = λ k l. absurd (omega arith);
      distinct = λ i j l m. absurd (omega arith);
      at = λ k l. absurd (omega arith);
      known = λ x l. inl (get_or-replicate _ x _ 0 l);
    }
