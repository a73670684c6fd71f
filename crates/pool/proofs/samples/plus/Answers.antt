-- One sample more at each turn, and all of them at the end.
use Rattle.std.proofs.Common.{length-set, arith, rules}
use Rattle.std.specs.Float.Ieee.{add, binary32, nan}
use Rattle.std.proofs.lemmas.List.Edits.{fill_by_more}
use Rattle.pool.specs.Pool.{sample, plus}
use Rattle.pool.proofs.Each.{each_sample_from}
use Rattle.pool.proofs.samples.plus.Goals as goal

pub loop-i-preserved : goal.loop-i-preserved
loop-i-preserved c = record {
  long = simp length-set c.loop-i.invariant.long;
  sums = fill_by_more (λ i. add binary32 (sample c.args.a.now i) (sample c.args.b.now i)) c.loop-i.sum c.loop-i.i nan (omega arith) c.loop-i.invariant.sums;
}

pub returns : goal.returns
unfolding plus
returns c = each_sample_from (λ i. add binary32 (sample c.args.a.now i) (sample c.args.b.now i)) c.loop-i.sum c.loop-i.invariant.long (search rules)
