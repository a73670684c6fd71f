-- Each part that fails breaks a sentence of the ledger, and all parts give it.
use Rattle.std.proofs.Common.{refl, ◌∙◌}
use Rattle.pool.specs.Pool.{mem}
use Rattle.ledger.proofs.Ledgers.{ledger_from, in_range_from, balanced_from}
use Rattle.ledger.proofs.holds.Goals as goal

pub returns-then-not-in_range : goal.returns-then-not-in_range
returns-then-not-in_range c =
    (λ t. absurd (cc), λ g. c.if-not-in_range.ensures.1 (in_range_from (mem c.args.state.now c.args.pool.now) g))

pub returns-then-not-balanced : goal.returns-then-not-balanced
returns-then-not-balanced c =
    (λ t. absurd (cc), λ g. c.if-not-balanced.ensures.1 (balanced_from (mem c.args.state.now c.args.pool.now) g))

pub returns : goal.returns
returns c = (
  λ t.
      ledger_from (mem c.args.state.now c.args.pool.now)
      (record { state = c.told-state; pool = c.if-pool-get.false ∙ c.get.ensures; slots = c.told-pool })
      (c.if-not-in_range.ensures.0 refl) c.in-Some.ensures.0 (c.if-not-balanced.ensures.0 refl) (c.silent.ensures.0 t),
  λ g. c.silent.ensures.1 g.quiet,
)
