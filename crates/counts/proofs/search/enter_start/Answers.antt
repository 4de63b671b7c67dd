-- `search::enter_start` meets its contract, by the limit, by whether the start's edge has a constraint, and by the cost. Assumes nothing.
use mathlib.Core.Path.{sym, ◌∙◌}
use native.Mathlib.Omega.{arith}
use Rattle.counts.proofs.search.Start.{entered_back, entered_free, entered_held, entered_high}
use Rattle.counts.proofs.search.enter_start.Goals as goal

pub returns-then-limit-state : goal.returns-then-limit-state
returns-then-limit-state c = entered_back c.if-limit-state.true

pub returns-then-entry-ne-NO_CONSTRAINT : goal.returns-then-entry-ne-NO_CONSTRAINT
returns-then-entry-ne-NO_CONSTRAINT c = entered_held c.requires (omega (arith, c.if-limit-state.false)) (λ q. c.if-entry-ne-NO_CONSTRAINT.true (c.entry.ensures ∙ q))

pub returns-then-cost-next : goal.returns-then-cost-next
unfolding lib.Ieee.of_bits
returns-then-cost-next c =
    entered_free c.requires (omega (arith, c.if-limit-state.false)) (sym c.entry.ensures ∙ c.if-entry-ne-NO_CONSTRAINT.false)
    c.edge_cost-cost.ensures
    c.if-cost-next.true c.keep_path.ensures.0 (c.keep_path.ensures.1 ∙ sym c.requires.best_long)

pub returns : goal.returns
unfolding lib.Ieee.of_bits
returns c =
    entered_high c.requires (omega (arith, c.if-limit-state.false)) (sym c.entry.ensures ∙ c.if-entry-ne-NO_CONSTRAINT.false)
    c.edge_cost-cost.ensures c.if-cost-next.false
