-- `search::end_chain` meets its contract, by the limit, by whether the start is still open, and by the cost. Assumes nothing.
use mathlib.Core.Path.{sym, ◌∙◌}
use native.Mathlib.Omega.{arith}
use Rattle.counts.proofs.search.Endings.{end_high, end_kept, end_open, end_turned_back}
use Rattle.counts.proofs.search.end_chain.Goals as goal
use Rattle.counts.proofs.search.end_chain.Goals.{then-home-eq-NO_CONSTRAINT+else-c-state, else-home-eq-NO_CONSTRAINT}

pub returns-then-state-limit : goal.returns-then-state-limit
returns-then-state-limit c = end_turned_back c.if-state-limit.true

pub returns-then-c-state : goal.returns-then-c-state
unfolding lib.Ieee.of_bits
returns-then-c-state c =
    end_kept (omega (arith, c.if-state-limit.false)) c.edge_cost.ensures c.if-home-eq-NO_CONSTRAINT.true
    c.if-c-state.true
    c.keep_path.ensures.0 (c.keep_path.ensures.1 ∙ sym c.requires.best_long)

pub returns : goal.returns
unfolding lib.Ieee.of_bits
returns c =
    let more = c.if-state-limit.false in
    elim c.if-home-eq-NO_CONSTRAINT.branch [
      | then-home-eq-NO_CONSTRAINT+else-c-state w ↦ end_high (omega (arith, more)) w.edge_cost.ensures w.if-c-state.false
      | else-home-eq-NO_CONSTRAINT w ↦ end_open (omega (arith, more)) w.if-home-eq-NO_CONSTRAINT.false
    ]
