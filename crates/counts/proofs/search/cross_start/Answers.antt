-- `search::cross_start` meets its contract, by whether the start was turned back, and by the number of its constraints. Assumes nothing.
use mathlib.Core.Path.{sym, ◌∙◌}
use Rattle.counts.proofs.search.Start.{crossed_cut, crossed_none, crossed_one, crossed_two, first_crossing, second_crossing}
use Rattle.counts.proofs.search.cross_start.Goals as goal

pub returns-then-state : goal.returns-then-state
returns-then-state c = crossed_cut c.if-state.true

pub returns-then-first-eq-NO_CONSTRAINT : goal.returns-then-first-eq-NO_CONSTRAINT
returns-then-first-eq-NO_CONSTRAINT c = crossed_none c.requires c.if-state.false (sym c.entry-first.ensures ∙ c.if-first-eq-NO_CONSTRAINT.true)

pub dfs-r-requires : goal.dfs-r-requires
dfs-r-requires c = first_crossing c.requires c.entry-first.ensures c.entry-second.ensures c.if-first-eq-NO_CONSTRAINT.false

pub returns-then-second-eq-NO_CONSTRAINT : goal.returns-then-second-eq-NO_CONSTRAINT
returns-then-second-eq-NO_CONSTRAINT c =
    crossed_one c.requires c.entry-first.ensures c.entry-second.ensures c.if-first-eq-NO_CONSTRAINT.false c.dfs-r.ensures
    c.edge_cost-cost.ensures c.if-state.false c.if-second-eq-NO_CONSTRAINT.true

pub dfs-requires : goal.dfs-requires
dfs-requires c =
    second_crossing c.requires c.entry-first.ensures c.entry-second.ensures c.if-first-eq-NO_CONSTRAINT.false
    c.dfs-r.ensures c.if-second-eq-NO_CONSTRAINT.false

pub returns : goal.returns
returns c =
    crossed_two c.requires c.entry-first.ensures c.entry-second.ensures c.if-first-eq-NO_CONSTRAINT.false c.dfs-r.ensures
    c.edge_cost-cost.ensures c.if-state.false c.if-second-eq-NO_CONSTRAINT.false c.dfs.ensures
