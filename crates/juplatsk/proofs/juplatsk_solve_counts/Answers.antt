-- `juplatsk_solve_counts` meets its contract. Assumes nothing.
use mathlib.Core.Path.{ap, ◌∙◌}
use Rattle.counts.specs.Cost.{by}
use Rattle.counts.specs.Solver.{expansions, solve}
use Rattle.std.specs.Prelude.{Option, ℕ}
use Rattle.juplatsk.proofs.Laws.{solve_exported}
use Rattle.juplatsk.proofs.juplatsk_solve_counts.Goals as goal

pub returns : goal.returns
returns c =
    let s = c.args in
    let made = c.solve_counts-solved in
    solve_exported made.result c.store_number.ensures
    (made.ensures ∙ ap (λ (limit : Option ℕ). solve s.regions.now (by s.ideals.now) s.counts.now (expansions limit)) c.search_limit-limit.ensures)
