-- `check::check_solve` meets its contract. Assumes nothing.
use Rattle.counts.specs.inner.Checks.{solve_head}
use Rattle.counts.specs.Solver.{solve_order}
use Rattle.counts.proofs.check.Laws.{exit_both}
use Rattle.counts.proofs.check.check_solve.Goals as goal

-- 1 or 10
pub returns-in_err-and : goal.returns-in_err-and
unfolding solve_head solve_order
returns-in_err-and c = exit_both _ _ _ _ _ c.from_residual.ensures.1 c.check_spacing_limits.ensures c.check_limit.ensures c.in_err-and.ensures
