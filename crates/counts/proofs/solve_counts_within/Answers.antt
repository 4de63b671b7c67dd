-- `counts::solve_counts_within` meets its contract, by the outcome of its tests. Assumes nothing.
use Rattle.std.proofs.Common.{◌∙◌, ap, refl, sym, arith}
use lib.Seq.{length-take-le}
use Rattle.counts.specs.Cost.{within}
use Rattle.counts.specs.Solver.{expansions, solve_of}
use Rattle.base.proofs.TestLaws.{was_passed}
use Rattle.counts.proofs.SolverLaws.{exit_err}
use Rattle.counts.proofs.Entry.{SolveEarly, solve_refused_early, solve_refused_late, solve_done, solve_tables, solve_room, solve_ready}
use Rattle.counts.proofs.solve_counts_within.Goals as goal
use Rattle.counts.proofs.solve_counts_within.Goals.{In_ok-check_solve}

-- the tests up to 6 have passed
early : (c : In_ok-check_solve)
    → let s = c.args in
    SolveEarly s.regions.now (within s.ranges.least.now s.ranges.most.now) s.counts.now c.unwrap_or-limit.result (expansions s.limit)
early c = record { passes = was_passed c.in_ok-check_solve.ensures; limit_is = c.unwrap_or-limit.ensures }

pub returns-in_err-check_solve : goal.returns-in_err-check_solve
returns-in_err-check_solve c =
    let s = c.args in
    ap (λ r. solve_of r s.counts.now) (exit_err _ _ c.from_residual.ensures.1)
    ∙ solve_refused_early s.regions.now (within s.ranges.least.now s.ranges.most.now) s.counts.now _ c.unwrap_or-limit.ensures c.in_err-check_solve.ensures

pub build_graph-requires : goal.build_graph-requires
build_graph-requires c = solve_tables (early (goal.at.build_graph-requires c).In_ok-check_solve) refl refl

pub returns-in_err-build_graph : goal.returns-in_err-build_graph
returns-in_err-build_graph c =
    ap (λ r. solve_of r c.args.counts.now) (exit_err _ _ c.from_residual-in_err-build_graph.ensures.1)
    ∙ solve_refused_late (early (goal.at.returns-in_err-build_graph c).In_ok-check_solve) _ c.in_err-build_graph.ensures.verdict_is

pub slice_bounds-solve_from_zeros-end : goal.slice_bounds-solve_from_zeros-end
slice_bounds-solve_from_zeros-end c =
    let room = solve_room (early (goal.at.slice_bounds-solve_from_zeros-end c).In_ok-check_solve) in
    omega (arith, room)

pub slice_bounds-solve_from_zeros-end-2 : goal.slice_bounds-solve_from_zeros-end-2
slice_bounds-solve_from_zeros-end-2 c =
    let room = solve_room (early (goal.at.slice_bounds-solve_from_zeros-end-2 c).In_ok-check_solve) in
    sym (length-take-le _ _ (omega (arith, room)))

pub solve_from_zeros-requires : goal.solve_from_zeros-requires
solve_from_zeros-requires c = solve_ready (early (goal.at.solve_from_zeros-requires c).In_ok-check_solve) c.in_ok-build_graph.ensures

pub returns : goal.returns
returns c =
    let made = c.solve_from_zeros in
    solve_done (early (goal.at.returns c).In_ok-check_solve) made.result made.new.counts c.in_ok-build_graph.ensures.verdict_is made.ensures refl
