-- `counts::round_within` meets its contract, by the outcome of its tests. Assumes nothing.
use Rattle.std.proofs.Common.{◌∙◌, ap, refl}
use Rattle.counts.specs.Cost.{within}
use Rattle.counts.specs.Solver.{expansions, round_of}
use Rattle.base.proofs.TestLaws.{was_passed}
use Rattle.counts.proofs.SolverLaws.{exit_err}
use Rattle.counts.proofs.Entry.{RoundEarly, round_refused_early, round_refused_late, round_done, round_tables, round_ready}
use Rattle.counts.proofs.round_within.Goals as goal
use Rattle.counts.proofs.round_within.Goals.{In_ok-check_round}

-- the tests up to 6 have passed
early : (c : In_ok-check_round)
    → let s = c.args in
    RoundEarly s.regions.now (within s.ranges.least.now s.ranges.most.now) s.counts.now c.unwrap_or-limit.result (expansions s.limit)
early c = record { passes = was_passed c.in_ok-check_round.ensures; limit_is = c.unwrap_or-limit.ensures }

pub returns-in_err-check_round : goal.returns-in_err-check_round
returns-in_err-check_round c =
    let s = c.args in
    ap (λ r. round_of r s.counts.now) (exit_err _ _ c.from_residual.ensures.1)
    ∙ round_refused_early s.regions.now (within s.ranges.least.now s.ranges.most.now) s.counts.now _ c.unwrap_or-limit.ensures c.in_err-check_round.ensures

pub build_graph-requires : goal.build_graph-requires
build_graph-requires c = round_tables (early (goal.at.build_graph-requires c).In_ok-check_round) refl refl

pub returns-in_err-build_graph : goal.returns-in_err-build_graph
returns-in_err-build_graph c =
    ap (λ r. round_of r c.args.counts.now) (exit_err _ _ c.from_residual-in_err-build_graph.ensures.1)
    ∙ round_refused_late (early (goal.at.returns-in_err-build_graph c).In_ok-check_round) _ c.in_err-build_graph.ensures.verdict_is

pub make_round-requires : goal.make_round-requires
make_round-requires c = round_ready (early (goal.at.make_round-requires c).In_ok-check_round) c.in_ok-build_graph.ensures

pub returns : goal.returns
returns c =
    let made = c.make_round in
    round_done (early (goal.at.returns c).In_ok-check_round) made.result _ c.in_ok-build_graph.ensures.verdict_is made.ensures
