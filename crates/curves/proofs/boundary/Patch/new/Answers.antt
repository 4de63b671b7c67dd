-- `Patch::new` meets its contract: a curve is refused, or the ends of the curves are, or the curves join. Assumes nothing.
use Rattle.std.proofs.Common.{◌≡◌, ◌∙◌, ap}
use Rattle.base.proofs.TestLaws.{exit_is}
use Rattle.base.specs.declared.verdict.Verdict.{Verdict}
use Rattle.curves.specs.Boundary.{boundary_ends, ends_test}
use Rattle.curves.specs.inner.Curves.{lent, checked_on}
use Rattle.curves.proofs.boundary.Laws.{bottom_refused, right_refused, top_refused, left_refused, curves_are, by_ends}
use Rattle.curves.proofs.boundary.Patch.new.Goals as goal
use Rattle.curves.proofs.boundary.Patch.new.Goals.{After-boundary_ends-ends}

pub returns-in_err-bottom-clause-told : goal.returns-in_err-bottom-clause-told
returns-in_err-bottom-clause-told c =
    exit_is _ _ c.from_residual.ensures.1
    ∙ bottom_refused (lent c.args.points) _ c.in_err-bottom.ensures.told

pub returns-in_err-right-clause-told : goal.returns-in_err-right-clause-told
returns-in_err-right-clause-told c =
    exit_is _ _ c.from_residual-in_err-right.ensures.1
    ∙ right_refused (lent c.args.points) _ c.in_ok-bottom.ensures.told c.in_err-right.ensures.told

pub returns-in_err-top-clause-told : goal.returns-in_err-top-clause-told
returns-in_err-top-clause-told c =
    exit_is _ _ c.from_residual-in_err-top.ensures.1
    ∙ top_refused (lent c.args.points) _ c.in_ok-bottom.ensures.told c.in_ok-right.ensures.told c.in_err-top.ensures.told

pub returns-in_err-left-clause-told : goal.returns-in_err-left-clause-told
returns-in_err-left-clause-told c =
    exit_is _ _ c.from_residual-in_err-left.ensures.1
    ∙ left_refused (lent c.args.points) _ c.in_ok-bottom.ensures.told c.in_ok-right.ensures.told c.in_ok-top.ensures.told c.in_err-left.ensures.told

-- the four curves pass, so the ends decide
told : (c : After-boundary_ends-ends) (v : Verdict) → v ≡ ends_test c.boundary_ends-ends.result → v ≡ checked_on (lent c.args.points)
told c v =
    let p = lent c.args.points in
    let same =
    curves_are p c.in_ok-bottom.ensures.knots c.in_ok-right.ensures.knots c.in_ok-top.ensures.knots c.in_ok-left.ensures.knots in
    by_ends p c.in_ok-bottom.ensures.told c.in_ok-right.ensures.told c.in_ok-top.ensures.told c.in_ok-left.ensures.told
    (c.boundary_ends-ends.ensures ∙ ap boundary_ends same)

pub returns-in_err-check_ends-clause-told : goal.returns-in_err-check_ends-clause-told
returns-in_err-check_ends-clause-told c =
    exit_is _ _ c.from_residual-in_err-check_ends.ensures.1
    ∙ told (goal.at.returns-in_err-check_ends-clause-told c).After-boundary_ends-ends _ c.in_err-check_ends.ensures

pub returns-clause-told : goal.returns-clause-told
returns-clause-told c = told (goal.at.returns-clause-told c).After-boundary_ends-ends _ c.in_ok-check_ends.ensures
