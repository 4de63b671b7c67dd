-- `stage::patch_in` meets its contract: the curves are refused, or they join, and the rest follows. Assumes nothing.
use Rattle.std.proofs.Common.{◌∙◌, ap}
use Rattle.base.proofs.TestLaws.{was_passed}
use Rattle.curves.specs.Boundary.{BoundaryCurves}
use Rattle.curves.specs.Coons.{patch, grid_stage}
use Rattle.curves.specs.inner.Curves.{lent, checked_on}
use Rattle.curves.specs.inner.Grids.{lent_seams}
use Rattle.curves.proofs.stage.Laws.{exit_refuses, goes_on}
use Rattle.curves.proofs.stage.patch_in.Goals as goal

pub returns-in_err-patch : goal.returns-in_err-patch
unfolding patch
returns-in_err-patch c = exit_refuses c.args.out.now _ _ _ c.from_residual.ensures.1 c.in_err-patch.ensures.told

pub returns : goal.returns
unfolding patch
returns c =
    let a = c.args in
    let s = lent_seams a.seams in
    let p = c.in_ok-patch.ensures in
    c.grid_stage.ensures
    ∙ ap (λ (x : BoundaryCurves). grid_stage a.layout x s a.out.now) p.curves
    ∙ goes_on a.out.now _ (checked_on (lent a.curves)) (was_passed p.told)
