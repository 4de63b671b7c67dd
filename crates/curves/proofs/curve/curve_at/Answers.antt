-- `curve::curve_at` meets its contract: the curve has no segment, or the point is asked for. Assumes nothing.
use mathlib.Core.Path.{sym}
use Rattle.base.specs.Refusal.{verdict_of}
use Rattle.curves.proofs.curve.Ends.{answered, no_segment}
use Rattle.curves.proofs.curve.curve_at.Goals as goal

pub returns-then-knots-lt2 : goal.returns-then-knots-lt2
unfolding verdict_of
returns-then-knots-lt2 c = sym (no_segment _ _ _ c.if-knots-lt2.true)

pub returns : goal.returns
returns c = answered _ _ _ c.if-knots-lt2.false c.curve_near.ensures
