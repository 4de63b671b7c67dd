-- `curve::curve_near` meets its contract: the curve ends there, or the point is blended. Assumes nothing.
use mathlib.Core.Path.{sym, ◌∙◌}
use Rattle.curves.specs.Curve.{between}
use Rattle.curves.proofs.curve.Ends.{first_end, last_end, unclamped}
use Rattle.curves.proofs.curve.curve_near.Goals as goal

pub returns-then-t : goal.returns-then-t
returns-then-t c = c.first_end.ensures ∙ sym (first_end _ _ c.if-t.true)

pub returns-then-t-2 : goal.returns-then-t-2
returns-then-t-2 c = c.last_end.ensures ∙ sym (last_end _ _ c.if-t-2.true)

pub returns : goal.returns
unfolding between
returns c =
    unclamped _ _ c.if-t.false c.if-t-2.false
    (simp (c.blend_at-point.ensures, c.segment_near-k.ensures.value, c.length_along-target.ensures))
