-- `curve::Segment::fraction` meets its contract. Assumes nothing.
use Rattle.curves.specs.Curve.{fraction}
use Rattle.curves.proofs.curve.Segment.fraction.Goals as goal

pub returns-then-span : goal.returns-then-span
unfolding fraction
returns-then-span c = simp (← c.span-span.ensures, c.if-span.true)

pub returns : goal.returns
unfolding fraction
returns c = simp (← c.span-span.ensures, c.if-span.false)
