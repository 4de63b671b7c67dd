-- `curve::Segment::blend` meets its contract. Assumes nothing.
use Rattle.curves.specs.Curve.{blend}
use Rattle.curves.proofs.curve.Segment.blend.Goals as goal

pub returns : goal.returns
unfolding blend
returns c = simp (c.toward.ensures, c.fraction-fraction.ensures)
