-- `curve::distance` meets its contract. Assumes nothing.
use Rattle.curves.specs.Curve.{distance}
use Rattle.curves.proofs.curve.distance.Goals as goal

pub returns : goal.returns
unfolding distance
returns c = c.sqrt.ensures
