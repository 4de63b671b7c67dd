-- `Pieces::curves` meets its contract: three of the sides between corners lie in the list. Assumes nothing.
use Rattle.mesh.specs.declared.boundary.Pieces.TheVariants.{Corners}
use Rattle.mesh.specs.inner.Curves.{PiecesIn}
use Rattle.mesh.proofs.boundary.Laws.{side_0, side_1, side_2}
use Rattle.mesh.proofs.boundary.Pieces.curves.Goals as goal

pub returns-in-Corners : goal.returns-in-Corners
returns-in-Corners c =
    let points = c.args.points.now in
    let lent : PiecesIn Corners points c.args.closing.now = rw c.in-Corners.is at c.requires in
    rw c.in-Corners.is (record { bottom_is = side_0 points; right_is = side_1 points; top_is = side_2 points; left_is = lent.1 })
