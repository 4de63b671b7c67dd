-- The four curves that a loop falls into, as the code lends them. Assumes nothing.
use Rattle.std.specs.Prelude.{◌≡◌, List, ◌*◌, ◌≤◌, length, Float}
use Rattle.std.specs.Borrow.{Bor}
use Rattle.curves.specs.Curve.{point_count}
use Rattle.curves.specs.declared.sides.Sides.{Sides}
use Rattle.mesh.specs.Loop.{piece}
use Rattle.mesh.specs.declared.boundary.Pieces.{Pieces}
use Rattle.mesh.specs.declared.boundary.Pieces.TheVariants.{Corners, Quarters}

-- the points are there, and `closing` is the side from the last of four corners to the first
abbrev pub PiecesIn : Pieces → List Float → List Float → Type 0
PiecesIn Corners points closing = (8 ≤ length points) × (closing ≡ piece Corners points 3)
PiecesIn (Quarters n) points closing = 4 * n ≤ point_count points

pub record CurvesOf (s : Sides (Bor (List Float))) (p : Pieces) (points : List Float) : Type 0 where
  pub bottom_is : s.bottom.now ≡ piece p points 0
  pub right_is : s.right.now ≡ piece p points 1
  pub top_is : s.top.now ≡ piece p points 2
  pub left_is : s.left.now ≡ piece p points 3
