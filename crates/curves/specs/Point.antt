-- Points of the plane: 000's `signed_area`, each operation rounded once. Assumes nothing.
use Rattle.std.specs.Prelude.{List, [], ◌∷◌, Float}
use Rattle.std.specs.Float.{nan, binary64}
use Rattle.std.specs.Float.Ieee.{add, sub, mul}
use Rattle.floats.specs.Scalar.{nought, half}
use Rattle.curves.specs.declared.point.Point.{Point}

abbrev pub point : Float → Float → Point
point x y = record { x = x; y = y }

-- what stands past the last point of a row
abbrev pub no_point : Point
no_point = point nan nan

-- a point as it stands in a list
abbrev pub values : Point → List Float
values p = p.x ∷ p.y ∷ []

-- a term of the sum below
abbrev pub cross : Point → Point → Float
cross p q = sub binary64 (mul binary64 p.x q.y) (mul binary64 q.x p.y)

-- half the sum from +0.0 over the four sides in turn
unfoldable pub signed_area : Point → Point → Point → Point → Float
unfolding add sub mul
signed_area a b c d = mul binary64 half (add binary64 (add binary64 (add binary64 (add binary64 nought (cross a b)) (cross b c)) (cross c d)) (cross d a))
