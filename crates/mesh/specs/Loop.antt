-- 000's `BoundaryCurves::from_loop`: a closed loop of points, "lent as x, y in turn", what is refused of it, and the four curves that it falls into. Assumes nothing.
use Rattle.std.specs.Prelude.{Bool, not, ◌&&◌, ◌||◌, cond, List, ◌++◌, ℕ, ◌+◌, ◌-◌, ◌*◌, ◌/◌, ◌%◌, length, get_or, take, drop, leb, ltb, eqb, Float}
use Rattle.std.specs.Float.{nan}
use Rattle.std.specs.Float.Ieee.{eq}
use Rattle.base.specs.declared.verdict.Verdict.{Verdict}
use Rattle.base.specs.Refusal.{refused, refuse_if}
use Rattle.base.specs.Tests.{if_passed}
use Rattle.base.specs.Answers.{Answer, good, turned_away}
use Rattle.curves.specs.Curve.{point_count}
use Rattle.mesh.specs.declared.boundary.Pieces.{Pieces}
use Rattle.mesh.specs.declared.boundary.Pieces.TheVariants.{Corners, Quarters}

-- ---- the points used

-- both coordinates equal as f64: -0 equals +0, and a NaN equals nothing
abbrev pub same_point : List Float → ℕ → ℕ → Bool
same_point points i j = eq (get_or points (2 * i) nan) (get_or points (2 * j) nan) && eq (get_or points (2 * i + 1) nan) (get_or points (2 * j + 1) nan)

-- "a last point equal to the first (..) (from 5 points up)"
unfoldable pub closes : List Float → Bool
unfolding eq
closes points = leb 5 (point_count points) && same_point points 0 (point_count points - 1)

-- how many points there are, "once a last point equal to the first is dropped"
unfoldable pub points_used : List Float → ℕ
unfolding closes
points_used points = cond (closes points) (point_count points - 1) (point_count points)

-- ---- what is refused: "1, 12"; what is not falls into four curves

-- Of four points each is a corner, and "only a 4-point loop shares its corners"; of 8 or more each curve has a quarter, of so many points. These
-- are the code's own `Pieces`.

-- "at most 4,096 points"
abbrev pub max_loop : ℕ
max_loop = 4096

-- "a limit above exceeded, or a broken record or list": "at most 4,096 points", and "an odd number of values is broken"
unfoldable pub size_test : List Float → Verdict
size_test points = refuse_if (ltb max_loop (point_count points) || not (eqb (length points % 2) 0)) (refused 1 0 0)

-- "loop not 4 points, nor 8 or more in fours"
unfoldable pub in_fours : ℕ → Answer Pieces
in_fours used =
    cond (eqb used 4) (good Corners) (cond (leb 8 used && eqb (used % 4) 0) (good (Quarters (used / 4))) (turned_away (refused 12 0 0)))

unfoldable pub from_loop : List Float → Answer Pieces
unfolding points_used size_test in_fours
from_loop points = if_passed (size_test points) (in_fours (points_used points)) turned_away

-- ---- the four curves, by the numbers of their sides: bottom 0, right 1, top 2, left 3

-- n points from the point k on
abbrev pub points_from : List Float → ℕ → ℕ → List Float
points_from points k n = take (2 * n) (drop (2 * k) points)

-- the curve k of four corners goes from the corner k to the next one, and after the last corner comes the first
unfoldable pub piece : Pieces → List Float → ℕ → List Float
piece Corners points k = points_from points k 1 ++ points_from points ((k + 1) % 4) 1
piece (Quarters n) points k = points_from points (k * n) n
