-- 000's `coons_grid` after its tests of the seams: a grid's points by row and column, its quads by their corners, the tests of both, and what an
-- output holds of them. Assumes nothing.
use Rattle.std.specs.Prelude.{List, [], ◌∷◌, ℕ, ◌+◌, ◌-◌, ◌*◌, length, get_or, Float}
use Rattle.std.specs.Float.{nan}
use Rattle.base.specs.declared.verdict.Verdict.{Verdict}
use Rattle.base.specs.Refusal.{then_test}
use Rattle.base.specs.Answers.{Answer, good, turned_away, verdict}
use Rattle.floats.specs.Scalar.{nought}
use Rattle.base.specs.Buffers.{concat_tabulate}
use Rattle.base.specs.Tests.{first_of}
use Rattle.curves.specs.Point.{point}
use Rattle.curves.specs.Crossing.{logical_intersection}
use Rattle.curves.specs.Boundary.{BoundaryCurves}
use Rattle.curves.specs.Patch.{coons_point}
use Rattle.curves.specs.Quad.{quad_test}
use Rattle.curves.specs.declared.point.Point.{Point}
use Rattle.curves.specs.declared.quad.Quad.{Quad}
use Rattle.curves.specs.declared.rows.Layout.{Layout}
use Rattle.curves.specs.declared.rows.Layout.TheVariants.{Quads, Nodes}

pub record Seams : Type 0 where
  pub bottom : List Float
  pub top : List Float
  pub left : List Float
  pub right : List Float

abbrev pub seams : List Float → List Float → List Float → List Float → Seams
seams bottom top left right = record { bottom = bottom; top = top; left = left; right = right }

-- 000's `n_u` and `n_v`: how many cells lie along the bottom and along the left
abbrev pub n_u : Seams → ℕ
n_u s = length s.bottom - 1

abbrev pub n_v : Seams → ℕ
n_v s = length s.left - 1

-- ---- the points

-- the patch's point at a crossing, where there is one
unfoldable pub mapped : BoundaryCurves → Answer Point → Answer Point
unfolding coons_point
mapped c (good p) = good (coons_point c p.x p.y)
mapped c (turned_away v) = turned_away v

-- a row of points by their columns
abbrev pub PointRow : Type 0
PointRow = ℕ → Answer Point

-- row j of the logical grid: the line from a on the left to b on the right meets the lines from bottom to top
abbrev pub crossings : List Float → List Float → Float → Float → ℕ → PointRow
crossings bottom top a b j i = logical_intersection a b (get_or bottom i nan) (get_or top i nan) i j

-- row j of the points
unfoldable pub row_of : BoundaryCurves → List Float → List Float → Float → Float → ℕ → PointRow
unfolding logical_intersection mapped
row_of c bottom top a b j i = mapped c (crossings bottom top a b j i)

-- a point or a refusal for each row and column
abbrev pub Grid : Type 0
Grid = ℕ → PointRow

abbrev pub grid_of : BoundaryCurves → Seams → Grid
grid_of c s j = row_of c s.bottom s.top (get_or s.left j nan) (get_or s.right j nan) j

-- the point that is there. Where it is refused, so is the grid, and nothing of it is written.
abbrev pub node : Answer Point → Point
node (good p) = p
node (turned_away v) = point nan nan

-- ---- the quads

-- 000's `grid_quad`: the one of row j and column i, by its corners, "counter-clockwise from its lower left"
abbrev pub grid_quad : Grid → ℕ → ℕ → Quad
grid_quad f j i = record {
  lower_left = node (f j i);
  lower_right = node (f j (i + 1));
  upper_right = node (f (j + 1) (i + 1));
  upper_left = node (f (j + 1) i);
}

-- ---- the tests

-- "points 23 and 24 row by row"
unfoldable pub row_test : PointRow → ℕ → Verdict
unfolding first_of
row_test f n = first_of (λ (i : ℕ). verdict (f i)) 0 (n + 1)

unfoldable pub points_test : Grid → ℕ → ℕ → Verdict
unfolding row_test
points_test f n m = first_of (λ (j : ℕ). row_test (f j) n) 0 (m + 1)

-- 25 of a quad, at its column and row
abbrev pub area_test : Quad → ℕ → ℕ → Verdict
area_test q i j = quad_test q.lower_left q.lower_right q.upper_right q.upper_left i j

-- and of all, row by row
unfoldable pub quads_test : Grid → ℕ → ℕ → Verdict
unfolding first_of quad_test
quads_test f n m = first_of (λ (j : ℕ). first_of (λ (i : ℕ). area_test (grid_quad f j i) i j) 0 n) 0 m

-- "points 23 and 24 row by row, 25": of n by m cells
unfoldable pub grid_test : Grid → ℕ → ℕ → Verdict
unfolding points_test quads_test
grid_test f n m = then_test (points_test f n m) (quads_test f n m)

-- ---- the output

-- "four x, y pairs"
abbrev pub quad_values : Point → Point → Point → Point → List Float
quad_values a b c d = a.x ∷ a.y ∷ b.x ∷ b.y ∷ c.x ∷ c.y ∷ d.x ∷ d.y ∷ []

-- "each as four x, y pairs counter-clockwise from its lower left"
abbrev pub corner_values : Quad → List Float
corner_values q = quad_values q.lower_left q.lower_right q.upper_right q.upper_left

-- "x, y, +0.0 for each grid point"
abbrev pub node_values : Point → List Float
node_values p = p.x ∷ p.y ∷ nought ∷ []

-- "Quads are written row by row"; a mesh's points, "rows from the bottom"
unfoldable pub grid_values : Layout → Grid → ℕ → ℕ → List Float
grid_values Quads f n m = concat_tabulate (λ (j : ℕ). concat_tabulate (λ (i : ℕ). corner_values (grid_quad f j i)) 0 n) 0 m
grid_values Nodes f n m = concat_tabulate (λ (j : ℕ). concat_tabulate (λ (i : ℕ). node_values (node (f j i))) 0 (n + 1)) 0 (m + 1)

-- how many values that is
unfoldable pub needed : Layout → ℕ → ℕ → ℕ
needed Quads n m = m * (8 * n)
needed Nodes n m = (m + 1) * (3 * (n + 1))
