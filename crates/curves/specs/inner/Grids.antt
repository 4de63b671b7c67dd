-- What the functions of the grid ask of the seams and of the buffers that they are lent, and what they answer. Assumes nothing.
use Rattle.std.specs.Prelude.{◌≡◌, List, ℕ, ◌-◌, ◌*◌, ◌<◌, ◌≤◌, length, get_or, Option, IfSome, Float}
use Rattle.std.specs.Borrow.{Bor}
use Rattle.base.specs.declared.verdict.Verdict.{Verdict}
use Rattle.curves.specs.Curve.{ArcCurve}
use Rattle.curves.specs.Boundary.{BoundaryCurves}
use Rattle.curves.specs.Point.{no_point}
use Rattle.curves.specs.Patch.{coons_point}
use Rattle.curves.specs.Grid.{Seams, seams, n_u, n_v, Grid, grid_test, needed}
use Rattle.curves.specs.Coons.{Outcome, filled, patch, even_seams}
use Rattle.curves.specs.Limits.{max_curve, max_seam, max_cells}
use Rattle.curves.specs.inner.Columns.{Table}
use Rattle.curves.specs.inner.Level.{Upright}
use Rattle.curves.specs.inner.Curves.{lent, ShortCurves, knots_on, KnotsFit}
use Rattle.curves.specs.declared.boundary.Patch.{Patch}
use Rattle.curves.specs.declared.point.Point.{Point}
use Rattle.curves.specs.declared.patch.Column.{Column}
use Rattle.curves.specs.declared.rows.Layout.{Layout}
use Rattle.curves.specs.declared.sides.Sides.{Sides}

-- ---- seams

-- the seams behind four references
abbrev pub lent_seams : Sides (Bor (List Float)) → Seams
lent_seams s = seams s.bottom.now s.top.now s.left.now s.right.now

-- no seam has more values than the limit
pub record ShortSeams (s : Seams) : Type 0 where
  pub bottom : length s.bottom ≤ max_seam
  pub top : length s.top ≤ max_seam
  pub left : length s.left ≤ max_seam
  pub right : length s.right ≤ max_seam

-- two opposite seams: as long as each other, and lines for at least one cell between them
pub record Pair (a b : List Float) : Type 0 where
  pub two : 2 ≤ length a
  pub short : length a ≤ max_seam
  pub same : length a ≡ length b

-- u across from bottom to top, v from left to right
pub record PairedSeams (s : Seams) : Type 0 where
  pub u : Pair s.bottom s.top
  pub v : Pair s.left s.right

-- ---- rows

-- a row of crossings is asked for: both seams have a value for each
pub record RowGiven (bottom top : List Float) (row : List Point) : Type 0 where
  pub some : 0 < length bottom
  pub short : length bottom ≤ max_seam
  pub across : length bottom ≤ length top
  pub room : length row ≡ length bottom

-- how many cells lie along a seam
abbrev pub row_cells : List Float → ℕ
row_cells seam = length seam - 1

-- what level rows may go by: the columns of the bottom seam, and upright lines
pub record LevelGiven (p : Patch) (bottom top : List Float) (columns : List Column) : Type 0 where
  pub held : Table p bottom columns
  pub lines : Upright bottom top

-- where there are such columns
abbrev pub Levels : Patch → List Float → List Float → Option (Bor (List Column)) → Type 0
Levels p bottom top columns = IfSome columns (λ (x : Bor (List Column)). LevelGiven p bottom top x.now)

-- what they are filled from
pub record SeamColumns (bottom top : List Float) (table : List Column) : Type 0 where
  pub room : length bottom ≤ length table
  pub across : length bottom ≤ length top

-- what row j of the points is worked out from
pub record PointsGiven (p : Patch) (columns : Option (Bor (List Column))) (bottom top : List Float) (j : ℕ) (row : List Point) : Type 0 where
  pub level : Levels p bottom top columns
  pub row_given : RowGiven bottom top row
  pub index : j ≤ max_cells

-- the points of a patch in the place of their pairs u, v
pub record Mapped (c : BoundaryCurves) (before after : List Point) : Type 0 where
  pub each : length after ≡ length before
  pub holds : (i : ℕ) → i < length before → get_or after i no_point ≡ coons_point c (get_or before i no_point).x (get_or before i no_point).y

-- ---- the grid

-- room for a column for each value of the bottom seam, and for two rows of points
pub record Workspace (bottom : List Float) (table : List Column) (low high : List Point) : Type 0 where
  pub columns : length bottom ≤ length table
  pub low_fits : length bottom ≤ length low
  pub high_fits : length bottom ≤ length high

-- what the rows of a grid are worked out from
pub record RowsGiven (p : Patch) (s : Seams) (layout : Layout) (columns : Option (Bor (List Column))) (low high : List Point) (out : List Float) : Type 0 where
  pub level : Levels p s.bottom s.top columns
  pub paired : PairedSeams s
  pub low_row : length low ≡ length s.bottom
  pub high_row : length high ≡ length s.bottom
  pub room : needed layout (n_u s) (n_v s) ≤ length out

-- what a grid is worked out from
pub record GridGiven (s : Seams) (layout : Layout) (table : List Column) (low high : List Point) (out : List Float) : Type 0 where
  pub paired : PairedSeams s
  pub workspace : Workspace s.bottom table low high
  pub room : needed layout (n_u s) (n_v s) ≤ length out

-- the same before the seams and the output's room are tested
pub record StageGiven (s : Seams) (table : List Column) (low high : List Point) : Type 0 where
  pub workspace : Workspace s.bottom table low high
  pub short : ShortSeams s

-- n by m cells that are to be cleared
pub record CellsRoom (layout : Layout) (n m : ℕ) (out : List Float) : Type 0 where
  pub columns : n ≤ max_cells
  pub rows : m ≤ max_cells
  pub room : needed layout n m ≤ length out

-- what a grid answers and leaves
pub record Gridded (layout : Layout) (f : Grid) (n m : ℕ) (before after : List Float) (v : Verdict) : Type 0 where
  pub told : v ≡ grid_test f n m
  pub left : after ≡ (filled layout f n m before).out

-- ---- tiles

-- what a patch is made from: curves with room for their knots, and seams with room for what goes by them
pub record TileGiven (points : Sides (List Float)) (s : Seams) (knots : ArcCurve) (table : List Column) (low high : List Point) : Type 0 where
  pub knots_fit : KnotsFit points knots
  pub workspace : Workspace s.bottom table low high
  pub short : ShortSeams s

-- curves and seams within their limits
pub record TileShort (limit : ℕ) (points : Sides (List Float)) (s : Seams) : Type 0 where
  pub curves : ShortCurves limit points
  pub seams : ShortSeams s

-- such curves and seams, and room for so many knots, which is not more than the largest curves have
pub record KnotsFitIn (knots : ℕ) (points : Sides (List Float)) (s : Seams) : Type 0 where
  pub short : TileShort max_curve points s
  pub room : knots_on points ≤ knots
  pub small : knots ≤ 2 * max_curve

-- and for the columns and two rows of so many values of a seam
pub record TileFitsIn (knots seam : ℕ) (points : Sides (List Float)) (s : Seams) : Type 0 where
  pub knots_fit : KnotsFitIn knots points s
  pub seam_fits : length s.bottom ≤ seam
  pub small_seam : seam ≤ max_seam

-- what a patch answers and leaves
abbrev pub PatchMade : Layout → Sides (Bor (List Float)) → Sides (Bor (List Float)) → List Float → Outcome → Type 0
PatchMade layout curves seams before o = let p = lent curves in o ≡ patch layout p.bottom p.right p.top p.left (lent_seams seams) before

-- ---- even seams

-- curves within their limits, and room of so many values, which is not more than the longest seam takes, for a seam of either number of cells
pub record CellsFitIn (seam : ℕ) (points : Sides (List Float)) (n m : ℕ) : Type 0 where
  pub curves : ShortCurves max_curve points
  pub us_fit : n < seam
  pub vs_fit : m < seam
  pub small : seam ≤ max_seam

-- what a patch of even seams answers and leaves
abbrev pub EvenPatchMade : Layout → Sides (Bor (List Float)) → ℕ → ℕ → List Float → Outcome → Type 0
EvenPatchMade layout curves n m before o = let p = lent curves in o ≡ patch layout p.bottom p.right p.top p.left (even_seams n m) before
