use Rattle.std.proofs.Common.{◌≡◌, List, ℕ, length}
use lib.Ieee.{Float}
use Rattle.base.specs.declared.verdict.Verdict.{Verdict}
use Rattle.base.specs.Refusal.{outcome}
use Rattle.curves.specs.Boundary.{BoundaryCurves}
use Rattle.curves.specs.Grid.{Seams, n_u, n_v, grid_of}
use Rattle.curves.specs.inner.Curves.{curves_of}
use Rattle.curves.specs.inner.Grids.{lent_seams}
use Rattle.curves.specs.declared.point.Point.{Point}
use Rattle.curves.specs.declared.rows.Layout.{Layout}
use Rattle.curves.proofs.grid.Filled.{RowsTo}
use Rattle.curves.proofs.grid.grid_rows.Given as goal

pub record Turn (c : BoundaryCurves) (s : Seams) (layout : Layout) (out₀ : List Float) (low high : List Point) (out : List Float) (cells : Verdict) (at j : ℕ)
    : Type 0 where
  pub low_row : length low ≡ length s.bottom
  pub high_row : length high ≡ length s.bottom
  pub same_out : length out ≡ length out₀
  pub laid : RowsTo layout (grid_of c s) (n_u s) (n_v s) out₀ j at low out cells

abbrev pub invariant-loop-j : goal.invariant-loop-j
invariant-loop-j l =
    Turn (curves_of l.patch) (lent_seams l.seams) l.layout l.initial.out l.low l.high l.out (outcome l.cells) l.at l.j
