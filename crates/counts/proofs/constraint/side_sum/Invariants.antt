use Rattle.std.proofs.Common.{◌≡◌, ℕ, ◌+◌, ◌*◌, ◌≤◌, List, drop}
use Rattle.regions.specs.Region.{side_sum}
use Rattle.counts.specs.Solver.{side_in_range}
use Rattle.counts.proofs.constraint.side_sum.Given as goal

-- the first i edges are summed up: their sum, with that of the edges left, is the whole one, and all edges are in range just if those left are
pub record Summing (counts edges : List ℕ) (total i : ℕ) : Type 0 where
  pub bounded : total ≤ i * 0xffff_ffff
  pub sum_is : side_sum counts edges ≡ total + side_sum counts (drop i edges)
  pub range_is : side_in_range counts edges ≡ side_in_range counts (drop i edges)

abbrev pub invariant-loop-e : goal.invariant-loop-e
invariant-loop-e l = Summing l.counts l.edges l.total l.e-index
