-- What the tests and the sums of the code answer where no definition of a public function says it by itself (src/check.rt, src/constraint.rt).
-- Assumes nothing.
use Rattle.std.specs.Prelude.{cond, List, ℕ, ◌≤◌, length, T, Option, Some, None}
use Rattle.base.specs.declared.verdict.Verdict.{Verdict}
use Rattle.regions.specs.Region.{places, record_size, region_count, side_sum}
use Rattle.counts.specs.Cost.{Spacing, edges_of}
use Rattle.regions.specs.Accept.{pairs_test, sides_fit}
use Rattle.counts.specs.Solver.{round_order, solve_order, side_in_range}

-- a round's tests up to 6, which the code makes on its tables
unfoldable pub round_head : ℕ → List ℕ → Spacing → List ℕ → ℕ → Verdict
unfolding round_order pairs_test
round_head p regions spacing counts limit =
    round_order p regions spacing counts limit (pairs_test p (edges_of spacing) 0 (region_count p regions) regions)

-- and a solve's
unfoldable pub solve_head : ℕ → List ℕ → Spacing → ℕ → ℕ → Verdict
unfolding solve_order pairs_test
solve_head p regions spacing room limit =
    solve_order p regions spacing room limit (pairs_test p (edges_of spacing) 0 (region_count p regions) regions)

-- what `region_holds` asks: a record stands there, and no side of it is longer than its places
pub record RecordThere (records : List ℕ) : Type 0 where
  pub long : record_size places ≤ length records
  pub sides_fit : T (sides_fit places 1 records)

-- `side_sum`: "Sum the integer counts on one side", unless an edge is out of range
abbrev pub sum_of_side : List ℕ → List ℕ → Option ℕ
sum_of_side counts side = cond (side_in_range counts side) (Some (side_sum counts side)) None
