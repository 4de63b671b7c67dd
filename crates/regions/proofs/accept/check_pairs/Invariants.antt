use Rattle.std.proofs.Common.{◌≡◌, List, ℕ, ◌-◌, ◌*◌, drop}
use lib.Dec.{T}
use Rattle.regions.specs.Region.{places, region_count, record_size}
use Rattle.regions.specs.Accept.{sides_fit, pairs_test}
use Rattle.regions.proofs.accept.check_pairs.Given as goal

-- the sides of the records from r on fit, and what is left of the test from there is the whole test
pub record PairsLeft (regions : List ℕ) (n m r : ℕ) : Type 0 where
  pub fit : T (sides_fit places (m - r) (drop (r * record_size places) regions))
  pub whole : pairs_test places n 0 m regions ≡ pairs_test places n r (m - r) (drop (r * record_size places) regions)

abbrev pub invariant-loop-r : goal.invariant-loop-r
invariant-loop-r l = PairsLeft l.regions l.n (region_count places l.regions) l.r
