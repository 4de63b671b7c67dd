-- Demand 3, whole: one claim about a list of regions, every list of rounds on it, and every tile of it. Assumes nothing.
-- The rounds of both parts are the same: `asked regions`, what the contract of the public round says that it answers and leaves. The tiles are laid
-- by `lay`, which the contract of the public lay cites.
use Rattle.std.specs.Prelude.{◌≢◌, ◌≡◌, List, Option, ℕ, ◌<◌, length, take, T, Float}
use Rattle.base.specs.Refusal.{is_passed}
use Rattle.regions.specs.Region.{places, record_size, region_count, from_region}
use Rattle.counts.specs.Cost.{Spacing, edges_of}
use Rattle.regions.specs.Accept.{accepted}
use Rattle.counts.specs.Solver.{expansions, solve}
use Rattle.counts.specs.Demand.{Request, answer_to, request_costs, left_by_all, Demand}
use Rattle.curves.specs.Lay.{TileInput, lay}

-- "one region record of the list"
abbrev pub record_of : List ℕ → ℕ → List ℕ
record_of regions r = take (record_size places) (from_region places regions r)

-- the first n counts are the same: a lent buffer may go on past them, and "Output past the needed part is untouched", so that it may be handed on
-- whole or in part
abbrev pub Alike : ℕ → List ℕ → List ℕ → Type 0
Alike n counts others = take n counts ≡ take n others

-- "counts that an accepted solve wrote for the list, or that a list of rounds with this same list of regions, begun on these, left"; no rounds
-- leave what was written
pub record Handed (regions counts : List ℕ) : Type 0 where
  pub spacing : Spacing
  pub lent : List ℕ
  pub limit : Option ℕ
  -- "an accepted solve", by ideals of either kind, at any limit, stated or not
  pub accepted_solve : T (is_passed (solve regions spacing lent (expansions limit)).verdict)
  -- "begun on these": counts that begin with what was written, as many as there are edges
  pub begun : List ℕ
  pub wrote : Alike (edges_of spacing) begun (solve regions spacing lent (expansions limit)).counts
  pub requests : List Request
  pub left : Alike (edges_of spacing) counts (left_by_all regions (answer_to regions) request_costs begun requests)

pub record Demand_3 (regions : List ℕ) : Type 0 where
  -- "For every accepted list of regions, the same throughout, and every list of rounds from any starting counts, each round with its own ideals and
  -- search limit, refused rounds included": opposite sides balance just if they did before, a round that changes the counts makes one unit move, and
  -- an idle one leaves none below -2e-12
  pub rounds : (counts : List ℕ) (requests : List Request) → T (accepted places (length counts) regions)
      → Demand regions (answer_to regions) request_costs counts requests
  -- "lay never answers it with 22, whatever breaks, curves and output it is lent"
  pub tiles : (counts : List ℕ) → Handed regions counts → (r : ℕ) → r < region_count places regions → (f : TileInput) (out : List Float)
      → (lay (record_of regions r) counts f out).verdict.number ≢ 22
