-- 02, item 13: "Two draughtsmen may take the top of a tile for its bottom." Region records with opposite sides exchanged, records that differ in
-- places alone that nobody reads, and refusals of the same pair of sides. A side has p places. Assumes nothing.
use Rattle.std.specs.Prelude.{◌≡◌, Bool, cond, List, [], ◌∷◌, ◌++◌, ℕ, ◌*◌, ◌%◌, ◌≤◌, ◌<◌, length, get_or, take, drop}
use Rattle.base.specs.declared.verdict.Verdict.{Verdict}
use Rattle.regions.specs.Region.{side_size, record_size, region_count, from_region, side}

-- "exchanging sides 0 and 2, or 1 and 3": which of the two pairs a region has exchanged
pub record Turn : Type 0 where
  pub bottom_top : Bool
  pub right_left : Bool

-- side k of the record that stands first, as it is written: how many edges, then all places
abbrev pub written : ℕ → List ℕ → ℕ → List ℕ
written p regions k = take (side_size p) (drop (k * side_size p) regions)

-- "in any regions": each region by its own turn, those past the last turn as they were
abbrev pub turned : ℕ → List Turn → List ℕ → List ℕ
turned p [] regions = regions
turned p (turn ∷ turns) regions =
    cond turn.bottom_top (written p regions 2) (written p regions 0)
    ++ cond turn.right_left (written p regions 3) (written p regions 1)
    ++ cond turn.bottom_top (written p regions 0) (written p regions 2)
    ++ cond turn.right_left (written p regions 1) (written p regions 3)
    ++ turned p turns (drop (record_size p) regions)

-- how many edges side k of the record that stands first is said to have
abbrev pub number_on : ℕ → List ℕ → ℕ → ℕ
number_on p regions k = get_or regions (k * side_size p) 0

-- 01: "places past that number are never read". Two lists that are as long, with the same numbers of edges and, up to these numbers, the same edges
pub record ReadAlike (p : ℕ) (regions regions' : List ℕ) : Type 0 where
  pub as_long : length regions ≡ length regions'
  pub numbers : (r k : ℕ) → r < region_count p regions → k < 4 → number_on p (from_region p regions r) k ≡ number_on p (from_region p regions' r) k
  pub edges : (r k : ℕ) → r < region_count p regions → k < 4 → side p (from_region p regions r) k ≡ side p (from_region p regions' r) k

-- 3, 4 or 5, on a side of one pair of region r: j is 0 for sides 0 and 2, and 1 for sides 1 and 3
pub record FaultOfPair (r j : ℕ) (v : Verdict) : Type 0 where
  pub at_least : 3 ≤ v.number
  pub at_most : v.number ≤ 5
  pub region : v.first ≡ r
  pub side : v.second % 2 ≡ j

-- the same outcome, or faults of the same pair of sides
pub data SameFault (v w : Verdict) : Type 0 where
  same : v ≡ w → SameFault v w
  of_pair : (r j : ℕ) → FaultOfPair r j v → FaultOfPair r j w → SameFault v w
