-- Demand 3, the solver's half, as one claim about a whole list of rounds on the same regions. Assumes nothing.
-- A round is whatever the contract of a public round says of it: `answer` gives what it answers and leaves, `costs` its edge costs. So the
-- claim is stated once for every kind of round.
use Rattle.std.specs.Prelude.{◌≢◌, ◌↔◌, ◌≡◌, not, List, [], ◌∷◌, ℕ, ◌<◌, T, Float, Option}
use Rattle.std.specs.Float.Ieee.{neg}
use Rattle.base.specs.Refusal.{is_passed}
use Rattle.regions.specs.Region.{places, graph, region_count, from_region, side, side_sum}
use Rattle.counts.specs.Move.{Change, UnitMove, CostsLess, Costs, Makes}
use Rattle.counts.specs.Cost.{CostModel, Spacing, costs_of}
use Rattle.counts.specs.Search.{eps, two_eps}
use Rattle.counts.specs.Solver.{Round, none, made, expansions, round}

-- "A side adds up to the sum of its edges' counts (..); 0 and 2 are opposite, and 1 and 3": side k of region r
abbrev pub sum_of : List ℕ → List ℕ → ℕ → ℕ → ℕ
sum_of regions counts r k = side_sum counts (side places (from_region places regions r) k)

module _ {Request : Type 0} (regions : List ℕ) (answer : Request → List ℕ → Round) (costs : Request → CostModel) where
  abbrev pub left : List ℕ → Request → List ℕ
  left counts request = (answer request counts).counts

  -- "each later one gets them as the round before left them, refused or not"
  abbrev pub left_by_all : List ℕ → List Request → List ℕ
  left_by_all counts [] = counts
  left_by_all counts (request ∷ requests) = left_by_all (left counts request) requests

  -- "Each of these rounds that changes the counts makes one unit move (..) that costs less than -1e-12 and makes no count negative": the move that
  -- a round made
  pub record MadeBy (counts : List ℕ) (request : Request) : Type 0 where
    pub changes : List Change
    pub move : UnitMove (graph places regions) counts changes
    -- "a move costs less than a bound if some reading does"
    pub less : CostsLess (graph places regions) counts (costs request counts) changes (neg eps)
    -- "the counts that it leaves differ from these by the move's +1 and -1 alone", none of them negative
    pub makes : Makes counts changes (left counts request)
    -- "the cost of the move made, or none": the round answers the cost of a reading of this move
    pub answered : Float
    pub told : (answer request counts).move ≡ made answered
    pub is_cost : Costs (graph places regions) counts (costs request counts) changes answered

  -- What is claimed of one round, on the counts that it got
  pub record RoundClaim (counts : List ℕ) (request : Request) : Type 0 where
    pub changed : left counts request ≢ counts → MadeBy counts request
    -- "or none": a round that changes nothing, refused or not, answers no cost
    pub unchanged : left counts request ≡ counts → (answer request counts).move ≡ none
    -- "Each accepted one that changes nothing and reports no search cut short leaves no unit move that costs less than -2e-12"
    pub idle : T (is_passed (answer request counts).verdict) → left counts request ≡ counts → T (not (answer request counts).cut)
        → (r : List Change) → UnitMove (graph places regions) counts r
        → CostsLess (graph places regions) counts (costs request counts) r (neg two_eps) → ⊥

  abbrev pub RoundClaims : List ℕ → List Request → Type 0
  RoundClaims counts [] = Unit {0}
  RoundClaims counts (request ∷ requests) = RoundClaim counts request × RoundClaims (left counts request) requests

  pub record Demand (counts : List ℕ) (requests : List Request) : Type 0 where
    -- "after the rounds two opposite sides of a region add up to equal counts exactly when they did before the first"
    pub bottom_top : (r : ℕ) → r < region_count places regions
        → (sum_of regions counts r 0 ≡ sum_of regions counts r 2)
        ↔ (sum_of regions (left_by_all counts requests) r 0 ≡ sum_of regions (left_by_all counts requests) r 2)
    pub right_left : (r : ℕ) → r < region_count places regions
        → (sum_of regions counts r 1 ≡ sum_of regions counts r 3)
        ↔ (sum_of regions (left_by_all counts requests) r 1 ≡ sum_of regions (left_by_all counts requests) r 3)
    pub rounds : RoundClaims counts requests

-- "ideals (also too few or too many) and limit are each round's own", the ideals of either kind, the limit stated or not
pub record Request : Type 0 where
  pub spacing : Spacing
  pub limit : Option ℕ

-- the public round
abbrev pub answer_to : List ℕ → Request → List ℕ → Round
answer_to regions request counts = round regions request.spacing counts (expansions request.limit)

abbrev pub request_costs : Request → CostModel
request_costs request = costs_of request.spacing

-- opposite sides of every region add up to the same
pub record Balanced (regions counts : List ℕ) : Type 0 where
  pub bottom_top : (r : ℕ) → r < region_count places regions → sum_of regions counts r 0 ≡ sum_of regions counts r 2
  pub right_left : (r : ℕ) → r < region_count places regions → sum_of regions counts r 1 ≡ sum_of regions counts r 3
