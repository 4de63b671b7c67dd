-- 02, item 13, "Turning the sheet round", as one claim on what the contracts of the public functions say: of regions, and of a sheet that has them
-- with opposite sides exchanged (regions, specs/Turned). Assumes nothing.
use Rattle.std.specs.Prelude.{◌≡◌, List, [], ◌∷◌, ℕ, length, T, Option}
use Rattle.regions.specs.Region.{places}
use Rattle.regions.specs.Accept.{accepted}
use Rattle.regions.specs.Turned.{SameFault}
use Rattle.counts.specs.Cost.{Spacing, edges_of}
use Rattle.counts.specs.Solver.{Round, Solve, expansions, solve, constraints_hold}
use Rattle.counts.specs.Demand.{Request, answer_to}

-- what each round of a list answers and leaves; "each later one gets them as the round before left them, refused or not"
abbrev pub answers_to_all : List ℕ → List ℕ → List Request → List Round
answers_to_all regions counts [] = []
answers_to_all regions counts (request ∷ requests) =
    answer_to regions request counts ∷ answers_to_all regions (answer_to regions request counts).counts requests

-- the same, but that a refusal by 3, 4 or 5 may be another one of these, of the same region and pair of sides
pub record SameRound (a b : Round) : Type 0 where
  pub fault : SameFault a.verdict b.verdict
  pub move : a.move ≡ b.move
  pub cut : a.cut ≡ b.cut
  pub counts : a.counts ≡ b.counts

pub record SameSolve (a b : Solve) : Type 0 where
  pub fault : SameFault a.verdict b.verdict
  pub moves : a.moves ≡ b.moves
  pub counts : a.counts ≡ b.counts

pub record TurnedClaim (regions sheet : List ℕ) : Type 0 where
  -- the sheet is accepted just where the regions are
  pub accepted_too : (n : ℕ) → accepted places n sheet ≡ accepted places n regions
  -- "For every accepted list of regions (..) from the same starting counts and ideals, the same counts (..) and the same cut marks, at every limit":
  -- one round, with the bits of its cost, and its refusal if its own values are refused
  pub round_same : (request : Request) (counts : List ℕ) → T (accepted places (length counts) regions) → answer_to sheet request counts ≡ answer_to regions request counts
  -- a list of rounds
  pub rounds_same : (requests : List Request) (counts : List ℕ) → T (accepted places (length counts) regions)
      → answers_to_all sheet counts requests ≡ answers_to_all regions counts requests
  -- "the same counts, the same number of moves"
  pub solve_same : (spacing : Spacing) (lent : List ℕ) (limit : Option ℕ) → T (accepted places (edges_of spacing) regions)
      → solve sheet spacing lent (expansions limit) ≡ solve regions spacing lent (expansions limit)
  -- more than is asked. Of all regions, also those that are not accepted
  pub any_round : (request : Request) (counts : List ℕ) → SameRound (answer_to sheet request counts) (answer_to regions request counts)
  pub any_solve : (spacing : Spacing) (lent : List ℕ) (limit : Option ℕ)
      → SameSolve (solve sheet spacing lent (expansions limit)) (solve regions spacing lent (expansions limit))
  -- and of the test of balance
  pub hold_same : (counts : List ℕ) → constraints_hold sheet counts ≡ constraints_hold regions counts
