-- What the exported functions return and store of the answers of the libraries below. "A refusal returns its number and two places, 0 where none is named." Assumes nothing.
use Rattle.std.specs.Prelude.{Bool, true, false, cond, List, [], ◌∷◌, ℕ, Float}
use Rattle.std.specs.Float.Ieee.{of_bits}
use Rattle.std.specs.Float.{binary64}
use Rattle.base.specs.declared.verdict.Verdict.{Verdict}
use Rattle.counts.specs.Solver.{MoveMade, none, made, Round, Solve, Energy, Hold}
use Rattle.base.specs.Answers.{Answer, good, turned_away}
use Rattle.curves.specs.Coons.{Outcome}

-- both places, then one value
abbrev pub stored : Verdict → ℕ → List ℕ
stored v value = v.first ∷ v.second ∷ value ∷ []

abbrev pub flag : Bool → ℕ
flag b = cond b 1 0

abbrev pub solve_stored : Solve → List ℕ
solve_stored s = stored s.verdict s.moves

abbrev pub hold_stored : Hold → List ℕ
hold_stored h = stored h.verdict (flag h.holds)

abbrev pub grid_stored : Outcome → List ℕ
grid_stored o = stored o.verdict o.quads

abbrev pub energy_stored : Energy → List ℕ
energy_stored e = e.verdict.first ∷ e.verdict.second ∷ []

-- "the cost of the move made, or none"
abbrev pub is_made : MoveMade → Bool
is_made none = false
is_made (made cost) = true

abbrev pub round_stored : Round → List ℕ
round_stored r = r.verdict.first ∷ r.verdict.second ∷ flag (is_made r.move) ∷ flag r.cut ∷ []

-- +0.0 where no move was made
abbrev pub cost_of : MoveMade → Float
cost_of none = of_bits binary64 0
cost_of (made cost) = cost

-- +0.0 where the root is refused
abbrev pub root_value : Answer Float → Float
root_value (good x) = x
root_value (turned_away v) = of_bits binary64 0
