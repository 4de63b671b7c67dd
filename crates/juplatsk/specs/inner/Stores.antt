-- A returned number and a stored array are those of an answer, whatever buffer the answer is read with: what src/answers.rt promises.
-- Assumes nothing.
use Rattle.std.specs.Prelude.{List, [], ◌∷◌, ◌≡◌, ℕ, Bool, Float, Result}
use Rattle.base.specs.declared.refusal.Refusal.{Refusal}
use Rattle.base.specs.declared.verdict.Verdict.{Verdict}
use Rattle.base.specs.Answers.{answered, verdict}
use Rattle.counts.specs.Solver.{round_of, solve_of, energy_of, hold_of}
use Rattle.counts.specs.declared.answer.RoundOutcome.{RoundOutcome}
use Rattle.curves.specs.Coons.{outcome_of}
use Rattle.juplatsk.specs.Stored.{solve_stored, hold_stored, grid_stored, energy_stored, round_stored, cost_of, root_value}

abbrev pub Stores : ℕ → List ℕ → Verdict → List ℕ → Type 0
Stores number answer v stored = (number ≡ v.number) × (answer ≡ stored)

-- the number of a solve's moves is stored as that of a grid's quads
pub record StoresNumber (a : Result ℕ Refusal) (number : ℕ) (answer : List ℕ) : Type 0 where
  pub of_solve : (counts : List ℕ) → Stores number answer (solve_of a counts).verdict (solve_stored (solve_of a counts))
  pub of_grid : (out : List Float) → Stores number answer (outcome_of a out).verdict (grid_stored (outcome_of a out))

abbrev pub StoresFlag : Result Bool Refusal → ℕ → List ℕ → Type 0
StoresFlag held number answer = Stores number answer (hold_of held).verdict (hold_stored (hold_of held))

abbrev pub StoresSum : Result Float Refusal → ℕ → List ℕ → List Float → Type 0
StoresSum total number answer sum =
    Stores number answer (energy_of total).verdict (energy_stored (energy_of total)) × (sum ≡ (energy_of total).total ∷ [])

abbrev pub StoresRound : Result RoundOutcome Refusal → ℕ → List ℕ → List Float → Type 0
StoresRound round number answer cost =
    (counts : List ℕ) → Stores number answer (round_of round counts).verdict (round_stored (round_of round counts)) × (cost ≡ cost_of (round_of round counts).move ∷ [])

abbrev pub StoresRoot : Result Float Refusal → ℕ → List Float → Type 0
StoresRoot taken number root = (number ≡ (verdict (answered taken)).number) × (root ≡ root_value (answered taken) ∷ [])
