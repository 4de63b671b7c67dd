-- Answers stored as a number, an array and values: by the kind of the answer, and for the definition that the answer equals. Assumes nothing.
use mathlib.Core.Path.{◌≡◌, refl, ap, ◌∙◌}
use mathlib.Core.Bool.{Bool, true, false}
use mathlib.Core.List.{List, [], ◌∷◌}
use Prim.Native.Nat.{ℕ}
use lib.Ieee.{Float, of_bits, binary64}
use Rattle.std.specs.Prelude.{Result, Ok, Err, Option, Some, None, unwrap_or, is_some}
use Rattle.std.specs.Result.{result_unwrap_or}
use Rattle.std.specs.Int.{from_bool}
use Rattle.base.specs.declared.refusal.Refusal.{Refusal}
use Rattle.base.specs.declared.verdict.Verdict.{Verdict}
use Rattle.base.specs.Refusal.{outcome}
use Rattle.base.specs.Answers.{Answer, answered, verdict}
use Rattle.counts.specs.Solver.{move_of, Round, round_of, Solve, solve_of, Energy, energy_of, Hold, hold_of}
use Rattle.counts.specs.declared.answer.RoundOutcome.{RoundOutcome}
use Rattle.curves.specs.Coons.{Outcome, outcome_of}
use Rattle.mesh.specs.Mesh.{Mesh, mesh_of}
use Rattle.juplatsk.specs.Stored.{flag, is_made, solve_stored, hold_stored, grid_stored, energy_stored, round_stored, cost_of, root_value}
use Rattle.juplatsk.specs.inner.Stores.{StoresNumber, StoresFlag, StoresSum, StoresRound, StoresRoot}

-- ---- what is stored, by the verdict v that was told, and the values of an answer that is accepted or refused

pub number_stored : (a : Result ℕ Refusal) {v : Verdict} {x : ℕ} → v ≡ outcome a → x ≡ result_unwrap_or a 0 → StoresNumber a v.number (v.first ∷ v.second ∷ x ∷ [])
unfolding solve_of outcome_of
number_stored (Ok n) e f = rw (e, f) (record { of_solve = λ counts. (refl, refl); of_grid = λ out. (refl, refl) })
number_stored (Err r) e f = rw (e, f) (record { of_solve = λ counts. (refl, refl); of_grid = λ out. (refl, refl) })

pub sum_stored : (a : Result Float Refusal) {v : Verdict} {x : Float} → v ≡ outcome a → x ≡ result_unwrap_or a (of_bits binary64 0)
    → StoresSum a v.number (v.first ∷ v.second ∷ []) (x ∷ [])
unfolding energy_of
sum_stored (Ok t) e f = rw (e, f) ((refl, refl), refl)
sum_stored (Err r) e f = rw (e, f) ((refl, refl), refl)

flag_is : (b : Bool) → from_bool b ≡ flag b
flag_is true = refl
flag_is false = refl

made_is : (c : Option Float) → is_some c ≡ is_made (move_of c)
made_is None = refl
made_is (Some x) = refl

cost_is : (c : Option Float) → unwrap_or c (of_bits binary64 0) ≡ cost_of (move_of c)
cost_is None = refl
cost_is (Some x) = refl

pub flag_stored : (a : Result Bool Refusal) {v : Verdict} {b : Bool} {x : ℕ} → v ≡ outcome a → b ≡ result_unwrap_or a false → x ≡ from_bool b
    → StoresFlag a v.number (v.first ∷ v.second ∷ x ∷ [])
unfolding hold_of
flag_stored (Ok b) e f g = rw (g, f, e, flag_is) (refl, refl)
flag_stored (Err r) e f g = rw (g, f, e, flag_is) (refl, refl)

-- what stands for the outcome of a refused round
abbrev pub no_outcome : RoundOutcome
no_outcome = record { cost = None; cut = false }

pub round_stored_by : (a : Result RoundOutcome Refusal) {v : Verdict} {o : RoundOutcome} {some : Bool} {made cut : ℕ} {cost : Float} → v ≡ outcome a
    → o ≡ result_unwrap_or a no_outcome → some ≡ is_some o.cost → made ≡ from_bool some → cut ≡ from_bool o.cut → cost ≡ unwrap_or o.cost (of_bits binary64 0)
    → StoresRound a v.number (v.first ∷ v.second ∷ made ∷ cut ∷ []) (cost ∷ [])
unfolding round_of
round_stored_by (Ok o) e f s m k c = rw (c, k, m, s, f, e, made_is, flag_is, flag_is, cost_is) (λ counts. ((refl, refl), refl))
round_stored_by (Err r) e f s m k c = rw (c, k, m, s, f, e) (λ counts. ((refl, refl), refl))

-- ---- what is stored of an answer is stored of the definition that it equals, and so is the buffer

solve_left : (a : Result ℕ Refusal) (counts : List ℕ) → counts ≡ (solve_of a counts).counts
unfolding solve_of
solve_left (Ok moves) counts = refl
solve_left (Err r) counts = refl

pub solve_exported : (a : Result ℕ Refusal) {counts : List ℕ} {s : Solve} {r : ℕ} {answer : List ℕ} → StoresNumber a r answer → solve_of a counts ≡ s
    → (r ≡ s.verdict.number) × (answer ≡ solve_stored s) × (counts ≡ s.counts)
solve_exported a {counts} t e = (
  (t.of_solve counts).0 ∙ ap (λ (x : Solve). x.verdict.number) e,
  (t.of_solve counts).1 ∙ ap solve_stored e,
  solve_left a counts ∙ ap (λ (x : Solve). x.counts) e,
)

round_left : (a : Result RoundOutcome Refusal) (counts : List ℕ) → counts ≡ (round_of a counts).counts
unfolding round_of
round_left (Ok o) counts = refl
round_left (Err r) counts = refl

pub round_exported : (a : Result RoundOutcome Refusal) {counts : List ℕ} {s : Round} {r : ℕ} {answer : List ℕ} {cost : List Float} → StoresRound a r answer cost
    → round_of a counts ≡ s → (r ≡ s.verdict.number) × (answer ≡ round_stored s) × (cost ≡ cost_of s.move ∷ []) × (counts ≡ s.counts)
round_exported a {counts} t e = (
  (t counts).0.0 ∙ ap (λ (x : Round). x.verdict.number) e,
  (t counts).0.1 ∙ ap round_stored e,
  (t counts).1 ∙ ap (λ (x : Round). cost_of x.move ∷ []) e,
  round_left a counts ∙ ap (λ (x : Round). x.counts) e,
)

pub hold_exported : (a : Result Bool Refusal) {s : Hold} {r : ℕ} {answer : List ℕ} → StoresFlag a r answer → hold_of a ≡ s → (r ≡ s.verdict.number) × (answer ≡ hold_stored s)
hold_exported a t e = (t.0 ∙ ap (λ (x : Hold). x.verdict.number) e, t.1 ∙ ap hold_stored e)

pub energy_exported : (a : Result Float Refusal) {s : Energy} {r : ℕ} {answer : List ℕ} {sum : List Float} → StoresSum a r answer sum → energy_of a ≡ s
    → (r ≡ s.verdict.number) × (answer ≡ energy_stored s) × (sum ≡ s.total ∷ [])
energy_exported a t e =
    (t.0.0 ∙ ap (λ (x : Energy). x.verdict.number) e, t.0.1 ∙ ap energy_stored e, t.1 ∙ ap (λ (x : Energy). x.total ∷ []) e)

pub root_exported : (a : Result Float Refusal) {s : Answer Float} {r : ℕ} {root : List Float} → StoresRoot a r root → answered a ≡ s → (r ≡ (verdict s).number) × (root ≡ root_value s ∷ [])
root_exported a t e = (t.0 ∙ ap (λ (x : Answer Float). (verdict x).number) e, t.1 ∙ ap (λ (x : Answer Float). root_value x ∷ []) e)

grid_left : (a : Result ℕ Refusal) (out : List Float) → out ≡ (outcome_of a out).out
unfolding outcome_of
grid_left (Ok quads) out = refl
grid_left (Err r) out = refl

pub grid_exported : (a : Result ℕ Refusal) {out : List Float} {s : Outcome} {r : ℕ} {answer : List ℕ} → StoresNumber a r answer → outcome_of a out ≡ s
    → (r ≡ s.verdict.number) × (answer ≡ grid_stored s) × (out ≡ s.out)
grid_exported a {out} t e = (
  (t.of_grid out).0 ∙ ap (λ (x : Outcome). x.verdict.number) e,
  (t.of_grid out).1 ∙ ap grid_stored e,
  grid_left a out ∙ ap (λ (x : Outcome). x.out) e,
)

pub mesh_exported : (a : Result ℕ Refusal) {points : List Float} {cells : List ℕ} {s : Mesh} {r : ℕ} {answer : List ℕ} → StoresNumber a r answer
    → mesh_of a points cells ≡ s
    → (r ≡ s.grid.verdict.number) × (answer ≡ grid_stored s.grid) × (points ≡ s.grid.out) × (cells ≡ s.cells)
unfolding mesh_of
mesh_exported a t e =
    let g = grid_exported a t (ap (λ (x : Mesh). x.grid) e) in
    (g.0, g.1, g.2, ap (λ (x : Mesh). x.cells) e)
