-- What the public functions of the crate answer, and what they leave in the lent counts, refused calls included. Assumes nothing.
use Rattle.std.specs.Prelude.{Bool, true, false, ◌&&◌, cond, List, [], ◌∷◌, ◌++◌, ℕ, length, drop, replicate, ltb, eqb, Float, Option, Some, None, unwrap_or, Result, Ok, Err}
use Rattle.std.specs.Float.Ieee.{of_bits}
use Rattle.std.specs.Float.{binary64}
use Rattle.base.specs.Lists.{all}
use Rattle.base.specs.declared.verdict.Verdict.{Verdict}
use Rattle.base.specs.Refusal.{passed, refused, then_test, refuse_if, is_passed, verdict_of}
use Rattle.regions.specs.Region.{Constraint, places, graph, side_sum}
use Rattle.counts.specs.Move.{Change, apply_changes}
use Rattle.counts.specs.Cost.{CostModel, Spacing, by, costs_of, edges_of, energy_from}
use Rattle.counts.specs.Round.{Found, find_move, Solved, solve_zeros}
use Rattle.regions.specs.Accept.{limits_test, regions_test}
use Rattle.counts.specs.Values.{limit_test, spacing_limits, spacing_lengths, spacing_test, values_test}
use Rattle.base.specs.declared.refusal.Refusal.{Refusal}
use Rattle.counts.specs.declared.answer.RoundOutcome.{RoundOutcome}

-- ---- the search limit, stated or not

-- 02: "without one, either now gets 10,000"
abbrev pub default_limit : ℕ
default_limit = 10000

-- how many expansions each search may make
abbrev pub expansions : Option ℕ → ℕ
expansions limit = unwrap_or limit default_limit

-- ---- a round

-- "the cost of the move made, or none"
pub data MoveMade : Type 0 where
  none : MoveMade
  made : Float → MoveMade

pub record Round : Type 0 where
  pub verdict : Verdict
  pub move : MoveMade
  pub cut : Bool
  pub counts : List ℕ

-- a round's cost, "or none"
abbrev pub move_of : Option Float → MoveMade
move_of None = none
move_of (Some cost) = made cost

-- 01's number and values for each answer of a round, with the counts that it leaves
unfoldable pub round_of : Result RoundOutcome Refusal → List ℕ → Round
unfolding verdict_of
round_of (Ok o) counts = record { verdict = passed; move = move_of o.cost; cut = o.cut; counts = counts }
round_of (Err r) counts = record { verdict = verdict_of r; move = none; cut = false; counts = counts }

-- "Order, solver: 1, 10, 8 (rounds), 11 (solve), 2, 9 (rounds); then by region and pair (..)": `last` is what is tested of the regions
unfoldable pub round_order : ℕ → List ℕ → Spacing → List ℕ → ℕ → Verdict → Verdict
unfolding limits_test
round_order p regions spacing counts limit last =
    then_test (spacing_limits p spacing regions)
    (then_test (limits_test p (length counts) regions)
    (then_test (limit_test limit) (then_test (values_test counts spacing) last)))

unfoldable pub round_test : ℕ → List ℕ → Spacing → List ℕ → ℕ → Verdict
unfolding round_order regions_test
round_test p regions spacing counts limit = round_order p regions spacing counts limit (regions_test p (edges_of spacing) regions)

-- "A public round (added) applies the result to the lent counts"
abbrev pub round_made : Bool → List Change → Float → List ℕ → Round
round_made cut [] kept counts = record { verdict = passed; move = none; cut = cut; counts = counts }
round_made cut (z ∷ r) kept counts = record { verdict = passed; move = made kept; cut = cut; counts = apply_changes (z ∷ r) counts }

abbrev pub round_by : Found → List ℕ → Round
round_by found counts = round_made found.cut found.best found.kept counts

abbrev pub round_refused : Verdict → List ℕ → Round
round_refused v counts = record { verdict = v; move = none; cut = false; counts = counts }

-- a round asked for with any test and edge costs
unfoldable pub round_with : ℕ → Verdict → CostModel → List ℕ → List ℕ → ℕ → Round
unfolding find_move
round_with p verdict costs regions counts limit =
    elim (is_passed verdict) [
      | true ↦ round_by (find_move (graph p regions) costs counts limit) counts
      | false ↦ round_refused verdict counts
    ]

unfoldable pub round : List ℕ → Spacing → List ℕ → ℕ → Round
unfolding round_test round_with
round regions spacing counts limit = round_with places (round_test places regions spacing counts limit) (costs_of spacing) regions counts limit

-- ---- solve

pub record Solve : Type 0 where
  pub verdict : Verdict
  pub moves : ℕ
  pub counts : List ℕ

unfoldable pub solve_of : Result ℕ Refusal → List ℕ → Solve
unfolding verdict_of
solve_of (Ok moves) counts = record { verdict = passed; moves = moves; counts = counts }
solve_of (Err r) counts = record { verdict = verdict_of r; moves = 0; counts = counts }

-- 11: the lent counts are output, and as many are needed as there are edges
unfoldable pub solve_order : ℕ → List ℕ → Spacing → ℕ → ℕ → Verdict → Verdict
unfolding limits_test
solve_order p regions spacing room limit last =
    then_test (spacing_limits p spacing regions)
    (then_test (limit_test limit)
    (then_test (spacing_lengths spacing)
    (then_test (refuse_if (ltb room (edges_of spacing)) (refused 11 0 0))
    (then_test (spacing_test spacing) last))))

unfoldable pub solve_test : ℕ → List ℕ → Spacing → ℕ → ℕ → Verdict
unfolding solve_order regions_test
solve_test p regions spacing room limit = solve_order p regions spacing room limit (regions_test p (edges_of spacing) regions)

abbrev pub solve_refused : Verdict → List ℕ → Solve
solve_refused v lent = record { verdict = v; moves = 0; counts = lent }

-- the needed part of n counts; 7, "a further move found after 200,000", leaves counts 0
abbrev pub solve_part : ℕ → Solved → Solve
solve_part n s =
    cond s.more (record { verdict = refused 7 0 0; moves = 0; counts = replicate n 0 }) (record { verdict = passed; moves = s.moves; counts = s.counts })

-- "Output past the needed part is untouched."
abbrev pub with_rest : ℕ → Solve → List ℕ → Solve
with_rest n s lent = record { verdict = s.verdict; moves = s.moves; counts = s.counts ++ drop n lent }

unfoldable pub solve_with : ℕ → Verdict → CostModel → List ℕ → ℕ → ℕ → List ℕ → Solve
unfolding solve_zeros
solve_with p verdict costs regions n limit lent =
    elim (is_passed verdict) [
      | true ↦ with_rest n (solve_part n (solve_zeros (graph p regions) costs limit n)) lent
      | false ↦ solve_refused verdict lent
    ]

-- 02: "Solve can be given a limit"
unfoldable pub solve : List ℕ → Spacing → List ℕ → ℕ → Solve
unfolding solve_test solve_with
solve regions spacing lent limit =
    solve_with places (solve_test places regions spacing (length lent) limit) (costs_of spacing) regions (edges_of spacing) limit lent

-- ---- energy and constraints_hold

pub record Energy : Type 0 where
  pub verdict : Verdict
  pub total : Float

unfoldable pub energy_of : Result Float Refusal → Energy
unfolding verdict_of
energy_of (Ok t) = record { verdict = passed; total = t }
energy_of (Err r) = record { verdict = verdict_of r; total = of_bits binary64 0 }

-- "`energy`: 1, 8, 2, 9"
unfoldable pub energy_test : List ℕ → List Float → Verdict
energy_test counts ideals =
    then_test (limits_test places (length ideals) []) (then_test (limits_test places (length counts) []) (values_test counts (by ideals)))

unfoldable pub energy : List ℕ → List Float → Energy
unfolding energy_test energy_from
energy counts ideals =
    elim (is_passed (energy_test counts ideals)) [
      | true ↦ record { verdict = passed; total = energy_from (of_bits binary64 0) counts ideals }
      | false ↦ record { verdict = energy_test counts ideals; total = of_bits binary64 0 }
    ]

pub record Hold : Type 0 where
  pub verdict : Verdict
  pub holds : Bool

unfoldable pub hold_of : Result Bool Refusal → Hold
unfolding verdict_of
hold_of (Ok b) = record { verdict = passed; holds = b }
hold_of (Err r) = record { verdict = verdict_of r; holds = false }

-- "(edge out of range: no)"
abbrev pub side_in_range : List ℕ → List ℕ → Bool
side_in_range counts side = all (λ (e : ℕ). ltb e (length counts)) side

abbrev pub constraint_holds : List ℕ → Constraint → Bool
constraint_holds counts c =
    side_in_range counts c.a && (side_in_range counts c.b && eqb (side_sum counts c.a) (side_sum counts c.b))

-- "`constraints_hold`: 1 alone"
unfoldable pub constraints_hold : List ℕ → List ℕ → Hold
unfolding limits_test
constraints_hold regions counts =
    cond (is_passed (limits_test places (length counts) regions))
    (record { verdict = passed; holds = all (constraint_holds counts) (graph places regions) })
    (record { verdict = limits_test places (length counts) regions; holds = false })
