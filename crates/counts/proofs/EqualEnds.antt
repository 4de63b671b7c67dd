-- 02: "Equal ends give the former counts, moves and cut marks." A round and a solve within ranges whose ends are equal answer and leave what the round and
-- the solve by these ideals do, for every input, refused calls included: 35 cannot come up, the other tests fall together, and where they pass the edge costs
-- have the same bits (cost/Ranges). Assumes nothing.
use mathlib.Core.Path.{◌≡◌, refl}
use mathlib.Core.Bool.{true, false, not, and_self}
use mathlib.Core.List.{List, [], ◌∷◌}
use Prim.Native.Nat.{ℕ, suc, ◌*◌}
use native.Mathlib.Omega.{arith}
use borrow.Author.Tests.{le-ltb}
use lib.ListN.{length}
use lib.Ieee.{Float, nan, inf, fin, up, down, lt, of_bits}
use Rattle.base.specs.declared.verdict.Verdict.{Verdict}
use Rattle.base.specs.Refusal.{passed, is_passed, then_test}
use Rattle.regions.specs.Region.{places}
use Rattle.counts.specs.Cost.{CostModel, by_ideals, by_ranges, by, within}
use Rattle.floats.specs.Scalar.{one}
use Rattle.regions.specs.Accept.{limits_test, regions_test}
use Rattle.counts.specs.Values.{first_bad, ideal_ok, ideals_test, ranges, ends_ok, in_order, ranges_test, spacing_limits, spacing_lengths, values_test}
use Rattle.counts.specs.Solver.{round_with, round, round_order, round_test, solve_with, solve, solve_order, solve_test}
use Rattle.base.proofs.BoolLaws.{by_truth, same→eqb}
use Rattle.counts.proofs.Entry.{none_bad}
use Rattle.counts.proofs.cost.Ranges.{models_same}
use Rattle.counts.proofs.SolverLaws.{round_passed, solve_passed}

-- ---- the tests

-- a test made twice
twice : (v : Verdict) → then_test v v ≡ v
twice v = by_truth (is_passed v) (λ e. rw e) (λ e. rw e)

-- no value is above itself
not_above : (x : Float) → not (lt x x) ≡ true
unfolding lt
not_above nan = refl
not_above (inf true) = refl
not_above (inf false) = refl
not_above (fin true m e) = rw (le-ltb (m * up e * down e) (m * up e * down e) (omega arith))
not_above (fin false m e) = rw (le-ltb (m * up e * down e) (m * up e * down e) (omega arith))

ends_same : (i : ℕ) (ideals : List Float) → first_bad ends_ok 2 i (ranges ideals ideals) ≡ first_bad ideal_ok 2 i ideals
unfolding first_bad
ends_same i [] = refl
ends_same i (x ∷ ideals) = rw (and_self, ends_same (suc i) ideals)

order_passes : (i : ℕ) (ideals : List Float) → first_bad in_order 35 i (ranges ideals ideals) ≡ passed
unfolding first_bad
order_passes i [] = refl
order_passes i (x ∷ ideals) = rw (not_above, order_passes (suc i) ideals)

-- a test that passes comes last
last_passes : (i : ℕ) (ideals : List Float) → then_test (first_bad ideal_ok 2 i ideals) passed ≡ first_bad ideal_ok 2 i ideals
unfolding first_bad
last_passes i [] = refl
last_passes i (x ∷ ideals) = by_truth (ideal_ok x) (λ e. rw e (last_passes (suc i) ideals)) (λ e. rw e)

ranges_same : (ideals : List Float) → ranges_test ideals ideals ≡ ideals_test ideals
ranges_same ideals = rw (ends_same, order_passes, last_passes)

lists_same : (ideals : List Float) → spacing_lengths (within ideals ideals) ≡ passed
lists_same ideals = rw same→eqb

limits_same : (p : ℕ) (regions : List ℕ) (ideals : List Float) → spacing_limits p (within ideals ideals) regions ≡ spacing_limits p (by ideals) regions
limits_same p regions ideals = twice (limits_test p (length ideals) regions)

pub values_same : (counts : List ℕ) (ideals : List Float) → values_test counts (within ideals ideals) ≡ values_test counts (by ideals)
values_same counts ideals = rw (lists_same, ranges_same)

round_tests_same : (p : ℕ) (regions : List ℕ) (ideals : List Float) (counts : List ℕ) (limit : ℕ)
    → round_test p regions (within ideals ideals) counts limit ≡ round_test p regions (by ideals) counts limit
unfolding round_test round_order
round_tests_same p regions ideals counts limit = rw (limits_same, values_same)

solve_tests_same : (p : ℕ) (regions : List ℕ) (ideals : List Float) (room limit : ℕ)
    → solve_test p regions (within ideals ideals) room limit ≡ solve_test p regions (by ideals) room limit
unfolding solve_test solve_order
solve_tests_same p regions ideals room limit = rw (limits_same, lists_same, ranges_same)

-- ---- the costs, once the tests have passed

costs_same : (ideals : List Float) → is_passed (ideals_test ideals) ≡ true → by_ranges ideals ideals ≡ by_ideals ideals
unfolding of_bits
costs_same ideals h = models_same ideals (none_bad ideal_ok 2 0 ideals one refl tt h)

-- ---- a round

round_costs : (p : ℕ) (v : Verdict) (m m' : CostModel) (regions counts : List ℕ) (limit : ℕ) → (is_passed v ≡ true → m ≡ m')
    → round_with p v m regions counts limit ≡ round_with p v m' regions counts limit
unfolding round_with
round_costs p v m m' regions counts limit h = by_truth (is_passed v) (λ e. rw h) (λ e. rw (e, round_with))

pub round_same : (regions : List ℕ) (ideals : List Float) (counts : List ℕ) (limit : ℕ)
    → round regions (within ideals ideals) counts limit ≡ round regions (by ideals) counts limit
unfolding round
round_same regions ideals counts limit =
    rw round_tests_same
    (round_costs places (round_test places regions (by ideals) counts limit) (by_ranges ideals ideals) (by_ideals ideals) regions counts limit
    (λ h. costs_same ideals (accepted_ideals h)))
  where
    accepted_ideals : is_passed (round_test places regions (by ideals) counts limit) ≡ true → is_passed (ideals_test ideals) ≡ true
    accepted_ideals h = unfold round_test in (round_passed places regions (by ideals) counts limit (regions_test places (length ideals) regions) h).values.spacing_ok

-- ---- solve

solve_costs : (p : ℕ) (v : Verdict) (m m' : CostModel) (regions : List ℕ) (n limit : ℕ) (lent : List ℕ) → (is_passed v ≡ true → m ≡ m')
    → solve_with p v m regions n limit lent ≡ solve_with p v m' regions n limit lent
unfolding solve_with
solve_costs p v m m' regions n limit lent h = by_truth (is_passed v) (λ e. rw h) (λ e. rw (e, solve_with))

pub solve_same : (regions : List ℕ) (ideals : List Float) (lent : List ℕ) (limit : ℕ)
    → solve regions (within ideals ideals) lent limit ≡ solve regions (by ideals) lent limit
unfolding solve
solve_same regions ideals lent limit =
    rw solve_tests_same
    (solve_costs places (solve_test places regions (by ideals) (length lent) limit) (by_ranges ideals ideals) (by_ideals ideals) regions (length ideals) limit lent
    (λ h. costs_same ideals (accepted_ideals h)))
  where
    accepted_ideals : is_passed (solve_test places regions (by ideals) (length lent) limit) ≡ true → is_passed (ideals_test ideals) ≡ true
    accepted_ideals h = unfold solve_test in (solve_passed places regions (by ideals) (length lent) limit (regions_test places (length ideals) regions) h).spacing_ok
