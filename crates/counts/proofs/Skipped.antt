-- 01 says of `build_graph`: "both sides empty, it is skipped", where the definition keeps such a constraint. It is the same: no move, no solve, no
-- test of balance and no test 6 changes if these constraints are left out, whatever the constraints are.
-- PROOF IDEA. A constraint left out holds no edge. One that stays gets as its new number how many before it stay (`number`). Along the list these
-- numbers rise by one at each that stays, so that no two which hold an edge get the same, the incidences of an edge are renumbered and else
-- stay as they are, and the very constraint stands under its new number. So the two graphs are alike (search/Alike), which says all of moves
-- and solves. An empty constraint balances: both its sides add up to 0. Assumes nothing.
use mathlib.Core.Path.{◌≡◌, refl, sym, ap, ◌∙◌}
use mathlib.Core.Bool.{Bool, true, false, cond}
use mathlib.Core.List.{List, [], ◌∷◌, map, map-map}
use Prim.Native.Nat.{ℕ, zero, suc}
use native.Mathlib.Omega.{arith}
use lib.ListN.{length, length-map}
use lib.Dec.{T}
use Rattle.base.specs.Lists.{all}
use Rattle.base.specs.declared.verdict.Verdict.{Verdict}
use Rattle.base.specs.Refusal.{passed, then_test, is_passed}
use Rattle.regions.specs.Region.{Constraint, constraint, no_sides, holds, incidence, incidence_from, both_empty, without_empty}
use Rattle.regions.specs.Region.{places, graph, region_count}
use Rattle.regions.specs.Accept.{limits_test, pairs_test, overused_test, regions_test}
use Rattle.counts.specs.Cost.{CostModel, Spacing, costs_of, edges_of}
use Rattle.counts.specs.Round.{Found, find_move, Solved, solve_zeros}
use Rattle.counts.specs.Solver.{Round, round, round_with, round_test, round_order, round_by, round_refused}
use Rattle.counts.specs.Solver.{Solve, solve, solve_with, solve_test, solve_order, solve_part, solve_refused, with_rest}
use Rattle.counts.specs.Solver.{Hold, constraint_holds, constraints_hold}
use Rattle.base.proofs.BoolLaws.{by_truth, true_T}
use Rattle.counts.proofs.search.Alike.{AlikeGraphs, alike_itself, every_edge, find_move_alike, solve_zeros_alike}

abbrev empty : Constraint → Bool
empty c = both_empty c.a c.b

empty_is : (c : Constraint) → T (empty c) → c ≡ no_sides
empty_is c = by c.a c.b
  where
    by : (a b : List ℕ) → T (both_empty a b) → ◌≡◌ {A = Constraint} (record { a = a; b = b }) no_sides
    by [] [] t = refl
    by [] (y ∷ b) t = absurd t
    by (x ∷ a) b t = absurd t

-- one that holds an edge stays
stays : (c : Constraint) (x : ℕ) → T (holds c x) → empty c ≡ false
stays c x h = by_truth (empty c) (λ e. absurd (rw (empty_is c (true_T _ e)) at h)) (λ e. e)

-- the new number: how many constraints before it stay. That of the first is 0; a later one's is its number in the rest, or one more if the first stays
abbrev next : Bool → (ℕ → ℕ) → ℕ → ℕ
next b f zero = 0
next b f (suc i) = cond b (f i) (suc (f i))

abbrev number : List Constraint → ℕ → ℕ
number [] = λ i. i
number (c ∷ g) = next (empty c) (number g)

-- counted from one more
incidence_suc : (k : ℕ) (g : List Constraint) (x : ℕ) → incidence_from (suc k) g x ≡ map suc (incidence_from k g x)
incidence_suc k [] x = refl
incidence_suc k (c ∷ g) x = rw (incidence_suc (suc k) g x) (by_truth (holds c x) (λ t. rw t) (λ t. rw t))

-- an edge's constraints under their new numbers
renumbered : (g : List Constraint) (x : ℕ) → incidence (without_empty g) x ≡ map (number g) (incidence g x)
renumbered [] x = refl
renumbered (c ∷ g) x =
    rw (incidence_suc 0 g x)
    (by_truth (empty c)
    (λ e. rw (empty_is c (true_T _ e), renumbered g x) (sym (map-map (next true (number g)) suc (incidence g x))))
    (λ e. rw (e, incidence_suc 0 (without_empty g) x, renumbered g x) (by_truth (holds c x) (λ t. rw t (simp map-map)) (λ t. rw t (simp map-map)))))

told_apart : (g : List Constraint) (i j x y : ℕ) → T (holds (constraint g i) x) → T (holds (constraint g j) y) → number g i ≡ number g j → i ≡ j
told_apart [] i j x y h h' e = absurd h
told_apart (c ∷ g) zero zero x y h h' e = refl
told_apart (c ∷ g) zero (suc j) x y h h' e = omega (arith, rw (stays c x h) at e)
told_apart (c ∷ g) (suc i) zero x y h h' e = omega (arith, rw (stays c y h') at e)
told_apart (c ∷ g) (suc i) (suc j) x y h h' e =
    let ih = told_apart g i j x y h h' in
    by_truth (empty c) (λ b. ap suc (ih (rw b at e))) (λ b. ap suc (ih (omega (arith, rw b at e))))

-- the constraint that stands under the new number
stands : (g : List Constraint) (i x : ℕ) → T (holds (constraint g i) x) → constraint g i ≡ constraint (without_empty g) (number g i)
stands [] i x h = absurd h
stands (c ∷ g) zero x h = rw (stays c x h)
stands (c ∷ g) (suc i) x h = by_truth (empty c) (λ b. rw b (stands g i x h)) (λ b. rw b (stands g i x h))

balanced : (counts : List ℕ) (g : List Constraint) → all (constraint_holds counts) (without_empty g) ≡ all (constraint_holds counts) g
balanced counts [] = refl
balanced counts (c ∷ g) = by_truth (empty c) (λ e. rw (empty_is c (true_T _ e)) (balanced counts g)) (λ e. rw (e, balanced counts g))

as_many : (g : List Constraint) (x : ℕ) → length (incidence (without_empty g) x) ≡ length (incidence g x)
as_many g x = rw (renumbered, length-map)

overused : (g : List Constraint) (e m : ℕ) → overused_test (without_empty g) e m ≡ overused_test g e m
unfolding overused_test
overused g e zero = refl
overused g e (suc m) = rw (as_many, overused g (suc e) m)

-- constraints that hold an edge are the same under other numbers
alike_skipped : (g : List Constraint) → AlikeGraphs g (without_empty g) every_edge (number g)
alike_skipped g =
    record {
      closed = λ i x y h h' k. tt;
      numbered = λ x k. renumbered g x;
      told_apart = λ i j m n e. told_apart g i j m.0 n.0 m.1 n.1 e;
      alike = λ i m. rw (← stands g i m.0 m.1) (alike_itself (constraint g i));
    }

-- ---- the theorem

pub record Skipped (g : List Constraint) : Type 0 where
  -- the move of a round, and the whole solve
  pub found : (costs : CostModel) (counts : List ℕ) (limit : ℕ) → find_move (without_empty g) costs counts limit ≡ find_move g costs counts limit
  pub solved : (costs : CostModel) (limit n : ℕ) → solve_zeros (without_empty g) costs limit n ≡ solve_zeros g costs limit n
  -- whether all constraints balance
  pub hold : (counts : List ℕ) → all (constraint_holds counts) (without_empty g) ≡ all (constraint_holds counts) g
  -- an edge is in as many constraints, and so test 6 finds the same
  pub as_many : (x : ℕ) → length (incidence (without_empty g) x) ≡ length (incidence g x)
  pub overused : (e m : ℕ) → overused_test (without_empty g) e m ≡ overused_test g e m

pub empties_skipped : (g : List Constraint) → Skipped g
empties_skipped g =
    record {
      found = λ costs counts limit. sym (find_move_alike (alike_skipped g) costs counts limit);
      solved = λ costs limit n. sym (solve_zeros_alike (alike_skipped g) costs limit n);
      hold = λ counts. balanced counts g;
      as_many = as_many g;
      overused = overused g;
    }

-- ---- and so is every answer of the public functions

-- what they answer, from what is tested of the regions, the move that is found, the solve and whether all constraints balance: the definitions of
-- specs/Solver with these left open
module _ (regions : List ℕ) (spacing : Spacing) (limit : ℕ) where
  abbrev pub round_by_parts : List ℕ → Verdict → Found → Round
  round_by_parts counts tested found =
      let verdict = round_order places regions spacing counts limit tested in
      elim (is_passed verdict) [ true ↦ round_by found counts | false ↦ round_refused verdict counts ]

  abbrev pub solve_by_parts : List ℕ → Verdict → Solved → Solve
  solve_by_parts lent tested solved =
      let verdict = solve_order places regions spacing (length lent) limit tested in
      elim (is_passed verdict) [ true ↦ with_rest (edges_of spacing) (solve_part (edges_of spacing) solved) lent | false ↦ solve_refused verdict lent ]

abbrev pub hold_by_parts : List ℕ → List ℕ → Bool → Hold
hold_by_parts regions counts holds =
    cond (is_passed (limits_test places (length counts) regions)) (record { verdict = passed; holds = holds })
    (record { verdict = limits_test places (length counts) regions; holds = false })

-- and these parts, if the constraints of the regions are g
module _ (g : List Constraint) (regions : List ℕ) where
  abbrev pub regions_test_on : ℕ → Verdict
  regions_test_on n = then_test (pairs_test places n 0 (region_count places regions) regions) (overused_test g 0 n)

  abbrev pub round_on : Spacing → List ℕ → ℕ → Round
  round_on spacing counts limit =
      round_by_parts regions spacing limit counts (regions_test_on (edges_of spacing)) (find_move g (costs_of spacing) counts limit)

  abbrev pub solve_on : Spacing → List ℕ → ℕ → Solve
  solve_on spacing lent limit =
      solve_by_parts regions spacing limit lent (regions_test_on (edges_of spacing)) (solve_zeros g (costs_of spacing) limit (edges_of spacing))

  abbrev pub hold_on : List ℕ → Hold
  hold_on counts = hold_by_parts regions counts (all (constraint_holds counts) g)

-- without the constraints that have no edges they are what they are, refused calls included; `energy` reads no constraints
pub record AnswersSkipped (regions : List ℕ) : Type 0 where
  pub round_is : (spacing : Spacing) (counts : List ℕ) (limit : ℕ)
      → round_on (without_empty (graph places regions)) regions spacing counts limit ≡ round regions spacing counts limit
  pub solve_is : (spacing : Spacing) (lent : List ℕ) (limit : ℕ)
      → solve_on (without_empty (graph places regions)) regions spacing lent limit ≡ solve regions spacing lent limit
  pub hold_is : (counts : List ℕ) → hold_on (without_empty (graph places regions)) regions counts ≡ constraints_hold regions counts

pub answers_skipped : (regions : List ℕ) → AnswersSkipped regions
unfolding round round_with round_test solve solve_with solve_test regions_test constraints_hold
answers_skipped regions =
    record {
      round_is = λ spacing counts limit.
          ap (λ (v : Verdict). round_by_parts regions spacing limit counts v (find_move (without_empty g) (costs_of spacing) counts limit)) (test_is (edges_of spacing))
          ∙ ap (round_by_parts regions spacing limit counts (regions_test_on g regions (edges_of spacing))) (same.found (costs_of spacing) counts limit);
      solve_is = λ spacing lent limit.
          ap (λ (v : Verdict). solve_by_parts regions spacing limit lent v (solve_zeros (without_empty g) (costs_of spacing) limit (edges_of spacing))) (test_is (edges_of spacing))
          ∙ ap (solve_by_parts regions spacing limit lent (regions_test_on g regions (edges_of spacing))) (same.solved (costs_of spacing) limit (edges_of spacing));
      hold_is = λ counts. ap (hold_by_parts regions counts) (same.hold counts);
    }
  where
    g : List Constraint
    g = graph places regions

    same : Skipped g
    same = empties_skipped g

    test_is : (n : ℕ) → regions_test_on (without_empty g) regions n ≡ regions_test_on g regions n
    test_is n = ap (then_test (pairs_test places n 0 (region_count places regions) regions)) (same.overused 0 n)
