-- 01: "places past that number are never read". Regions that differ there alone (`ReadAlike`: regions, specs/Turned) get the same answers and leave
-- the same counts, refused calls included. Assumes nothing.
use mathlib.Core.Path.{◌≡◌, ap}
use mathlib.Core.Bool.{true, false}
use mathlib.Core.List.{List}
use Prim.Native.Nat.{ℕ}
use lib.ListN.{length}
use Rattle.base.specs.declared.verdict.Verdict.{Verdict}
use Rattle.base.specs.Refusal.{is_passed}
use Rattle.regions.specs.Region.{Constraint, places}
use Rattle.regions.specs.Turned.{ReadAlike}
use Rattle.counts.specs.Cost.{CostModel, Spacing, edges_of, costs_of}
use Rattle.counts.specs.Round.{find_move, solve_zeros}
use Rattle.counts.specs.Solver.{round, round_with, round_test, round_by, round_refused, constraints_hold}
use Rattle.counts.specs.Solver.{solve, solve_with, solve_test, solve_part, solve_refused, with_rest}
use Rattle.counts.proofs.SolverLaws.{round_order_same, solve_order_same}
use Rattle.regions.proofs.accept.ReadAlike.{graph_alike, limits_alike, regions_test_alike}

pub record NeverRead (regions regions' : List ℕ) : Type 0 where
  pub round_is : (spacing : Spacing) (counts : List ℕ) (limit : ℕ) → round regions spacing counts limit ≡ round regions' spacing counts limit
  pub solve_is : (spacing : Spacing) (lent : List ℕ) (limit : ℕ) → solve regions spacing lent limit ≡ solve regions' spacing lent limit
  pub hold_is : (counts : List ℕ) → constraints_hold regions counts ≡ constraints_hold regions' counts

module _ (regions regions' : List ℕ) (same : ReadAlike places regions regions') where
  round_alike : (v : Verdict) (costs : CostModel) (counts : List ℕ) (limit : ℕ)
      → round_with places v costs regions counts limit ≡ round_with places v costs regions' counts limit
  unfolding round_with
  round_alike v costs counts limit =
      ap (λ (g : List Constraint). elim (is_passed v) [ true ↦ round_by (find_move g costs counts limit) counts | false ↦ round_refused v counts ]) (graph_alike same)

  solve_alike : (v : Verdict) (costs : CostModel) (n limit : ℕ) (lent : List ℕ)
      → solve_with places v costs regions n limit lent ≡ solve_with places v costs regions' n limit lent
  unfolding solve_with
  solve_alike v costs n limit lent =
      ap (λ (g : List Constraint).
      elim (is_passed v) [ true ↦ with_rest n (solve_part n (solve_zeros g costs limit n)) lent | false ↦ solve_refused v lent ]) (graph_alike same)

  pub never_read : NeverRead regions regions'
  unfolding round round_test solve solve_test constraints_hold
  never_read =
      record {
        round_is = λ spacing counts limit.
            rw (round_order_same places regions regions' (limits_alike same) spacing counts limit _, regions_test_alike same (edges_of spacing))
            (round_alike (round_test places regions' spacing counts limit) (costs_of spacing) counts limit);
        solve_is = λ spacing lent limit.
            rw (solve_order_same places regions regions' (limits_alike same) spacing (length lent) limit _, regions_test_alike same (edges_of spacing))
            (solve_alike (solve_test places regions' spacing (length lent) limit) (costs_of spacing) (edges_of spacing) limit lent);
        hold_is = λ counts. rw (limits_alike same (length counts), graph_alike same);
      }
