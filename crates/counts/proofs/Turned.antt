-- 02, item 13: a sheet with opposite sides exchanged, in any regions, gets the same counts, moves, costs and cut marks.
-- PROOF IDEA. The constraints are those of before, some with their two sides exchanged, under the same numbers (regions, proofs/accept/Turned). A
-- search names the sides of a constraint only as the one that an edge stands on and the one opposite, and an edge of an accepted constraint stands
-- on one side alone. So it cannot tell the two apart: they hold the same edges, from an edge it comes to the same partners in the same order, and
-- the same changes balance. Then the two graphs are alike (search/Alike), which says all of moves and solves. Of the tests before the
-- regions' own none reads a side, and the regions' own pass in both or in neither. Assumes nothing.
use mathlib.Core.Path.{◌≡◌, refl, sym, ap, ◌∙◌}
use mathlib.Core.Bool.{Bool, true, false, not, ◌&&◌, ◌||◌, cond, beq}
use mathlib.Core.List.{List, [], ◌∷◌, ◌++◌, map-id}
use Prim.Native.Nat.{ℕ}
use lib.ListN.{length, get_or}
use lib.Dec.{T, eqb}
use Rattle.base.specs.Lists.{member, all, filter, differs}
use Rattle.base.specs.declared.verdict.Verdict.{Verdict}
use Rattle.base.specs.Refusal.{passed, is_passed, then_test}
use Rattle.regions.specs.Region.{Constraint, places, graph, constraint, incidence, side_sum}
use Rattle.regions.specs.Accept.{accepted, limits_test, regions_test}
use Rattle.regions.specs.Turned.{Turn, turned, ReadAlike, same}
use Rattle.counts.specs.Cost.{Spacing, edges_of, costs_of}
use Rattle.counts.specs.Solver.{Round, round, round_with, round_test, round_order, round_by, round_refused}
use Rattle.counts.specs.Solver.{Solve, solve, solve_with, solve_test, solve_order, solve_part, solve_refused, with_rest}
use Rattle.counts.specs.Solver.{expansions, side_in_range, constraint_holds, constraints_hold}
use Rattle.counts.specs.Demand.{Request, answer_to, request_costs}
use Rattle.counts.specs.Turned.{answers_to_all, SameRound, SameSolve, TurnedClaim}
use Rattle.counts.specs.Search.{signed}
use Rattle.counts.specs.Round.{Found, find_move, Solved, solve_zeros}
use Rattle.base.proofs.BoolLaws.{by_truth, true_T, eqb_comm}
use Rattle.base.proofs.TestLaws.{then_both}
use Rattle.regions.proofs.region.Exchanged.{exchanged, each_exchanged, holds_exchanged, constraint_exchanged, incidence_exchanged}
use Rattle.regions.proofs.accept.Turned.{choices, limits_same, graph_same, faults_same, tests_same, accepted_same, accepted_whole, accepted_regions}
use Rattle.regions.proofs.accept.ReadAlike.{read_itself}
use Rattle.regions.proofs.accept.Laws.{limits_passed}
use Rattle.counts.proofs.Accepted.{accepted_ok}
use Rattle.counts.proofs.SolverLaws.{RoundPassed, round_passed, solve_passed, round_order_same, round_order_then, solve_order_same, solve_order_then}
use Rattle.counts.proofs.Rounds.{steady_round, test_of, limit_of, answer_to_is}
use Rattle.counts.proofs.MoveLaws.{Apart}
use Rattle.counts.proofs.search.Alike.{Alike, AlikeGraphs, alike_itself, every_edge, find_move_alike, solve_zeros_alike}

-- ---- one constraint

module _ (c : Constraint) (apart : Apart c) where
  -- the edge stands on the first side, or on the second
  partners_exchanged : (p q : Bool) (x : ℕ) (s : Bool) → (T p → T q → ⊥) → T (p || q)
      → signed s (cond p c.b c.a) ++ signed (not s) (filter (differs x) (cond p c.a c.b))
      ≡ signed s (cond q c.a c.b) ++ signed (not s) (filter (differs x) (cond q c.b c.a))
  partners_exchanged true true x s o h = absurd (o tt tt)
  partners_exchanged true false x s o h = refl
  partners_exchanged false true x s o h = refl
  partners_exchanged false false x s o h = absurd h

  alike_exchanged : (x : Bool) → Alike c (exchanged x c)
  alike_exchanged false = alike_itself c
  alike_exchanged true =
      record {
        holding = λ x. sym (holds_exchanged true c x);
        partner = λ x s h. partners_exchanged (member x c.a) (member x c.b) x s (apart x) h;
        evens = λ z w h k.
            evens_exchanged (member z.0 c.a) (member z.0 c.b) (member w.0 c.a) (member w.0 c.b) (not (beq z.1 w.1))
            (one_side (member z.0 c.a) (member z.0 c.b) (apart z.0) h) (one_side (member w.0 c.a) (member w.0 c.b) (apart w.0) k);
      }
    where
      -- it stands on the second just if not on the first
      one_side : (p q : Bool) → (T p → T q → ⊥) → T (p || q) → q ≡ not p
      one_side true true o h = absurd (o tt tt)
      one_side true false o h = refl
      one_side false true o h = refl
      one_side false false o h = absurd h

      both_not : (p p' : Bool) → beq p p' ≡ beq (not p) (not p')
      both_not true true = refl
      both_not true false = refl
      both_not false true = refl
      both_not false false = refl

      evens_exchanged : (p q p' q' b : Bool) → q ≡ not p → q' ≡ not p' → beq (beq p p') b ≡ beq (beq q q') b
      evens_exchanged p q p' q' b e e' = rw (e, e', both_not p p')

-- ---- all constraints

alike_graphs : (xs : List Bool) (g : List Constraint) → ((i : ℕ) → Apart (constraint g i)) → AlikeGraphs g (each_exchanged xs g) every_edge (λ i. i)
alike_graphs xs g apart =
    record {
      closed = λ i x y h h' k. tt;
      numbered = λ x k. incidence_exchanged 0 xs g x ∙ sym (map-id (incidence g x));
      told_apart = λ i j m n e. e;
      alike = λ i m. rw constraint_exchanged (alike_exchanged (constraint g i) (apart i) (get_or xs i false));
    }

-- ---- balance

balance_exchanged : (counts : List ℕ) (x : Bool) (c : Constraint) → constraint_holds counts (exchanged x c) ≡ constraint_holds counts c
balance_exchanged counts false c = refl
balance_exchanged counts true c = by (side_in_range counts c.a) (side_in_range counts c.b) (side_sum counts c.a) (side_sum counts c.b)
  where
    by : (p q : Bool) (m n : ℕ) → q && (p && eqb n m) ≡ p && (q && eqb m n)
    by true true m n = eqb_comm n m
    by true false m n = refl
    by false true m n = refl
    by false false m n = refl

all_balance_exchanged : (counts : List ℕ) (xs : List Bool) (g : List Constraint) → all (constraint_holds counts) (each_exchanged xs g) ≡ all (constraint_holds counts) g
all_balance_exchanged counts [] g = refl
all_balance_exchanged counts (x ∷ xs) [] = refl
all_balance_exchanged counts (x ∷ xs) (c ∷ g) = rw (balance_exchanged counts x c, all_balance_exchanged counts xs g)

-- ---- an answer by its tests

-- accepted or refused by two chains of tests: first `head`, which is the same in both, and then v or v'. Whatever relates answers to themselves relates
-- the two answers, if v and v' pass alike, the accepted answers are then the same, and refusals by v' and by v are related.
module _ {A B : Type 0} (accepted_as : A → B) (refused_as : Verdict → B) (R : B → B → Type 0) (itself : (b : B) → R b b) where
  abbrev answer : Verdict → A → B
  answer v a = elim (is_passed v) [ true ↦ accepted_as a | false ↦ refused_as v ]

  related : (head v v' : Verdict) (a a' : A) → (is_passed head ≡ true → is_passed v' ≡ is_passed v) → (is_passed head ≡ true → is_passed v ≡ true → a' ≡ a)
      → (is_passed head ≡ true → is_passed v ≡ false → R (refused_as v') (refused_as v)) → R (answer (then_test head v') a') (answer (then_test head v) a)
  related head v v' a a' alike accepts refusals =
      by_truth (is_passed head)
      (λ h. rw (h, answer) (by_truth (is_passed v)
      (λ t. rw (alike h, t, answer) (rw (accepts h t) (itself (accepted_as a))))
      (λ t. rw (alike h, t, answer) (rw h (refusals h t)))))
      (λ h. rw (h, h, answer) (rw h (itself (refused_as head))))

-- ---- a sheet and its regions

module _ (turns : List Turn) (regions sheet : List ℕ) (reads : ReadAlike places (turned places turns regions) sheet) where
  pub graphs : (n : ℕ) → T (accepted places n regions) → AlikeGraphs (graph places regions) (graph places sheet) every_edge (λ i. i)
  graphs n t =
      rw (graph_same places turns regions sheet reads (accepted_whole places n regions t))
      (alike_graphs (choices turns) (graph places regions) (λ i. ((accepted_ok places n regions t).constraint_ok i).sided))

  -- regions that pass all their tests
  accepted_by : (n : ℕ) → is_passed (limits_test places n regions) ≡ true → is_passed (regions_test places n regions) ≡ true → T (accepted places n regions)
  unfolding accepted
  accepted_by n h t = then_both (limits_test places n regions) (regions_test places n regions) (true_T _ h) (true_T _ t)

  -- ---- a round

  module _ (spacing : Spacing) (counts : List ℕ) (limit : ℕ) where
    abbrev n : ℕ
    n = edges_of spacing

    -- all its tests but those of the regions
    abbrev head : Verdict
    head = round_order places regions spacing counts limit passed

    heads : is_passed head ≡ true → RoundPassed places regions spacing counts passed
    heads h = round_passed places regions spacing counts limit passed h

    found_same : is_passed head ≡ true → is_passed (regions_test places n regions) ≡ true
        → find_move (graph places sheet) (costs_of spacing) counts limit ≡ find_move (graph places regions) (costs_of spacing) counts limit
    found_same h t = sym (find_move_alike (graphs n (accepted_by n (heads h).limits t)) (costs_of spacing) counts limit)

    round_related : (R : Round → Round → Type 0) → ((a : Round) → R a a)
        → (is_passed head ≡ true → is_passed (regions_test places n regions) ≡ false
        → R (round_refused (regions_test places n sheet) counts) (round_refused (regions_test places n regions) counts))
        → R (round sheet spacing counts limit) (round regions spacing counts limit)
    unfolding round round_with round_test
    round_related R itself refusals =
        rw (
          round_order_same places sheet regions (limits_same places turns regions sheet reads) spacing counts limit (regions_test places n sheet),
          round_order_then places regions spacing counts limit (regions_test places n sheet),
          round_order_then places regions spacing counts limit (regions_test places n regions),
        )
        (related (λ (f : Found). round_by f counts) (λ (v : Verdict). round_refused v counts) R itself head
        (regions_test places n regions) (regions_test places n sheet)
        (find_move (graph places regions) (costs_of spacing) counts limit) (find_move (graph places sheet) (costs_of spacing) counts limit)
        (λ h. tests_same places turns regions sheet reads n (heads h).limits) found_same refusals)

    any_round_same : SameRound (round sheet spacing counts limit) (round regions spacing counts limit)
    any_round_same =
        round_related SameRound (λ a. record { fault = same refl; move = refl; cut = refl; counts = refl }) (λ h t.
        record { fault = faults_same places turns regions sheet reads n (heads h).limits; move = refl; cut = refl; counts = refl })

    accepted_round_same : T (accepted places (length counts) regions) → round sheet spacing counts limit ≡ round regions spacing counts limit
    accepted_round_same a =
        round_related ◌≡◌ (λ a. refl) (λ h t.
        absurd (rw t at (rw (heads h).values.as_many at (accepted_regions places (length counts) regions a))))

  rounds_alike : (requests : List Request) (counts : List ℕ) → T (accepted places (length counts) regions)
      → answers_to_all sheet counts requests ≡ answers_to_all regions counts requests
  rounds_alike [] counts a = refl
  rounds_alike (request ∷ requests) counts a =
      rw (accepted_round_same request.spacing counts (limit_of request) a)
      (ap (λ (rest : List Round). answer_to regions request counts ∷ rest) (rounds_alike requests (answer_to regions request counts).counts (rw as_long a)))
    where
      as_long : length (answer_to regions request counts).counts ≡ length counts
      as_long =
          (steady_round regions (answer_to regions) request_costs (test_of regions) limit_of (answer_to_is regions) counts request
          (accepted_ok places (length counts) regions a)).as_long

  -- ---- solve

  module _ (spacing : Spacing) (lent : List ℕ) (limit : ℕ) where
    abbrev m : ℕ
    m = edges_of spacing

    abbrev solve_head : Verdict
    solve_head = solve_order places regions spacing (length lent) limit passed

    solve_limits : is_passed solve_head ≡ true → is_passed (limits_test places m regions) ≡ true
    solve_limits h = (solve_passed places regions spacing (length lent) limit passed h).limits

    solved_same : is_passed solve_head ≡ true → is_passed (regions_test places m regions) ≡ true
        → solve_zeros (graph places sheet) (costs_of spacing) limit m ≡ solve_zeros (graph places regions) (costs_of spacing) limit m
    solved_same h t = sym (solve_zeros_alike (graphs m (accepted_by m (solve_limits h) t)) (costs_of spacing) limit m)

    solve_related : (R : Solve → Solve → Type 0) → ((a : Solve) → R a a)
        → (is_passed solve_head ≡ true → is_passed (regions_test places m regions) ≡ false
        → R (solve_refused (regions_test places m sheet) lent) (solve_refused (regions_test places m regions) lent))
        → R (solve sheet spacing lent limit) (solve regions spacing lent limit)
    unfolding solve solve_with solve_test
    solve_related R itself refusals =
        rw (
          solve_order_same places sheet regions (limits_same places turns regions sheet reads) spacing (length lent) limit (regions_test places m sheet),
          solve_order_then places regions spacing (length lent) limit (regions_test places m sheet),
          solve_order_then places regions spacing (length lent) limit (regions_test places m regions),
        )
        (related (λ (s : Solved). with_rest m (solve_part m s) lent) (λ (v : Verdict). solve_refused v lent) R itself solve_head
        (regions_test places m regions) (regions_test places m sheet)
        (solve_zeros (graph places regions) (costs_of spacing) limit m) (solve_zeros (graph places sheet) (costs_of spacing) limit m)
        (λ h. tests_same places turns regions sheet reads m (solve_limits h)) solved_same refusals)

    any_solve_same : SameSolve (solve sheet spacing lent limit) (solve regions spacing lent limit)
    any_solve_same =
        solve_related SameSolve (λ a. record { fault = same refl; moves = refl; counts = refl }) (λ h t.
        record { fault = faults_same places turns regions sheet reads m (solve_limits h); moves = refl; counts = refl })

    accepted_solve_same : T (accepted places m regions) → solve sheet spacing lent limit ≡ solve regions spacing lent limit
    accepted_solve_same a = solve_related ◌≡◌ (λ a. refl) (λ h t. absurd (rw t at (accepted_regions places m regions a)))

  -- ---- constraints_hold

  hold_alike : (counts : List ℕ) → constraints_hold sheet counts ≡ constraints_hold regions counts
  unfolding constraints_hold
  hold_alike counts =
      rw (limits_same places turns regions sheet reads (length counts))
      (by_truth (is_passed (limits_test places (length counts) regions))
      (λ e. rw (e, graph_same places turns regions sheet reads (limits_passed places (length counts) regions e).1, all_balance_exchanged counts (choices turns) (graph places regions)))
      (λ e. rw e))

  -- ---- the theorem

  pub turned_sheet : TurnedClaim regions sheet
  turned_sheet =
      record {
        accepted_too = accepted_same places turns regions sheet reads;
        round_same = λ request counts a. accepted_round_same request.spacing counts (limit_of request) a;
        rounds_same = rounds_alike;
        solve_same = λ spacing lent limit a. accepted_solve_same spacing lent (expansions limit) a;
        any_round = λ request counts. any_round_same request.spacing counts (limit_of request);
        any_solve = λ spacing lent limit. any_solve_same spacing lent (expansions limit);
        hold_same = hold_alike;
      }

-- the list itself, with its sides exchanged
pub turned_regions : (turns : List Turn) (regions : List ℕ) → TurnedClaim regions (turned places turns regions)
turned_regions turns regions = turned_sheet turns regions (turned places turns regions) (read_itself places (turned places turns regions))
