-- Solve's counts are balanced: zeros are, and each move keeps the difference of opposite sides. Assumes nothing.
use mathlib.Core.Logic.{inl, inr}
use mathlib.Core.Path.{◌≡◌, refl, sym, ◌∙◌}
use mathlib.Core.Bool.{true, false}
use mathlib.Core.List.{List, [], ◌∷◌, ◌++◌}
use Prim.Native.Nat.{ℕ, zero, suc, ◌*◌, ◌<◌}
use native.Mathlib.Omega.{arith}
use lib.ListN.{length, get_or, drop, replicate, length-replicate, get_or-append}
use lib.Dec.{T, ltb→lt}
use Rattle.std.specs.Prelude.{Option}
use Rattle.base.specs.Lists.{In}
use Rattle.base.specs.declared.verdict.Verdict.{Verdict}
use Rattle.base.specs.Refusal.{is_passed}
use Rattle.regions.specs.Region.{Constraint, constraint, graph, holds, places, region_count, side, side_sum}
use Rattle.counts.specs.Move.{Change, apply_changes}
use Rattle.counts.specs.Cost.{CostModel, Spacing, costs_of, edges_of}
use Rattle.counts.specs.Round.{find_move, Solved, solve_by, solve_from, solve_zeros, max_moves}
use Rattle.regions.specs.Accept.{accepted, limits_test, regions_test}
use Rattle.counts.specs.Solver.{Solve, expansions, solve, solve_test, solve_with, solve_part, with_rest, solve_refused}
use Rattle.counts.specs.Demand.{Balanced}
use Rattle.counts.proofs.Accepted.{Accepted, accepted_ok}
use Rattle.base.proofs.BoolLaws.{by_truth, clash, T_true, true_T, false_T}
use Rattle.regions.proofs.region.Constraints.{holds_a, holds_b}
use Rattle.base.proofs.ListLaws.{in→member}
use Rattle.base.proofs.TestLaws.{then_both}
use Rattle.counts.proofs.SolverLaws.{solve_passed}
use Rattle.counts.proofs.Rounds.{Steady, steady_found, found, constraint_at}

-- ---- counts whose constraints all balance

pub record Level (g : List Constraint) (n : ℕ) (counts : List ℕ) : Type 0 where
  pub level : (i : ℕ) → side_sum counts (constraint g i).a ≡ side_sum counts (constraint g i).b
  pub long : length counts ≡ n

pub getD_zeros : (n x : ℕ) → ◌≡◌ {A = ℕ} (get_or (replicate n 0) x 0) 0
getD_zeros zero x = refl
getD_zeros (suc n) zero = refl
getD_zeros (suc n) (suc x) = getD_zeros n x

sum_zeros : (n : ℕ) (l : List ℕ) → side_sum (replicate n 0) l ≡ 0
sum_zeros n [] = refl
sum_zeros n (x ∷ l) = let e = getD_zeros n x in let h = sum_zeros n l in omega arith

level_zeros : (g : List Constraint) (n : ℕ) → Level g n (replicate n 0)
level_zeros g n =
    record { level = λ i. sum_zeros n (constraint g i).a ∙ sym (sum_zeros n (constraint g i).b); long = length-replicate n 0 }

level_steady : {g : List Constraint} {n : ℕ} {before after : List ℕ} → Level g n before → Steady g before after → Level g n after
level_steady l s =
    record { level = λ i. (let d = s.difference i in let e = l.level i in omega arith); long = s.as_long ∙ l.long }

level_move : (g : List Constraint) (n : ℕ) → Accepted n g → (costs : CostModel) (limit : ℕ) (counts : List ℕ) → Level g n counts
    → Level g n (apply_changes (find_move g costs counts limit).best counts)
level_move g n ok costs limit counts l =
    let ok' = rw (← l.long) at ok in
    level_steady l (steady_found g counts ok' costs limit (find_move g costs counts limit) (found g counts ok' costs limit))

-- ---- solve

level_from : (g : List Constraint) (n : ℕ) → Accepted n g → (costs : CostModel) (limit m k : ℕ) (counts : List ℕ) → Level g n counts
    → Level g n (solve_from g costs limit m k counts).counts
unfolding solve_from
level_from g n ok costs limit zero k counts h = go (find_move g costs counts limit).best
  where
    go : (b : List Change) → Level g n (solve_by zero k counts b (λ c. record { moves = k; counts = c; more = true })).counts
    go [] = h
    go (z ∷ b) = h
level_from g n ok costs limit (suc m) k counts h =
    go (find_move g costs counts limit).best (level_move g n ok costs limit counts h) (level_from g n ok costs limit m (suc k))
  where
    go : (b : List Change) → Level g n (apply_changes b counts) → ((c : List ℕ) → Level g n c → Level g n (solve_from g costs limit m (suc k) c).counts)
        → Level g n (solve_by (suc m) k counts b (solve_from g costs limit m (suc k))).counts
    go [] a f = h
    go (z ∷ b) a f = f (apply_changes (z ∷ b) counts) a

pub level_solved : (g : List Constraint) (n : ℕ) → Accepted n g → (costs : CostModel) (limit : ℕ) → Level g n (solve_zeros g costs limit n).counts
unfolding solve_zeros
level_solved g n ok costs limit = level_from g n ok costs limit max_moves 0 (replicate n 0) (level_zeros g n)

-- ---- what stands past the counts is not read by a side whose edges are below them

sum_append : (counts rest side : List ℕ) → ((x : ℕ) → In x side → x < length counts) → side_sum (counts ++ rest) side ≡ side_sum counts side
sum_append counts rest [] h = refl
sum_append counts rest (x ∷ side) h =
    let e = get_or-append counts rest 0 x (h x (inl refl)) in let f = sum_append counts rest side (λ y i. h y (inr i)) in omega arith

level_append : (g : List Constraint) (n : ℕ) (counts rest : List ℕ) → Accepted n g → Level g n counts
    → (i : ℕ) → side_sum (counts ++ rest) (constraint g i).a ≡ side_sum (counts ++ rest) (constraint g i).b
level_append g n counts rest ok l i =
    let c = constraint g i in
    sum_append counts rest c.a (λ x m. inside x (holds_a c x (in→member x c.a m)))
    ∙ l.level i
    ∙ sym (sum_append counts rest c.b (λ x m. inside x (holds_b c x (in→member x c.b m))))
  where
    inside : (x : ℕ) → T (holds (constraint g i) x) → x < length counts
    inside x t = rw l.long (ltb→lt x n ((ok.constraint_ok i).inside x t))

-- ---- the public solve

-- a solve by its verdict and by what is solved, neither of them looked into
abbrev by_verdict : Verdict → ℕ → Solved → List ℕ → Solve
by_verdict v n s lent = elim (is_passed v) [ true ↦ with_rest n (solve_part n s) lent | false ↦ solve_refused v lent ]

done : (v : Verdict) (n : ℕ) (s : Solved) (lent : List ℕ) → T (is_passed (by_verdict v n s lent).verdict)
    → T (is_passed v) × ((by_verdict v n s lent).counts ≡ s.counts ++ drop n lent)
done v n s lent t =
    by_truth (is_passed v)
    (λ e. (true_T _ e, by_truth s.more (λ m. absurd (rw (e, by_verdict, m) at t)) (λ m. rw (e, by_verdict, m))))
    (λ e. absurd (clash (is_passed v) (rw (e, by_verdict) at t) (false_T _ e)))

-- an accepted solve: its regions are accepted, and its counts are those of the definition
pub record SolveIs (regions : List ℕ) (spacing : Spacing) (lent : List ℕ) (limit : ℕ) : Type 0 where
  pub regions_accepted : T (accepted places (edges_of spacing) regions)
  pub counts_are : (solve regions spacing lent limit).counts
      ≡ (solve_zeros (graph places regions) (costs_of spacing) limit (edges_of spacing)).counts ++ drop (edges_of spacing) lent

solve_opens : (regions : List ℕ) (spacing : Spacing) (lent : List ℕ) (limit : ℕ)
    → solve regions spacing lent limit
    ≡ by_verdict (solve_test places regions spacing (length lent) limit) (edges_of spacing)
    (solve_zeros (graph places regions) (costs_of spacing) limit (edges_of spacing)) lent
unfolding solve solve_with
solve_opens regions spacing lent limit = refl

test_accepts : (regions : List ℕ) (spacing : Spacing) (room limit : ℕ) → T (is_passed (solve_test places regions spacing room limit))
    → T (accepted places (edges_of spacing) regions)
unfolding solve_test accepted
test_accepts regions spacing room limit u =
    let l = limits_test places (edges_of spacing) regions in
    let r = regions_test places (edges_of spacing) regions in
    let h = solve_passed places regions spacing room limit r (T_true _ u) in
    then_both l r (true_T _ h.limits) (true_T _ h.last_ok)

pub solve_is : (regions : List ℕ) (spacing : Spacing) (lent : List ℕ) (limit : ℕ) → T (is_passed (solve regions spacing lent limit).verdict)
    → SolveIs regions spacing lent limit
solve_is regions spacing lent limit t =
    let e = solve_opens regions spacing lent limit in
    let solved = solve_zeros (graph places regions) (costs_of spacing) limit (edges_of spacing) in
    let d = done (solve_test places regions spacing (length lent) limit) (edges_of spacing) solved lent (rw e at t) in
    record { regions_accepted = test_accepts regions spacing (length lent) limit d.0; counts_are = rw e d.1 }

-- Counts that an accepted solve wrote, by spacings of either kind, are balanced in every region. 02: "Balance holds at any limit", stated or not.
pub solve_balanced : (regions : List ℕ) (spacing : Spacing) (lent : List ℕ) (limit : Option ℕ)
    → T (is_passed (solve regions spacing lent (expansions limit)).verdict) → Balanced regions (solve regions spacing lent (expansions limit)).counts
solve_balanced regions spacing lent limit t =
    record {
      bottom_top = λ r h. at (r * 2) _ (constraint_at places (region_count places regions) regions r h).0;
      right_left = λ r h. at (suc (r * 2)) _ (constraint_at places (region_count places regions) regions r h).1;
    }
  where
    s : SolveIs regions spacing lent (expansions limit)
    s = solve_is regions spacing lent (expansions limit) t

    n : ℕ
    n = edges_of spacing

    g : List Constraint
    g = graph places regions

    o : List ℕ
    o = (solve regions spacing lent (expansions limit)).counts

    ok : Accepted n g
    ok = accepted_ok places n regions s.regions_accepted

    even : (i : ℕ) → side_sum o (constraint g i).a ≡ side_sum o (constraint g i).b
    even i =
        let l = level_solved g n ok (costs_of spacing) (expansions limit) in
        rw s.counts_are (level_append g n (solve_zeros g (costs_of spacing) (expansions limit) n).counts (drop n lent) ok l i)

    at : (i : ℕ) (c : Constraint) → constraint g i ≡ c → side_sum o c.a ≡ side_sum o c.b
    at i c e = rw e at (even i)
