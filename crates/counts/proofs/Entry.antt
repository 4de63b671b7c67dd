-- The public round and solve, by the outcome of their tests: refused before the tables are made, refused by test 6, or done.
-- Assumes nothing.
use mathlib.Core.Path.{◌≡◌, refl, sym, ap, subst, ◌∙◌}
use mathlib.Core.Bool.{Bool, true, false, cond}
use mathlib.Core.List.{List, [], ◌∷◌, ◌++◌}
use Prim.Native.Nat.{ℕ, zero, suc, ◌≤◌}
use native.Mathlib.Omega.{arith}
use lib.ListN.{length, get_or, take, drop, replicate, length-take, length-replicate}
use lib.Dec.{T, eqb, leb→le}
use lib.Ieee.{Float}
use Rattle.std.specs.Prelude.{Result, Ok, Err, Some, None}
use Rattle.base.specs.declared.verdict.Verdict.{Verdict}
use Rattle.base.specs.Refusal.{passed, refused, is_passed, then_test, verdict_of}
use Rattle.regions.specs.Region.{Constraint, places, region_count, graph}
use Rattle.counts.specs.Cost.{CostModel, Spacing, by_ranges, within, costs_of, edges_of}
use Rattle.counts.specs.Round.{find_move, Solved, solve_from, solve_zeros, max_moves}
use Rattle.regions.specs.Accept.{pairs_test, overused_test, regions_test}
use Rattle.counts.specs.Values.{counts_test, count_ok, first_bad, max_count}
use Rattle.counts.specs.Solver.{Round, round_of, round_by, round_refused, round_with, round, round_test, Solve, solve_of, solve_part, with_rest}
use Rattle.counts.specs.Solver.{solve_refused, solve_with, solve, solve_test}
use Rattle.counts.specs.inner.Checks.{round_head, solve_head}
use Rattle.counts.specs.inner.Tables.{Tables, the_graph, no_constraint, edge_slots}
use Rattle.counts.specs.inner.Graph.{Built, MayBuild}
use Rattle.counts.specs.inner.RoundContract.{SolveInput, RoundInput, MovesInput, solved_of}
use Rattle.counts.specs.declared.answer.RoundOutcome.{RoundOutcome}
use Rattle.base.specs.declared.refusal.Refusal.{Refusal}
use Rattle.base.specs.declared.refusal.Refusal.TheVariants.{TooManyMoves}
use Rattle.base.proofs.BoolLaws.{true_T}
use Rattle.base.proofs.TestLaws.{then_both, was_refused, was_passed, chain_stops}
use Rattle.counts.proofs.Solving.{getD_zeros}
use Rattle.regions.proofs.accept.Laws.{limits_passed}
use Rattle.counts.proofs.SolverLaws.{round_test_chain, solve_test_chain, same_lengths, RoundPassed, round_passed, SolvePassed, solve_passed}

-- ---- a chain that ends with test 6

-- the head refused
head_refused : (r : Refusal) {head : Verdict} (six : Verdict) → verdict_of r ≡ head
    → (verdict_of r ≡ then_test head six) × (is_passed (then_test head six) ≡ false)
head_refused r six e = let q = chain_stops r six e in (q, was_refused r q)

-- the head passed, and so it is test 6
head_passed : (head six : Verdict) → is_passed head ≡ true → then_test head six ≡ six
head_passed head six p = ap (λ (b : Bool). cond b six head) p

-- ---- 2 and 9 passed: no value is other than it should be

pub none_bad : {A : Type 0} (ok : A → Bool) (number i : ℕ) (l : List A) (d : A) → eqb number 0 ≡ false → T (ok d)
    → is_passed (first_bad ok number i l) ≡ true → (x : ℕ) → T (ok (get_or l x d))
unfolding first_bad
none_bad ok number i [] d n t h x = t
none_bad {A} ok number i (s ∷ l) d n t h x = go (ok s) refl h x (none_bad ok number (suc i) l d n t)
  where
    go : (b : Bool) → ok s ≡ b → is_passed (cond b (first_bad ok number (suc i) l) (refused number i 0)) ≡ true → (x : ℕ)
        → (is_passed (first_bad ok number (suc i) l) ≡ true → (x : ℕ) → T (ok (get_or l x d))) → T (ok (get_or (s ∷ l) x d))
    go true e h zero f = true_T (ok s) e
    go true e h (suc x) f = f h x
    go false e h x f = absurd (let z : T false = subst T (sym h ∙ n) tt in z)

counts_small : (counts : List ℕ) → is_passed (counts_test counts) ≡ true → (x : ℕ) → get_or counts x 0 ≤ max_count
counts_small counts h x = leb→le (get_or counts x 0) max_count (none_bad count_ok 9 0 counts 0 refl tt h x)

-- ---- the regions pass, by the tests of the pairs and by test 6

abbrev pairs : List ℕ → ℕ → Verdict
pairs regions n = pairs_test places n 0 (region_count places regions) regions

abbrev six : List ℕ → ℕ → Verdict
six regions n = overused_test (graph places regions) 0 n

regions_pass : (regions : List ℕ) (n : ℕ) → is_passed (pairs regions n) ≡ true → is_passed (six regions n) ≡ true
    → T (is_passed (regions_test places n regions))
unfolding regions_test
regions_pass regions n h s = then_both (pairs regions n) (six regions n) (true_T (is_passed (pairs regions n)) h)
    (true_T (is_passed (six regions n)) s)

-- the tables, once test 6 has passed
built_tables : {n : ℕ} {regions incident own : List ℕ} → Built n regions incident own passed → Tables regions incident own
built_tables b = b.tables tt

-- ---- a round

-- the tests up to 6 passed, with the limit that the call stands for
pub record RoundEarly (regions : List ℕ) (spacing : Spacing) (counts : List ℕ) (limit stated : ℕ) : Type 0 where
  pub passes : is_passed (round_head places regions spacing counts limit) ≡ true
  pub limit_is : limit ≡ stated

module _ (regions : List ℕ) (spacing : Spacing) (counts : List ℕ) (limit : ℕ) where
  abbrev all_tests : Verdict
  all_tests = round_test places regions spacing counts limit

  by_verdict : Verdict → Bool → Round
  by_verdict v b = elim b [
    | true ↦ round_by (find_move (graph places regions) (costs_of spacing) counts limit) counts
    | false ↦ round_refused v counts
  ]

  round_opens : round regions spacing counts limit ≡ by_verdict all_tests (is_passed all_tests)
  unfolding round round_with by_verdict
  round_opens = refl

  turned_away : (r : Refusal) → verdict_of r ≡ all_tests → is_passed all_tests ≡ false
      → round_of (Err r) counts ≡ round regions spacing counts limit
  unfolding round_of by_verdict
  turned_away r q f = ap (λ (v : Verdict). round_refused v counts) q ∙ ap (by_verdict all_tests) (sym f) ∙ sym round_opens

pub round_refused_early : (regions : List ℕ) (spacing : Spacing) (counts : List ℕ) {limit stated : ℕ} (r : Refusal) → limit ≡ stated
    → verdict_of r ≡ round_head places regions spacing counts limit → round_of (Err r) counts ≡ round regions spacing counts stated
round_refused_early regions spacing counts {limit} r s e =
    let q = head_refused r (six regions (edges_of spacing)) e in
    let k = round_test_chain places regions spacing counts limit in
    turned_away regions spacing counts limit r (q.0 ∙ sym k) (ap is_passed k ∙ q.1) ∙ ap (round regions spacing counts) s

module _ {regions : List ℕ} {spacing : Spacing} {counts : List ℕ} {limit stated : ℕ} (t : RoundEarly regions spacing counts limit stated) where
  six_decides : round_test places regions spacing counts limit ≡ six regions (edges_of spacing)
  six_decides =
      round_test_chain places regions spacing counts limit
      ∙ head_passed (round_head places regions spacing counts limit) (six regions (edges_of spacing)) t.passes

  pub round_refused_late : (r : Refusal) → verdict_of r ≡ six regions (edges_of spacing) → round_of (Err r) counts ≡ round regions spacing counts stated
  round_refused_late r p =
      turned_away regions spacing counts limit r (p ∙ sym six_decides) (ap is_passed six_decides ∙ was_refused r p)
      ∙ ap (round regions spacing counts) t.limit_is

  pub round_done : (r : RoundOutcome) (after : List ℕ) → passed ≡ six regions (edges_of spacing)
      → round_of (Ok r) after ≡ round_by (find_move (graph places regions) (costs_of spacing) counts limit) counts
      → round_of (Ok r) after ≡ round regions spacing counts stated
  unfolding by_verdict
  round_done r after p a =
      a
      ∙ ap (by_verdict regions spacing counts limit (all_tests regions spacing counts limit)) (sym (ap is_passed six_decides ∙ was_passed p))
      ∙ sym (round_opens regions spacing counts limit)
      ∙ ap (round regions spacing counts) t.limit_is

  early_says : RoundPassed places regions spacing counts (pairs regions (edges_of spacing))
  unfolding round_head
  early_says = round_passed places regions spacing counts limit (pairs regions (edges_of spacing)) t.passes

  pub round_tables : {incident own : List ℕ} → incident ≡ replicate edge_slots no_constraint → length own ≡ edge_slots
      → MayBuild (edges_of spacing) regions incident own
  round_tables i s =
      let h = early_says in
      record { limits_pass = true_T _ h.limits; pairs_pass = true_T _ h.last_ok; incident_empty = i; own_size = s }

-- the input of the inner round
pub round_ready : {regions : List ℕ} {least most : List Float} {counts : List ℕ} {limit stated : ℕ} {incident own : List ℕ}
    → RoundEarly regions (within least most) counts limit stated → Built (length least) regions incident own passed
    → RoundInput regions incident own least most counts
round_ready {regions} {least} {most} {counts} t b =
    let h = early_says t in
    let m = h.values.as_many in
    let few = (limits_passed places (length least) regions h.limits).0 in
    record {
      input =
          record {
            tables = built_tables b;
            few = omega arith;
            least_long = sym m;
            most_long = sym (same_lengths (length least) (length most) h.values.lists) ∙ sym m;
            regions_pass = subst (λ (n : ℕ). T (is_passed (regions_test places n regions))) (sym m)
                (regions_pass regions (length least) h.last_ok (was_passed b.verdict_is));
          };
      small = counts_small counts h.values.counts_ok;
    }

-- ---- solve

-- the tests up to 6 passed, with the limit that the call stands for
pub record SolveEarly (regions : List ℕ) (spacing : Spacing) (lent : List ℕ) (limit stated : ℕ) : Type 0 where
  pub passes : is_passed (solve_head places regions spacing (length lent) limit) ≡ true
  pub limit_is : limit ≡ stated

module _ (regions : List ℕ) (spacing : Spacing) (lent : List ℕ) (limit : ℕ) where
  abbrev test : Verdict
  test = solve_test places regions spacing (length lent) limit

  by_test : Verdict → Solve → Bool → Solve
  by_test v s b = elim b [ true ↦ with_rest (edges_of spacing) s lent | false ↦ solve_refused v lent ]

  abbrev part : Solve
  part = solve_part (edges_of spacing) (solve_zeros (graph places regions) (costs_of spacing) limit (edges_of spacing))

  solve_opens : solve regions spacing lent limit ≡ by_test test part (is_passed test)
  unfolding solve solve_with by_test
  solve_opens = refl

  turned : (r : Refusal) → verdict_of r ≡ test → is_passed test ≡ false → solve_of (Err r) lent ≡ solve regions spacing lent limit
  unfolding solve_of by_test
  turned r q f = ap (λ (v : Verdict). solve_refused v lent) q ∙ ap (by_test test part) (sym f) ∙ sym solve_opens

  rest_of : (r : Result ℕ Refusal) (after : List ℕ)
      → solve_of r (after ++ drop (edges_of spacing) lent) ≡ with_rest (edges_of spacing) (solve_of r after) lent
  unfolding solve_of
  rest_of (Ok m) after = refl
  rest_of (Err r) after = refl

pub solve_refused_early : (regions : List ℕ) (spacing : Spacing) (lent : List ℕ) {limit stated : ℕ} (r : Refusal) → limit ≡ stated
    → verdict_of r ≡ solve_head places regions spacing (length lent) limit → solve_of (Err r) lent ≡ solve regions spacing lent stated
solve_refused_early regions spacing lent {limit} r s e =
    let q = head_refused r (six regions (edges_of spacing)) e in
    let k = solve_test_chain places regions spacing (length lent) limit in
    turned regions spacing lent limit r (q.0 ∙ sym k) (ap is_passed k ∙ q.1) ∙ ap (solve regions spacing lent) s

module _ {regions : List ℕ} {spacing : Spacing} {lent : List ℕ} {limit stated : ℕ} (t : SolveEarly regions spacing lent limit stated) where
  last_decides : test regions spacing lent limit ≡ six regions (edges_of spacing)
  last_decides =
      solve_test_chain places regions spacing (length lent) limit
      ∙ head_passed (solve_head places regions spacing (length lent) limit) (six regions (edges_of spacing)) t.passes

  pub solve_refused_late : (r : Refusal) → verdict_of r ≡ six regions (edges_of spacing) → solve_of (Err r) lent ≡ solve regions spacing lent stated
  solve_refused_late r p =
      turned regions spacing lent limit r (p ∙ sym last_decides) (ap is_passed last_decides ∙ was_refused r p) ∙ ap (solve regions spacing lent) t.limit_is

  pub solve_done : (r : Result ℕ Refusal) (after : List ℕ) {whole : List ℕ} → passed ≡ six regions (edges_of spacing)
      → solve_of r after ≡ part regions spacing lent limit → whole ≡ after ++ drop (edges_of spacing) lent
      → solve_of r whole ≡ solve regions spacing lent stated
  unfolding by_test
  solve_done r after p a w =
      ap (solve_of r) w ∙ rest_of regions spacing lent limit r after ∙ ap (λ (s : Solve). with_rest (edges_of spacing) s lent) a
      ∙ ap (by_test regions spacing lent limit (test regions spacing lent limit) (part regions spacing lent limit))
      (sym (ap is_passed last_decides ∙ was_passed p))
      ∙ sym (solve_opens regions spacing lent limit)
      ∙ ap (solve regions spacing lent) t.limit_is

  tested : SolvePassed places regions spacing (length lent) (pairs regions (edges_of spacing))
  unfolding solve_head
  tested = solve_passed places regions spacing (length lent) limit (pairs regions (edges_of spacing)) t.passes

  pub solve_tables : {incident own : List ℕ} → incident ≡ replicate edge_slots no_constraint → length own ≡ edge_slots
      → MayBuild (edges_of spacing) regions incident own
  solve_tables i s =
      let h = tested in
      record { limits_pass = true_T _ h.limits; pairs_pass = true_T _ h.last_ok; incident_empty = i; own_size = s }

  pub solve_room : edges_of spacing ≤ length lent
  solve_room = tested.enough

-- the input of the inner solve: the part of the lent counts that it writes, and both lists of ranges
pub solve_ready : {regions : List ℕ} {least most : List Float} {lent : List ℕ} {limit stated : ℕ} {incident own : List ℕ}
    → SolveEarly regions (within least most) lent limit stated → Built (length least) regions incident own passed
    → SolveInput regions incident own least most (take (length least) lent)
solve_ready {regions} {least} {most} {lent} t b =
    let h = tested t in
    let few = (limits_passed places (length least) regions h.limits).0 in
    let m : length least ≡ length (take (length least) lent) = (let l = length-take (length least) lent in let r = h.enough in omega arith) in
    record {
      tables = built_tables b;
      few = omega arith;
      least_long = m;
      most_long = sym (same_lengths (length least) (length most) h.lists) ∙ m;
      regions_pass = subst (λ (n : ℕ). T (is_passed (regions_test places n regions))) m
          (regions_pass regions (length least) h.last_ok (was_passed b.verdict_is));
    }

-- ---- the needed part of a solve

zeros_open : (g : List Constraint) (costs : CostModel) (limit n : ℕ)
    → solve_zeros g costs limit n ≡ solve_from g costs limit max_moves 0 (replicate n 0)
unfolding solve_zeros
zeros_open g costs limit n = refl

module _ {regions incident own : List ℕ} {least most : List Float} {counts zeros : List ℕ} (input : SolveInput regions incident own least most counts)
    (cleared : zeros ≡ replicate (length counts) 0) where
  pub zeros_ready : MovesInput regions incident own least most zeros
  zeros_ready =
      let e : length zeros ≡ length counts = ap length cleared ∙ length-replicate (length counts) 0 in
      record {
        round =
            record {
              input =
                  record {
                    tables = input.tables;
                    few = let f = input.few in omega arith;
                    least_long = input.least_long ∙ sym e;
                    most_long = input.most_long ∙ sym e;
                    regions_pass = subst (λ (k : ℕ). T (is_passed (regions_test places k regions))) (sym e) input.regions_pass;
                  };
              small = λ x. (let q = ap (λ (l : List ℕ). get_or l x 0) cleared ∙ getD_zeros (length counts) x in omega arith);
            };
        zeros = cleared ∙ ap (λ (k : ℕ). replicate k 0) (sym e);
      }

  module _ (limit : ℕ) where
    abbrev whole : Solved
    whole = solve_zeros (the_graph regions) (by_ranges least most) limit (length least)

    -- the moves from the cleared counts are those from zeros, one for each range
    from_zeros : {s : Solved} → s ≡ solve_from (the_graph regions) (by_ranges least most) limit max_moves 0 zeros → s ≡ whole
    from_zeros e =
        e
        ∙ ap (solve_from (the_graph regions) (by_ranges least most) limit max_moves 0)
        (cleared ∙ ap (λ (k : ℕ). replicate k 0) (sym input.least_long))
        ∙ sym (zeros_open (the_graph regions) (by_ranges least most) limit (length least))

    pub part_done : {moves : ℕ} {after : List ℕ}
        → solved_of (Some moves) after ≡ solve_from (the_graph regions) (by_ranges least most) limit max_moves 0 zeros
        → solve_of (Ok moves) after ≡ solve_part (length least) whole
    unfolding solve_of
    part_done e = ap (solve_part (length least)) (from_zeros e)

    -- a move too many
    pub part_stopped : {after again : List ℕ}
        → solved_of None after ≡ solve_from (the_graph regions) (by_ranges least most) limit max_moves 0 zeros
        → again ≡ replicate (length after) 0 → length after ≡ length counts
        → solve_of (Err TooManyMoves) again ≡ solve_part (length least) whole
    unfolding solve_of verdict_of
    part_stopped e a l =
        ap (λ (c : List ℕ). record { verdict = refused 7 0 0; moves = 0; counts = c })
        (a ∙ ap (λ (k : ℕ). replicate k 0) (l ∙ sym input.least_long))
        ∙ ap (solve_part (length least)) (from_zeros e)
