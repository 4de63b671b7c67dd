-- Laws of the public functions: their chains of tests, and what each answers by the outcome of its tests. Assumes nothing.
use mathlib.Core.Path.{◌≡◌, ap, ◌∙◌}
use mathlib.Core.Bool.{Bool, true, not, ◌&&◌, and-true, and_assoc}
use mathlib.Core.List.{List, []}
use Prim.Native.Nat.{ℕ, ◌+◌, ◌-◌, ◌≤◌, ◌<◌}
use native.Mathlib.Omega.{arith}
use borrow.Author.Tests.{eqb-true, ltb-false, not-false}
use lib.ListN.{length}
use lib.Dec.{ltb, eqb}
use lib.Ieee.{Float}
use Rattle.std.specs.Prelude.{Result, Err, IsErrAnd}
use Rattle.std.proofs.lemmas.Result.{err_from_is_err_and}
use Rattle.base.specs.Lists.{all}
use Rattle.regions.specs.Region.{Constraint, places, from_region, constraints, graph}
use Rattle.base.specs.declared.verdict.Verdict.{Verdict}
use Rattle.base.specs.Refusal.{passed, refused, is_passed, then_test, refuse_if}
use Rattle.counts.specs.Cost.{Spacing, by, within, edges_of}
use Rattle.regions.specs.Accept.{limits_test, overused_test, regions_test}
use Rattle.counts.specs.Values.{counts_test, limit_test, spacing_limits, lengths_test, spacing_lengths, spacing_test, values_test}
use Rattle.counts.specs.Solver.{round_order, round_test, solve_order, solve_test, energy_test}
use Rattle.counts.specs.inner.Checks.{round_head, solve_head}
use Rattle.base.specs.declared.refusal.Refusal.{Refusal}
use Rattle.regions.proofs.accept.Laws.{count_down, next_record}
use Rattle.base.proofs.TestLaws.{was_passed, then_passed, then_test_assoc, lets_by}

-- ---- round and solve: the code makes 6 on its tables, after the rest
module _ (p : ℕ) (regions : List ℕ) (spacing : Spacing) where
  abbrev six : Verdict
  six = overused_test (graph p regions) 0 (edges_of spacing)

  abbrev eleven : ℕ → Verdict
  eleven room = refuse_if (ltb room (edges_of spacing)) (refused 11 0 0)

  pub round_test_chain : (counts : List ℕ) (limit : ℕ) → round_test p regions spacing counts limit ≡ then_test (round_head p regions spacing counts limit) six
  unfolding round_test round_head round_order regions_test
  round_test_chain counts limit = simp then_test_assoc

  pub solve_test_chain : (room limit : ℕ) → solve_test p regions spacing room limit ≡ then_test (solve_head p regions spacing room limit) six
  unfolding solve_test solve_head solve_order regions_test
  solve_test_chain room limit = simp then_test_assoc

-- the tests before those of the regions read the records by 1 alone
module _ (p : ℕ) (regions regions' : List ℕ) (limits : (n : ℕ) → limits_test p n regions ≡ limits_test p n regions') where
  spacing_limits_same : (spacing : Spacing) → spacing_limits p spacing regions ≡ spacing_limits p spacing regions'
  spacing_limits_same (by ideals) = limits (length ideals)
  spacing_limits_same (within least most) = rw (limits (length least), limits (length most))

  pub round_order_same : (spacing : Spacing) (counts : List ℕ) (limit : ℕ) (last : Verdict)
      → round_order p regions spacing counts limit last ≡ round_order p regions' spacing counts limit last
  unfolding round_order
  round_order_same spacing counts limit last = rw (spacing_limits_same spacing, limits (length counts))

  pub solve_order_same : (spacing : Spacing) (room limit : ℕ) (last : Verdict)
      → solve_order p regions spacing room limit last ≡ solve_order p regions' spacing room limit last
  unfolding solve_order
  solve_order_same spacing room limit last = rw (spacing_limits_same spacing)

-- what is tested of the regions comes last
pub round_order_then : (p : ℕ) (regions : List ℕ) (spacing : Spacing) (counts : List ℕ) (limit : ℕ) (last : Verdict)
    → round_order p regions spacing counts limit last ≡ then_test (round_order p regions spacing counts limit passed) last
unfolding round_order
round_order_then p regions spacing counts limit last = simp then_test_assoc

pub solve_order_then : (p : ℕ) (regions : List ℕ) (spacing : Spacing) (room limit : ℕ) (last : Verdict)
    → solve_order p regions spacing room limit last ≡ then_test (solve_order p regions spacing room limit passed) last
unfolding solve_order
solve_order_then p regions spacing room limit last = simp then_test_assoc

-- ---- what the tests let by

-- 8 lets by only lists of one length
pub same_lengths : (m n : ℕ) → is_passed (lengths_test m n) ≡ true → m ≡ n
same_lengths m n h = eqb-true m n (not-false (eqb m n) (lets_by (not (eqb m n)) 7 0 0 h))

-- as many counts as edges, and each value as it should be
pub record ValuesPassed (counts : List ℕ) (spacing : Spacing) : Type 0 where
  pub lists : is_passed (spacing_lengths spacing) ≡ true
  pub as_many : length counts ≡ edges_of spacing
  pub spacing_ok : is_passed (spacing_test spacing) ≡ true
  pub counts_ok : is_passed (counts_test counts) ≡ true

pub values_passed : (counts : List ℕ) (spacing : Spacing) → is_passed (values_test counts spacing) ≡ true → ValuesPassed counts spacing
values_passed counts spacing h =
    let b = then_test (spacing_test spacing) (counts_test counts) in
    let a = then_test (lengths_test (length counts) (edges_of spacing)) b in
    let h1 = then_passed (spacing_lengths spacing) a h in
    let h2 = then_passed (lengths_test (length counts) (edges_of spacing)) b h1.1 in
    let h3 = then_passed (spacing_test spacing) (counts_test counts) h2.1 in
    record { lists = h1.0; as_many = same_lengths (length counts) (edges_of spacing) h2.0; spacing_ok = h3.0; counts_ok = h3.1 }

-- 1 of a spacing is 1 of its edges too
pub limits_of_edges : (p : ℕ) (regions : List ℕ) (spacing : Spacing) → is_passed (spacing_limits p spacing regions) ≡ true
    → is_passed (limits_test p (edges_of spacing) regions) ≡ true
limits_of_edges p regions (by ideals) h = h
limits_of_edges p regions (within least most) h = (then_passed (limits_test p (length least) regions) (limits_test p (length most) regions) h).0

-- whatever is tested last
pub record RoundPassed (p : ℕ) (regions : List ℕ) (spacing : Spacing) (counts : List ℕ) (last : Verdict) : Type 0 where
  pub limits : is_passed (limits_test p (edges_of spacing) regions) ≡ true
  pub values : ValuesPassed counts spacing
  pub last_ok : is_passed last ≡ true

pub round_passed : (p : ℕ) (regions : List ℕ) (spacing : Spacing) (counts : List ℕ) (limit : ℕ) (last : Verdict)
    → is_passed (round_order p regions spacing counts limit last) ≡ true → RoundPassed p regions spacing counts last
unfolding round_order
round_passed p regions spacing counts limit last h =
    let c = then_test (values_test counts spacing) last in
    let b = then_test (limit_test limit) c in
    let a = then_test (limits_test p (length counts) regions) b in
    let h1 = then_passed (spacing_limits p spacing regions) a h in
    let h2 = then_passed (limits_test p (length counts) regions) b h1.1 in
    let h3 = then_passed (limit_test limit) c h2.1 in
    let h4 = then_passed (values_test counts spacing) last h3.1 in
    record { limits = limits_of_edges p regions spacing h1.0; values = values_passed counts spacing h4.0; last_ok = h4.1 }

pub record SolvePassed (p : ℕ) (regions : List ℕ) (spacing : Spacing) (room : ℕ) (last : Verdict) : Type 0 where
  pub limits : is_passed (limits_test p (edges_of spacing) regions) ≡ true
  pub lists : is_passed (spacing_lengths spacing) ≡ true
  pub enough : edges_of spacing ≤ room
  pub spacing_ok : is_passed (spacing_test spacing) ≡ true
  pub last_ok : is_passed last ≡ true

pub solve_passed : (p : ℕ) (regions : List ℕ) (spacing : Spacing) (room limit : ℕ) (last : Verdict)
    → is_passed (solve_order p regions spacing room limit last) ≡ true → SolvePassed p regions spacing room last
unfolding solve_order
solve_passed p regions spacing room limit last h =
    let d = then_test (spacing_test spacing) last in
    let c = then_test (eleven p regions spacing room) d in
    let b = then_test (spacing_lengths spacing) c in
    let a = then_test (limit_test limit) b in
    let h1 = then_passed (spacing_limits p spacing regions) a h in
    let h2 = then_passed (limit_test limit) b h1.1 in
    let h3 = then_passed (spacing_lengths spacing) c h2.1 in
    let h4 = then_passed (eleven p regions spacing room) d h3.1 in
    let h5 = then_passed (spacing_test spacing) last h4.1 in
    record {
      limits = limits_of_edges p regions spacing h1.0;
      lists = h3.0;
      enough = ltb-false room (edges_of spacing) (lets_by (ltb room (edges_of spacing)) 10 0 0 h4.0);
      spacing_ok = h5.0;
      last_ok = h5.1;
    }

-- ---- the outcome of tests

-- what the exit of a `?` answers: the error that came
pub exit_err : {A : Type 0} (o : Result A Refusal) (r : Refusal) → IsErrAnd o (λ (e : Refusal). e ≡ r) → o ≡ Err r
exit_err o r h = let p = err_from_is_err_and o h in p.1 ∙ ap Err p.2

module _ (counts : List ℕ) (ideals : List Float) where
  pub energy_lengths : passed ≡ energy_test counts ideals → length counts ≡ length ideals
  unfolding energy_test
  energy_lengths e =
      let v = values_test counts (by ideals) in
      let h = (then_passed (limits_test places (length ideals) []) (then_test (limits_test places (length counts) []) v) (was_passed e)).1 in
      (values_passed counts (by ideals) (then_passed (limits_test places (length counts) []) v h).1).as_many

-- one region more
pub hold_turn : (p : ℕ) (f : Constraint → Bool) (m r : ℕ) (l : List ℕ) → r < m
    → all f (constraints p (m - r) (from_region p l r))
    ≡ all f (constraints p 1 (from_region p l r)) && all f (constraints p (m - (r + 1)) (from_region p l (r + 1)))
unfolding constraints
hold_turn p f m r l h = rw (count_down, next_record p m r l h) (simp (and-true, and_assoc))

pub hold_end : (p : ℕ) (f : Constraint → Bool) (m r : ℕ) (l : List ℕ) → m ≤ r → all f (constraints p (m - r) l) ≡ true
unfolding constraints
hold_end p f m r l h = let e : m - r ≡ 0 = omega arith in rw e
