-- 01, "Turned-away input", and 02's 35: the tests of the solver's values, 2, 8, 9, 10 and 35, and of a spacing of either kind. Assumes nothing.
use Rattle.std.specs.Prelude.{Bool, false, not, ◌&&◌, cond, List, [], ◌∷◌, ℕ, suc, length, leb, ltb, eqb, Float}
use Rattle.std.specs.Float.{nan, fin, inf}
use Rattle.std.specs.Float.Ieee.{lt}
use Rattle.base.specs.Refusal.{passed, refused, then_test, refuse_if}
use Rattle.base.specs.declared.verdict.Verdict.{Verdict}
use Rattle.regions.specs.Accept.{limits_test}
use Rattle.counts.specs.Cost.{Spacing, by, within, edges_of}

-- ---- 2 and 9: the lowest edge whose value is not as it should be

unfoldable pub first_bad {ℓ} : {A : Type ℓ} → (A → Bool) → ℕ → ℕ → List A → Verdict
first_bad ok number i [] = passed
first_bad ok number i (x ∷ xs) = cond (ok x) (first_bad ok number (suc i) xs) (refused number i 0)

-- "ideal not finite or not above 0"
abbrev pub ideal_ok : Float → Bool
ideal_ok nan = false
ideal_ok (inf s) = false
ideal_ok (fin s m e) = not s && ltb 0 m

-- "count over 1,000,000"
abbrev pub max_count : ℕ
max_count = 1000000

abbrev pub count_ok : ℕ → Bool
count_ok n = leb n max_count

abbrev pub ideals_test : List Float → Verdict
ideals_test ideals = first_bad ideal_ok 2 0 ideals

abbrev pub counts_test : List ℕ → Verdict
counts_test counts = first_bad count_ok 9 0 counts

-- ---- 10

-- "Limit 0 to 100,000"
abbrev pub max_limit : ℕ
max_limit = 100000

-- "search limit over 100,000"; 02: solve's is "tested as a round's"
abbrev pub limit_test : ℕ → Verdict
limit_test limit = refuse_if (ltb max_limit limit) (refused 10 0 0)

-- ---- 2 and 35 of ranges

-- the two ends of each edge
abbrev pub ranges : List Float → List Float → List (Float × Float)
ranges [] most = []
ranges (l ∷ least) [] = []
ranges (l ∷ least) (m ∷ most) = (l, m) ∷ ranges least most

-- "Each end is tested as 2 tests an ideal, edge by edge"
abbrev pub ends_ok : Float × Float → Bool
ends_ok r = ideal_ok r.0 && ideal_ok r.1

-- "A least above its most"
abbrev pub in_order : Float × Float → Bool
in_order r = not (lt r.1 r.0)

-- it "is refused after 2 (..), under 35, with the lowest edge"
abbrev pub ranges_test : List Float → List Float → Verdict
ranges_test least most = then_test (first_bad ends_ok 2 0 (ranges least most)) (first_bad in_order 35 0 (ranges least most))

-- ---- the tests of a spacing of either kind

-- 1, of each of its lists
abbrev pub spacing_limits : ℕ → Spacing → List ℕ → Verdict
spacing_limits p (by ideals) regions = limits_test p (length ideals) regions
spacing_limits p (within least most) regions = then_test (limits_test p (length least) regions) (limits_test p (length most) regions)

-- 8: "lengths of counts and ideals differ", "lists of unequal length"
abbrev pub lengths_test : ℕ → ℕ → Verdict
lengths_test m n = refuse_if (not (eqb m n)) (refused 8 0 0)

abbrev pub spacing_lengths : Spacing → Verdict
spacing_lengths (by ideals) = passed
spacing_lengths (within least most) = lengths_test (length least) (length most)

-- 2, and 35 where there are ranges
abbrev pub spacing_test : Spacing → Verdict
spacing_test (by ideals) = ideals_test ideals
spacing_test (within least most) = ranges_test least most

-- "8 (rounds), .. 2, 9 (rounds)", 35 "after 2 and before 9": as many counts as edges, and each value as it should be
abbrev pub values_test : List ℕ → Spacing → Verdict
values_test counts spacing =
    then_test (spacing_lengths spacing)
    (then_test (lengths_test (length counts) (edges_of spacing)) (then_test (spacing_test spacing) (counts_test counts)))
