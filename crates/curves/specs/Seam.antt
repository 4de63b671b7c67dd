-- Parameter seams: how they are made, evenly or from counts and breaks, and what is refused of them. Assumes nothing.
use Rattle.std.specs.Prelude.{Bool, not, ◌&&◌, ◌||◌, List, [], ◌∷◌, ◌++◌, ℕ, suc, ◌+◌, ◌-◌, length, get_or, ltb, eqb, pos, Float}
use Rattle.std.specs.Float.{nan, binary64}
use Rattle.std.specs.Float.Ieee.{add, sub, mul, div, lt, of_int}
use Rattle.base.specs.declared.verdict.Verdict.{Verdict}
use Rattle.base.specs.Refusal.{refused, then_test, refuse_if}
use Rattle.floats.specs.Scalar.{one, e_9, e_12, float_abs, in_unit}
use Rattle.base.specs.Buffers.{tabulate}
use Rattle.base.specs.Tests.{first_of}

-- ---- how seams are made

-- the fraction j / n
abbrev pub part : ℕ → ℕ → Float
part j n = div binary64 (of_int binary64 (pos j)) (of_int binary64 (pos n))

-- 000's `uniform_parameters`
unfoldable pub uniform_parameters : ℕ → List Float
unfolding div of_int
uniform_parameters n = tabulate (λ (i : ℕ). part i n) 0 (n + 1)

-- "Edge i with count n gives b(i) + (b(i+1) - b(i))·(j/n)"
unfoldable pub edge_value : List Float → ℕ → ℕ → ℕ → Float
unfolding add sub mul div of_int
edge_value breaks i n j = add binary64 (get_or breaks i nan) (mul binary64 (sub binary64 (get_or breaks (i + 1) nan) (get_or breaks i nan)) (part j n))

-- "for j from 0 to n-1"
unfoldable pub edge_values : List Float → ℕ → ℕ → List Float
unfolding edge_value
edge_values breaks i n = tabulate (edge_value breaks i n) 0 n

-- the edges from i on, and "last stands b(k)"
unfoldable pub seam_from : List Float → ℕ → List ℕ → List Float
unfolding edge_values
seam_from breaks i [] = get_or breaks i nan ∷ []
seam_from breaks i (n ∷ counts) = edge_values breaks i n ++ seam_from breaks (suc i) counts

-- the seam of a side whose edges have these counts
unfoldable pub side_seam : List Float → List ℕ → List Float
unfolding seam_from
side_seam breaks counts = seam_from breaks 0 counts

-- ---- what is refused: 000's `validate_parameters` and the head of its `coons_grid`

-- below the value before it by more than 1e-12, as rounded
unfoldable pub falls : List Float → ℕ → Bool
unfolding add lt
falls values i = ltb 0 i && lt (add binary64 (get_or values i nan) e_12) (get_or values (i - 1) nan)

-- "seam value out of range; falling": 19 and 20 at an index
unfoldable pub value_test : List Float → ℕ → ℕ → Verdict
unfolding in_unit falls
value_test values seam i = then_test (refuse_if (not (in_unit (get_or values i nan))) (refused 19 seam i)) (refuse_if (falls values i) (refused 20 seam i))

-- "seam ends not 0 and 1": 21
unfoldable pub seam_ends_test : Float → Float → ℕ → Verdict
unfolding sub lt float_abs
seam_ends_test first last seam = refuse_if (lt e_9 (float_abs first) || lt e_9 (float_abs (sub binary64 last one))) (refused 21 seam 0)

-- "18, then 19 and 20 value by value, then 21"
unfoldable pub seam_test : List Float → ℕ → Verdict
unfolding first_of value_test seam_ends_test
seam_test values seam =
    then_test (refuse_if (ltb (length values) 2) (refused 18 seam 0))
    (then_test (first_of (value_test values seam) 0 (length values)) (seam_ends_test (get_or values 0 nan) (get_or values (length values - 1) nan) seam))

-- "opposite seams unequal": 22
unfoldable pub pair_test : List Float → List Float → ℕ → Verdict
pair_test a b pair = refuse_if (not (eqb (length a) (length b))) (refused 22 pair 0)

-- "seams bottom, top, left, right (..), 22": "seams carry their side's number; pair 0 is bottom and top, 1 left and right"
unfoldable pub seams_test : List Float → List Float → List Float → List Float → Verdict
unfolding seam_test pair_test
seams_test bottom top left right =
    then_test (seam_test bottom 0)
    (then_test (seam_test top 2) (then_test (seam_test left 3) (then_test (seam_test right 1) (then_test (pair_test bottom top 0) (pair_test left right 1)))))
