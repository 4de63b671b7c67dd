-- 01, "Edge cost", 02, "Spacing given as a range", and the energy of 000: each operation rounded once, to nearest, ties to even, in binary64.
-- Assumes nothing.
use Rattle.std.specs.Prelude.{◌≡◌, Bool, true, false, cond, List, [], ◌∷◌, ℕ, length, get_or, pos, Float}
use Rattle.std.specs.Float.Ieee.{add, sub, mul, div, neg, lt, of_bits, of_int}
use Rattle.std.specs.Float.{binary64}
use Rattle.floats.specs.Scalar.{one}
use Rattle.counts.specs.Move.{EdgeCost}

-- a count as an f64, which it is exactly
abbrev pub real : ℕ → Float
real n = of_int binary64 (pos n)

-- s/ideal - 1
unfoldable pub deviation : Float → Float → Float
unfolding sub div
deviation s ideal = sub binary64 (div binary64 s ideal) one

-- "here the square is one product"
unfoldable pub square : Float → Float
unfolding mul
square x = mul binary64 x x

-- a change's d, +1 or -1
abbrev pub step : Bool → Float
step true = one
step false = neg one

-- what a change of a count s by d costs: the square of the deviation after it, minus that of the one before
abbrev pub change_cost : (Float → Float) → ℕ → Bool → Float
change_cost deviates s d = sub binary64 (square (deviates (add binary64 (real s) (step d)))) (square (deviates (real s)))

-- "`edge_delta`: ((s+d)/ideal - 1)² minus (s/ideal - 1)²"
unfoldable pub edge_delta : ℕ → Float → Bool → Float
unfolding add sub neg deviation square
edge_delta s ideal d = change_cost (λ (t : Float). deviation t ideal) s d

-- ---- 02: "a least and a most for each edge"

-- "An edge costs nothing while its count lies from least to most. Below, the deviation is count over least, minus 1; above, count over most, minus 1"
unfoldable pub range_deviation : Float → Float → Float → Float
unfolding lt deviation
range_deviation s least most =
    cond (lt s least) (deviation s least) (cond (lt most s) (deviation s most) (of_bits binary64 0))

-- "the cost is its square as before"
unfoldable pub range_delta : ℕ → Float → Float → Bool → Float
unfolding add sub neg range_deviation square
range_delta s least most d = change_cost (λ (t : Float). range_deviation t least most) s d

-- ---- what a change of each edge costs

-- on given counts; search, rounds and solve know no more of it
abbrev pub CostModel : Type 0
CostModel = List ℕ → EdgeCost

abbrev pub by_ideals : List Float → CostModel
by_ideals ideals counts x d = edge_delta (get_or counts x 0) (get_or ideals x one) d

abbrev pub by_ranges : List Float → List Float → CostModel
by_ranges least most counts x d = range_delta (get_or counts x 0) (get_or least x one) (get_or most x one) d

-- an edge's own count decides what it costs, whatever the others are
abbrev pub Local : CostModel → Type 0
Local model = (before after : List ℕ) (x : ℕ) (d : Bool) → get_or after x 0 ≡ get_or before x 0 → model after x d ≡ model before x d

-- "both kinds of ideal": one number for each edge, or a least and a most
pub data Spacing : Type 0 where
  by : List Float → Spacing
  within : List Float → List Float → Spacing

abbrev pub costs_of : Spacing → CostModel
costs_of (by ideals) = by_ideals ideals
costs_of (within least most) = by_ranges least most

-- how many edges it is stated for
abbrev pub edges_of : Spacing → ℕ
edges_of (by ideals) = length ideals
edges_of (within least most) = length least

-- ---- the energy

-- `energy`: the sum of the squares, edge after edge, from t on
unfoldable pub energy_from : Float → List ℕ → List Float → Float
unfolding add square deviation
energy_from t [] ideals = t
energy_from t (s ∷ counts) [] = t
energy_from t (s ∷ counts) (ideal ∷ ideals) = energy_from (add binary64 t (square (deviation (real s) ideal))) counts ideals
