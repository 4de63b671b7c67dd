-- 000's `ArcCurve`: "`ArcCurve::new` holds each point with the length run so far", "`at` clamps, halves down to a segment (equal goes right) and
-- blends as in 000", each operation rounded once, but for the ends, which are the points that were given (02, item 12); and what is refused of one
-- curve. Assumes nothing.
use Rattle.std.specs.Prelude.{Bool, true, false, not, ◌&&◌, ◌||◌, cond, List, [], ◌∷◌, ℕ, zero, suc, ◌+◌, ◌-◌, ◌*◌, ◌/◌, length, get_or, ltb, Float}
use Rattle.std.specs.Float.{nan, binary64}
use Rattle.std.specs.Float.Ieee.{add, sub, mul, div, lt, le, eq}
use Rattle.base.specs.declared.verdict.Verdict.{Verdict}
use Rattle.base.specs.Refusal.{refused, then_test, refuse_if}
use Rattle.base.specs.Answers.{Answer, good, turned_away}
use Rattle.floats.specs.Scalar.{nought, one, is_finite, is_positive, clamp_unit}
use Rattle.floats.specs.Root.{root}
use Rattle.curves.specs.Point.{point}
use Rattle.base.specs.Buffers.{tabulate}
use Rattle.curves.specs.declared.point.Point.{Point}
use Rattle.curves.specs.declared.curve.Knot.{Knot}
use Rattle.curves.specs.declared.curve.Segment.{Segment}

-- ---- the points, and the lengths run

-- "lent as x, y in turn"
abbrev pub point_count : List Float → ℕ
point_count points = length points / 2

abbrev pub point_at : List Float → ℕ → Point
point_at points k = point (get_or points (2 * k) nan) (get_or points (2 * k + 1) nan)

unfoldable pub distance : Point → Point → Float
unfolding add sub mul root
distance p q =
    let dx = sub binary64 q.x p.x in
    let dy = sub binary64 q.y p.y in
    root binary64 (add binary64 (mul binary64 dx dx) (mul binary64 dy dy))

-- the length run up to the point k
unfoldable pub length_to : List Float → ℕ → Float
unfolding add distance
length_to points zero = nought
length_to points (suc k) = add binary64 (length_to points k) (distance (point_at points k) (point_at points (suc k)))

-- 000's `total`
abbrev pub total_length : List Float → Float
total_length points = length_to points (point_count points - 1)

-- ---- the knots: "struct of x, y and cumulative length"

-- the point k with the length run so far
abbrev pub knot_of : List Float → ℕ → Knot
knot_of points k = record { x = (point_at points k).x; y = (point_at points k).y; length = length_to points k }

-- a curve is its knots
abbrev pub ArcCurve : Type 0
ArcCurve = List Knot

-- 000's `ArcCurve::new`, of a curve that is not refused: "holds each point with the length run so far"
unfoldable pub arc_curve : List Float → ArcCurve
unfolding length_to
arc_curve points = tabulate (knot_of points) 0 (point_count points)

abbrev pub knot_count : ArcCurve → ℕ
knot_count c = length c

-- what stands past the last knot
abbrev pub no_knot : Knot
no_knot = record { x = nan; y = nan; length = nan }

abbrev pub knot : ArcCurve → ℕ → Knot
knot c k = get_or c k no_knot

abbrev pub length_at : ArcCurve → ℕ → Float
length_at c k = (knot c k).length

-- the knot's point, as it was given
abbrev pub stored_point : ArcCurve → ℕ → Point
stored_point c k = point (knot c k).x (knot c k).y

-- ---- a segment, and the blend of its two ends

abbrev pub segment : ArcCurve → ℕ → Segment
segment c k = record { start = knot c k; end = knot c (k + 1) }

-- the point at a fraction of the way from one knot to the next
abbrev pub toward : Knot → Knot → Float → Point
toward p q f = point (add binary64 p.x (mul binary64 (sub binary64 q.x p.x) f)) (add binary64 p.y (mul binary64 (sub binary64 q.y p.y) f))

abbrev pub span : Segment → Float
span s = sub binary64 s.end.length s.start.length

-- of a segment of length 0, its first point
unfoldable pub fraction : Segment → Float → Float
unfolding sub div lt
fraction s target = cond (lt nought (span s)) (div binary64 (sub binary64 target s.start.length) (span s)) nought

unfoldable pub blend : Segment → Float → Point
unfolding add sub mul fraction
blend s target = toward s.start s.end (fraction s target)

-- ---- the point at a parameter

-- From lo and hi, which are more than one apart where the Bool says so: the half that holds the target, an equal middle going right. The first
-- number bounds the steps.
unfoldable pub halve : ArcCurve → Float → ℕ → Bool → ℕ → ℕ → ℕ
unfolding le
halve c target zero apart lo hi = lo
halve c target (suc k) false lo hi = lo
halve c target (suc k) true lo hi =
    let mid = (lo + hi) / 2 in
    let right = le (length_at c mid) target in
    let l = cond right mid lo in
    let h = cond right hi mid in
    halve c target k (ltb 1 (h - l)) l h

-- the number of the segment in which the target lies
unfoldable pub segment_at : ArcCurve → Float → ℕ
unfolding halve
segment_at c target = let last = knot_count c - 1 in halve c target last (ltb 1 last) 0 last

-- the length to run to a clamped parameter: a fraction of 000's `total`, which is the last knot's length
unfoldable pub target_of : ArcCurve → Float → Float
unfolding mul
target_of c clamped = mul binary64 clamped (length_at c (knot_count c - 1))

-- "values between go as before": halved down to a segment, and blended
unfoldable pub between : ArcCurve → Float → Point
unfolding target_of segment_at blend
between c clamped = let target = target_of c clamped in blend (segment c (segment_at c target)) target

-- where a curve ends: at 0, of either sign, and at 1
unfoldable pub at_end : Float → Bool
unfolding eq
at_end clamped = eq clamped nought || eq clamped one

-- "the clamped parameter 0 now returns the first point and 1 the last, bit for bit"
unfoldable pub end_point : ArcCurve → Float → Point
unfolding eq
end_point c clamped = cond (eq clamped nought) (stored_point c 0) (stored_point c (knot_count c - 1))

-- 000's `ArcCurve::at`, with the two returns of 02's item 12 behind its clamp
unfoldable pub curve_at : ArcCurve → Float → Point
unfolding clamp_unit at_end end_point between
curve_at c t = let clamped = clamp_unit t in cond (at_end clamped) (end_point c clamped) (between c clamped)

-- and its refusal: "a curve point (..) stands in the good case", and a curve without a segment is 13, at its side
unfoldable pub at_answer : ArcCurve → ℕ → Float → Answer Point
unfolding curve_at
at_answer c side t = cond (ltb (knot_count c) 2) (turned_away (refused 13 side 0)) (good (curve_at c t))

-- ---- "curve under two points; point not finite; length 0 or not finite": 13, 14, 15

unfoldable pub all_finite : List Float → Bool
unfolding is_finite
all_finite [] = true
all_finite (x ∷ xs) = is_finite x && all_finite xs

unfoldable pub total_test : Float → ℕ → Verdict
unfolding is_positive
total_test total side = refuse_if (not (is_positive total)) (refused 15 side 0)

unfoldable pub curve_test : List Float → ℕ → Verdict
unfolding all_finite length_to total_test
curve_test points side =
    then_test (refuse_if (ltb (point_count points) 2) (refused 13 side 0))
    (then_test (refuse_if (not (all_finite points)) (refused 14 side 0)) (total_test (total_length points) side))
