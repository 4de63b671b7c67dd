-- 000's `logical_intersection`, each operation rounded once: where the line from (0, a) to (1, b) and the line from (c, 0) to (d, 1) cross. Assumes nothing.
use Rattle.std.specs.Prelude.{◌&&◌, cond, ℕ, Float}
use Rattle.std.specs.Float.{binary64}
use Rattle.std.specs.Float.Ieee.{add, sub, mul, div, lt}
use Rattle.base.specs.Refusal.{refused}
use Rattle.base.specs.Answers.{Answer, good, turned_away}
use Rattle.floats.specs.Scalar.{one, e_12, float_abs, clamp_unit, in_unit}
use Rattle.curves.specs.Point.{point}
use Rattle.curves.specs.declared.point.Point.{Point}

-- The lines are v = a + (b - a) u and u = c + (d - c) v, solved for v first, and v put into the second one.
abbrev pub denominator : Float → Float → Float → Float → Float
denominator a b c d = sub binary64 one (mul binary64 (sub binary64 b a) (sub binary64 d c))

abbrev pub crossing_v : Float → Float → Float → Float → Float
crossing_v a b c d = div binary64 (add binary64 a (mul binary64 c (sub binary64 b a))) (denominator a b c d)

abbrev pub crossing_u : Float → Float → Float → Float → Float
crossing_u a b c d = add binary64 c (mul binary64 (crossing_v a b c d) (sub binary64 d c))

-- "crossing outside": 24 at the grid point i, j
unfoldable pub inside_or_refused : Float → Float → ℕ → ℕ → Answer Point
unfolding in_unit clamp_unit
inside_or_refused u v i j = cond (in_unit u && in_unit v) (good (point (clamp_unit u) (clamp_unit v))) (turned_away (refused 24 i j))

-- "lines parallel": 23 at the grid point i, j
unfoldable pub logical_intersection : Float → Float → Float → Float → ℕ → ℕ → Answer Point
unfolding add sub mul div lt float_abs inside_or_refused
logical_intersection a b c d i j =
    cond (lt (float_abs (denominator a b c d)) e_12) (turned_away (refused 23 i j)) (inside_or_refused (crossing_u a b c d) (crossing_v a b c d) i j)
