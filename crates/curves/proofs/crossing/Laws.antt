-- `logical_intersection` where the lines are not parallel, and where it is not refused. Assumes nothing.
use mathlib.Core.Path.{◌≡◌, sym, ap, ◌∙◌}
use mathlib.Core.Bool.{Bool, true, false, ◌&&◌, cond}
use Prim.Native.Nat.{ℕ}
use lib.Dec.{T}
use lib.Ieee.{Float, lt}
use Rattle.base.specs.Refusal.{refused, is_passed}
use Rattle.base.specs.Answers.{Answer, good, turned_away, verdict}
use Rattle.floats.specs.Scalar.{e_12, float_abs, clamp_unit, in_unit}
use Rattle.curves.specs.Point.{point}
use Rattle.curves.specs.Crossing.{denominator, crossing_u, crossing_v, inside_or_refused, logical_intersection}
use Rattle.curves.specs.declared.point.Point.{Point}

pub not_parallel : (a b c d : Float) (i j : ℕ) → lt (float_abs (denominator a b c d)) e_12 ≡ false
    → inside_or_refused (crossing_u a b c d) (crossing_v a b c d) i j ≡ logical_intersection a b c d i j
unfolding logical_intersection
not_parallel a b c d i j e = sym (ap (λ (p : Bool). cond p (turned_away (refused 23 i j)) (inside_or_refused (crossing_u a b c d) (crossing_v a b c d) i j)) e)

by_tests : (u v : Float) (i j : ℕ) (p q : Bool) → in_unit u ≡ p → in_unit v ≡ q
    → cond (p && q) (good (point (clamp_unit u) (clamp_unit v))) (turned_away (refused 24 i j)) ≡ inside_or_refused u v i j
unfolding inside_or_refused
by_tests u v i j p q e f =
    sym
    (ap (λ (x : Bool). cond (x && in_unit v) (good (point (clamp_unit u) (clamp_unit v))) (turned_away (refused 24 i j))) e
    ∙ ap (λ (x : Bool). cond (p && x) (good (point (clamp_unit u) (clamp_unit v))) (turned_away (refused 24 i j))) f)

pub inside : (u v : Float) (i j : ℕ) {x y : Float} → x ≡ clamp_unit u → y ≡ clamp_unit v → in_unit u ≡ true → in_unit v ≡ true
    → good (point x y) ≡ inside_or_refused u v i j
inside u v i j {y = y} h k e f = ap (λ (z : Float). good (point z y)) h ∙ ap (λ (z : Float). good (point (clamp_unit u) z)) k ∙ by_tests u v i j true true e f

-- ---- there is a crossing where no test refuses it

abbrev pub There : Answer Point → Type 0
There (good p) = Unit
There (turned_away v) = ⊥

pub crossing_there : (a b c d : Float) (i j : ℕ) → T (is_passed (verdict (logical_intersection a b c d i j))) → There (logical_intersection a b c d i j)
unfolding logical_intersection inside_or_refused
crossing_there a b c d i j t =
    go (lt (float_abs (denominator a b c d)) e_12) (in_unit (crossing_u a b c d) && in_unit (crossing_v a b c d))
    (point (clamp_unit (crossing_u a b c d)) (clamp_unit (crossing_v a b c d))) t
  where
    go : (x y : Bool) (p : Point) → T (is_passed (verdict (cond x (turned_away (refused 23 i j)) (cond y (good p) (turned_away (refused 24 i j))))))
        → There (cond x (turned_away (refused 23 i j)) (cond y (good p) (turned_away (refused 24 i j))))
    go true y p t = absurd t
    go false true p t = tt
    go false false p t = absurd t
