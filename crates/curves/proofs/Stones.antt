-- 02, item 12: a curve that is accepted ends on its stones, and so do the four corners of a grid, as far as specs/Stones claims it. Assumes nothing.
use mathlib.Core.Path.{◌≡◌, refl, sym, ap, subst, ◌∙◌}
use mathlib.Core.Bool.{Bool, true, false, not, cond}
use mathlib.Core.List.{List}
use Prim.Native.Nat.{ℕ, ◌-◌, ◌<◌, ◌≤◌}
use native.Mathlib.Omega.{arith}
use borrow.Author.Tests.{ltb-false}
use lib.ListN.{length, get_or}
use lib.Dec.{T, ltb}
use lib.IntN.{pos}
use lib.Ieee.{Float, nan, inf, fin, lt, le, fits, of_bits}
use Rattle.base.specs.Refusal.{is_passed, refused, refuse_if, then_test}
use Rattle.base.specs.Answers.{Answer, good}
use Rattle.base.proofs.BoolLaws.{T_true}
use Rattle.base.proofs.TestLaws.{then_left, lets_by, four_passed}
use Rattle.floats.specs.Scalar.{nought, one, float_abs, clamp_unit, in_unit, Moderate}
use Rattle.curves.specs.Point.{point}
use Rattle.curves.specs.Curve.{point_count, point_at, total_length, arc_curve, knot_count, stored_point, all_finite, total_test, curve_test}
use Rattle.curves.specs.Boundary.{BoundaryCurves, boundary_of, boundary_ends, curve_ends, ends_test, curves_test, checked_curves}
use Rattle.curves.specs.Patch.{coons_point, combined}
use Rattle.curves.specs.Grid.{Seams, n_u, n_v, mapped, row_of, grid_of}
use Rattle.curves.specs.Coons.{even_seams}
use Rattle.curves.specs.Limits.{max_cells}
use Rattle.curves.specs.Stones.{first_stone, last_stone, OnStones, corner_peg, stone_u, stone_v, Stone, CornerPeg}
use Rattle.curves.specs.Stones.{not_minus_zero, Surveyed, Whole, WholeSeams}
use Rattle.curves.specs.inner.Level.{Plain}
use Rattle.curves.specs.declared.point.Point.{Point}
use Rattle.curves.specs.declared.curve.Knot.{Knot}
use Rattle.floats.proofs.scalar.Blends.{ordinary}
use Rattle.floats.proofs.scalar.Corner.{end, Values, along_u, along_v, moderate_u, moderate_v, corner_made, corner_own, corner_level}
use Rattle.floats.proofs.scalar.Laws.{impossible}
use Rattle.curves.proofs.curve.Laws.{knot_count_arc, knot_in_arc}
use Rattle.curves.proofs.curve.Ends.{first_end, last_end, strictly_inside}
use Rattle.curves.proofs.level.Laws.{level_crossing}
use Rattle.curves.proofs.seam.Even.{last_index, even_whole}
use Rattle.curves.proofs.formula.Corners.{eight, xs, ys, at_corner}

-- ---- a curve

-- the knots have the points as they were lent
stored : (points : List Float) (k : ℕ) → k < point_count points → stored_point (arc_curve points) k ≡ point_at points k
stored points k h = ap (λ (x : Knot). point x.x x.y) (knot_in_arc points k h)

has_points : (points : List Float) (side : ℕ) → T (is_passed (curve_test points side)) → 2 ≤ point_count points
unfolding curve_test
has_points points side t =
    let short = refuse_if (ltb (point_count points) 2) (refused 13 side 0) in
    let rest = then_test (refuse_if (not (all_finite points)) (refused 14 side 0)) (total_test (total_length points) side) in
    ltb-false (point_count points) 2 (lets_by (ltb (point_count points) 2) 12 side 0 (T_true (is_passed short) (then_left short rest t)))

module _ (points : List Float) (two : 2 ≤ point_count points) where
  last_knot : knot_count (arc_curve points) - 1 ≡ point_count points - 1
  last_knot = ap (λ (n : ℕ). n - 1) (knot_count_arc points)

  ends_on_stones : OnStones points
  ends_on_stones = record {
    first = λ t h. first_end (arc_curve points) t h ∙ stored points 0 (omega arith);
    last = λ t h. last_end (arc_curve points) t h ∙ ap (stored_point (arc_curve points)) last_knot ∙ stored points (point_count points - 1) (omega arith);
    inside = λ t h k. strictly_inside (arc_curve points) t h k;
  }

-- the theorem on a curve
pub curve_on_stones : (points : List Float) (side : ℕ) → T (is_passed (curve_test points side)) → OnStones points
curve_on_stones points side t = ends_on_stones points (has_points points side t)

-- ---- the ends of the curves are the stones

at_nought : le nought nought ≡ true
unfolding le of_bits
at_nought = refl

at_one : le one one ≡ true
unfolding le of_bits
at_one = refl

module _ {points : List Float} (o : OnStones points) where
  start_stone : (curve_ends (arc_curve points)).start ≡ first_stone points
  unfolding curve_ends
  start_stone = o.first nought at_nought

  end_stone : (curve_ends (arc_curve points)).end ≡ last_stone points
  unfolding curve_ends
  end_stone = o.last one at_one

-- ---- a coordinate

own_sign : (x : Float) → Moderate x → T (not_minus_zero x) → T (ordinary x)
unfolding lt float_abs of_bits
own_sign nan m t = impossible m.small
own_sign (inf s) m t = impossible m.small
own_sign (fin s n e) m t = t

-- ---- a corner of the patch, by the ends of its curves

module _ (c : BoundaryCurves) (i j : Bool) where
  end_u : Point
  end_u = point (along_u i j (xs c)) (along_u i j (ys c))

  end_v : Point
  end_v = point (along_v i j (xs c)) (along_v i j (ys c))

  by_ends : Values (xs c) → Values (ys c) → {answer : Answer Point} → answer ≡ good (coons_point c (end i) (end j)) → CornerPeg answer end_u end_v
  unfolding combined end_u end_v
  by_ends ox oy there =
      let at = at_corner c i j in
      let ux = moderate_u i j (xs c) ox in
      let uy = moderate_u i j (ys c) oy in
      let vx = moderate_v i j (xs c) ox in
      let vy = moderate_v i j (ys c) oy in
      record {
        peg = coons_point c (end i) (end j);
        there = there;
        made = λ p q.
            at
            ∙ (λ k. record {
              x = corner_made i j (xs c) ox (own_sign _ ux p.x) (own_sign _ vx q.x) k;
              y = corner_made i j (ys c) oy (own_sign _ uy p.y) (own_sign _ vy q.y) k;
            });
        itself = λ e p.
            at
            ∙ (λ k. record {
              x = corner_own i j (xs c) ox (ap (λ (r : Point). r.x) e) (own_sign _ ux p.x) k;
              y = corner_own i j (ys c) oy (ap (λ (r : Point). r.y) e) (own_sign _ uy p.y) k;
            });
        in_place = λ h. rw at (record { x = corner_level i j (xs c) ox h.x; y = corner_level i j (ys c) oy h.y });
      }

-- ---- a corner of the grid

plain_nought : Plain nought
unfolding fits in_unit clamp_unit of_bits
plain_nought = record { digits = 0; exponent = pos 0; is = refl; held = tt; inside = refl; clamped = refl }

plain_one : Plain one
unfolding fits in_unit clamp_unit of_bits
plain_one = record { digits = 1; exponent = pos 0; is = refl; held = tt; inside = refl; clamped = refl }

plain_end : (k : Bool) → Plain (end k)
plain_end false = plain_nought
plain_end true = plain_one

-- the first value of a seam, or its last
seam_end : (k : Bool) {seam : List Float} (n : ℕ) → Whole seam → n ≡ length seam - 1 → get_or seam (cond k n 0) nan ≡ end k
seam_end false n w e = w.begins
seam_end true {seam} n w e = ap (λ (r : ℕ). get_or seam r nan) e ∙ w.ends

module _ (c : BoundaryCurves) {s : Seams} (w : WholeSeams s) (i j : Bool) where
  mapped_there : corner_peg (grid_of c s) (n_u s) (n_v s) i j ≡ good (coons_point c (end i) (end j))
  unfolding row_of mapped
  mapped_there =
      rw (
        seam_end j (n_v s) w.left refl,
        seam_end j (n_v s) w.right (sym (ap (λ (r : ℕ). r - 1) w.along)),
        seam_end i (n_u s) w.bottom refl,
        seam_end i (n_u s) w.top (sym (ap (λ (r : ℕ). r - 1) w.across)),
        level_crossing (end j) (end i) (cond i (n_u s) 0) (cond j (n_v s) 0) (plain_end j) (plain_end i),
      )

-- ---- the ends as stones, where the four curves are accepted

pub record AllOnStones (b r t l : List Float) : Type 0 where
  pub bottom : OnStones b
  pub right : OnStones r
  pub top : OnStones t
  pub left : OnStones l

accepted : {bottom right top left : List Float} → T (is_passed (checked_curves bottom right top left)) → AllOnStones bottom right top left
unfolding checked_curves curves_test
accepted {bottom} {right} {top} {left} t =
    let four = curves_test bottom right top left in
    let joined = ends_test (boundary_ends (boundary_of bottom right top left)) in
    let q = four_passed (curve_test bottom 0) (curve_test right 1) (curve_test top 2) (curve_test left 3) (then_left four joined t) in
    record {
      bottom = curve_on_stones bottom 0 q.0;
      right = curve_on_stones right 1 q.1;
      top = curve_on_stones top 2 q.2;
      left = curve_on_stones left 3 q.3;
    }

module _ {bottom right top left : List Float} (o : AllOnStones bottom right top left) where
  abbrev of : BoundaryCurves
  of = boundary_of bottom right top left

  is_stone_u : (i j : Bool) → end_u of i j ≡ stone_u bottom right top left i j
  unfolding end_u
  is_stone_u false false = start_stone o.bottom
  is_stone_u true false = end_stone o.bottom
  is_stone_u false true = end_stone o.top
  is_stone_u true true = start_stone o.top

  is_stone_v : (i j : Bool) → end_v of i j ≡ stone_v bottom right top left i j
  unfolding end_v
  is_stone_v false false = end_stone o.left
  is_stone_v true false = start_stone o.right
  is_stone_v false true = start_stone o.left
  is_stone_v true true = end_stone o.right

  -- x or y of the eight ends
  coordinates : (get : Point → Float) → ((p : Point) → Stone p → Moderate (get p)) → Surveyed bottom right top left → Values (eight get of)
  coordinates get part q = record {
    bottom_start = as_stone (start_stone o.bottom) q.bottom_first;
    bottom_end = as_stone (end_stone o.bottom) q.bottom_last;
    right_start = as_stone (start_stone o.right) q.right_first;
    right_end = as_stone (end_stone o.right) q.right_last;
    top_start = as_stone (start_stone o.top) q.top_first;
    top_end = as_stone (end_stone o.top) q.top_last;
    left_start = as_stone (start_stone o.left) q.left_first;
    left_end = as_stone (end_stone o.left) q.left_last;
  }
    where
      as_stone : {p r : Point} → p ≡ r → Stone r → Moderate (get p)
      as_stone {p} {r} e s = subst (λ (z : Point). Moderate (get z)) (sym e) (part r s)

-- ---- the theorem on a grid

pub corners_on_stones : {bottom right top left : List Float} {s : Seams} → T (is_passed (checked_curves bottom right top left)) → Surveyed bottom right top left
    → WholeSeams s → (i j : Bool)
    → CornerPeg (corner_peg (grid_of (boundary_of bottom right top left) s) (n_u s) (n_v s) i j) (stone_u bottom right top left i j)
    (stone_v bottom right top left i j)
corners_on_stones {bottom} {right} {top} {left} {s} t q w i j =
    let o = accepted t in
    let c = boundary_of bottom right top left in
    rw (← (is_stone_u o i j), ← (is_stone_v o i j))
    (by_ends c i j (coordinates o (λ (p : Point). p.x) (λ p k. k.x) q) (coordinates o (λ (p : Point). p.y) (λ p k. k.y) q) (mapped_there c w i j))

-- and on even seams, which `coons_curves` and the meshes have
pub even_corners : {bottom right top left : List Float} {n m : ℕ} → T (is_passed (checked_curves bottom right top left)) → Surveyed bottom right top left
    → 0 < n → n ≤ max_cells → 0 < m → m ≤ max_cells → (i j : Bool)
    → CornerPeg (corner_peg (grid_of (boundary_of bottom right top left) (even_seams n m)) n m i j) (stone_u bottom right top left i j)
    (stone_v bottom right top left i j)
even_corners {bottom} {right} {top} {left} {n} {m} t q pn hn pm hm i j =
    let whole-n = even_whole n pn hn in
    let whole-m = even_whole m pm hm in
    let w : WholeSeams (even_seams n m) = record { bottom = whole-n; top = whole-n; left = whole-m; right = whole-m; across = refl; along = refl } in
    let f = grid_of (boundary_of bottom right top left) (even_seams n m) in
    let a = stone_u bottom right top left i j in
    let b = stone_v bottom right top left i j in
    subst (λ (k : ℕ). CornerPeg (corner_peg f k m i j) a b) (last_index n)
    (subst (λ (k : ℕ). CornerPeg (corner_peg f (n_u (even_seams n m)) k i j) a b) (last_index m) (corners_on_stones t q w i j))
