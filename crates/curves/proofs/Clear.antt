-- Which tests can refuse with 22, "opposite seams unequal": that of two seams of unequal length, and no other. Which with 23 to 25, "needed output
-- +0.0": none of those before the grid. Assumes nothing.
use mathlib.Core.Path.{◌≡◌, refl, sym}
use mathlib.Core.Bool.{Bool, true, false, true≢false, not, ◌&&◌, ◌||◌, cond}
use mathlib.Core.List.{List}
use Prim.Native.Nat.{ℕ, zero, suc, ◌+◌, ◌-◌, ◌*◌, ◌%◌}
use lib.ListN.{length, get_or}
use lib.Dec.{T, leb, ltb, eqb}
use lib.Ieee.{Float, nan, binary64, sub, lt, le}
use Rattle.base.specs.declared.verdict.Verdict.{Verdict}
use Rattle.base.specs.Refusal.{passed, refused, is_passed, then_test, refuse_if}
use Rattle.regions.specs.Region.{places, record_size, side, empty_pair}
use Rattle.regions.specs.Accept.{records_whole, max_edges}
use Rattle.base.specs.Lists.{all}
use Rattle.base.proofs.BoolLaws.{eq→eqb, nor_left, by_truth}
use Rattle.base.specs.Answers.{Answer, good, turned_away, verdict}
use Rattle.base.specs.Tests.{first_of}
use Rattle.floats.specs.Scalar.{nought, one, e_9, e_12, float_abs, in_unit, clamp_unit, is_positive}
use Rattle.base.specs.Buffers.{splice}
use Rattle.curves.specs.declared.boundary.Ends.{Ends}
use Rattle.curves.specs.declared.sides.Sides.{Sides}
use Rattle.curves.specs.Point.{point, signed_area}
use Rattle.curves.specs.Curve.{point_count, all_finite, total_length, curve_test}
use Rattle.curves.specs.Boundary.{BoundaryCurves, boundary_of, boundary_ends, tolerance, points_apart, corner_test, winding_test, ends_test, checked_curves}
use Rattle.curves.specs.Seam.{falls, value_test, seam_ends_test, seam_test, pair_test, seams_test}
use Rattle.curves.specs.Crossing.{denominator, crossing_u, crossing_v, logical_intersection}
use Rattle.curves.specs.Quad.{quad_test, zeros}
use Rattle.curves.specs.Grid.{Seams, Grid, grid_of, n_u, n_v, mapped, row_of, grid_quad, area_test, points_test, quads_test, grid_test, grid_values, needed}
use Rattle.curves.specs.Coons.{Outcome, unless, filled, seams_and_room_test, grid_stage_beside, grid_stage, patch, curve_limit, curves_limit}
use Rattle.curves.specs.Coons.{seam_limit, seams_limit, cells_limit, even_seams, coons_from_parameters, coons_curves_beside, coons_nodes_beside}
use Rattle.curves.specs.Lay.{TileInput, record_test, edges_test, breaks_test, sides_test, seams_of, lay}
use Rattle.curves.specs.declared.point.Point.{Point}
use Rattle.curves.specs.declared.quad.Quad.{Quad}
use Rattle.curves.specs.declared.rows.Layout.{Layout}
use Rattle.curves.specs.declared.rows.Layout.TheVariants.{Quads, Nodes}
use Rattle.curves.specs.Limits.{max_curve, max_seam, max_cells}
use Rattle.curves.proofs.coons.Laws.{short_room}

-- ---- verdicts that have none of some numbers, and how tests are put together

-- numbers of refusals
pub record Numbers : Type 0 where
  pub has : ℕ → Bool
  pub no_pass : T (not (has 0))

pub record Without (ns : Numbers) (v : Verdict) : Type 0 where
  pub other : T (not (ns.has v.number))

-- not 22
abbrev pub Clear : Verdict → Type 0
Clear = Without (record { has = λ (n : ℕ). eqb n 22; no_pass = tt })

-- neither 22 nor 23 to 25
abbrev pub Early : Verdict → Type 0
Early = Without (record { has = λ (n : ℕ). eqb n 22 || (leb 23 n && leb n 25); no_pass = tt })

early_clear : {v : Verdict} → Early v → Clear v
early_clear {v} e = record { other = nor_left (eqb v.number 22) (leb 23 v.number && leb v.number 25) e.other }

module _ {ns : Numbers} where
  passed_clear : Without ns passed
  passed_clear = record { other = ns.no_pass }

  cond_clear : (b : Bool) {v w : Verdict} → Without ns v → Without ns w → Without ns (cond b v w)
  cond_clear true p q = p
  cond_clear false p q = q

  then_clear : {v w : Verdict} → Without ns v → Without ns w → Without ns (then_test v w)
  then_clear {v} {w} p q = cond_clear (is_passed v) q p

  if_clear : (b : Bool) (n p q : ℕ) → T (not (ns.has n)) → Without ns (refuse_if b (refused n p q))
  if_clear true n p q t = record { other = t }
  if_clear false n p q t = passed_clear

  first_clear : (f : ℕ → Verdict) → ((i : ℕ) → Without ns (f i)) → (k n : ℕ) → Without ns (first_of f k n)
  unfolding first_of
  first_clear f h k zero = passed_clear
  first_clear f h k (suc n) = then_clear (h k) (first_clear f h (suc k) n)

-- what follows tests, as `unless` has it, by whether they are passed
abbrev either : Verdict → List Float → Outcome → Bool → Outcome
either v out rest b = elim b [
  | true ↦ rest
  | false ↦ record { verdict = v; quads = 0; out = out }
]

unless_clear : {v : Verdict} (out : List Float) (rest : Outcome) → Clear v → Clear rest.verdict → Clear (unless v out rest).verdict
unless_clear {v} out rest p q = go (is_passed v)
  where
    go : (b : Bool) → Clear (either v out rest b).verdict
    go true = q
    go false = p

-- ---- 13 to 17: the curves

curve_clear : (points : List Float) (side : ℕ) → Early (curve_test points side)
unfolding curve_test
curve_clear points side =
    then_clear (if_clear (ltb (point_count points) 2) 13 side 0 tt)
    (then_clear (if_clear (not (all_finite points)) 14 side 0 tt) (if_clear (not (is_positive (total_length points))) 15 side 0 tt))

corner_clear : (allowed : Float) (got expected : Point) (corner : ℕ) → Early (corner_test allowed got expected corner)
unfolding corner_test
corner_clear allowed got expected corner = if_clear (points_apart allowed got expected) 16 corner 0 tt

winding_clear : (bl br tr tl : Point) → Early (winding_test bl br tr tl)
unfolding winding_test
winding_clear bl br tr tl = if_clear (le (signed_area bl br tr tl) nought) 17 0 0 tt

ends_clear : (e : Sides Ends) → Early (ends_test e)
unfolding ends_test
ends_clear e =
    let allowed = tolerance e.bottom.start e.bottom.end e.right.end e.left.start in
    then_clear (corner_clear allowed e.right.start e.bottom.end 0)
    (then_clear (corner_clear allowed e.top.start e.right.end 1)
    (then_clear (corner_clear allowed e.top.end e.left.start 2)
    (then_clear (corner_clear allowed e.left.start e.left.start 3)
    (then_clear (corner_clear allowed e.left.end e.bottom.start 4)
    (winding_clear e.bottom.start e.bottom.end e.right.end e.left.start)))))

curves_clear : (bottom right top left : List Float) → Early (checked_curves bottom right top left)
unfolding checked_curves
curves_clear bottom right top left =
    then_clear (then_clear (curve_clear bottom 0) (then_clear (curve_clear right 1) (then_clear (curve_clear top 2) (curve_clear left 3))))
    (ends_clear (boundary_ends (boundary_of bottom right top left)))

-- ---- 18 to 21: the seams, and 22, where opposite ones are not equally long

value_clear : (values : List Float) (seam i : ℕ) → Early (value_test values seam i)
unfolding value_test
value_clear values seam i = then_clear (if_clear (not (in_unit (get_or values i nan))) 19 seam i tt) (if_clear (falls values i) 20 seam i tt)

seam_ends_clear : (first last : Float) (seam : ℕ) → Early (seam_ends_test first last seam)
unfolding seam_ends_test
seam_ends_clear first last seam = if_clear (lt e_9 (float_abs first) || lt e_9 (float_abs (sub binary64 last one))) 21 seam 0 tt

seam_clear : (values : List Float) (seam : ℕ) → Early (seam_test values seam)
unfolding seam_test
seam_clear values seam =
    then_clear (if_clear (ltb (length values) 2) 18 seam 0 tt)
    (then_clear (first_clear (value_test values seam) (value_clear values seam) 0 (length values))
    (seam_ends_clear (get_or values 0 nan) (get_or values (length values - 1) nan) seam))

pair_clear : (a b : List Float) (pair : ℕ) → length a ≡ length b → Early (pair_test a b pair)
unfolding pair_test
pair_clear a b pair e = go (eqb (length a) (length b)) (eq→eqb (length a) (length b) e)
  where
    go : (t : Bool) → T t → Early (refuse_if (not t) (refused 22 pair 0))
    go true h = passed_clear
    go false h = absurd h

-- seams whose opposite ones are equally long
pub record EqualSeams (s : Seams) : Type 0 where
  pub bottom_top : length s.bottom ≡ length s.top
  pub left_right : length s.left ≡ length s.right

seams_clear : (s : Seams) → EqualSeams s → Early (seams_test s.bottom s.top s.left s.right)
unfolding seams_test
seams_clear s e =
    then_clear (seam_clear s.bottom 0)
    (then_clear (seam_clear s.top 2)
    (then_clear (seam_clear s.left 3)
    (then_clear (seam_clear s.right 1)
    (then_clear (pair_clear s.bottom s.top 0 e.bottom_top) (pair_clear s.left s.right 1 e.left_right)))))

-- ---- 23 to 25: the grid

crossing_clear : (a b c d : Float) (i j : ℕ) → Clear (verdict (logical_intersection a b c d i j))
unfolding logical_intersection
crossing_clear a b c d i j = go (lt (float_abs (denominator a b c d)) e_12) (in_unit (crossing_u a b c d) && in_unit (crossing_v a b c d))
  where
    go : (s t : Bool)
        → Clear (verdict (cond s (turned_away (refused 23 i j))
        (cond t (good (point (clamp_unit (crossing_u a b c d)) (clamp_unit (crossing_v a b c d)))) (turned_away (refused 24 i j)))))
    go true t = record { other = tt }
    go false true = passed_clear
    go false false = record { other = tt }

mapped_clear : (c : BoundaryCurves) (p : Answer Point) → Clear (verdict p) → Clear (verdict (mapped c p))
unfolding mapped
mapped_clear c (good p) t = passed_clear
mapped_clear c (turned_away v) t = t

point_clear : (c : BoundaryCurves) (s : Seams) (j i : ℕ) → Clear (verdict (grid_of c s j i))
unfolding row_of
point_clear c s j i =
    let a = get_or s.left j nan in
    let b = get_or s.right j nan in
    let low = get_or s.bottom i nan in
    let high = get_or s.top i nan in
    mapped_clear c (logical_intersection a b low high i j) (crossing_clear a b low high i j)

points_clear : (f : Grid) (n m : ℕ) → ((j i : ℕ) → Clear (verdict (f j i))) → Clear (points_test f n m)
unfolding points_test
points_clear f n m h = first_clear _ (λ j. first_clear _ (h j) 0 (n + 1)) 0 (m + 1)

area_clear : (q : Quad) (i j : ℕ) → Clear (area_test q i j)
unfolding quad_test
area_clear q i j = if_clear (not (is_positive (signed_area q.lower_left q.lower_right q.upper_right q.upper_left))) 25 i j tt

quads_clear : (f : Grid) (n m : ℕ) → Clear (quads_test f n m)
unfolding quads_test
quads_clear f n m = first_clear _ (λ j. first_clear _ (λ i. area_clear (grid_quad f j i) i j) 0 n) 0 m

grid_clear : (f : Grid) (n m : ℕ) → ((j i : ℕ) → Clear (verdict (f j i))) → Clear (grid_test f n m)
unfolding grid_test
grid_clear f n m h = then_clear (points_clear f n m h) (quads_clear f n m)

filled_clear : (layout : Layout) (f : Grid) (n m : ℕ) (out : List Float) → Clear (grid_test f n m) → Clear (filled layout f n m out).verdict
unfolding filled
filled_clear layout f n m out h = go (is_passed (grid_test f n m))
  where
    either : Bool → Outcome
    either b = elim b [
      | true ↦ record { verdict = passed; quads = m * n; out = splice out 0 (grid_values layout f n m) }
      | false ↦ record { verdict = grid_test f n m; quads = 0; out = splice out 0 (zeros (needed layout n m)) }
    ]

    go : (b : Bool) → Clear (either b).verdict
    go true = passed_clear
    go false = h

-- ---- the public functions, on seams whose opposite ones are equally long

room_early : (short : Bool) (layout : Layout) (s : Seams) (room : ℕ) → EqualSeams s → Early (seams_and_room_test short layout s room)
unfolding seams_and_room_test
room_early short layout s room e = then_clear (seams_clear s e) (if_clear (short || ltb room (needed layout (n_u s) (n_v s))) 11 0 0 tt)

grid_stage_clear : (layout : Layout) (c : BoundaryCurves) (s : Seams) (out : List Float) → EqualSeams s → Clear (grid_stage layout c s out).verdict
unfolding grid_stage
grid_stage_clear layout c s out e =
    unless_clear out (filled layout (grid_of c s) (n_u s) (n_v s) out) (early_clear (room_early false layout s (length out) e))
    (filled_clear layout (grid_of c s) (n_u s) (n_v s) out (grid_clear (grid_of c s) (n_u s) (n_v s) (point_clear c s)))

patch_clear : (layout : Layout) (bottom right top left : List Float) (s : Seams) (out : List Float) → EqualSeams s
    → Clear (patch layout bottom right top left s out).verdict
unfolding patch
patch_clear layout bottom right top left s out e =
    unless_clear out (grid_stage layout (boundary_of bottom right top left) s out) (early_clear (curves_clear bottom right top left))
    (grid_stage_clear layout (boundary_of bottom right top left) s out e)

curve_limit_clear : (points : List Float) → Early (curve_limit points)
unfolding curve_limit
curve_limit_clear points = if_clear (ltb max_curve (length points) || not (eqb (length points % 2) 0)) 1 0 0 tt

curves_limit_clear : (bottom right top left : List Float) → Early (curves_limit bottom right top left)
unfolding curves_limit
curves_limit_clear bottom right top left =
    then_clear (curve_limit_clear bottom) (then_clear (curve_limit_clear right) (then_clear (curve_limit_clear top) (curve_limit_clear left)))

seam_limit_clear : (values : List Float) → Early (seam_limit values)
unfolding seam_limit
seam_limit_clear values = if_clear (ltb max_seam (length values)) 1 0 0 tt

seams_limit_clear : (s : Seams) → Early (seams_limit s)
unfolding seams_limit
seams_limit_clear s =
    then_clear (seam_limit_clear s.bottom)
    (then_clear (seam_limit_clear s.top) (then_clear (seam_limit_clear s.left) (seam_limit_clear s.right)))

from_parameters_clear : (layout : Layout) (bottom right top left : List Float) (s : Seams) (out : List Float) → EqualSeams s
    → Clear (coons_from_parameters layout bottom right top left s out).verdict
unfolding coons_from_parameters
from_parameters_clear layout bottom right top left s out e =
    unless_clear out (patch layout bottom right top left s out)
    (early_clear (then_clear (curves_limit_clear bottom right top left) (seams_limit_clear s)))
    (patch_clear layout bottom right top left s out e)

-- ---- 1, 3 and 27: lay's own tests

record_clear : (region : List ℕ) (n : ℕ) → Clear (record_test region n)
unfolding record_test
record_clear region n =
    then_clear (if_clear (not (eqb (length region) (record_size places))) 1 0 0 tt)
    (if_clear (not (leb n max_edges && records_whole places region)) 1 0 0 tt)

edges_clear : (region : List ℕ) (n k : ℕ) → Clear (edges_test region n k)
unfolding edges_test
edges_clear region n k = if_clear (not (all (λ (e : ℕ). ltb e n) (side places region k))) 3 0 k tt

breaks_clear : (region : List ℕ) (breaks : List Float) (k : ℕ) → Clear (breaks_test region breaks k)
unfolding breaks_test
breaks_clear region breaks k =
    cond_clear (empty_pair places region k) passed_clear (if_clear (not (eqb (length breaks) (suc (length (side places region k))))) 27 k 0 tt)

sides_clear : (region : List ℕ) (n : ℕ) (f : TileInput) → Clear (sides_test region n f)
unfolding sides_test
sides_clear region n f =
    then_clear (then_clear (edges_clear region n 0) (then_clear (edges_clear region n 1) (then_clear (edges_clear region n 2) (edges_clear region n 3))))
    (then_clear (breaks_clear region f.breaks0 0)
    (then_clear (breaks_clear region f.breaks1 1) (then_clear (breaks_clear region f.breaks2 2) (breaks_clear region f.breaks3 3))))

pub lay_clear : (region counts : List ℕ) (f : TileInput) (out : List Float) → EqualSeams (seams_of region counts f) → Clear (lay region counts f out).verdict
unfolding lay
lay_clear region counts f out e =
    let tested = then_clear (record_clear region (length counts))
    (then_clear (early_clear (curves_limit_clear f.bottom f.right f.top f.left)) (sides_clear region (length counts) f)) in
    let s = seams_of region counts f in
    unless_clear out (coons_from_parameters Quads f.bottom f.right f.top f.left s out) tested
    (from_parameters_clear Quads f.bottom f.right f.top f.left s out e)

-- ---- where a second output is too short, the grid is not reached

-- a refusal by a test before the grid
pub record Stopped (v : Verdict) : Type 0 where
  pub not_passed : is_passed v ≡ false
  pub early : Early v

stopped_before : {v : Verdict} (out : List Float) (rest : Outcome) → is_passed v ≡ false → Early v → Stopped (unless v out rest).verdict
stopped_before {v} out rest e p = go (is_passed v) e
  where
    go : (b : Bool) → b ≡ false → Stopped (either v out rest b).verdict
    go true h = absurd (true≢false h)
    go false h = record { not_passed = e; early = p }

stopped_after : {v : Verdict} (out : List Float) (rest : Outcome) → Early v → Stopped rest.verdict → Stopped (unless v out rest).verdict
stopped_after {v} out rest p q = by_truth (is_passed v) (λ e. go (is_passed v) e) (λ e. stopped_before out rest e p)
  where
    go : (b : Bool) → b ≡ true → Stopped (either v out rest b).verdict
    go true h = q
    go false h = absurd (true≢false (sym h))

stage_stopped : (layout : Layout) (c : BoundaryCurves) (s : Seams) (out : List Float) → EqualSeams s → Stopped (grid_stage_beside true layout c s out).verdict
unfolding grid_stage_beside
stage_stopped layout c s out e = stopped_before out _ (short_room layout s (length out)) (room_early true layout s (length out) e)

cells_limit_early : (n m : ℕ) → Early (cells_limit n m)
unfolding cells_limit
cells_limit_early n m = then_clear (if_clear (ltb max_cells n || ltb max_cells m) 1 0 0 tt) (if_clear (eqb n 0 || eqb m 0) 26 0 0 tt)

pub short_stopped : (bottom right top left : List Float) (n m : ℕ) (out : List Float) → Stopped (coons_nodes_beside true bottom right top left n m out).verdict
unfolding coons_curves_beside
short_stopped bottom right top left n m out =
    let s = even_seams n m in
    stopped_after out _ (then_clear (curves_limit_clear bottom right top left) (cells_limit_early n m))
    (stopped_after out _ (then_clear (curves_limit_clear bottom right top left) (seams_limit_clear s))
    (stopped_after out _ (curves_clear bottom right top left)
    (stage_stopped Nodes (boundary_of bottom right top left) s out (record { bottom_top = refl; left_right = refl }))))
