-- What the public functions of the grid answer and leave, by the outcomes of their tests; and what their limits let by. Assumes nothing.
use mathlib.Core.Path.{◌≡◌, refl, sym, ap, subst, ◌∙◌}
use mathlib.Core.Bool.{Bool, true, false, not, ◌||◌}
use mathlib.Core.List.{List, []}
use Prim.Native.Nat.{ℕ, ◌+◌, ◌*◌, ◌%◌, ◌≤◌, ◌<◌}
use native.Mathlib.Nat.{suc-mul}
use native.Mathlib.Numerals.{add-one}
use native.Mathlib.Omega.{arith}
use lib.ListN.{length, take}
use lib.Dec.{T, T_not, ltb, eqb}
use lib.Ieee.{Float}
use borrow.Author.Tests.{lt-ltb, le-ltb, ltb-false}
use Rattle.base.specs.declared.verdict.Verdict.{Verdict}
use Rattle.base.specs.Refusal.{passed, refused, is_passed, then_test, refuse_if}
use Rattle.base.proofs.BoolLaws.{not_T_false, T_true, by_truth}
use Rattle.base.proofs.TestLaws.{then_left, then_right, then_both, not_refused, four_passed}
use Rattle.base.specs.Buffers.{splice}
use Rattle.curves.specs.declared.sides.Sides.{Sides}
use Rattle.curves.specs.Boundary.{BoundaryCurves, boundary_of, checked_curves}
use Rattle.curves.specs.inner.Curves.{ShortCurves}
use Rattle.curves.specs.inner.Grids.{ShortSeams, TileShort, CellsFitIn}
use Rattle.curves.specs.Seam.{uniform_parameters}
use Rattle.curves.specs.Grid.{Seams, seams, n_u, n_v, needed}
use Rattle.curves.specs.Coons.{Outcome, refusal, unless, seams_and_room_test, grid_stage_beside, patch_beside, patch}
use Rattle.curves.specs.Coons.{curve_limit, curves_limit, seam_limit, seams_limit, cells_limit}
use Rattle.curves.specs.Coons.{even_seams, coons_from_parameters_beside, coons_from_parameters, coons_curves, coons_nodes, coons_nodes_beside}
use Rattle.curves.specs.declared.rows.Layout.{Layout}
use Rattle.curves.specs.declared.rows.Layout.TheVariants.{Nodes}
use Rattle.base.proofs.BufferLaws.{length_tabulate, take_splice}
use Rattle.curves.specs.Limits.{max_curve, max_seam, max_cells}
use Rattle.curves.proofs.stage.Laws.{goes_on, seams_tested}

-- ---- limits

curve_let_by : (points : List Float) → T (is_passed (curve_limit points)) → length points ≤ max_curve
unfolding curve_limit
curve_let_by points p = go (ltb max_curve (length points)) refl p
  where
    go : (d : Bool) → ltb max_curve (length points) ≡ d → T (is_passed (refuse_if (d || not (eqb (length points % 2) 0)) (refused 1 0 0)))
        → length points ≤ max_curve
    go true e q = absurd q
    go false e q = ltb-false max_curve (length points) e

pub curves_let_by : {p : Sides (List Float)} → T (is_passed (curves_limit p.bottom p.right p.top p.left)) → ShortCurves max_curve p
unfolding curves_limit
curves_let_by {p} passed =
    let q = four_passed (curve_limit p.bottom) (curve_limit p.right) (curve_limit p.top) (curve_limit p.left) passed in
    record {
      bottom = curve_let_by p.bottom q.0;
      right = curve_let_by p.right q.1;
      top = curve_let_by p.top q.2;
      left = curve_let_by p.left q.3;
    }

seam_let_by : (values : List Float) → T (is_passed (seam_limit values)) → length values ≤ max_seam
unfolding seam_limit
seam_let_by values p = let long = ltb max_seam (length values) in ltb-false max_seam (length values) (not_T_false long (T_not long (not_refused long 0 0 0 p)))

pub seams_let_by : {s : Seams} → T (is_passed (seams_limit s)) → ShortSeams s
unfolding seams_limit
seams_let_by {s} passed =
    let q = four_passed (seam_limit s.bottom) (seam_limit s.top) (seam_limit s.left) (seam_limit s.right) passed in
    record {
      bottom = seam_let_by s.bottom q.0;
      top = seam_let_by s.top q.1;
      left = seam_let_by s.left q.2;
      right = seam_let_by s.right q.3;
    }

-- ---- even seams

pub length_even : (n : ℕ) → length (uniform_parameters n) ≡ n + 1
unfolding uniform_parameters
length_even n = length_tabulate _ 0 (n + 1)

-- the front of the buffer that they were written to
pub even_part : (n : ℕ) (d : List Float) {xs : List Float} → xs ≡ splice d 0 (uniform_parameters n) → take (n + 1) xs ≡ uniform_parameters n
even_part n d e = ap (take (n + 1)) e ∙ take_splice d (uniform_parameters n) (n + 1) (length_even n)

-- ---- cells

-- what numbers of cells that are let by are like
pub cells_let_by : (n m : ℕ) → T (is_passed (cells_limit n m)) → (n ≤ max_cells) × (m ≤ max_cells)
unfolding cells_limit
cells_let_by n m p =
    let few = refuse_if (ltb max_cells n || ltb max_cells m) (refused 1 0 0) in
    go (ltb max_cells n) (ltb max_cells m) refl refl (then_left few (refuse_if (eqb n 0 || eqb m 0) (refused 26 0 0)) p)
  where
    go : (d e : Bool) → ltb max_cells n ≡ d → ltb max_cells m ≡ e → T (is_passed (refuse_if (d || e) (refused 1 0 0))) → (n ≤ max_cells) × (m ≤ max_cells)
    go true e f g q = absurd q
    go false true f g q = absurd q
    go false false f g q = (ltb-false max_cells n f, ltb-false max_cells m g)

-- even seams as the code holds them
pub same_seams : (layout : Layout) (b r t l : List Float) (n m : ℕ) (us vs out : List Float) → us ≡ uniform_parameters n → vs ≡ uniform_parameters m
    → patch layout b r t l (seams us us vs vs) out ≡ patch layout b r t l (even_seams n m) out
same_seams layout b r t l n m us vs out e f =
    ap (λ (x : List Float). patch layout b r t l (seams x x vs vs) out) e
    ∙ ap (λ (x : List Float). patch layout b r t l (seams (uniform_parameters n) (uniform_parameters n) x x) out) f

-- such a seam is within its limit
even_let_by : (n : ℕ) → n ≤ max_cells → T (is_passed (seam_limit (uniform_parameters n)))
unfolding seam_limit
even_let_by n h = rw (le-ltb max_seam (length (uniform_parameters n)) (omega (arith, length_even n))) tt

-- nor are the seams of so many cells too long for a tile
pub even_short : {p : Sides (List Float)} {n m : ℕ} {us vs : List Float} → CellsFitIn max_seam p n m → us ≡ uniform_parameters n → vs ≡ uniform_parameters m
    → TileShort max_curve p (seams us us vs vs)
even_short {n = n} {m = m} {us = us} {vs = vs} given e f =
    let of_us : length us ≤ max_seam = omega (arith, ap length e ∙ length_even n, given.us_fit) in
    let of_vs : length vs ≤ max_seam = omega (arith, ap length f ∙ length_even m, given.vs_fit) in
    record { curves = given.curves; seams = record { bottom = of_us; top = of_us; left = of_vs; right = of_vs } }

-- so limits that are tested before the seams are made need no further test
pub even_within : (layout : Layout) (b r t l : List Float) (n m : ℕ) (out : List Float)
    → T (is_passed (curves_limit b r t l)) → (n ≤ max_cells) × (m ≤ max_cells)
    → patch layout b r t l (even_seams n m) out ≡ coons_from_parameters layout b r t l (even_seams n m) out
unfolding coons_from_parameters patch seams_limit
even_within layout b r t l n m out p q =
    let u = even_let_by n q.0 in
    let v = even_let_by m q.1 in
    let s = even_seams n m in
    let limits = then_both (seam_limit s.bottom) _ u (then_both (seam_limit s.top) _ u (then_both (seam_limit s.left) (seam_limit s.right) v v)) in
    goes_on out _ (then_test (curves_limit b r t l) (seams_limit s)) (T_true _ (then_both (curves_limit b r t l) (seams_limit s) p limits))

-- what follows tests is passed only where they are
passed_before : (v : Verdict) (out : List Float) (rest : Outcome) → passed ≡ (unless v out rest).verdict → T (is_passed v)
passed_before v out rest h = go (is_passed v) refl h
  where
    by : Bool → Outcome
    by p = elim p [
      | true ↦ rest
      | false ↦ refusal out v
    ]

    go : (p : Bool) → is_passed v ≡ p → passed ≡ (by p).verdict → T (is_passed v)
    go true e h = subst T (sym e) tt
    go false e h = subst (λ (x : Verdict). T (is_passed x)) h tt

-- a grid that is made has numbers of cells that are let by
cells_of_made : (layout : Layout) (bottom right top left : List Float) (n m : ℕ) (out : List Float)
    → passed ≡ (coons_curves layout bottom right top left n m out).verdict
    → (n ≤ max_cells) × (m ≤ max_cells)
unfolding coons_curves
cells_of_made layout bottom right top left n m out h =
    let limits : Verdict = then_test (curves_limit bottom right top left) (cells_limit n m) in
    cells_let_by n m (then_right (curves_limit bottom right top left) (cells_limit n m) (passed_before limits out _ h))

pub cells_of_nodes : (bottom right top left : List Float) (n m : ℕ) (out : List Float) → passed ≡ (coons_nodes bottom right top left n m out).verdict
    → (n ≤ max_cells) × (m ≤ max_cells)
cells_of_nodes bottom right top left n m out h = cells_of_made Nodes bottom right top left n m out h

-- ---- a second output that is too short: the tests are those of a grid of nodes that has no room

-- an outcome with another list in the output's place
abbrev pub leaving : List Float → Outcome → Outcome
leaving out o = record { verdict = o.verdict; quads = o.quads; out = out }

unless_leaving : (v : Verdict) (out : List Float) (rest other : Outcome) → rest ≡ leaving out other → unless v out rest ≡ leaving out (unless v [] other)
unless_leaving v out rest other h = go (is_passed v)
  where
    by : List Float → Outcome → Bool → Outcome
    by l o b = elim b [
      | true ↦ o
      | false ↦ refusal l v
    ]

    go : (b : Bool) → by out rest b ≡ leaving out (by [] other b)
    go true = h
    go false = refl

stops : (v : Verdict) (out : List Float) (rest : Outcome) → is_passed v ≡ false → unless v out rest ≡ refusal out v
stops v out rest e = ap (λ (b : Bool). elim b [
  | true ↦ rest
  | false ↦ refusal out v
]) e

pub short_room : (layout : Layout) (s : Seams) (room : ℕ) → is_passed (seams_and_room_test true layout s room) ≡ false
unfolding seams_and_room_test
short_room layout s room = by_truth (is_passed (seams_tested s)) (λ e. rw e) (λ e. rw e e)

-- there is no grid without nodes
nodes_needed : (n m : ℕ) → 0 < needed Nodes n m
unfolding needed
nodes_needed n m =
    let e : (m + 1) * (3 * (n + 1)) ≡ m * (3 * (n + 1)) + 3 * (n + 1) = ap (λ (k : ℕ). k * (3 * (n + 1))) (add-one m) ∙ suc-mul m (3 * (n + 1)) in
    omega (arith, e)

no_room_at_all : (s : Seams) (room : ℕ) → seams_and_room_test true Nodes s room ≡ seams_and_room_test false Nodes s 0
unfolding seams_and_room_test
no_room_at_all s room =
    ap (λ (b : Bool). then_test (seams_tested s) (refuse_if b (refused 11 0 0))) (sym (lt-ltb 0 (needed Nodes (n_u s) (n_v s)) (nodes_needed (n_u s) (n_v s))))

short_stage : (c : BoundaryCurves) (s : Seams) (out : List Float) → grid_stage_beside true Nodes c s out ≡ leaving out (grid_stage_beside false Nodes c s [])
unfolding grid_stage_beside
short_stage c s out =
    let e = no_room_at_all s (length out) in
    let f = short_room Nodes s (length out) in
    stops _ out _ f ∙ ap (refusal out) e ∙ ap (leaving out) (sym (stops _ [] _ (ap is_passed (sym e) ∙ f)))

module _ (bottom right top left : List Float) (out : List Float) where
  short_patch : (s : Seams) → patch_beside true Nodes bottom right top left s out ≡ leaving out (patch_beside false Nodes bottom right top left s [])
  unfolding patch_beside
  short_patch s =
      let c = boundary_of bottom right top left in
      unless_leaving (checked_curves bottom right top left) out (grid_stage_beside true Nodes c s out) (grid_stage_beside false Nodes c s []) (short_stage c s out)

  short_seamed : (s : Seams) → coons_from_parameters_beside true Nodes bottom right top left s out ≡ leaving out (coons_from_parameters_beside false Nodes bottom right top left s [])
  unfolding coons_from_parameters_beside
  short_seamed s =
      unless_leaving (then_test (curves_limit bottom right top left) (seams_limit s)) out (patch_beside true Nodes bottom right top left s out)
      (patch_beside false Nodes bottom right top left s []) (short_patch s)

  pub nodes_alone : (n m : ℕ) → coons_nodes bottom right top left n m out ≡ coons_nodes_beside false bottom right top left n m out
  unfolding coons_curves
  nodes_alone n m = refl

  pub short_nodes : (n m : ℕ) → coons_nodes_beside true bottom right top left n m out ≡ leaving out (coons_nodes bottom right top left n m [])
  unfolding coons_curves
  short_nodes n m =
      let s = even_seams n m in
      unless_leaving (then_test (curves_limit bottom right top left) (cells_limit n m)) out (coons_from_parameters_beside true Nodes bottom right top left s out)
      (coons_from_parameters_beside false Nodes bottom right top left s []) (short_seamed s)
