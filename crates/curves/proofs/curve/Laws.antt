-- The tests of one curve: the values one by one, and the chain of 13, 14, 15 by its tests; and its knots, one by one. Assumes nothing.
use mathlib.Core.Path.{◌≡◌, refl, sym, ap, subst, ◌∙◌}
use mathlib.Core.Bool.{Bool, true, false, not, ◌&&◌, true≢false}
use mathlib.Core.List.{List, [], ◌∷◌}
use Prim.Native.Nat.{ℕ, suc, ◌+◌, ◌-◌, ◌<◌, ◌≤◌}
use native.Mathlib.Nat.{zero-add}
use native.Mathlib.Numerals.{add-one}
use native.Mathlib.Omega.{arith}
use lib.ListN.{length, get_or, drop, drop_of_length-le}
use lib.Seq.{drop-cons}
use lib.Dec.{ltb}
use lib.Ieee.{Float, nan}
use borrow.Author.Tests.{lt-ltb, le-ltb}
use Rattle.std.proofs.Common.{◌↔◌}
use Rattle.std.specs.Bool.{IsTrue}
use Rattle.std.specs.List.{All}
use Rattle.std.proofs.lemmas.List.Elements.{All-nil, All-cons, All-head, All-tail}
use Rattle.base.specs.declared.verdict.Verdict.{Verdict}
use Rattle.base.specs.Refusal.{passed, refused, then_test, refuse_if}
use Rattle.base.proofs.BoolLaws.{by_truth}
use Rattle.floats.specs.Scalar.{nought, is_finite, is_positive}
use Rattle.curves.specs.Curve.{point_count, point_at, length_to, total_length, knot_of, arc_curve, knot_count, no_knot, knot, length_at}
use Rattle.curves.specs.Curve.{all_finite, total_test, curve_test}
use Rattle.curves.specs.inner.Segments.{next_knot}
use Rattle.curves.specs.declared.point.Point.{Point}
use Rattle.curves.specs.declared.curve.Knot.{Knot}
use Rattle.base.proofs.BufferLaws.{length_tabulate}
use Rattle.curves.proofs.Filling.{at_index}

-- ---- every value is finite

pub finite_next : (xs : List Float) (i : ℕ) → i < length xs → is_finite (get_or xs i nan) ≡ true → all_finite (drop i xs) ≡ all_finite (drop (i + 1) xs)
unfolding all_finite
finite_next xs i h e =
    ap all_finite (drop-cons xs i nan h)
    ∙ ap (λ (x : Bool). x && all_finite (drop (suc i) xs)) e
    ∙ ap (λ (k : ℕ). all_finite (drop k xs)) (sym (add-one i))

pub finite_end : (xs : List Float) (i : ℕ) → length xs ≤ i → all_finite (drop i xs) ≡ true
unfolding all_finite
finite_end xs i h = ap all_finite (drop_of_length-le xs h)

-- the same, as the code asks for it
abbrev Finite : Float → Type 0
Finite x = IsTrue (is_finite x)

of_all : (xs : List Float) → All Finite xs → all_finite xs ≡ true
unfolding all_finite
of_all [] h = refl
of_all (x ∷ xs) h = rw (All-head Finite x xs h, of_all xs (All-tail Finite x xs h))

to_all : (xs : List Float) → all_finite xs ≡ true → All Finite xs
unfolding all_finite
to_all [] e = All-nil Finite
to_all (x ∷ xs) e = by_truth (is_finite x) (λ f. All-cons Finite x xs f (to_all xs (rw f at e))) (λ f. absurd (true≢false (sym e ∙ ap (λ (b : Bool). b && all_finite xs) f)))

pub finite_if_all : (b : Bool) (xs : List Float) → (IsTrue b ↔ All Finite xs) → b ≡ all_finite xs
finite_if_all true xs h = sym (of_all xs (h.0 refl))
finite_if_all false xs h = by_truth (all_finite xs) (λ e. absurd (true≢false (sym (h.1 (to_all xs e))))) sym

-- ---- the knots

pub first_knot : (points : List Float) {p : Point} → p ≡ point_at points 0 → record { x = p.x; y = p.y; length = nought } ≡ knot_of points 0
unfolding length_to
first_knot points e = ap (λ (p : Point). record { x = p.x; y = p.y; length = nought }) e

further : (points : List Float) (k : ℕ) → next_knot (knot_of points k) (point_at points (suc k)) ≡ knot_of points (suc k)
unfolding length_to
further points k = refl

-- the one after the knot before k
pub knot_further : (points : List Float) (k : ℕ) {last next : Knot} {p : Point} → last ≡ knot_of points (k - 1) → 1 ≤ k → p ≡ point_at points k
    → next ≡ next_knot last p → next ≡ knot_of points k
knot_further points k e h f g =
    let s : suc (k - 1) ≡ k = omega arith in
    rw (g, e, f) (subst (λ (i : ℕ). next_knot (knot_of points (k - 1)) (point_at points i) ≡ knot_of points i) s (further points (k - 1)))

pub knot_count_arc : (points : List Float) → knot_count (arc_curve points) ≡ point_count points
unfolding arc_curve
knot_count_arc points = length_tabulate (knot_of points) 0 (point_count points)

pub knot_in_arc : (points : List Float) (i : ℕ) → i < point_count points → knot (arc_curve points) i ≡ knot_of points i
unfolding arc_curve
knot_in_arc points i h = at_index (knot_of points) 0 (point_count points) i no_knot h ∙ ap (knot_of points) (zero-add i)

pub length_in_arc : (points : List Float) (i : ℕ) → i < point_count points → length_at (arc_curve points) i ≡ length_to points i
length_in_arc points i h = ap (λ (k : Knot). k.length) (knot_in_arc points i h)

-- ---- 13, 14, 15

by_tests : (points : List Float) (side : ℕ) (short finite : Bool) (total : Float) → ltb (point_count points) 2 ≡ short → all_finite points ≡ finite
    → total ≡ total_length points
    → then_test (refuse_if short (refused 13 side 0)) (then_test (refuse_if (not finite) (refused 14 side 0)) (total_test total side)) ≡ curve_test points side
unfolding curve_test
by_tests points side short finite total e f g =
    let chain : Bool → Bool → Float → Verdict =
    λ s b x. then_test (refuse_if s (refused 13 side 0)) (then_test (refuse_if (not b) (refused 14 side 0)) (total_test x side)) in
    sym
    (ap (λ (b : Bool). chain b (all_finite points) (total_length points)) e
    ∙ ap (λ (b : Bool). chain short b (total_length points)) f
    ∙ ap (chain short finite) (sym g))

pub too_short : (points : List Float) (side : ℕ) → point_count points < 2 → refused 13 side 0 ≡ curve_test points side
too_short points side h = by_tests points side true _ _ (lt-ltb (point_count points) 2 h) refl refl

pub not_finite : (points : List Float) (side : ℕ) → 2 ≤ point_count points → all_finite points ≡ false → refused 14 side 0 ≡ curve_test points side
not_finite points side h f = by_tests points side false false _ (le-ltb (point_count points) 2 h) f refl

measured : (points : List Float) (side : ℕ) {total : Float} → 2 ≤ point_count points → all_finite points ≡ true → total ≡ total_length points
    → total_test total side ≡ curve_test points side
measured points side {total} h f g = by_tests points side false true total (le-ltb (point_count points) 2 h) f g

module _ (points : List Float) (side : ℕ) {total : Float} (h : 2 ≤ point_count points) (f : all_finite points ≡ true) (g : total ≡ total_length points) where
  pub bad_length : is_positive total ≡ false → refused 15 side 0 ≡ curve_test points side
  unfolding total_test
  bad_length e = ap (λ (b : Bool). refuse_if (not b) (refused 15 side 0)) (sym e) ∙ measured points side h f g

  pub good_length : is_positive total ≡ true → passed ≡ curve_test points side
  unfolding total_test
  good_length e = ap (λ (b : Bool). refuse_if (not b) (refused 15 side 0)) (sym e) ∙ measured points side h f g
