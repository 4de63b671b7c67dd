-- `curve::new_curve` meets its contract: each way through the code is a law of the definition. Assumes nothing.
use mathlib.Core.Path.{◌≡◌, refl, sym, subst}
use Rattle.base.specs.Refusal.{passed, verdict_of}
use Rattle.curves.specs.Curve.{ArcCurve, curve_test}
use Rattle.curves.specs.inner.Segments.{Rising}
use Rattle.curves.proofs.curve.Laws.{knot_count_arc, too_short, not_finite, bad_length, good_length}
use Rattle.curves.proofs.curve.Finite.{length_passes}
use Rattle.curves.proofs.curve.Rise.{rise_passed}
use Rattle.curves.proofs.curve.new_curve.Goals as goal
use Rattle.curves.proofs.curve.new_curve.Goals.{Joined-not-is_sound, then-not-is_sound+else-not-all_finite+else-not-is_positive, else-not-is_sound}

pub returns-then-points-lt2-clause-told : goal.returns-then-points-lt2-clause-told
unfolding verdict_of
returns-then-points-lt2-clause-told c = too_short _ _ c.if-points-lt2.true

pub returns-then-not-all_finite-clause-told : goal.returns-then-not-all_finite-clause-told
unfolding verdict_of
returns-then-not-all_finite-clause-told c = not_finite _ _ c.if-points-lt2.false (sym (c.if-not-all_finite.ensures))

pub returns-then-not-is_positive-clause-told : goal.returns-then-not-is_positive-clause-told
unfolding verdict_of
returns-then-not-is_positive-clause-told c =
    bad_length _ _ c.if-points-lt2.false (sym c.if-not-all_finite.ensures) c.fill_knots-total.ensures.value (sym c.if-not-is_positive.ensures)

told : (c : Joined-not-is_sound) → passed ≡ curve_test c.args.points.now c.args.side
told c =
    elim c.if-not-is_sound.branch [
      | then-not-is_sound+else-not-all_finite+else-not-is_positive w ↦ good_length _ _ c.if-points-lt2.false (sym w.if-not-all_finite.ensures)
          c.fill_knots-total.ensures.value (sym w.if-not-is_positive.ensures)
      | else-not-is_sound w ↦ length_passes _ _ c.if-points-lt2.false (w.if-not-is_sound.ensures refl) c.fill_knots-total.ensures.value
    ]

pub invariant_of-result : goal.invariant_of-result
invariant_of-result c =
    let points = c.args.points.now in
    let knots = c.fill_knots-total.ensures.knots_after in
    record {
      two = rw (knots, knot_count_arc points) c.if-points-lt2.false;
      rising = let P : ArcCurve → Type 0 = Rising in subst P (sym knots) (rise_passed points c.args.side (rw (← told c) tt));
    }

pub returns-clause-told : goal.returns-clause-told
returns-clause-told c = told (goal.at.returns-clause-told c).Joined-not-is_sound
