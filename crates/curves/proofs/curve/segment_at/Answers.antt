-- `curve::segment_at` meets its contract. Before each turn the halving from lo and hi gives the definition's segment. Assumes nothing.
use mathlib.Core.Path.{sym, ◌∙◌}
use native.Mathlib.Omega.{arith}
use Rattle.curves.proofs.curve.Halving.{whole, step_right, step_left, stop}
use Rattle.curves.proofs.curve.segment_at.Goals as goal

pub loop-hi-init : goal.loop-hi-init
loop-hi-init c = record { apart = omega arith; there = omega arith; same = whole _ _ }

pub loop-hi-preserved-then-knots-mid : goal.loop-hi-preserved-then-knots-mid
loop-hi-preserved-then-knots-mid c = record {
  apart = omega arith;
  there = omega arith;
  same = sym (step_right _ _ _ _ (omega arith) c.if-knots-mid.true) ∙ c.loop-hi.invariant.same;
}

pub loop-hi-preserved : goal.loop-hi-preserved
loop-hi-preserved c = record {
  apart = omega arith;
  there = omega arith;
  same = sym (step_left _ _ _ _ (omega arith) c.if-knots-mid.false) ∙ c.loop-hi.invariant.same;
}

pub returns-clause-value : goal.returns-clause-value
returns-clause-value c = sym (stop _ _ _ _ (omega arith)) ∙ c.loop-hi.invariant.same
