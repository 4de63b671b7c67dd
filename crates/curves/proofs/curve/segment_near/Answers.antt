-- `curve::segment_near` meets its contract. Assumes nothing.
use mathlib.Core.Path.{refl}
use native.Mathlib.Omega.{arith}
use Rattle.curves.proofs.curve.Near.{hinted}
use Rattle.curves.proofs.curve.segment_near.Goals as goal

pub returns-then-in_segment-clause-value : goal.returns-then-in_segment-clause-value
returns-then-in_segment-clause-value c = hinted (c.requires.rising (omega arith)) (c.if-in_segment.ensures refl)

pub returns-then-in_segment-2-clause-value : goal.returns-then-in_segment-2-clause-value
returns-then-in_segment-2-clause-value c = hinted (c.requires.rising (omega arith)) (c.if-in_segment-2.ensures refl)

pub returns-then-in_segment-3-clause-value : goal.returns-then-in_segment-3-clause-value
returns-then-in_segment-3-clause-value c = hinted (c.requires.rising (omega arith)) (c.if-in_segment-3.ensures refl)
