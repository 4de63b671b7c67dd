-- `augment::apply_changes` meets its contract. Invariant: the first i changes are made. Measure: the changes that are left. Assumes nothing.
use mathlib.Core.Path.{refl}
use native.Mathlib.Omega.{arith}
use Rattle.counts.proofs.augment.Applying.{still_long, all_made, at_change, apply_turn}
use Rattle.counts.proofs.augment.apply_changes.Goals as goal

pub loop-i-init : goal.loop-i-init
loop-i-init c = record { made = refl; in_range = omega arith }

pub bounds-counts-e : goal.bounds-counts-e
bounds-counts-e c = (at_change c.loop-i.invariant c.requires c.loop-i-test.true c.wide-c.ensures.0).below

pub changed_count-requires : goal.changed_count-requires
changed_count-requires c = (at_change c.loop-i.invariant c.requires c.loop-i-test.true c.wide-c.ensures.0).may

pub bounds-counts-e-in-loop-i : goal.bounds-counts-e-in-loop-i
bounds-counts-e-in-loop-i c = (at_change c.loop-i.invariant c.requires c.loop-i-test.true c.wide-c.ensures.0).below

pub loop-i-preserved : goal.loop-i-preserved
loop-i-preserved c = apply_turn c.loop-i.invariant c.requires c.loop-i-test.true c.wide-c.ensures.0 c.changed_count.ensures

pub shape_of-counts : goal.shape_of-counts
shape_of-counts c = still_long c.loop-i.invariant

pub returns : goal.returns
returns c = all_made c.loop-i.invariant (omega arith)
