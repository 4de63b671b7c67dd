-- `search::keep_path` meets its contract. Invariant: the first i changes stand in `best`. Measure: the changes still to come. Assumes nothing.
use mathlib.Core.Path.{refl, ◌∙◌}
use native.Mathlib.Omega.{arith}
use Rattle.counts.proofs.search.Slots.{copied_all, copied_next}
use Rattle.counts.proofs.search.keep_path.Goals as goal

pub loop-i-init : goal.loop-i-init
loop-i-init c = record { below = omega arith; long = refl; same = refl }

pub loop-i-preserved : goal.loop-i-preserved
loop-i-preserved c =
    let p = c.requires in
    let t = c.loop-i-test.true in
    copied_next c.loop-i.invariant t (omega (arith, p.fits, p.path_long)) (omega (arith, p.fits, p.best_long))

pub returns : goal.returns
returns c =
    let inv = c.loop-i.invariant in
    (copied_all inv (omega (arith, c.loop-i-test.false)), inv.long ∙ c.requires.best_long)
