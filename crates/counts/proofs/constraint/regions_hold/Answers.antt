-- `counts::constraint::regions_hold` meets its contract. The loop's invariant: the sides of the records left fit, and all constraints hold just if
-- those left do. Assumes nothing.
use Rattle.std.proofs.Common.{◌*◌, arith, length-drop}
use Rattle.regions.specs.Region.{places, record_size}
use Rattle.regions.proofs.accept.Laws.{rest, sides_now}
use Rattle.counts.proofs.constraint.Laws.{hold_starts}
use Rattle.counts.proofs.constraint.regions_hold.Goals as goal

pub loop-r-init : goal.loop-r-init
loop-r-init c = hold_starts c.requires

pub region_holds-requires : goal.region_holds-requires
region_holds-requires c =
    let l = c.args.regions.now in
    let r = c.loop-r.r in
    simp (rest (r * record_size places) l)
    (record { long = simp length-drop (omega arith); sides_fit = sides_now places _ r l c.loop-r-test.true c.loop-r.invariant.sides_fit })
