use Rattle.std.proofs.Common.{◌≡◌, ◌-◌, ◌*◌, ◌/◌, length, drop}
use Rattle.regions.specs.Accept.{sides_fit}
use Rattle.regions.specs.Region.{places, region_count, side_size}
use Rattle.regions.proofs.accept.Laws.{each_fits}
use Rattle.regions.proofs.accept.sides_fit.Given as goal

abbrev pub invariant-loop-s : goal.invariant-loop-s
invariant-loop-s l =
    sides_fit places (region_count places l.regions) l.regions
    ≡ each_fits places (length l.regions / side_size places - l.s) (drop (l.s * side_size places) l.regions)
