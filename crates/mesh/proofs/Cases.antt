-- 01's bench cases and 02's hold, by working out the definitions that the public contracts cite. Assumes nothing.
use mathlib.Core.Path.{refl}
use lib.Ieee.{of_bits, of_int}
use Rattle.counts.specs.Values.{first_bad}
use Rattle.regions.specs.Region.{constraints}
use Rattle.counts.specs.Cost.{edge_delta, range_delta}
use Rattle.counts.specs.Solver.{solve, round}
use Rattle.floats.specs.Root.{root_answer}
use Rattle.curves.specs.Curve.{arc_curve}
use Rattle.curves.specs.Grid.{row_of}
use Rattle.curves.specs.Coons.{coons_curves, coons_from_parameters}
use Rattle.curves.specs.Lay.{lay}
use Rattle.mesh.specs.Cases.{areas, All_hold, bench}

pub bench_holds : All_hold bench
unfolding solve round edge_delta range_delta first_bad constraints coons_curves coons_from_parameters lay arc_curve row_of areas root_answer of_bits of_int
bench_holds =
    (refl, (refl, (refl, (refl, (refl, (refl, (refl, (refl, (refl, (refl, (refl, (refl, (refl, (refl, (refl, (refl, (refl, (refl, (refl, (refl, (refl, (refl, (refl, (refl, (refl, (refl, (refl, (refl, tt))))))))))))))))))))))))))))
