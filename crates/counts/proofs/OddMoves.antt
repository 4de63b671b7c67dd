-- Each of the odd moves is a unit move, or none, as it says. The test of a unit move is worked out for every case of the list at once, and by
-- `unit_move_test` it passes just where there is one. Assumes nothing.
use mathlib.Core.Bool.{Bool, not, ◌&&◌}
use lib.ListN.{length}
use lib.Dec.{T, T_not}
use lib.Ieee.Fits.{and_l, and_r}
use Rattle.base.specs.Lists.{In, all}
use Rattle.regions.specs.Region.{places, graph, constraints}
use Rattle.regions.specs.Accept.{accepted}
use Rattle.counts.specs.MoveTest.{is_unit_move}
use Rattle.counts.specs.OddMoves.{OddMove, is_move, no_move, AsSaid, odd_moves}
use Rattle.base.proofs.ListLaws.{every_in}
use Rattle.counts.proofs.MoveTest.{unit_move_test}

abbrev is_as_said : OddMove → Bool
is_as_said (is_move regions counts r) = accepted places (length counts) regions && is_unit_move (graph places regions) counts r
is_as_said (no_move regions counts r) = accepted places (length counts) regions && not (is_unit_move (graph places regions) counts r)

as_said : (m : OddMove) → T (is_as_said m) → AsSaid m
as_said (is_move regions counts r) t =
    let a = accepted places (length counts) regions in
    let b = is_unit_move (graph places regions) counts r in
    (and_l a b t, (unit_move_test (graph places regions) counts r).0 (and_r a b t))
as_said (no_move regions counts r) t =
    let a = accepted places (length counts) regions in
    let b = is_unit_move (graph places regions) counts r in
    (and_l a (not b) t, λ m. T_not b (and_r a (not b) t) ((unit_move_test (graph places regions) counts r).1 m))

tested : T (all is_as_said odd_moves)
unfolding constraints accepted
tested = tt

pub odd_moves_as_said : (m : OddMove) → In m odd_moves → AsSaid m
odd_moves_as_said m i = as_said m (every_in is_as_said odd_moves tested m i)
