-- `solve::make_move` meets its contract: the changes are made, and the component of the first one is refreshed. Assumes nothing.
use native.Mathlib.Omega.{arith}
use Rattle.counts.proofs.solve.Keeping.{first_below, move_done}
use Rattle.counts.proofs.solve.make_move.Goals as goal

pub bounds-labels-first : goal.bounds-labels-first
bounds-labels-first c =
    let h = first_below c.requires in
    omega (arith, h, c.wide-first.ensures.0, c.requires.refresh.sizes.few)

pub returns : goal.returns
returns c = move_done c.apply_changes.ensures c.wide-first.ensures.0 c.refresh_component.ensures
