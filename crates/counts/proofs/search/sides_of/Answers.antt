-- `search::sides_of` meets its contract: both sides are read where the slot's entry in `own` says. Assumes nothing.
use Prim.Native.Nat.{◌<◌}
use native.Mathlib.Omega.{arith}
use Rattle.regions.proofs.region.Pairs.{across_inside}
use Rattle.counts.specs.inner.Tables.{max_sides}
use Rattle.counts.proofs.search.TwoSides.{may_read_same, sides_read}
use Rattle.counts.proofs.search.sides_of.Goals as goal
use Rattle.counts.proofs.search.sides_of.Goals.{After-opposite-there}

-- the opposite side stands in the same record, so that its number is as small
there-below : (c : After-opposite-there) → c.opposite-there.result < max_sides
there-below c =
    let here = c.entry-here in
    let inside = across_inside here.result in
    omega (arith, c.opposite-there.ensures, inside, here.ensures, c.requires.1.below)

pub overflow_mul-there : goal.overflow_mul-there
overflow_mul-there c = let below = there-below (goal.at.overflow_mul-there c).After-opposite-there in omega (arith, below)

pub number_at-split-requires : goal.number_at-split-requires
number_at-split-requires c =
    let m = may_read_same c.entry-here.ensures c.requires.1 in
    omega (arith, m.opposite_fits)

pub overflow_mul-result : goal.overflow_mul-result
overflow_mul-result c =
    let below = there-below (goal.at.overflow_mul-result c).After-opposite-there in
    omega (arith, below)

pub overflow_add-result : goal.overflow_add-result
overflow_add-result c =
    let below = there-below (goal.at.overflow_add-result c).After-opposite-there in
    omega (arith, below)

pub returns : goal.returns
returns c =
    sides_read c.requires.1 c.entry-here.ensures c.opposite-there.ensures
    c.number_at-split.ensures.0
    c.number_at-count.ensures.0
