-- `regions::region::empty_pair` meets its contract: both sides are read, and each is asked whether it is empty. Assumes nothing.
use Rattle.std.proofs.Common.{◌∙◌, sym, ap, arith}
use Rattle.regions.specs.Region.{places, side}
use Rattle.regions.proofs.region.Pairs.{across_inside, pair_by}
use Rattle.regions.proofs.region.empty_pair.Goals as goal

-- the opposite side stands in the same record, so that 32 bits hold its number
pub overflow_cast-opposite : goal.overflow_cast-opposite
overflow_cast-opposite c =
    let e = across_inside c.args.k in
    omega (arith, e, c.opposite.ensures)

-- the definition's two tests, of which the first is the one that was made
pub returns-then-is_empty : goal.returns-then-is_empty
returns-then-is_empty c =
    let l = c.args.records.now in
    let p = pair_by l c.args.k c.side-edges.ensures (c.side-others.ensures ∙ ap (side places l) c.opposite.ensures) in
    let e = sym c.is_empty.ensures ∙ c.if-is_empty.true in
    c.is_empty-then-is_empty.ensures ∙ (rw e at p)

pub returns-else-is_empty : goal.returns-else-is_empty
returns-else-is_empty c =
    let l = c.args.records.now in
    let p = pair_by l c.args.k c.side-edges.ensures (c.side-others.ensures ∙ ap (side places l) c.opposite.ensures) in
    let e = sym c.is_empty.ensures ∙ c.if-is_empty.false in
    c.if-is_empty.false ∙ (rw e at p)
