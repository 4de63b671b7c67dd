-- `counts::constraint::region_holds` meets its contract. On the sides that `side` lends. Assumes nothing.
use Rattle.std.proofs.Common.{arith}
use Rattle.regions.proofs.accept.Laws.{side_short}
use Rattle.regions.specs.Region.{places}
use Rattle.counts.proofs.constraint.region_holds.Goals as goal

pub constraint_holds-requires : goal.constraint_holds-requires
constraint_holds-requires c =
    let short = side_short places c.args.records.now c.requires.sides_fit in
    (simp c.side.ensures (short 0 (omega arith)), simp c.side-2.ensures (short 2 (omega arith)))

pub constraint_holds-requires-then-constraint_holds : goal.constraint_holds-requires-then-constraint_holds
constraint_holds-requires-then-constraint_holds c =
    let short = side_short places c.args.records.now c.requires.sides_fit in
    (simp c.side-then-constraint_holds.ensures (short 1 (omega arith)), simp c.side-then-constraint_holds-2.ensures (short 3 (omega arith)))
