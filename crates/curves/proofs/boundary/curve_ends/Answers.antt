-- `boundary::curve_ends` meets its contract: a curve with a segment is not refused. Assumes nothing.
use Rattle.curves.specs.Boundary.{curve_ends}
use Rattle.curves.proofs.boundary.Laws.{at_is_ok, at_value}
use Rattle.curves.proofs.boundary.curve_ends.Goals as goal

pub unwrap-requires : goal.unwrap-requires
unwrap-requires c = at_is_ok _ _ _ _ c.args.curve.two c.curve_at.ensures

pub unwrap-requires-2 : goal.unwrap-requires-2
unwrap-requires-2 c = at_is_ok _ _ _ _ c.args.curve.two c.curve_at-2.ensures

pub returns : goal.returns
unfolding curve_ends
returns c =
    let two = c.args.curve.two in
    let start = at_value _ _ _ _ two c.curve_at.ensures c.unwrap.ensures in
    let end = at_value _ _ _ _ two c.curve_at-2.ensures c.unwrap-2.ensures in
    rw (start, end)
