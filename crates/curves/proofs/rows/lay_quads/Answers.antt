-- `rows::lay_quads` meets its contract. Assumes nothing.
use Rattle.std.proofs.Common.{sym, arith}
use Rattle.curves.proofs.rows.Laws.{quads_room, nothing_laid, quads_laid}
use Rattle.curves.proofs.rows.lay_quads.Goals as goal

pub returns-then-j-eq0 : goal.returns-then-j-eq0
returns-then-j-eq0 c = nothing_laid (omega arith)

pub write_quads-requires : goal.write_quads-requires
write_quads-requires c = quads_room c.requires (omega arith)

-- each quad has an area, so that none is refused, whichever row it is
pub returns-then-write_quads : goal.returns-then-write_quads
returns-then-write_quads c =
    let w = c.write_quads.ensures in
    quads_laid (omega arith) (sym (w.all_sound c.if-write_quads.true _)) w.out_after

pub returns : goal.returns
returns c = quads_laid (omega arith) c.check_cells.ensures c.write_quads.ensures.out_after
