-- `lay::counts_along` meets its contract. Before each turn the counts of the edges passed are written, and their sum, with that of the edges left, is
-- the whole sum; it is at most 2^32 - 1 for each edge passed, so that 64 bits hold it. Assumes nothing.
use Rattle.std.proofs.Common.{◌≡◌, ap, ℕ, ◌+◌, get_or, drop, drop_of_length-le, arith}
use Rattle.regions.specs.Region.{side_sum}
use Rattle.base.proofs.Turns.{drop_at}
use Rattle.curves.proofs.lay.Laws.{along_more, along_done}
use Rattle.curves.proofs.lay.counts_along.Goals as goal

pub loop-i-preserved : goal.loop-i-preserved
loop-i-preserved c =
    let ns = c.args.counts.now in
    let es = c.args.edges.now in
    let l = c.loop-i in
    let count : get_or ns c.from.result 0 ≡ get_or ns (get_or es l.i 0) 0 = ap (λ (e : ℕ). get_or ns e 0) c.from.ensures in
    let q : side_sum ns (drop l.i es) ≡ get_or ns (get_or es l.i 0) 0 + side_sum ns (drop (l.i + 1) es) =
    ap (side_sum ns) (drop_at es 0 l.i c.loop-i-test.true) in
    record {
      small = omega (arith, c.type_inv.counts c.from.result, l.invariant.small);
      sum = omega (arith, q, count, l.invariant.sum);
      written = along_more ns es _ l.i l.invariant.written c.loop-i-test.true c.requires.room l.auto.out count;
    }

pub returns : goal.returns
returns c =
    let over = c.loop-i-test.false in
    let ns = c.args.counts.now in
    let es = c.args.edges.now in
    let l = c.loop-i in
    let q : side_sum ns (drop l.i es) ≡ 0 = ap (side_sum ns) (drop_of_length-le es over) in
    record { sum = omega (arith, q, l.invariant.sum); small = omega arith; written = along_done ns es _ l.i l.invariant.written over }
