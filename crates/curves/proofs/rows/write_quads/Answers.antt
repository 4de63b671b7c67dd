-- `rows::write_quads` meets its contract. Before each turn i quads are written, and if all had an area, the tests of these pass. Assumes nothing.
use Rattle.std.proofs.Common.{◌≡◌, ◌∙◌, refl, sym, ap, true≢false, arith}
use Rattle.base.specs.Tests.{first_of}
use Rattle.curves.specs.inner.Rows.{cell_test, cells_test}
use Rattle.base.proofs.TestLaws.{first_passes}
use Rattle.curves.proofs.rows.Laws.{no_quads, next_quad, quads_done, cell_passes}
use Rattle.curves.proofs.rows.write_quads.Goals as goal
use Rattle.curves.proofs.rows.write_quads.Goals.{then-not-has_area, else-not-has_area}

pub loop-i-init : goal.loop-i-init
unfolding first_of
loop-i-init c = record { quads = no_quads; passes = λ e j. refl }

pub loop-i-preserved : goal.loop-i-preserved
loop-i-preserved c =
    let inv = c.loop-i.invariant in
    record {
      quads = next_quad inv.quads (omega arith) c.cell-quad.ensures c.write_quad.ensures;
      passes = elim c.if-not-has_area.branch [
        | then-not-has_area w ↦ λ e. absurd (true≢false (sym e ∙ w.sound-is))
        | else-not-has_area w ↦ λ e j. first_passes (cell_test _ _ j) c.loop-i.i (inv.passes (sym w.sound-is ∙ e) j)
            (cell_passes _ _ c.loop-i.i j c.cell-quad.ensures (sym c.has_area.ensures ∙ w.if-not-has_area.false))
      ];
    }

pub returns : goal.returns
unfolding cells_test
returns c =
    let l = c.loop-i in
    let a = c.args in
    let e : l.i ≡ a.n = omega arith in
    record {
      all_sound = λ t j. ap (first_of (cell_test a.low.now a.high.now j) 0) (sym e) ∙ l.invariant.passes t j;
      out_after = quads_done l.invariant.quads e;
    }
