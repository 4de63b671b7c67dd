-- `counts::cost::total_energy` meets its contract. The loop's invariant: the sum so far, carried on over what is left, is the whole sum.
-- Assumes nothing.
use mathlib.Core.Path.{◌≡◌, sym, ap, ◌∙◌}
use Prim.Native.Nat.{◌+◌}
use native.Mathlib.Omega.{arith}
use lib.ListN.{get_or, drop}
use lib.Ieee.{Float, nan, add, binary64}
use Rattle.counts.specs.Cost.{real, deviation, square, energy_from}
use Rattle.counts.proofs.cost.Laws.{energy_turn, energy_end}
use Rattle.counts.proofs.cost.total_energy.Goals as goal

pub loop-e-preserved : goal.loop-e-preserved
loop-e-preserved c =
    let s = c.args in
    let xs = s.counts.now in
    let ys = s.ideals.now in
    let e = c.loop-e.e in
    let d : c.square-total.result ≡ square (deviation (real (get_or xs e 0)) (get_or ys e nan)) = c.square-total.ensures
    ∙ ap square c.deviation.ensures in
    c.loop-e.invariant
    ∙ energy_turn xs ys nan c.loop-e.total e (omega arith) (omega arith)
    ∙ ap (λ (x : Float). energy_from (add binary64 c.loop-e.total x) (drop (e + 1) xs) (drop (e + 1) ys)) (sym d)

pub returns : goal.returns
returns c =
    let s = c.args in
    let xs = s.counts.now in
    let ys = s.ideals.now in
    let e = c.loop-e.e in
    sym (c.loop-e.invariant ∙ energy_end xs (drop e ys) c.loop-e.total e c.loop-e-test.false)
