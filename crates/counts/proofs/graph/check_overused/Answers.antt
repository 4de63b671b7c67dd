-- `check_overused` meets its contract. The loop's invariant: the test from edge 0 on is the test from edge e on. The measure is what is left of
-- the edges. Assumes nothing.
use mathlib.Core.Path.{◌≡◌, sym, ap, subst, ◌∙◌}
use Prim.Native.Nat.{ℕ, ◌-◌, ◌≤◌, ◌<◌}
use native.Mathlib.Omega.{arith}
use Rattle.regions.specs.Accept.{overused_test}
use Rattle.counts.proofs.graph.Built.{overused_here, overused_next, overused_done}
use Rattle.counts.proofs.graph.check_overused.Goals as goal

pub loop-e-init : goal.loop-e-init
loop-e-init c = λ g h. let q : c.args.n ≡ c.args.n - 0 = omega arith in ap (overused_test g 0) q

pub returns-then-uses-e-gt2 : goal.returns-then-uses-e-gt2
returns-then-uses-e-gt2 c = λ g h. sym (c.loop-e.invariant g h
    ∙ overused_here g c.loop-e-test.true
    (subst (λ (k : ℕ). 2 < k) (h _ c.loop-e-test.true) c.if-uses-e-gt2.true))

pub loop-e-preserved : goal.loop-e-preserved
loop-e-preserved c = λ g h. c.loop-e.invariant g h
    ∙ overused_next g c.loop-e-test.true
    (subst (λ (k : ℕ). k ≤ 2) (h _ c.loop-e-test.true) (let l = c.if-uses-e-gt2.false in omega (arith, l)))

pub returns : goal.returns
returns c = λ g h. sym (c.loop-e.invariant g h ∙ overused_done g (let l = c.loop-e-test.false in omega (arith, l)))
