-- `regions::accept::has_shared_edge` meets its contract. The loop's invariant: a shared edge stands in a just if one stands there from here on. Assumes nothing.
use Rattle.std.proofs.Common.{◌∙◌, sym, ℕ}
use Rattle.base.specs.Lists.{member}
use Rattle.base.proofs.Turns.{any_here, any_next, any_end, contains_is}
use Rattle.regions.proofs.accept.has_shared_edge.Goals as goal

pub returns-then-contains : goal.returns-then-contains
returns-then-contains c =
    let b = c.args.b.now in
    sym (c.loop-e.invariant ∙ any_here c.args.a.now 0 c.loop-e.e-index (λ (e : ℕ). member e b) c.loop-e-test.true
    (sym (contains_is _ b) ∙ sym c.contains.ensures.value ∙ c.if-contains.true))

pub loop-e-preserved : goal.loop-e-preserved
loop-e-preserved c =
    let b = c.args.b.now in
    c.loop-e.invariant ∙ any_next c.args.a.now 0 c.loop-e.e-index (λ (e : ℕ). member e b) c.loop-e-test.true
    (sym (contains_is _ b) ∙ sym c.contains.ensures.value ∙ c.if-contains.false)

pub returns : goal.returns
returns c = sym (c.loop-e.invariant ∙ any_end c.args.a.now 0 c.loop-e.e-index (λ (e : ℕ). member e c.args.b.now) c.loop-e-test.false)
