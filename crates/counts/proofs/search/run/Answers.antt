-- `search::run` meets its contract: the crossings go on from what the entry leaves. Assumes nothing.
use mathlib.Core.Path.{subst}
use Rattle.counts.specs.declared.search.SearchState.{SearchState}
use Rattle.counts.specs.inner.SearchContract.{Entered}
use Rattle.counts.proofs.search.Start.{searched}
use Rattle.counts.proofs.search.run.Goals as goal

pub returns : goal.returns
returns c =
    let a = c.args in
    let n = c.enter.new in
    searched c.requires
    (subst (λ (st : SearchState). Entered a.incident.now a.costs.now a.limit a.start a.path.now a.best.now st n.path n.best n.state) c.fresh-state.ensures c.enter.ensures)
    c.cross.ensures
