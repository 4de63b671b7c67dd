-- `juplatsk_round_within` meets its contract. Assumes nothing.
use mathlib.Core.Path.{ap, ◌∙◌}
use Rattle.counts.specs.Cost.{within}
use Rattle.counts.specs.Solver.{expansions, round}
use Rattle.std.specs.Prelude.{Option, ℕ}
use Rattle.juplatsk.proofs.Laws.{round_exported}
use Rattle.juplatsk.proofs.juplatsk_round_within.Goals as goal

pub returns : goal.returns
returns c =
    let s = c.args in
    let made = c.round_within-made in
    round_exported made.result c.store_round.ensures
    (made.ensures ∙ ap (λ (limit : Option ℕ). round s.regions.now (within s.least.now s.most.now) s.counts.now (expansions limit))
    c.search_limit-limit.ensures)
