-- `search::close_loop` meets its contract, by whether the two ends balance, by the cost, and by what the scan of `home` tells. Assumes nothing.
use mathlib.Core.Path.{sym, ap, ◌∙◌}
use Rattle.counts.specs.declared.search.Changed.TheVariants.{One}
use Rattle.counts.proofs.search.Scan.{the_edge}
use Rattle.counts.proofs.search.TwoSides.{may_read}
use Rattle.counts.proofs.search.Endings.{close_high, close_kept, close_others, close_unbalanced, start_small}
use Rattle.counts.proofs.search.close_loop.Goals as goal

pub balances_with_start-requires : goal.balances_with_start-requires
balances_with_start-requires c = (c.requires.small, start_small c.requires c.wide-start.ensures.0)

pub changed_in-requires : goal.changed_in-requires
changed_in-requires c =
    let p = c.requires in
    record { small = p.small; sides = may_read (p.tables.stands _ p.small p.real); fits = p.fits; path_long = p.path_long }

pub returns-then-edge-start : goal.returns-then-edge-start
unfolding lib.Ieee.of_bits
returns-then-edge-start c =
    close_kept c.requires c.wide-start.ensures.0 c.wide-change.ensures.0 c.balances_with_start.ensures
    c.if-balances_with_start.true
    c.if-cost-state.true c.changed_in.ensures
    (c.in-One.is ∙ ap One c.if-edge-start.true)
    c.keep_path.ensures.0 (c.keep_path.ensures.1 ∙ sym c.requires.best_long)

pub returns-else-edge-start : goal.returns-else-edge-start
returns-else-edge-start c =
    close_others c.requires c.wide-start.ensures.0 c.changed_in.ensures
    (λ q. c.if-edge-start.false (ap the_edge (sym c.in-One.is ∙ q)))

pub returns-in_default : goal.returns-in_default
returns-in_default c =
    close_others c.requires c.wide-start.ensures.0 c.changed_in.ensures
    (c.in_default.not-One _)

pub returns-else-cost-state : goal.returns-else-cost-state
unfolding lib.Ieee.of_bits
returns-else-cost-state c = close_high c.requires c.if-cost-state.false

pub returns-else-balances_with_start : goal.returns-else-balances_with_start
returns-else-balances_with_start c =
    close_unbalanced c.requires c.wide-start.ensures.0 c.wide-change.ensures.0 c.balances_with_start.ensures
    c.if-balances_with_start.false
