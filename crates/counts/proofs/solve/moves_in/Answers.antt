-- `solve::moves_in` meets its contract. Invariant: the rest of the solve from here is the whole solve, and the tables stand for the counts
-- (`Progress`). Measure: the moves that are still allowed. Assumes nothing.
use native.Mathlib.Omega.{arith}
use Rattle.counts.proofs.cost.Laws.{ranges_local}
use Rattle.counts.proofs.augment.Finding.{nothing_known}
use Rattle.counts.proofs.solve.Loop.{solving_starts, still_tested, still_labelled, move_found, move_can, stays_ready}
use Rattle.counts.proofs.solve.Loop.{solve_ends, solve_stops, solve_goes_on}
use Rattle.counts.proofs.solve.moves_in.Goals as goal

pub loop-limit-init : goal.loop-limit-init
loop-limit-init c =
    let sizes = c.requires.sizes in
    let known = nothing_known sizes.kept_long sizes.cut_long c.start_tables.ensures.nothing_known in
    solving_starts c.requires.moves.zeros c.requires.buffers (record { priced = c.start_tables.ensures.priced; remembered = known })

pub find_augmentation-found-requires : goal.find_augmentation-found-requires
find_augmentation-found-requires c =
    let so_far = c.loop-limit.invariant in
    let t = still_tested so_far c.requires.moves.round in
    record { tables = t.input.tables; few = t.input.few; buffers = so_far.buffers; remembered = so_far.ready.remembered }

pub returns-then-len-eq0 : goal.returns-then-len-eq0
returns-then-len-eq0 c =
    let so_far = c.loop-limit.invariant in
    let t = still_tested so_far c.requires.moves.round in
    let found = move_found t so_far.ready.priced c.find_augmentation-found.ensures c.wide_len-len.ensures in
    solve_ends so_far found c.if-len-eq0.true

pub returns-then-moves-eq-MAX_AUGMENTATIONS : goal.returns-then-moves-eq-MAX_AUGMENTATIONS
returns-then-moves-eq-MAX_AUGMENTATIONS c =
    let so_far = c.loop-limit.invariant in
    let t = still_tested so_far c.requires.moves.round in
    let found = move_found t so_far.ready.priced c.find_augmentation-found.ensures c.wide_len-len.ensures in
    solve_stops so_far found c.if-len-eq0.false c.if-moves-eq-MAX_AUGMENTATIONS.true

pub make_move-requires : goal.make_move-requires
make_move-requires c =
    let so_far = c.loop-limit.invariant in
    let t = still_tested so_far c.requires.moves.round in
    let priced = so_far.ready.priced in
    let found = move_found t priced c.find_augmentation-found.ensures c.wide_len-len.ensures in
    record {
      apply = move_can found t;
      some = omega (arith, c.if-len-eq0.false);
      refresh =
          record {
            sizes =
                record {
                  few = t.input.few;
                  least_long = t.input.least_long;
                  most_long = t.input.most_long;
                  costs_long = priced.costs_long;
                  allowed_long = priced.allowed_long;
                };
            known_long = c.find_augmentation-found.ensures.remembered.known_long;
          };
    }

pub loop-limit-preserved : goal.loop-limit-preserved
loop-limit-preserved c =
    let so_far = c.loop-limit.invariant in
    let t = still_tested so_far c.requires.moves.round in
    let f = c.find_augmentation-found.ensures in
    let found = move_found t so_far.ready.priced f c.wide_len-len.ensures in
    let moved = c.make_move.ensures in
    let ready = stays_ready found (ranges_local c.args.ranges.least.now c.args.ranges.most.now) t (still_labelled so_far c.requires.labelled)
    (record { priced = so_far.ready.priced; remembered = f.remembered }) c.if-len-eq0.false moved.made moved.refreshed in
    solve_goes_on so_far found t c.if-len-eq0.false c.if-moves-eq-MAX_AUGMENTATIONS.false moved.made f.buffers ready
