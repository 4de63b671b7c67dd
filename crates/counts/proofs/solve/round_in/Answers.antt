-- `solve::round_in` meets its contract, by whether a move was found. Assumes nothing.
use Rattle.counts.proofs.augment.Finding.{nothing_known}
use Rattle.counts.proofs.solve.Loop.{move_found, round_idle, round_moved, move_can}
use Rattle.counts.proofs.solve.round_in.Goals as goal

pub find_augmentation-found-requires : goal.find_augmentation-found-requires
find_augmentation-found-requires c =
    let sizes = c.requires.sizes in
    record {
      tables = c.requires.round.input.tables;
      few = c.requires.round.input.few;
      buffers = c.requires.buffers;
      remembered = nothing_known sizes.kept_long sizes.cut_long c.start_tables.ensures.nothing_known;
    }

pub returns-then-len-eq0 : goal.returns-then-len-eq0
returns-then-len-eq0 c =
    let found = move_found c.requires.round c.start_tables.ensures.priced c.find_augmentation-found.ensures
    c.wide_len-len.ensures in
    round_idle found c.if-len-eq0.true

pub apply_changes-requires : goal.apply_changes-requires
apply_changes-requires c =
    let found = move_found c.requires.round c.start_tables.ensures.priced c.find_augmentation-found.ensures
    c.wide_len-len.ensures in
    move_can found c.requires.round

pub returns : goal.returns
returns c =
    let found = move_found c.requires.round c.start_tables.ensures.priced c.find_augmentation-found.ensures
    c.wide_len-len.ensures in
    round_moved found c.if-len-eq0.false c.apply_changes.ensures
