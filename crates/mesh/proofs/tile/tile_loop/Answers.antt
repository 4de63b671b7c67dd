-- `tile::tile_loop` meets its contract. Assumes nothing.
use Rattle.std.proofs.Common.{◌∙◌}
use Rattle.base.specs.Refusal.{verdict_of}
use Rattle.mesh.proofs.tile.Laws.{too_wide, too_high, in_size}
use Rattle.mesh.proofs.tile.tile_loop.Goals as goal
use Rattle.mesh.proofs.tile.tile_loop.Goals.{
  then-n_u-gt-MAX_CELLS-via-then-n_u-gt-MAX_CELLS as wide,
  then-n_u-gt-MAX_CELLS-via-else-n_u-gt-MAX_CELLS+then-n_v-gt-MAX_CELLS as high,
}

pub returns-then-n_u-gt-MAX_CELLS : goal.returns-then-n_u-gt-MAX_CELLS
unfolding verdict_of
returns-then-n_u-gt-MAX_CELLS c =
    elim c.then-n_u-gt-MAX_CELLS.branch [
      | wide w ↦ too_wide _ _ _ w.if-n_u-gt-MAX_CELLS.true
      | high w ↦ too_high _ _ _ w.if-n_u-gt-MAX_CELLS.false w.if-n_v-gt-MAX_CELLS.true
    ]

pub returns : goal.returns
returns c = c.from_loop.ensures ∙ in_size _ _ _ c.if-n_u-gt-MAX_CELLS.false c.if-n_v-gt-MAX_CELLS.false
