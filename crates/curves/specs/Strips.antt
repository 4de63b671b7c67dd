-- 02, item 2, "A strip with no marked edges", as claims on lay beside its definition (specs/Lay); that it is never refused with 22 is demand 3's own
-- claim (specs/Demand). proofs/Strips has the theorems. Assumes nothing.
use Rattle.std.specs.Prelude.{◌≡◌, true, false, List, ℕ, Float}
use Rattle.regions.specs.Region.{places, side, side_sum, empty_pair}
use Rattle.curves.specs.Lay.{TileInput, tile_input}

-- ---- "its breaks are not read"

-- the same curves with other breaks
abbrev pub with_breaks : TileInput → List Float → List Float → List Float → List Float → TileInput
with_breaks f breaks0 breaks1 breaks2 breaks3 = tile_input breaks0 breaks1 breaks2 breaks3 f.bottom f.right f.top f.left

-- other breaks, which are those of before on each side whose pair is not empty; those of an empty pair may be any
pub record ReadAlike (region : List ℕ) (f : TileInput) (breaks0 breaks1 breaks2 breaks3 : List Float) : Type 0 where
  pub bottom : empty_pair places region 0 ≡ false → breaks0 ≡ f.breaks0
  pub right : empty_pair places region 1 ≡ false → breaks1 ≡ f.breaks1
  pub top : empty_pair places region 2 ≡ false → breaks2 ≡ f.breaks2
  pub left : empty_pair places region 3 ≡ false → breaks3 ≡ f.breaks3

-- ---- "one cell across"

-- how many quads there are where lay answers some: along a strip as many as its long sides add up to, and one where no side has edges. Side 0 speaks
-- for the pair of bottom and top, side 3 for that of left and right: lay refuses with 22 where opposite sides come to different seams.
pub record StripQuads (region counts : List ℕ) (quads : ℕ) : Type 0 where
  pub bottom_top_empty : empty_pair places region 0 ≡ true → empty_pair places region 3 ≡ false → quads ≡ side_sum counts (side places region 3)
  pub left_right_empty : empty_pair places region 3 ≡ true → empty_pair places region 0 ≡ false → quads ≡ side_sum counts (side places region 0)
  pub all_empty : empty_pair places region 0 ≡ true → empty_pair places region 3 ≡ true → quads ≡ 1
