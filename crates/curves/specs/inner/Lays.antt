-- What lay's functions ask and tell of one side: the counts of its edges, and its seam. Assumes nothing.
use Rattle.std.specs.Prelude.{◌≡◌, List, ℕ, ◌*◌, ◌<◌, ◌≤◌, T, ltb, length, take, Float}
use Rattle.std.specs.Borrow.{Bor}
use Rattle.base.specs.Lists.{all}
use Rattle.base.specs.Refusal.{is_passed}
use Rattle.base.specs.Buffers.{splice}
use Rattle.regions.specs.Region.{places, side, side_sum}
use Rattle.curves.specs.Seam.{side_seam}
use Rattle.curves.specs.Lay.{TileInput, tile_input, counts_along, seam_of, edges_test, breaks_test}
use Rattle.curves.specs.Limits.{max_seam}
use Rattle.curves.specs.declared.sides.Sides.{Sides}

-- one break more than edges, and room for the seam of these counts
pub record SeamGiven (breaks : List Float) (counts : List ℕ) (out : List Float) : Type 0 where
  pub breaks_more : length counts < length breaks
  pub room : length (side_seam breaks counts) ≤ length out

-- few edges, each with a count, and room for these
pub record EdgesGiven (edges counts out : List ℕ) : Type 0 where
  pub few : length edges ≤ places
  pub counted : T (all (λ (e : ℕ). ltb e (length counts)) edges)
  pub room : length edges ≤ length out

-- the counts of a side's edges are written, and what they add up to is answered: each is below 2^32
pub record Counted (edges counts before after : List ℕ) (total : ℕ) : Type 0 where
  pub sum : total ≡ side_sum counts edges
  pub small : total ≤ places * 4294967295
  pub written : after ≡ splice before 0 (counts_along counts edges)

-- what the tests let by of side k, with n counts
pub record SidePassed (region : List ℕ) (n k : ℕ) (breaks : List Float) : Type 0 where
  pub few : length (side places region k) ≤ places
  pub edges_known : T (is_passed (edges_test region n k))
  pub breaks_fit : T (is_passed (breaks_test region breaks k))

-- such a side, and room for the longest seam
pub record SideGiven (region counts : List ℕ) (k : ℕ) (breaks out : List Float) : Type 0 where
  pub passed : SidePassed region (length counts) k breaks
  pub room : max_seam ≤ length out

-- how long the seam of side k is, and that it is written unless that is too long
pub record SideLaid (region counts : List ℕ) (k : ℕ) (breaks after : List Float) (n : ℕ) : Type 0 where
  pub long : n ≡ length (seam_of region counts k breaks)
  pub written : n ≤ max_seam → take n after ≡ seam_of region counts k breaks

-- the lengths of four seams are within the limit
pub record FourShort (lengths : Sides ℕ) : Type 0 where
  pub bottom_short : lengths.bottom ≤ max_seam
  pub top_short : lengths.top ≤ max_seam
  pub left_short : lengths.left ≤ max_seam
  pub right_short : lengths.right ≤ max_seam

-- the breaks and the curves that are lent
abbrev pub lent_input : Sides (Bor (List Float)) → Sides (Bor (List Float)) → TileInput
lent_input b c = tile_input b.bottom.now b.right.now b.top.now b.left.now c.bottom.now c.right.now c.top.now c.left.now
