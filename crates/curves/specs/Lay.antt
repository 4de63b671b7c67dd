-- Lay, which "grids one region, given as just one record, from counts, breaks and curves, and answers and writes what `coons_from_parameters` does
-- on its seams". Assumes nothing.
use Rattle.std.specs.Prelude.{not, cond, List, [], ◌∷◌, ℕ, suc, length, get_or, ltb, eqb, Float}
use Rattle.base.specs.declared.verdict.Verdict.{Verdict}
use Rattle.base.specs.Refusal.{passed, refused, then_test, refuse_if}
use Rattle.regions.specs.Region.{places, record_size, side, empty_pair}
use Rattle.floats.specs.Scalar.{nought, one}
use Rattle.base.specs.Lists.{all}
use Rattle.regions.specs.Accept.{limits_test}
use Rattle.curves.specs.Seam.{side_seam}
use Rattle.curves.specs.Grid.{Seams, seams}
use Rattle.curves.specs.Coons.{Outcome, unless, curves_limit, coons_from_parameters}
use Rattle.curves.specs.declared.rows.Layout.TheVariants.{Quads}

-- what lay is lent beside the record and the counts: the breaks of sides 0 to 3, and their curves
pub record TileInput : Type 0 where
  pub breaks0 : List Float
  pub breaks1 : List Float
  pub breaks2 : List Float
  pub breaks3 : List Float
  pub bottom : List Float
  pub right : List Float
  pub top : List Float
  pub left : List Float

abbrev pub tile_input : List Float → List Float → List Float → List Float → List Float → List Float → List Float → List Float → TileInput
tile_input breaks0 breaks1 breaks2 breaks3 bottom right top left = record {
  breaks0 = breaks0;
  breaks1 = breaks1;
  breaks2 = breaks2;
  breaks3 = breaks3;
  bottom = bottom;
  right = right;
  top = top;
  left = left;
}

-- ---- the seams

-- the counts of the edges of a side
abbrev pub counts_along : List ℕ → List ℕ → List ℕ
counts_along counts [] = []
counts_along counts (e ∷ es) = get_or counts e 0 ∷ counts_along counts es

-- 02, item 2: "one cell across: its seams are 0 and 1"
abbrev pub one_cell : List Float
one_cell = nought ∷ one ∷ []

-- the seam of side k of a record: one cell across a pair that is empty on both sides; else "A side with k edges takes k+1 breaks"
unfoldable pub seam_of : List ℕ → List ℕ → ℕ → List Float → List Float
unfolding empty_pair side_seam
seam_of region counts k breaks = cond (empty_pair places region k) one_cell (side_seam breaks (counts_along counts (side places region k)))

-- "Sides 0 and 2 run left to right, 1 and 3 bottom to top"
abbrev pub seams_of : List ℕ → List ℕ → TileInput → Seams
seams_of region counts f =
    seams (seam_of region counts 0 f.breaks0) (seam_of region counts 2 f.breaks2) (seam_of region counts 3 f.breaks3) (seam_of region counts 1 f.breaks1)

-- ---- the tests

-- "just one record"
unfoldable pub record_test : List ℕ → ℕ → Verdict
unfolding limits_test
record_test region n = then_test (refuse_if (not (eqb (length region) (record_size places))) (refused 1 0 0)) (limits_test places n region)

-- "edge number not below the number of ideals (in lay, of counts)": 3 at region 0 and the side
unfoldable pub edges_test : List ℕ → ℕ → ℕ → Verdict
edges_test region n k = refuse_if (not (all (λ (e : ℕ). ltb e n) (side places region k))) (refused 3 0 k)

-- "breaks not edges + 1": 27 at the side; of an empty pair the "breaks are not read, so 27 is not tested there"
unfoldable pub breaks_test : List ℕ → List Float → ℕ → Verdict
unfolding empty_pair
breaks_test region breaks k =
    cond (empty_pair places region k) passed (refuse_if (not (eqb (length breaks) (suc (length (side places region k))))) (refused 27 k 0))

-- "3, 27 (each over sides 0 to 3)"
unfoldable pub sides_test : List ℕ → ℕ → TileInput → Verdict
unfolding edges_test breaks_test
sides_test region n f =
    then_test
    (then_test (edges_test region n 0) (then_test (edges_test region n 1) (then_test (edges_test region n 2) (edges_test region n 3))))
    (then_test (breaks_test region f.breaks0 0)
    (then_test (breaks_test region f.breaks1 1) (then_test (breaks_test region f.breaks2 2) (breaks_test region f.breaks3 3))))

-- "Lay: 1 (record, counts, curves), 3, 27 (..)"; "1 for a seam too long, then geometry" are `coons_from_parameters`'s own
unfoldable pub lay_test : List ℕ → ℕ → TileInput → Verdict
unfolding record_test curves_limit sides_test
lay_test region n f =
    then_test (record_test region n) (then_test (curves_limit f.bottom f.right f.top f.left) (sides_test region n f))

-- ---- lay

unfoldable pub lay : List ℕ → List ℕ → TileInput → List Float → Outcome
unfolding lay_test seam_of coons_from_parameters
lay region counts f out =
    unless (lay_test region (length counts) f) out (coons_from_parameters Quads f.bottom f.right f.top f.left (seams_of region counts f) out)
