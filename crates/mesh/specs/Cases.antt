-- 01's bench cases: what is asked, and what is answered and left, whole. A to F and H to L are those that 01 wants proved together; G, which runs, is among them too,
-- and so are a few of 02's. Assumes nothing.
use Rattle.std.specs.Prelude.{◌≡◌, true, false, List, Option, Some, None, [], ◌∷◌, ◌++◌, ℕ, ◌+◌, ◌*◌, length, replicate, negsuc, Float}
use Rattle.std.specs.Float.{nan, fin, binary64}
use Rattle.std.specs.Float.Ieee.{of_bits}
use Rattle.base.specs.Refusal.{passed, refused}
use Rattle.regions.specs.Written.{region, alone}
use Rattle.counts.specs.Cost.{real, Spacing, by, within}
use Rattle.counts.specs.Solver.{none, made, expansions, Round, round, Solve, solve}
use Rattle.counts.specs.Values.{max_limit}
use Rattle.floats.specs.Scalar.{nought, half, one}
use Rattle.base.specs.Buffers.{tabulate}
use Rattle.base.specs.Answers.{Answer, good}
use Rattle.floats.specs.Root.{root_answer}
use Rattle.curves.specs.Point.{signed_area}
use Rattle.curves.specs.Curve.{point_at}
use Rattle.curves.specs.Grid.{Seams, seams}
use Rattle.curves.specs.Coons.{Outcome, coons_seamed, coons_quads}
use Rattle.curves.specs.Lay.{tile_input, lay}

-- ---- what a case says

-- the curves of a tile, counter-clockwise from its bottom
pub record Tile : Type 0 where
  pub bottom : List Float
  pub right : List Float
  pub top : List Float
  pub left : List Float

-- the breaks of its sides, in the same order
pub record Breaks : Type 0 where
  pub bottom : List Float
  pub right : List Float
  pub top : List Float
  pub left : List Float

pub data Case : Type 0 where
  -- regions, ideals of either kind, counts lent, limit
  solved : List ℕ → Spacing → List ℕ → Option ℕ → Solve → Case
  moved : List ℕ → Spacing → List ℕ → Option ℕ → Round → Case
  -- n_u, n_v, output lent
  gridded : Tile → ℕ → ℕ → List Float → Outcome → Case
  -- output lent
  seamed : Tile → Seams → List Float → Outcome → Case
  -- record, counts, breaks, output lent
  laid : Tile → List ℕ → List ℕ → Breaks → List Float → Outcome → Case
  -- the areas of the first quads of an output
  measured : List Float → ℕ → List Float → Case
  rooted : Float → Answer Float → Case

-- the areas of n quads that an output begins with
unfoldable pub areas : List Float → ℕ → List Float
unfolding signed_area
areas out n = tabulate (λ (k : ℕ). signed_area (point_at out (4 * k)) (point_at out (4 * k + 1)) (point_at out (4 * k + 2)) (point_at out (4 * k + 3))) 0 n

abbrev pub Holds : Case → Type 0
Holds (solved regions spacing lent limit o) = solve regions spacing lent (expansions limit) ≡ o
Holds (moved regions spacing counts limit o) = round regions spacing counts (expansions limit) ≡ o
Holds (gridded t n m lent o) = coons_quads t.bottom t.right t.top t.left n m lent ≡ o
Holds (seamed t s lent o) = coons_seamed t.bottom t.right t.top t.left s lent ≡ o
Holds (laid t region counts b lent o) =
    lay region counts (tile_input b.bottom b.right b.top b.left t.bottom t.right t.top t.left) lent ≡ o
Holds (measured out n o) = areas out n ≡ o
Holds (rooted x o) = root_answer x ≡ o

abbrev pub All_hold : List Case → Type 0
All_hold [] = Unit
All_hold (c ∷ cs) = Holds c × All_hold cs

-- ---- A to G: one count more is lent than is needed; 02: "Callers that relied on the old value state it themselves (..) and the bench table"

abbrev pub old_limit : Option ℕ
old_limit = Some 100000

abbrev pub reals : List ℕ → List Float
reals [] = []
reals (n ∷ ns) = real n ∷ reals ns

abbrev pub lent_counts : ℕ → List ℕ
lent_counts n = replicate n 9 ++ 7 ∷ []

abbrev pub solves_to : List ℕ → List ℕ → ℕ → List ℕ → Case
solves_to regions ideals moves counts =
    solved regions (by (reals ideals)) (lent_counts (length ideals)) old_limit (record { verdict = passed; moves = moves; counts = counts ++ 7 ∷ [] })

abbrev pub case_A : Case
case_A =
    solves_to (region (alone 0) (alone 1) (alone 2) (alone 3) ++ region (alone 4) (alone 5) (alone 6) (alone 1)) (4 ∷ 2 ∷ 4 ∷ 2 ∷ 2 ∷ 2 ∷ 2 ∷ [])
    8 (4 ∷ 2 ∷ 4 ∷ 2 ∷ 2 ∷ 2 ∷ 2 ∷ [])

abbrev pub case_B : Case
case_B = solves_to (region (alone 0) (alone 1) (alone 2) (alone 3)) (5 ∷ 3 ∷ 1 ∷ 3 ∷ []) 4 (1 ∷ 3 ∷ 1 ∷ 3 ∷ [])

abbrev pub case_C : Case
case_C = solves_to (region (alone 0) (alone 1) (2 ∷ 3 ∷ []) (alone 4)) (4 ∷ 1 ∷ 2 ∷ 2 ∷ 1 ∷ []) 5 (4 ∷ 1 ∷ 2 ∷ 2 ∷ 1 ∷ [])

abbrev pub case_D : Case
case_D = solves_to [] [] 0 []

abbrev pub case_E : Case
case_E = solves_to (region (alone 0) [] [] []) (alone 3) 0 (alone 0)

abbrev pub case_F : Case
case_F = solves_to (region (alone 0) [] (alone 1) [] ++ region (alone 0) [] (alone 1) []) (1 ∷ 1 ∷ []) 1 (1 ∷ 1 ∷ [])

abbrev pub case_G : Case
case_G =
    solved (region (alone 0) (alone 1) (alone 0) (alone 2)) (by (reals (1 ∷ 1 ∷ 1 ∷ []))) (lent_counts 3) old_limit
    (record { verdict = refused 5 0 0; moves = 0; counts = lent_counts 3 })

-- ---- the unit square, and 32 values for 2 by 2 quads, one more lent than is needed

abbrev pub square : Tile
square = record {
  bottom = nought ∷ nought ∷ one ∷ nought ∷ [];
  right = one ∷ nought ∷ one ∷ one ∷ [];
  top = one ∷ one ∷ nought ∷ one ∷ [];
  left = nought ∷ one ∷ nought ∷ nought ∷ [];
}

-- from the same corner the other way round
abbrev pub clockwise : Tile
clockwise = record {
  bottom = nought ∷ nought ∷ nought ∷ one ∷ [];
  right = nought ∷ one ∷ one ∷ one ∷ [];
  top = one ∷ one ∷ one ∷ nought ∷ [];
  left = one ∷ nought ∷ nought ∷ nought ∷ [];
}

abbrev pub lent : List Float
lent = replicate 33 nan

-- ---- H: "unit square, 2 by 2: four quads of area 0.25"

-- its four quads, row by row
abbrev pub quarters : List Float
quarters =
    nought ∷ nought ∷ half ∷ nought ∷ half ∷ half ∷ nought ∷ half
    ∷ half ∷ nought ∷ one ∷ nought ∷ one ∷ half ∷ half ∷ half
    ∷ nought ∷ half ∷ half ∷ half ∷ half ∷ one ∷ nought ∷ one
    ∷ half ∷ half ∷ one ∷ half ∷ one ∷ one ∷ half ∷ one ∷ []

abbrev pub case_H : Case
case_H = gridded square 2 2 lent (record { verdict = passed; quads = 4; out = quarters ++ nan ∷ [] })

-- 0.25
abbrev pub one_quarter : Float
one_quarter = of_bits binary64 0x3fd0_0000_0000_0000

abbrev pub areas_H : Case
areas_H = measured quarters 4 (one_quarter ∷ one_quarter ∷ one_quarter ∷ one_quarter ∷ [])

-- ---- I: "the square clockwise: 17"

abbrev pub case_I : Case
case_I = gridded clockwise 2 2 lent (record { verdict = refused 17 0 0; quads = 0; out = lent })

-- ---- J: "bottom and left 0 0 1, top and right 0 1 1, on the square: 23 at (1,1)"

abbrev pub early : List Float
early = nought ∷ nought ∷ one ∷ []

abbrev pub late : List Float
late = nought ∷ one ∷ one ∷ []

abbrev pub case_J : Case
case_J = seamed square (seams early late early late) lent (record { verdict = refused 23 1 1; quads = 0; out = replicate 32 nought ++ nan ∷ [] })

-- ---- K: "a round from count 0 on a free edge (no region) with ideal 1, limit 0: unchanged and cut; limit 1: count 1, not cut"

abbrev pub case_K_turned_back : Case
case_K_turned_back = moved [] (by (real 1 ∷ [])) (0 ∷ []) (Some 0) (record { verdict = passed; move = none; cut = true; counts = 0 ∷ [] })

-- the move costs -1
abbrev pub minus_one : Float
minus_one = of_bits binary64 0xbff0_0000_0000_0000

abbrev pub case_K_made : Case
case_K_made = moved [] (by (real 1 ∷ [])) (0 ∷ []) (Some 1) (record { verdict = passed; move = made minus_one; cut = false; counts = 1 ∷ [] })

-- ---- L: "root of 2^-1074 is 2^-537"; `negsuc n` is -(n + 1)

abbrev pub case_L : Case
case_L = rooted (fin false 1 (negsuc 1073)) (good (fin false 1 (negsuc 536)))

-- ---- 02, "Spacing given as a range"

abbrev pub from_to : List ℕ → List ℕ → Spacing
from_to least most = within (reals least) (reals most)

-- "An edge costs nothing while its count lies from least to most": a free edge from 2 to 5 gets 2
abbrev pub case_least_met : Case
case_least_met = solved [] (from_to (2 ∷ []) (5 ∷ [])) (lent_counts 1) None (record { verdict = passed; moves = 2; counts = 2 ∷ 7 ∷ [] })

-- bottom 3 to 5 and top 1 to 3, right 1 to 2 and left 2 to 4: both pairs meet where the ranges do
abbrev pub case_ranges_meet : Case
case_ranges_meet =
    solved (region (alone 0) (alone 1) (alone 2) (alone 3)) (from_to (3 ∷ 1 ∷ 1 ∷ 2 ∷ []) (5 ∷ 2 ∷ 3 ∷ 4 ∷ [])) (lent_counts 4) None
    (record { verdict = passed; moves = 5; counts = 3 ∷ 2 ∷ 3 ∷ 2 ∷ 7 ∷ [] })

-- inside its range an edge is left alone
abbrev pub case_inside : Case
case_inside = moved [] (from_to (2 ∷ []) (5 ∷ [])) (4 ∷ []) (Some 1) (record { verdict = passed; move = none; cut = false; counts = 4 ∷ [] })

-- "A least above its most is refused (..) under 35, with the lowest edge"
abbrev pub case_reversed : Case
case_reversed =
    solved [] (from_to (1 ∷ 3 ∷ 3 ∷ []) (1 ∷ 2 ∷ 2 ∷ [])) (lent_counts 3) None (record { verdict = refused 35 1 0; moves = 0; counts = lent_counts 3 })

-- ---- 02, "Longer hedges": "A side now has 32 places, so a region record is 132 numbers of 16 bits"

-- the edges 0 to 31 along the bottom, 32 opposite them
abbrev pub long_hedge : List ℕ
long_hedge = region (tabulate (λ (edge : ℕ). edge) 0 32) [] (alone 32) []

-- -(1 + 2^-10)
abbrev pub last_cost : Float
last_cost = of_bits binary64 0xbff0_0400_0000_0000

-- the last place is read as the others are: only edge 31 has a piece too few, and gets it with the edge opposite; two entries a search are enough for that
abbrev pub case_last_place : Case
case_last_place =
    moved long_hedge (by (reals (replicate 32 1 ++ 32 ∷ []))) (replicate 31 1 ++ 0 ∷ 31 ∷ []) (Some 2)
    (record { verdict = passed; move = made last_cost; cut = true; counts = replicate 32 1 ++ 32 ∷ [] })

-- "broken": a round on regions that are not let by
abbrev pub turned_away : List ℕ → Case
turned_away regions = moved regions (by (real 1 ∷ [])) (0 ∷ []) (Some 1) (record { verdict = refused 1 0 0; move = none; cut = false; counts = 0 ∷ [] })

abbrev pub case_side_of_33 : Case
case_side_of_33 = turned_away (33 ∷ replicate 131 0)

-- a record of 01, with 16 places on a side
abbrev pub case_record_of_68 : Case
case_record_of_68 = turned_away (replicate 68 0)

-- ---- 02, "A lower search limit unless stated"

-- an edge that wants one piece, counts 9 and 7 lent
abbrev pub free_edge : Option ℕ → Solve → Case
free_edge limit o = solved [] (by (real 1 ∷ [])) (lent_counts 1) limit o

abbrev pub case_unstated : Case
case_unstated = free_edge None (record { verdict = passed; moves = 1; counts = 1 ∷ 7 ∷ [] })

-- 0 is a limit, and not none: each search is turned back at once
abbrev pub case_limit_0 : Case
case_limit_0 = free_edge (Some 0) (record { verdict = passed; moves = 0; counts = 0 ∷ 7 ∷ [] })

-- "tested as a round's"
abbrev pub case_limit_over : Case
case_limit_over = free_edge (Some (max_limit + 1)) (record { verdict = refused 10 0 0; moves = 0; counts = lent_counts 1 })

-- ---- 02, "A strip with no marked edges"

abbrev pub whole_side : List Float
whole_side = nought ∷ one ∷ []

abbrev pub nan_breaks : ℕ → List Float
nan_breaks n = replicate n nan

-- "a side pair that is empty on both sides means one cell across (..) its breaks are not read": two quads between right and left
abbrev pub case_strip : Case
case_strip =
    laid square (region [] (alone 0) [] (alone 1)) (2 ∷ 2 ∷ []) (record { bottom = []; right = whole_side; top = nan_breaks 3; left = whole_side })
    (replicate 17 nan) (record {
      verdict = passed;
      quads = 2;
      out =
          nought ∷ nought ∷ one ∷ nought ∷ one ∷ half ∷ nought ∷ half
          ∷ nought ∷ half ∷ one ∷ half ∷ one ∷ one ∷ nought ∷ one ∷ nan ∷ [];
    })

-- both pairs are empty: the square itself
abbrev pub case_no_edges : Case
case_no_edges =
    laid square (region [] [] [] []) [] (record { bottom = nan_breaks 1; right = []; top = nan_breaks 2; left = one ∷ nought ∷ [] }) (replicate 9 nan)
    (record { verdict = passed; quads = 1; out = nought ∷ nought ∷ one ∷ nought ∷ one ∷ one ∷ nought ∷ one ∷ nan ∷ [] })

-- "One empty side opposite a side with edges is treated as before": 27 first, then 18
abbrev pub half_empty : List Float → Outcome → Case
half_empty bottom o =
    laid square (region [] (alone 0) (alone 0) (alone 0)) (1 ∷ []) (record { bottom = bottom; right = whole_side; top = whole_side; left = whole_side })
    (replicate 8 nan) o

abbrev pub case_empty_alone_27 : Case
case_empty_alone_27 = half_empty [] (record { verdict = refused 27 0 0; quads = 0; out = replicate 8 nan })

abbrev pub case_empty_alone_18 : Case
case_empty_alone_18 = half_empty (nought ∷ []) (record { verdict = refused 18 0 0; quads = 0; out = replicate 8 nan })

abbrev pub bench : List Case
bench =
    case_A ∷ case_B ∷ case_C ∷ case_D ∷ case_E ∷ case_F ∷ case_G
    ∷ case_H ∷ areas_H ∷ case_I ∷ case_J ∷ case_K_turned_back ∷ case_K_made ∷ case_L
    ∷ case_least_met ∷ case_ranges_meet ∷ case_inside ∷ case_reversed
    ∷ case_last_place ∷ case_side_of_33 ∷ case_record_of_68
    ∷ case_unstated ∷ case_limit_0 ∷ case_limit_over
    ∷ case_strip ∷ case_no_edges ∷ case_empty_alone_27 ∷ case_empty_alone_18 ∷ []
