-- Odd unit moves, and lists of changes that come near to one and are none, on small accepted lists of regions: what 01's definition of a unit
-- move says at its edges. Assumes nothing.
use Rattle.std.specs.Prelude.{true, false, List, [], ◌∷◌, ◌++◌, ℕ, length, replicate, T}
use Rattle.regions.specs.Region.{places, graph}
use Rattle.regions.specs.Written.{region, alone}
use Rattle.regions.specs.Accept.{accepted}
use Rattle.counts.specs.Move.{Change, UnitMove}

-- ---- what a case says

-- regions, counts, changes
pub data OddMove : Type 0 where
  is_move : List ℕ → List ℕ → List Change → OddMove
  no_move : List ℕ → List ℕ → List Change → OddMove

-- the regions are accepted with these counts, and the changes are a unit move on them, or are none
abbrev pub AsSaid : OddMove → Type 0
AsSaid (is_move regions counts r) = T (accepted places (length counts) regions) × UnitMove (graph places regions) counts r
AsSaid (no_move regions counts r) = T (accepted places (length counts) regions) × (¬ UnitMove (graph places regions) counts r)

-- ---- how a case is written

-- a region with one pair of sides
abbrev pub opposite : List ℕ → List ℕ → List ℕ
opposite bottom top = region bottom [] top []

abbrev pub up : ℕ → Change
up edge = (edge, true)

abbrev pub down : ℕ → Change
down edge = (edge, false)

abbrev pub zeros : ℕ → List ℕ
zeros n = replicate n 0

-- ---- the cases

-- two edges that are opposite in two constraints, a loop of two
abbrev pub loop_of_two : OddMove
loop_of_two = is_move (opposite (alone 0) (alone 1) ++ opposite (alone 0) (alone 1)) (zeros 2) (up 0 ∷ up 1 ∷ [])

-- two edges that are opposite in one constraint and on one side of another: like signs fit the first of them alone
abbrev pub like_signs_fit_one : OddMove
like_signs_fit_one = no_move (opposite (alone 0) (alone 1) ++ opposite (0 ∷ 1 ∷ []) []) (1 ∷ 1 ∷ []) (up 0 ∷ up 1 ∷ [])

-- and unlike signs the second alone
abbrev pub unlike_signs_fit_one : OddMove
unlike_signs_fit_one = no_move (opposite (alone 0) (alone 1) ++ opposite (0 ∷ 1 ∷ []) []) (1 ∷ 1 ∷ []) (up 0 ∷ down 1 ∷ [])

-- an edge in both constraints of one region, with one edge opposite in each
abbrev pub in_both_constraints : OddMove
in_both_constraints = is_move (region (alone 0) (alone 0) (alone 1) (alone 2)) (zeros 3) (up 1 ∷ up 0 ∷ up 2 ∷ [])

-- the same, one of its constraints left alone with it
abbrev pub in_one_of_both : OddMove
in_one_of_both = no_move (region (alone 0) (alone 0) (alone 1) (alone 2)) (zeros 3) (up 0 ∷ up 1 ∷ [])

-- both changed edges on one side, one up and one down
abbrev pub on_one_side : OddMove
on_one_side = is_move (opposite (0 ∷ 1 ∷ []) (alone 2)) (0 ∷ 1 ∷ 1 ∷ []) (up 0 ∷ down 1 ∷ [])

-- and both up
abbrev pub on_one_side_up : OddMove
on_one_side_up = no_move (opposite (0 ∷ 1 ∷ []) (alone 2)) (0 ∷ 1 ∷ 1 ∷ []) (up 0 ∷ up 1 ∷ [])

-- a loop of three, each edge opposite to the next
abbrev pub loop_of_three : OddMove
loop_of_three =
    is_move (opposite (alone 0) (alone 1) ++ opposite (alone 1) (alone 2) ++ opposite (alone 2) (alone 0)) (1 ∷ 1 ∷ 1 ∷ []) (down 0 ∷ down 1 ∷ down 2 ∷ [])

-- a loop of three that comes back on the side that it began on: it would need the other sign there
abbrev pub loop_that_turns : OddMove
loop_that_turns =
    no_move (opposite (alone 0) (alone 1) ++ opposite (alone 1) (alone 2) ++ opposite (2 ∷ 0 ∷ []) []) (1 ∷ 1 ∷ 1 ∷ []) (up 0 ∷ up 1 ∷ up 2 ∷ [])

-- two moves at once, which no constraint joins
abbrev pub two_at_once : OddMove
two_at_once = no_move (opposite (alone 0) (alone 1) ++ opposite (alone 2) (alone 3)) (zeros 4) (up 0 ∷ up 1 ∷ up 2 ∷ up 3 ∷ [])

-- four changed edges in one constraint, though both its sides grow by two
abbrev pub four_in_one : OddMove
four_in_one = no_move (opposite (0 ∷ 1 ∷ []) (2 ∷ 3 ∷ [])) (zeros 4) (up 0 ∷ up 1 ∷ up 2 ∷ up 3 ∷ [])

-- an edge in no constraint
abbrev pub free_edge : OddMove
free_edge = is_move (opposite (alone 1) (alone 2)) (zeros 3) (up 0 ∷ [])

-- and -1 there at count 0
abbrev pub free_edge_below_0 : OddMove
free_edge_below_0 = no_move (opposite (alone 1) (alone 2)) (zeros 3) (down 0 ∷ [])

-- one edge of a constraint alone
abbrev pub one_of_a_constraint : OddMove
one_of_a_constraint = no_move (opposite (alone 0) (alone 1)) (zeros 2) (up 0 ∷ [])

-- no change at all
abbrev pub no_change : OddMove
no_change = no_move (opposite (alone 0) (alone 1)) (zeros 2) []

-- an edge that comes twice, up and down
abbrev pub up_and_down : OddMove
up_and_down = no_move (opposite (alone 1) (alone 2)) (1 ∷ 1 ∷ 1 ∷ []) (up 0 ∷ down 0 ∷ [])

-- an edge that has no count
abbrev pub edge_past_the_counts : OddMove
edge_past_the_counts = no_move (opposite (alone 0) (alone 1)) (zeros 2) (up 2 ∷ [])

abbrev pub odd_moves : List OddMove
odd_moves =
    loop_of_two ∷ like_signs_fit_one ∷ unlike_signs_fit_one ∷ in_both_constraints ∷ in_one_of_both
    ∷ on_one_side ∷ on_one_side_up ∷ loop_of_three ∷ loop_that_turns ∷ two_at_once ∷ four_in_one
    ∷ free_edge ∷ free_edge_below_0 ∷ one_of_a_constraint ∷ no_change ∷ up_and_down ∷ edge_past_the_counts ∷ []
