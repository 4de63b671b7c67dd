-- 01, "Regions", with the places of 02's item 9 and the empty pairs of its item 2: region records and the constraints that they give. All but
-- `places` is said of any number p of places. Assumes nothing.
use Rattle.std.specs.Prelude.{Bool, true, false, ◌&&◌, ◌||◌, cond, List, [], ◌∷◌, ℕ, zero, suc, ◌+◌, ◌-◌, ◌*◌, ◌/◌, ◌%◌, ltb, length, get_or, take, drop}
use Rattle.base.specs.Lists.{member}

-- 02, item 9: "A side now has 32 places"; 01 had 16
abbrev pub places : ℕ
places = 32

-- "for each of four sides (..): how many edges, then" the places; with 32 "a region record is 132 numbers"
abbrev pub side_size : ℕ → ℕ
side_size p = suc p

abbrev pub record_size : ℕ → ℕ
record_size p = 4 * side_size p

-- how many records a list holds
abbrev pub region_count : ℕ → List ℕ → ℕ
region_count p regions = length regions / record_size p

-- the list from record r on
abbrev pub from_region : ℕ → List ℕ → ℕ → List ℕ
from_region p regions r = drop (r * record_size p) regions

-- the edges of side k of the record that stands first; "places past that number are never read"
abbrev pub side : ℕ → List ℕ → ℕ → List ℕ
side p regions k = take (get_or regions (k * side_size p) 0) (drop (suc (k * side_size p)) regions)

-- "0 and 2 are opposite, and 1 and 3": the side opposite to one, sides counted over all records
abbrev pub across : ℕ → ℕ
across s = cond (ltb (s % 4) 2) (s + 2) (s - 2)

abbrev pub is_empty : List ℕ → Bool
is_empty [] = true
is_empty (x ∷ xs) = false

abbrev pub both_empty : List ℕ → List ℕ → Bool
both_empty a b = is_empty a && is_empty b

-- 02, item 2: "a side pair that is empty on both sides": no edges on side k of the record that stands first, and none on the side opposite
unfoldable pub empty_pair : ℕ → List ℕ → ℕ → Bool
empty_pair p regions k = both_empty (side p regions k) (side p regions (across k))

-- two opposite sides, whose counts are to add up to the same
pub record Constraint : Type 0 where
  pub a : List ℕ
  pub b : List ℕ

-- `build_graph`: "each region gives constraint (0,2), then (1,3)", so that constraint 2 * r + k is pair k of region r.
-- A constraint with both sides empty is not skipped here, so that the others keep these numbers. Moves, solves, balance and test 6 are the same
-- if it is: `empties_skipped` (counts, proofs/Skipped).
unfoldable pub constraints : ℕ → ℕ → List ℕ → List Constraint
constraints p zero regions = []
constraints p (suc n) regions =
    record { a = side p regions 0; b = side p regions 2 }
    ∷ record { a = side p regions 1; b = side p regions 3 }
    ∷ constraints p n (drop (record_size p) regions)

abbrev pub graph : ℕ → List ℕ → List Constraint
graph p regions = constraints p (region_count p regions) regions

-- `build_graph`: "both sides empty, it is skipped"
abbrev pub without_empty : List Constraint → List Constraint
without_empty [] = []
without_empty (c ∷ cs) = cond (both_empty c.a c.b) (without_empty cs) (c ∷ without_empty cs)

abbrev pub no_sides : Constraint
no_sides = record { a = []; b = [] }

abbrev pub constraint : List Constraint → ℕ → Constraint
constraint g i = get_or g i no_sides

abbrev pub holds : Constraint → ℕ → Bool
holds c x = member x c.a || member x c.b

-- the side that x stands on, and the one opposite
abbrev pub own_side : Constraint → ℕ → List ℕ
own_side c x = cond (member x c.a) c.a c.b

abbrev pub opposite_side : Constraint → ℕ → List ℕ
opposite_side c x = cond (member x c.a) c.b c.a

-- the numbers of the constraints that hold x, counted from i, rising
abbrev pub incidence_from : ℕ → List Constraint → ℕ → List ℕ
incidence_from i [] x = []
incidence_from i (c ∷ cs) x = cond (holds c x) (i ∷ incidence_from (suc i) cs x) (incidence_from (suc i) cs x)

abbrev pub incidence : List Constraint → ℕ → List ℕ
incidence g x = incidence_from 0 g x

-- "A side adds up to the sum of its edges' counts, an empty side to 0"
abbrev pub side_sum : List ℕ → List ℕ → ℕ
side_sum counts [] = 0
side_sum counts (x ∷ xs) = get_or counts x 0 + side_sum counts xs
