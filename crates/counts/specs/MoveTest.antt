-- Whether a list of changes is a unit move, as a test that computes: one part for each field of `UnitMove`. Assumes nothing.
use Rattle.std.specs.Prelude.{Bool, true, false, not, ◌&&◌, ◌||◌, List, [], ◌∷◌, ◌++◌, ℕ, zero, suc, length, ltb}
use Rattle.base.specs.Lists.{member, any, all, filter}
use Rattle.regions.specs.Region.{Constraint, holds}
use Rattle.counts.specs.Move.{Change, edges, select, is_allowed, balances, share}

abbrev pub is_distinct : List ℕ → Bool
is_distinct [] = true
is_distinct (x ∷ xs) = not (member x xs) && is_distinct xs

-- of the changed edges that c holds: none, or just two, which balance
abbrev pub is_settled : Constraint → List Change → Bool
is_settled c [] = true
is_settled c (z ∷ []) = false
is_settled c (z ∷ w ∷ []) = balances c z w
is_settled c (z ∷ w ∷ v ∷ r) = false

-- y is reached already, or shares a constraint with an edge that is
abbrev pub is_near : List Constraint → List ℕ → ℕ → Bool
is_near g reached y = member y reached || any (λ (x : ℕ). share g x y) reached

abbrev pub is_none : List ℕ → Bool
is_none [] = true
is_none (x ∷ xs) = false

-- the edges reached grow, n times, by those of the rest that are near; in the end nothing is left of the rest
abbrev pub reaches_all : List Constraint → ℕ → List ℕ → List ℕ → Bool
reaches_all g zero reached rest = is_none rest
reaches_all g (suc n) reached rest =
    reaches_all g n (filter (is_near g reached) rest ++ reached) (filter (λ (y : ℕ). not (is_near g reached y)) rest)

-- all edges of the list are reached from its first, in as many turns as there are others
abbrev pub is_joined : List Constraint → List ℕ → Bool
is_joined g [] = true
is_joined g (x ∷ xs) = reaches_all g (length xs) (x ∷ []) xs

abbrev pub is_unit_move : List Constraint → List ℕ → List Change → Bool
is_unit_move g counts r =
    ltb 0 (length r)
    && (is_distinct (edges r)
    && (all (λ (z : Change). ltb z.0 (length counts)) r
    && (all (λ (z : Change). is_allowed counts z.0 z.1) r
    && (all (λ (c : Constraint). is_settled c (select (holds c) r)) g
    && is_joined g (edges r)))))
