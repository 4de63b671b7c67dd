-- 01, "Unit moves", first paragraph: unit moves, their readings and what a reading costs. Nothing here knows of a search. Assumes nothing.
use Rattle.std.specs.Prelude.{◌↔◌, ◌≡◌, Bool, true, false, not, ◌&&◌, ◌||◌, cond, List, [], ◌∷◌, ◌++◌, reverse, ℕ, suc, ◌-◌, ◌<◌, length, get_or, set, T, ltb, Float}
use Rattle.std.specs.Bool.{beq}
use Rattle.std.specs.Float.{nan, binary64}
use Rattle.std.specs.Float.Ieee.{add, lt}
use Rattle.base.specs.Lists.{In, member, Distinct, any, all}
use Rattle.regions.specs.Region.{Constraint, constraint, holds}

-- "distinct edges, each with +1 or -1": an edge, and true for +1
abbrev pub Change : Type 0
Change = ℕ × Bool

abbrev pub edges : List Change → List ℕ
edges [] = []
edges (z ∷ zs) = z.0 ∷ edges zs

-- the changes whose edge passes the test
abbrev pub select : (ℕ → Bool) → List Change → List Change
select p [] = []
select p (z ∷ zs) = cond (p z.0) (z ∷ select p zs) (select p zs)

-- "none with -1 at count 0"
abbrev pub is_allowed : List ℕ → ℕ → Bool → Bool
is_allowed counts x s = s || ltb 0 (get_or counts x 0)

-- "which balance: opposite sides with like signs, or one side with unlike signs"
abbrev pub balances : Constraint → Change → Change → Bool
balances c z w = beq (beq (member z.0 c.a) (member w.0 c.a)) (not (beq z.1 w.1))

-- "Every constraint holding a changed edge holds just two, which balance": of the changed edges that c holds
abbrev pub Settled : Constraint → List Change → Type 0
Settled c [] = Unit {0}
Settled c (z ∷ []) = ⊥
Settled c (z ∷ w ∷ []) = T (balances c z w)
Settled c (z ∷ w ∷ v ∷ r) = ⊥

-- some constraint holds both edges
abbrev pub share : List Constraint → ℕ → ℕ → Bool
share g x y = any (λ (c : Constraint). holds c x && holds c y) g

-- "The edges are joined by shared constraints": from x to y over edges of the list
pub data Joined (g : List Constraint) (l : List ℕ) : ℕ → ℕ → Type 0 where
  same : (x : ℕ) → Joined g l x x
  next : (x y z : ℕ) → Joined g l x y → T (member z l) → T (share g y z) → Joined g l x z

-- 01's unit move, its changes listed in any order
pub record UnitMove (g : List Constraint) (counts : List ℕ) (r : List Change) : Type 0 where
  pub some : 0 < length r
  pub distinct : Distinct (edges r)
  pub there : T (all (λ (z : Change). ltb z.0 (length counts)) r)
  pub down : T (all (λ (z : Change). is_allowed counts z.0 z.1) r)
  pub two : (i : ℕ) → Settled (constraint g i) (select (holds (constraint g i)) r)
  pub joined : (x y : ℕ) → T (member x (edges r)) → T (member y (edges r)) → Joined g (edges r) x y

-- "A reading lists them so that neighbours share a constraint"
abbrev pub Linked : List Constraint → List Change → Type 0
Linked g [] = Unit {0}
Linked g (z ∷ []) = Unit {0}
Linked g (z ∷ w ∷ r) = T (share g z.0 w.0) × Linked g (w ∷ r)

pub record Reading (g : List Constraint) (counts : List ℕ) (r : List Change) : Type 0 where
  pub move : UnitMove g counts r
  pub linked : Linked g r

-- the same changes, listed in another order
abbrev pub Rearranged : List Change → List Change → Type 0
Rearranged r q = (z : Change) → In z r ↔ In z q

-- q reads the move whose changes r lists
pub record ReadingOf (g : List Constraint) (counts : List ℕ) (r q : List Change) : Type 0 where
  pub lists : Rearranged r q
  pub reads : Reading g counts q

-- the edge listed last, after z
abbrev pub last_edge : Change → List Change → ℕ
last_edge z [] = z.0
last_edge z (w ∷ r) = last_edge w r

-- a reading of a loop comes back: its first and its last edge share a constraint. (So do the two edges of any move of two; from either edge
-- and from either end is the same there.)
abbrev pub Loop : List Constraint → List Change → Type 0
Loop g [] = ⊥
Loop g (z ∷ r) = T (share g z.0 (last_edge z r))

-- "a chain from either end, a loop from any edge either way": how else what one reading lists can be read
pub data ReadAs (g : List Constraint) : List Change → List Change → Type 0 where
  as_listed : (r : List Change) → ReadAs g r r
  from_the_end : (r : List Change) → ReadAs g r (reverse r)
  around : (p q : List Change) → Loop g (p ++ q) → ReadAs g (p ++ q) (q ++ p)
  around_the_other_way : (p q : List Change) → Loop g (p ++ q) → ReadAs g (p ++ q) (reverse (q ++ p))

-- what a change costs: any function of the edge and the sign
abbrev pub EdgeCost : Type 0
EdgeCost = ℕ → Bool → Float

-- "Its cost is the sum of edge costs from left to right"
abbrev pub cost_from : EdgeCost → Float → List Change → Float
cost_from edge_cost t [] = t
cost_from edge_cost t (z ∷ r) = cost_from edge_cost (add binary64 t (edge_cost z.0 z.1)) r

abbrev pub cost : EdgeCost → List Change → Float
cost edge_cost [] = nan
cost edge_cost (z ∷ r) = cost_from edge_cost (edge_cost z.0 z.1) r

-- "a move costs less than a bound if some reading does": the move whose changes r lists
pub record CostsLess (g : List Constraint) (counts : List ℕ) (edge_cost : EdgeCost) (r : List Change) (bound : Float) : Type 0 where
  pub reading : List Change
  pub of_move : ReadingOf g counts r reading
  pub less : T (lt (cost edge_cost reading) bound)

-- a move has a cost for each of its readings: k is one of these
pub record Costs (g : List Constraint) (counts : List ℕ) (edge_cost : EdgeCost) (r : List Change) (k : Float) : Type 0 where
  pub reading : List Change
  pub of_move : ReadingOf g counts r reading
  pub sum : k ≡ cost edge_cost reading

-- `apply_changes`: the counts after the changes
abbrev pub changed : Bool → ℕ → ℕ
changed true n = suc n
changed false n = n - 1

abbrev pub apply_changes : List Change → List ℕ → List ℕ
apply_changes [] counts = counts
apply_changes (z ∷ r) counts = apply_changes r (set counts z.0 (changed z.1 (get_or counts z.0 0)))

-- "It makes a move if the counts that it leaves differ from these by the move's +1 and -1 alone", none of them negative
pub record Makes (counts : List ℕ) (r : List Change) (left : List ℕ) : Type 0 where
  pub same_length : length left ≡ length counts
  pub plus : (x : ℕ) → In (x, true) r → get_or left x 0 ≡ suc (get_or counts x 0)
  pub minus : (x : ℕ) → In (x, false) r → suc (get_or left x 0) ≡ get_or counts x 0
  pub other : (x : ℕ) → T (not (member x (edges r))) → get_or left x 0 ≡ get_or counts x 0
