-- Constraints whose two sides are exchanged: each holds the edges that it held, so every edge is in the same constraints. Assumes nothing.
use mathlib.Core.Path.{◌≡◌, refl}
use mathlib.Core.Bool.{Bool, true, false, cond, or_comm}
use mathlib.Core.List.{List, [], ◌∷◌}
use Prim.Native.Nat.{ℕ, zero, suc}
use Rattle.base.specs.Lists.{member}
use lib.ListN.{get_or}
use Rattle.regions.specs.Region.{Constraint, constraint, no_sides, holds, incidence_from}

abbrev pub exchanged : Bool → Constraint → Constraint
exchanged x c = record { a = cond x c.b c.a; b = cond x c.a c.b }

-- a choice for each constraint; those past the last choice stay as they were
abbrev pub each_exchanged : List Bool → List Constraint → List Constraint
each_exchanged [] g = g
each_exchanged (x ∷ xs) [] = []
each_exchanged (x ∷ xs) (c ∷ g) = exchanged x c ∷ each_exchanged xs g

pub holds_exchanged : (x : Bool) (c : Constraint) (e : ℕ) → holds (exchanged x c) e ≡ holds c e
holds_exchanged true c e = or_comm (member e c.b) (member e c.a)
holds_exchanged false c e = refl

nothing_exchanged : (x : Bool) → no_sides ≡ exchanged x no_sides
nothing_exchanged true = refl
nothing_exchanged false = refl

pub constraint_exchanged : (xs : List Bool) (g : List Constraint) (i : ℕ) → constraint (each_exchanged xs g) i ≡ exchanged (get_or xs i false) (constraint g i)
constraint_exchanged [] g i = refl
constraint_exchanged (x ∷ xs) [] i = nothing_exchanged (get_or (x ∷ xs) i false)
constraint_exchanged (x ∷ xs) (c ∷ g) zero = refl
constraint_exchanged (x ∷ xs) (c ∷ g) (suc i) = constraint_exchanged xs g i

pub incidence_exchanged : (k : ℕ) (xs : List Bool) (g : List Constraint) (e : ℕ) → incidence_from k (each_exchanged xs g) e ≡ incidence_from k g e
incidence_exchanged k [] g e = refl
incidence_exchanged k (x ∷ xs) [] e = refl
incidence_exchanged k (x ∷ xs) (c ∷ g) e = rw (holds_exchanged x c e, incidence_exchanged (suc k) xs g e)
