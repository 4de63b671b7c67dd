-- Laws of constraints, and of constraints by their numbers: which ones hold an edge, and how the incidences grow. Assumes nothing.
use mathlib.Core.Path.{◌≡◌, sym, ap, ◌∙◌}
use mathlib.Core.Bool.{cond}
use mathlib.Core.Logic.{inl, inr}
use mathlib.Core.List.{List, [], ◌∷◌, ◌++◌}
use Prim.Native.Nat.{ℕ, zero, suc, ◌+◌, ◌≤◌, ◌<◌}
use native.Mathlib.Nat.{zero-add, add-zero, add-suc, suc-add}
use native.Mathlib.Numerals.{add-one}
use native.Mathlib.Omega.{arith}
use lib.ListN.{length, take}
use lib.Seq.{take-suc, length-take-le}
use lib.Dec.{T}
use Rattle.base.specs.Lists.{In, member}
use Rattle.base.proofs.BoolLaws.{by_truth, or_left, or_right}
use Rattle.base.proofs.ListLaws.{in_front, in_behind, front_or_behind}
use Rattle.regions.specs.Region.{Constraint, constraint, no_sides, holds, incidence, incidence_from}

-- ---- an edge on one side
pub holds_a : (c : Constraint) (x : ℕ) → T (member x c.a) → T (holds c x)
holds_a c x t = or_left (member x c.a) (member x c.b) t

pub holds_b : (c : Constraint) (x : ℕ) → T (member x c.b) → T (holds c x)
holds_b c x t = or_right (member x c.a) (member x c.b) t

-- ---- constraints by number
pub incidence_in : (k : ℕ) (g : List Constraint) (i x : ℕ) → T (holds (constraint g i) x) → In (k + i) (incidence_from k g x)
incidence_in k [] i x t = absurd t
incidence_in k (c ∷ g) zero x t = in_front (holds c x) k (incidence_from (suc k) g x) (k + 0) t (add-zero k)
incidence_in k (c ∷ g) (suc i) x t = in_behind (holds c x) k (incidence_from (suc k) g x) (k + suc i) (rw (add-suc, ← suc-add) (incidence_in (suc k) g i x t))

pub holds→incidence : (g : List Constraint) (i x : ℕ) → T (holds (constraint g i) x) → In i (incidence g x)
holds→incidence g i x t = rw zero-add at (incidence_in 0 g i x t)

pub incidence_out : (k : ℕ) (g : List Constraint) (n x : ℕ) → In n (incidence_from k g x) → (i : ℕ) × (n ≡ k + i) × T (holds (constraint g i) x)
incidence_out k [] n x j = absurd j
incidence_out k (c ∷ g) n x j =
    elim (front_or_behind (holds c x) k (incidence_from (suc k) g x) n j) [
      | inl f ↦ (0, f.1 ∙ sym (add-zero k), f.0)
      | inr i ↦ (let r = incidence_out (suc k) g n x i in (suc r.0, r.1 ∙ suc-add k r.0 ∙ sym (add-suc k r.0), r.2))
    ]

pub incidence→holds : (g : List Constraint) (i x : ℕ) → In i (incidence g x) → T (holds (constraint g i) x)
incidence→holds g i x j = let r = incidence_out 0 g i x j in rw (r.1, zero-add) r.2

-- ---- constraints placed one after the other
pub holds_numbered : (g : List Constraint) (i y : ℕ) → T (holds (constraint g i) y) → i < length g
holds_numbered [] i y t = absurd t
holds_numbered (c ∷ g) zero y t = omega arith
holds_numbered (c ∷ g) (suc i) y t = let h = holds_numbered g i y t in omega arith

pub incidence_snoc : (k : ℕ) (g : List Constraint) (c : Constraint) (y : ℕ)
    → incidence_from k (g ++ c ∷ []) y ≡ incidence_from k g y ++ cond (holds c y) ((k + length g) ∷ []) []
incidence_snoc k [] c y = ap (λ (n : ℕ). cond (holds c y) (n ∷ []) []) (sym (add-zero k))
incidence_snoc k (d ∷ g) c y =
    let e = rw (suc-add, ← add-suc) at (incidence_snoc (suc k) g c y) in
    by_truth (holds d y) (λ t. rw (t, e)) (λ t. rw (t, e))

-- the constraints of y among the first i + 1
pub incidence_take : (g : List Constraint) (i y : ℕ) → i < length g
    → incidence (take (i + 1) g) y ≡ incidence (take i g) y ++ cond (holds (constraint g i) y) (i ∷ []) []
incidence_take g i y h = rw (add-one, take-suc g i no_sides h, incidence_snoc, zero-add, length-take-le i g (omega arith))

-- no edge is in more constraints than there are
pub length_incidence : (k : ℕ) (g : List Constraint) (y : ℕ) → length (incidence_from k g y) ≤ length g
length_incidence k [] y = omega arith
length_incidence k (c ∷ g) y =
    let h = length_incidence (suc k) g y in
    by_truth (holds c y) (λ t. rw t (omega arith)) (λ t. rw t (omega arith))
