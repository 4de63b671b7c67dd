-- A pair of sides that does not pass is refused by 3, 4 or 5, on one of its two sides; and chains of tests that fail at the same pairs have the same
-- outcome, but for which of these it is (`SameFault`: specs/Turned). Assumes nothing.
use mathlib.Core.Path.{◌≡◌, refl, sym, ap, ◌∙◌}
use mathlib.Core.Bool.{false, true≢false}
use mathlib.Core.List.{List, [], ◌∷◌}
use Prim.Native.Nat.{ℕ, ◌%◌}
use native.Mathlib.Omega.{arith}
use lib.Dec.{ltb}
use Rattle.base.specs.Lists.{member}
use Rattle.base.specs.declared.verdict.Verdict.{Verdict}
use Rattle.base.specs.Refusal.{is_passed, then_test}
use Rattle.regions.specs.Accept.{side_test, shared_edge, pair_test}
use Rattle.regions.specs.Turned.{FaultOfPair, SameFault, same, of_pair}
use Rattle.base.proofs.BoolLaws.{by_truth, ne→eqb}
use Rattle.base.proofs.TestLaws.{then_test_assoc}

-- ---- which refusal it is

side_fault : (n r k : ℕ) (seen l : List ℕ) → is_passed (side_test n r k seen l) ≡ false → FaultOfPair r (k % 2) (side_test n r k seen l)
unfolding side_test
side_fault n r k seen [] e = absurd (true≢false e)
side_fault n r k seen (x ∷ l) e =
    by_truth (ltb x n)
    (λ t. rw t (by_truth (member x seen)
    (λ u. rw u (record { at_least = omega arith; at_most = omega arith; region = refl; side = refl }))
    (λ u. rw u (side_fault n r k (x ∷ seen) l (rw (t, u) at e)))))
    (λ t. rw t (record { at_least = omega arith; at_most = omega arith; region = refl; side = refl }))

-- the sides j and k are a pair
pub pair_fault : (n r j k : ℕ) (a b : List ℕ) → k % 2 ≡ j % 2 → is_passed (pair_test n r j k a b) ≡ false → FaultOfPair r (j % 2) (pair_test n r j k a b)
unfolding pair_test
pair_fault n r j k a b pair e =
    rw then_test_assoc
    (by_truth (is_passed (side_test n r j [] a))
    (λ t. rw t (by_truth (is_passed (side_test n r k [] b))
    (λ u. rw u (by_truth (shared_edge a b)
    (λ x. rw x (record { at_least = omega arith; at_most = omega arith; region = refl; side = refl }))
    (λ x. absurd (true≢false (rw (t, u, x) at e)))))
    (λ u. rw u (rw pair at (side_fault n r k [] b u)))))
    (λ t. rw t (side_fault n r j [] a t)))

-- ---- chains of tests

fault_refused : {r j : ℕ} {v : Verdict} → FaultOfPair r j v → is_passed v ≡ false
fault_refused {v = v} f = ne→eqb v.number 0 (λ e. omega (arith, f.at_least, e))

pub same_passes : {v w : Verdict} → SameFault v w → is_passed v ≡ is_passed w
same_passes (same e) = ap is_passed e
same_passes (of_pair r j f g) = fault_refused f ∙ sym (fault_refused g)

-- both fail at this pair, or go on alike
pub same_then : (r j : ℕ) (v v' w w' : Verdict) → is_passed v' ≡ is_passed v → (is_passed v ≡ false → FaultOfPair r j v) → (is_passed v' ≡ false → FaultOfPair r j v')
    → SameFault w' w → SameFault (then_test v' w') (then_test v w)
same_then r j v v' w w' alike f f' s =
    by_truth (is_passed v) (λ t. rw (alike, t) s) (λ t. rw (alike, t) (of_pair r j (f' (alike ∙ t)) (f t)))

-- what comes behind is the same
pub same_before : (v v' w : Verdict) → SameFault v' v → SameFault (then_test v' w) (then_test v w)
same_before v v' w (same e) = same (rw e)
same_before v v' w (of_pair r j f g) = rw (fault_refused f, fault_refused g) (of_pair r j f g)
