-- Laws of the tests: tests in a row, and the tests of values, by the first entry that fails one, as `position` finds it. Assumes nothing.
use mathlib.Core.Path.{◌≡◌, refl, sym, ap, ◌∙◌}
use mathlib.Core.Bool.{Bool, true, false, not, ◌&&◌, and-true}
use mathlib.Core.List.{List, [], ◌∷◌}
use Prim.Native.Nat.{ℕ, zero, suc, ◌+◌, ◌*◌, ◌<◌}
use native.Mathlib.Numerals.{add-one}
use native.Mathlib.Nat.{zero-mul, mul-one, mul-pos}
use native.Mathlib.Omega.{arith}
use borrow.Author.Tests.{lt-ltb}
use lib.Dec.{leb, ltb}
use lib.IntN.{ℤ}
use lib.Ieee.{Float, nan, inf, fin, binary64, of_bits, lt, up, down}
use lib.Ieee.Fits.{up_pos}
use Rattle.std.specs.Prelude.{Result, Err, IsErrAnd, Option, Some, None}
use Rattle.std.specs.Result.{result_and}
use Rattle.std.specs.List.{position, position_from, zip}
use Rattle.std.proofs.lemmas.Bool.Decides.{nat_tests}
use Rattle.std.proofs.lemmas.Iterator.Adapters.{position_from-zero}
use Rattle.base.specs.declared.verdict.Verdict.{Verdict}
use Rattle.base.specs.declared.refusal.Refusal.{Refusal}
use Rattle.base.specs.Refusal.{passed, refused, outcome, then_test}
use Rattle.base.proofs.BoolLaws.{by_truth}
use Rattle.base.proofs.TestLaws.{chain_stops, chain_goes_on, was_passed, was_refused, and_told, in_a_row, exit_stops, then_test_assoc}
use Rattle.counts.proofs.SolverLaws.{exit_err}
use Rattle.floats.specs.Scalar.{is_positive, is_finite}
use Rattle.floats.proofs.scalar.Order.{positive_is}
use Rattle.counts.specs.Values.{first_bad, ideal_ok, ranges}

-- ---- tests in a row, each left by a `?`: with these the check finds the answers of a function that makes them
pub ruleset chains = (exit_err, chain_stops, chain_goes_on, was_passed, was_refused, nat_tests)

-- two tests that are both made, and then more: what a `?` answers to the two
pub exit_both : {A B : Type 0} (o : Result A Refusal) (r : Refusal) (x y : Result B Refusal) {u v : Verdict} (w : Verdict)
    → IsErrAnd o (λ (e : Refusal). e ≡ r) → outcome x ≡ u → outcome y ≡ v → Err r ≡ result_and x y → outcome o ≡ then_test u (then_test v w)
exit_both o r x y {u} {v} w h e f g = exit_stops o r w h (ap outcome g ∙ and_told x y ∙ in_a_row e f) ∙ then_test_assoc u v w

-- ---- the first bad entry

abbrev pub refused_at : ℕ → Option ℕ → Verdict
refused_at number None = passed
refused_at number (Some i) = refused number i 0

-- the test of the code fails where an entry is as it should be
module _ {A : Type 0} (test ok : A → Bool) (bad : (x : A) → test x ≡ not (ok x)) (number : ℕ) where
  first_bad_from : (i : ℕ) (xs : List A) → refused_at number (position_from test i xs) ≡ first_bad ok number i xs
  unfolding first_bad
  first_bad_from i [] = refl
  first_bad_from i (x ∷ xs) =
      rw bad (by_truth (ok x) (λ e. rw e (first_bad_from (i + 1) xs ∙ rw add-one)) (λ e. rw e))

  pub first_bad_is : (xs : List A) {o : Option ℕ} → o ≡ position test xs → refused_at number o ≡ first_bad ok number 0 xs
  first_bad_is xs e = ap (refused_at number) (e ∙ position_from-zero test xs) ∙ first_bad_from 0 xs

pub over_is : (m n : ℕ) → ltb m n ≡ not (leb n m)
over_is m n = grind (arith, nat_tests)

-- ---- an ideal is finite and above 0

above_zero : (m : ℕ) (e : ℤ) → lt (of_bits binary64 0) (fin false m e) ≡ ltb 0 m
unfolding lt of_bits
above_zero zero e = simp (zero-mul (up e), zero-mul (down e))
above_zero (suc m) e =
    let p : 0 < suc m * up e = mul-pos (omega arith) (up_pos e) in
    let q : suc m * up e * 1 ≡ suc m * up e = mul-one (suc m * up e) in
    let z : 0 * down e ≡ 0 = zero-mul (down e) in
    lt-ltb (0 * down e) (suc m * up e * 1) (omega arith) ∙ sym (lt-ltb 0 (suc m) (omega arith))

-- what 000 asks of a length is what is asked of an ideal
pub ideal_is : (x : Float) → is_positive x ≡ ideal_ok x
unfolding is_positive is_finite of_bits lt
ideal_is nan = refl
ideal_is (inf s) = refl
ideal_is (fin true m e) = positive_is (fin true m e)
ideal_is (fin false m e) = positive_is (fin false m e) ∙ ap (λ (b : Bool). b && true) (above_zero m e) ∙ and-true (ltb 0 m)

-- ---- the ranges of edges

pub zip_is : (least most : List Float) → zip least most ≡ ranges least most
zip_is [] most = refl
zip_is (l ∷ least) [] = refl
zip_is (l ∷ least) (m ∷ most) = rw (zip_is least most)
