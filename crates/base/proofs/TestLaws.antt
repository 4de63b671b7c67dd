-- Tests made one after the other: what a refusal and a passed test say, and that a chain passes just where each test does. Assumes nothing.
use mathlib.Core.Path.{◌≡◌, refl, sym, ap, ◌∙◌, subst}
use mathlib.Core.Bool.{Bool, true, false, not, ◌&&◌}
use Prim.Native.Nat.{ℕ, suc, zero, ◌+◌, ◌-◌, ◌<◌, ◌≤◌}
use native.Mathlib.Omega.{arith}
use lib.Dec.{T, T_not, eqb→eq}
use Rattle.base.specs.declared.verdict.Verdict.{Verdict}
use Rattle.base.specs.Refusal.{passed, refused, verdict_of, outcome, is_passed, then_test, refuse_if}
use Rattle.base.specs.declared.refusal.Refusal.{Refusal}
use Rattle.base.specs.declared.refusal.Refusal.TheVariants as because
use Rattle.std.specs.Prelude.{Result, Ok, Err, IsErrAnd}
use Rattle.std.specs.Result.{result_and}
use Rattle.std.proofs.lemmas.Result.{err_from_is_err_and}
use Rattle.base.proofs.BoolLaws.{by_truth, not_T_false, true_T, T_true}
use native.Mathlib.Nat.{add-zero, zero-add, add-suc, suc-add}
use native.Mathlib.Numerals.{add-one}
use Rattle.base.specs.Tests.{first_of, if_passed}

pub then_left : (v w : Verdict) → T (is_passed (then_test v w)) → T (is_passed v)
then_left v w t = by_truth (is_passed v) (true_T _) (λ e. rw e at t)

pub then_right : (v w : Verdict) → T (is_passed (then_test v w)) → T (is_passed w)
then_right v w t = rw (T_true (is_passed v) (then_left v w t)) at t

pub then_both : (v w : Verdict) → T (is_passed v) → T (is_passed w) → T (is_passed (then_test v w))
then_both v w t u = rw (T_true (is_passed v) t) u

pub then_is : (v w : Verdict) → is_passed (then_test v w) ≡ is_passed v && is_passed w
then_is v w = by_truth (is_passed v) (λ e. rw e) (λ e. rw e e)

pub not_refused : (b : Bool) (n p q : ℕ) → T (is_passed (refuse_if b (refused (suc n) p q))) → T (not b)
not_refused true n p q t = let e = eqb→eq (suc n) 0 t in absurd (omega arith)
not_refused false n p q t = tt

-- the same with equations
pub lets_by : (b : Bool) (n p q : ℕ) → is_passed (refuse_if b (refused (suc n) p q)) ≡ true → b ≡ false
lets_by b n p q e = not_T_false b (T_not b (not_refused b n p q (true_T _ e)))

-- ---- chains

-- no refusal has the number 0
pub refusal_number : (r : Refusal) → is_passed (verdict_of r) ≡ false
unfolding verdict_of
refusal_number because.Malformed = refl
refusal_number (because.BadIdeal e) = refl
refusal_number (because.EdgeOutOfRange r s) = refl
refusal_number (because.EdgeRepeated r s) = refl
refusal_number (because.EdgeOnBothSides r s) = refl
refusal_number (because.EdgeOverused e) = refl
refusal_number because.TooManyMoves = refl
refusal_number because.LengthsDiffer = refl
refusal_number (because.CountTooLarge e) = refl
refusal_number because.LimitTooLarge = refl
refusal_number because.OutputTooShort = refl
refusal_number because.BadLoop = refl
refusal_number (because.CurveTooShort c) = refl
refusal_number (because.PointNotFinite c) = refl
refusal_number (because.BadCurveLength c) = refl
refusal_number (because.CurvesApart c) = refl
refusal_number because.CornersClockwise = refl
refusal_number (because.SeamTooShort s) = refl
refusal_number (because.SeamOutOfRange s i) = refl
refusal_number (because.SeamFalling s i) = refl
refusal_number (because.SeamEnds s) = refl
refusal_number (because.SeamsUnequal p) = refl
refusal_number (because.LinesParallel i j) = refl
refusal_number (because.CrossingOutside i j) = refl
refusal_number (because.BadQuadArea i j) = refl
refusal_number because.NoCells = refl
refusal_number (because.BreaksMismatch s) = refl
refusal_number because.RootUndefined = refl
refusal_number (because.RangeReversed e) = refl

-- What a test says in the arm where it is accepted, `passed ≡ v`, and in the arm where it refuses, `verdict_of r ≡ v`: these are what
-- `outcome` computes to there.

pub was_passed : {v : Verdict} → passed ≡ v → is_passed v ≡ true
was_passed e = rw (← e)

pub was_refused : (r : Refusal) {v : Verdict} → verdict_of r ≡ v → is_passed v ≡ false
was_refused r e = rw (← e, refusal_number r)

-- a test that refuses is the whole chain
pub chain_stops : (r : Refusal) {v : Verdict} (w : Verdict) → verdict_of r ≡ v → verdict_of r ≡ then_test v w
chain_stops r w e = rw (was_refused r e, e)

-- a test that is passed leaves the rest of the chain
pub chain_goes_on : {v w : Verdict} → passed ≡ v → w ≡ then_test v w
chain_goes_on e = rw (was_passed e)

-- Of two outcomes that are both made, the first that refuses: what `Result::and` answers.
pub and_told : {A B : Type 0} (x : Result A Refusal) (y : Result B Refusal) → outcome (result_and x y) ≡ then_test (outcome x) (outcome y)
and_told (Ok a) y = refl
and_told (Err r) y = rw refusal_number

-- What the exit of a `?` answers: the error that came.
pub exit_is : {A : Type 0} (o : Result A Refusal) (r : Refusal) → IsErrAnd o (λ (e : Refusal). e ≡ r) → outcome o ≡ verdict_of r
exit_is o r h = let p = err_from_is_err_and o h in rw (p.1, p.2)

-- the same where more tests were to come
pub exit_stops : {A : Type 0} (o : Result A Refusal) (r : Refusal) {v : Verdict} (w : Verdict) → IsErrAnd o (λ (e : Refusal). e ≡ r)
    → verdict_of r ≡ v → outcome o ≡ then_test v w
exit_stops o r w h e = exit_is o r h ∙ chain_stops r w e

-- two tests in a row, each known
pub in_a_row : {u v w x : Verdict} → u ≡ w → v ≡ x → then_test u v ≡ then_test w x
in_a_row e f = rw (e, f)

pub then_test_assoc : (u v w : Verdict) → then_test (then_test u v) w ≡ then_test u (then_test v w)
then_test_assoc u v w = by_truth (is_passed u) (λ e. rw e) (λ e. simp e)

-- a chain that is passed: so is each test
pub then_passed : (u v : Verdict) → is_passed (then_test u v) ≡ true → (is_passed u ≡ true) × (is_passed v ≡ true)
then_passed u v h = let t = true_T _ h in (T_true _ (then_left u v t), T_true _ (then_right u v t))

-- ---- refusals, and several tests put together

pub refusal_not_passed : (r : Refusal) (v : Verdict) → verdict_of r ≡ v → T (is_passed v) → ⊥
refusal_not_passed r v e t = subst T (was_refused r e) t

-- where a chain passes, both its tests do
pub both_passed : (u v w : Verdict) → u ≡ then_test v w → T (is_passed u) → T (is_passed v) × T (is_passed w)
both_passed u v w e t = let s = rw e at t in (then_left v w s, then_right v w s)

-- where a chain of four passes, each of them does
pub four_passed : (a b c d : Verdict) → T (is_passed (then_test a (then_test b (then_test c d))))
    → T (is_passed a) × T (is_passed b) × T (is_passed c) × T (is_passed d)
four_passed a b c d t =
    let u = then_right a (then_test b (then_test c d)) t in
    let w = then_right b (then_test c d) u in
    (then_left a (then_test b (then_test c d)) t, then_left b (then_test c d) u, then_left c d w, then_right c d w)

-- ---- what follows tests

module _ {A : Type 0} (x : A) (refusal : Verdict → A) where
  pub follows : (v : Verdict) → passed ≡ v → x ≡ if_passed v x refusal
  follows v e = rw (was_passed e, if_passed)

  pub refuses : (cause : Refusal) (v : Verdict) → verdict_of cause ≡ v → refusal (verdict_of cause) ≡ if_passed v x refusal
  refuses cause v e = rw (was_refused cause e, if_passed, e)

-- ---- tests by an index, turn by turn

module _ (f : ℕ → Verdict) where
  pub first_start : (n : ℕ) → first_of f 0 n ≡ first_of f 0 (n - 0)
  first_start n = let e : n ≡ n - 0 = omega arith in ap (first_of f 0) e

  turn : (i n : ℕ) → i < n → first_of f i (n - i) ≡ then_test (f i) (first_of f (i + 1) (n - (i + 1)))
  unfolding first_of
  turn i n h =
      let e : n - i ≡ suc (n - (i + 1)) = omega arith in
      rw (e, ← (add-one i))

  pub first_next : (i n : ℕ) → i < n → passed ≡ f i → first_of f i (n - i) ≡ first_of f (i + 1) (n - (i + 1))
  first_next i n h e = turn i n h ∙ sym (chain_goes_on e)

  pub first_stops : (i n : ℕ) (r : Refusal) → i < n → verdict_of r ≡ f i → verdict_of r ≡ first_of f i (n - i)
  first_stops i n r h e = chain_stops r _ e ∙ sym (turn i n h)

  pub first_done : (i n : ℕ) → n ≤ i → passed ≡ first_of f i (n - i)
  unfolding first_of
  first_done i n h = let e : n - i ≡ 0 = omega arith in sym (ap (first_of f i) e)

  -- ---- all the tests are made, and the first refusal is kept

  first_snoc : (k n : ℕ) → first_of f k (suc n) ≡ then_test (first_of f k n) (then_test (f (k + n)) passed)
  unfolding first_of
  first_snoc k zero = rw add-zero
  first_snoc k (suc n) = rw (first_snoc (suc k) n, suc-add, ← add-suc, ← then_test_assoc)

  -- tests that pass, and one more
  pub first_passes : (n : ℕ) → first_of f 0 n ≡ passed → f n ≡ passed → first_of f 0 (n + 1) ≡ passed
  first_passes n p q = rw (add-one, first_snoc, p, zero-add, q)

-- the tests from the second on
pub first_shifted : (f g : ℕ → Verdict) → ((j : ℕ) → f (suc j) ≡ g j) → (k n : ℕ) → first_of f (suc k) n ≡ first_of g k n
unfolding first_of
first_shifted f g h k zero = refl
first_shifted f g h k (suc n) = rw (h, first_shifted f g h (suc k) n)

pub first_same : (f g : ℕ → Verdict) (k n : ℕ) → ((i : ℕ) → i < k + n → f i ≡ g i) → first_of f k n ≡ first_of g k n
unfolding first_of
first_same f g k zero h = refl
first_same f g k (suc n) h = rw (h k (omega arith), first_same f g (suc k) n (λ i l. h i (omega arith)))

-- tests that all pass
pub first_all : (f : ℕ → Verdict) (k n : ℕ) → ((i : ℕ) → i < k + n → f i ≡ passed) → first_of f k n ≡ passed
unfolding first_of
first_all f k zero h = refl
first_all f k (suc n) h = rw (h k (omega arith), first_all f (suc k) n (λ i l. h i (omega arith)))

-- where they pass, each of them does
pub first_each : (f : ℕ → Verdict) (k n i : ℕ) → T (is_passed (first_of f k n)) → i < n → T (is_passed (f (k + i)))
unfolding first_of
first_each f k zero i t h = absurd (omega arith)
first_each f k (suc n) zero t h = rw add-zero (then_left (f k) (first_of f (suc k) n) t)
first_each f k (suc n) (suc i) t h = rw (suc-add, ← add-suc) at (first_each f (suc k) n i (then_right (f k) (first_of f (suc k) n) t) (omega arith))
