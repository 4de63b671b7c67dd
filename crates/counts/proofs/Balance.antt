-- A unit move leaves the difference of every two opposite sides as it was.
--
-- Claim (`move_balance`), for the sides a and b of a constraint, written with sums alone, since counts know no difference below 0:
--     a's sum after + b's sum before = b's sum after + a's sum before.
-- First, what changes do to the sum of one side. One change (`one_change`) sets one count: the sum moves by what that count moves, if the side has the
-- edge, which it has once only (`side_sum_set_in`), and not at all if it has not (`side_sum_set_out`). No -1 falls on a count of 0, so no count is
-- cut off at 0. Change after change, and no edge twice, so that each change finds the count as it was (`total_apply`):
--     sum after + changes of the side by -1 = sum before + changes of the side by +1.
-- So it is enough that the changes weigh alike on both sides (`even_change`):
--     a's by +1 + b's by -1 = b's by +1 + a's by -1.
-- Only the changed edges that the constraint holds count here (`cnt_select`), and the constraint is settled (`settled_balance`). If it holds none of
-- them, both sides of the equation are 0. Otherwise it holds just two, which balance, and one of them counts on the left and the other on the right
-- (`two_balance`): on opposite sides with like signs, since a and b change places; on one side with unlike signs, since +1 and -1 do. (No edge is
-- on both sides of a constraint, so each counts once.) The three equations added up are the claim. Assumes nothing.
use mathlib.Core.Logic.{◌⊎◌, inl, inr}
use mathlib.Core.Path.{◌≡◌, refl, sym}
use mathlib.Core.Bool.{Bool, true, false, not, ◌&&◌}
use mathlib.Core.List.{List, [], ◌∷◌}
use Prim.Native.Nat.{ℕ, suc, ◌+◌, ◌-◌, ◌<◌}
use native.Mathlib.Decide.{ℕ_discrete}
use native.Mathlib.Omega.{arith}
use lib.ListN.{length, get_or, set}
use lib.Seq.{get_or-set_same, get_or-set_other}
use lib.Dec.{T, not_T, eqb, eqb→eq, ltb→lt}
use lib.Ieee.Fits.{and_l}
use Rattle.base.specs.Lists.{member, Distinct, In}
use Rattle.counts.specs.Move.{Change, select, balances, Settled, is_allowed, changed, apply_changes, UnitMove}
use Rattle.regions.specs.Region.{Constraint, constraint, holds, side_sum}
use Rattle.regions.proofs.region.Constraints.{holds_a, holds_b}
use Rattle.base.proofs.BoolLaws.{by_truth, clash, eq→eqb, or_other, nor_left, nor_right, T_true, true_T, false_T, not_T_false}
use Rattle.counts.proofs.MoveLaws.{in_select, Apart, like, unlike, after, Doable, doable_rest, doable_move}

abbrev one_if : Bool → ℕ
one_if true = 1
one_if false = 0

abbrev cnt : (Change → Bool) → List Change → ℕ
cnt p [] = 0
cnt p (z ∷ r) = one_if (p z) + cnt p r

abbrev ups : List ℕ → Change → Bool
ups l z = member z.0 l && z.1

abbrev downs : List ℕ → Change → Bool
downs l z = member z.0 l && not z.1

-- ---- a count is set
side_sum_set_out : (counts : List ℕ) (e v : ℕ) (l : List ℕ) → T (not (member e l)) → side_sum (set counts e v) l ≡ side_sum counts l
side_sum_set_out counts e v [] t = refl
side_sum_set_out counts e v (x ∷ l) t =
    let p = get_or-set_other counts e x v 0 (λ q. clash (eqb e x) (eq→eqb e x (sym q)) (nor_left (eqb e x) (member e l) t)) in
    let q = side_sum_set_out counts e v l (nor_right (eqb e x) (member e l) t) in
    omega arith

side_sum_set_in : (counts : List ℕ) (e v : ℕ) (l : List ℕ) → e < length counts → T (member e l) → Distinct l
    → side_sum (set counts e v) l + get_or counts e 0 ≡ side_sum counts l + v
side_sum_set_in counts e v [] b t d = absurd t
side_sum_set_in counts e v (x ∷ l) b t d = elim (ℕ_discrete e x) [
  | yes q ↦ (
      let here = get_or-set_same counts e v 0 b in
      let out = side_sum_set_out counts e v l (rw q d.0) in
      rw (← q) (omega arith))
  | no n ↦ (
      let other = get_or-set_other counts e x v 0 (λ q. n (sym q)) in
      let ih = side_sum_set_in counts e v l b (or_other (eqb e x) (member e l) (not_T (eqb e x) (λ u. n (eqb→eq e x u))) t) d.1 in
      omega arith)
]

-- ---- the changes one after the other
one_change : (counts : List ℕ) (z : Change) (l : List ℕ) → z.0 < length counts → T (is_allowed counts z.0 z.1) → Distinct l
    → side_sum (after z counts) l + one_if (downs l z) ≡ side_sum counts l + one_if (ups l z)
one_change counts z l b c d =
    by_truth (member z.0 l) here (λ m. rw m (omega (arith, side_sum_set_out counts z.0 (changed z.1 n) l (false_T _ m))))
  where
    n : ℕ
    n = get_or counts z.0 0

    here : member z.0 l ≡ true → side_sum (after z counts) l + one_if (downs l z) ≡ side_sum counts l + one_if (ups l z)
    here m =
        by_truth z.1
        (λ s. rw (m, s) (omega (arith, side_sum_set_in counts z.0 (suc n) l b (true_T _ m) d)))
        (λ s. rw (m, s) (omega (arith, side_sum_set_in counts z.0 (n - 1) l b (true_T _ m) d, ltb→lt 0 n (rw s at c))))

total_apply : (r : List Change) (counts : List ℕ) (l : List ℕ) → Distinct l → Doable counts r
    → side_sum (apply_changes r counts) l + cnt (downs l) r ≡ side_sum counts l + cnt (ups l) r
total_apply [] counts l d e = refl
total_apply (z ∷ r) counts l d e =
    let first = one_change counts z l (e.there z (inl refl)) (e.allowed z (inl refl)) d in
    let rest = total_apply r (after z counts) l d (doable_rest e) in
    omega arith

-- ---- in one constraint
cnt_select : (p : Change → Bool) (h : ℕ → Bool) → ((z : Change) → T (p z) → T (h z.0)) → (r : List Change) → cnt p (select h r) ≡ cnt p r
cnt_select p h f [] = refl
cnt_select p h f (z ∷ r) =
    let e = cnt_select p h f r in
    by_truth (h z.0)
    (λ t. rw (t, e))
    (λ t. let n = not_T_false (p z) (λ u. clash (h z.0) (f z u) (false_T _ t)) in rw (t, e, n) (omega arith))

-- an edge that the constraint holds is on one side of it
on_one : (c : Constraint) (x : ℕ) → Apart c → T (holds c x)
    → ((member x c.a ≡ true) × (member x c.b ≡ false)) ⊎ ((member x c.a ≡ false) × (member x c.b ≡ true))
on_one c x o h =
    by_truth (member x c.a)
    (λ p. inl (p, not_T_false _ (o x (true_T _ p))))
    (λ p. inr (p, T_true _ (or_other (member x c.a) (member x c.b) (false_T _ p) h)))

two_balance : (c : Constraint) (z w : Change) → Apart c → T (holds c z.0) → T (holds c w.0) → T (balances c z w)
    → cnt (ups c.a) (z ∷ w ∷ []) + cnt (downs c.b) (z ∷ w ∷ []) ≡ cnt (ups c.b) (z ∷ w ∷ []) + cnt (downs c.a) (z ∷ w ∷ [])
two_balance c z w o hz hw t =
    elim (on_one c z.0 o hz) [
      | inl p ↦ elim (on_one c w.0 o hw) [
        | inl q ↦ rw (p.0, p.1, q.0, q.1, unlike z.1 w.1 (rw (p.0, q.0) at t)) (by_truth z.1 (λ s. rw s) (λ s. rw s))
        | inr q ↦ rw (p.0, p.1, q.0, q.1, like z.1 w.1 (rw (p.0, q.0) at t)) (by_truth z.1 (λ s. rw s) (λ s. rw s))
      ]
      | inr p ↦ elim (on_one c w.0 o hw) [
        | inl q ↦ rw (p.0, p.1, q.0, q.1, like z.1 w.1 (rw (p.0, q.0) at t)) (by_truth z.1 (λ s. rw s) (λ s. rw s))
        | inr q ↦ rw (p.0, p.1, q.0, q.1, unlike z.1 w.1 (rw (p.0, q.0) at t)) (by_truth z.1 (λ s. rw s) (λ s. rw s))
      ]
    ]

-- a move's changes weigh alike on both sides
settled_balance : (c : Constraint) (l : List Change) → Apart c → ((z : Change) → In z l → T (holds c z.0)) → Settled c l
    → cnt (ups c.a) l + cnt (downs c.b) l ≡ cnt (ups c.b) l + cnt (downs c.a) l
settled_balance c [] o h f = refl
settled_balance c (z ∷ []) o h f = absurd f
settled_balance c (z ∷ w ∷ []) o h f = two_balance c z w o (h z (inl refl)) (h w (inr (inl refl))) f
settled_balance c (z ∷ w ∷ v ∷ l) o h f = absurd f

even_change : (c : Constraint) (r : List Change) → Apart c → Settled c (select (holds c) r)
    → cnt (ups c.a) r + cnt (downs c.b) r ≡ cnt (ups c.b) r + cnt (downs c.a) r
even_change c r o f =
    let e = settled_balance c (select (holds c) r) o (λ z i. (in_select (holds c) z r i).1) f in
    let p = cnt_select (ups c.a) (holds c) (λ z t. holds_a c z.0 (and_l (member z.0 c.a) z.1 t)) r in
    let q = cnt_select (downs c.b) (holds c) (λ z t. holds_b c z.0 (and_l (member z.0 c.b) (not z.1) t)) r in
    let u = cnt_select (ups c.b) (holds c) (λ z t. holds_b c z.0 (and_l (member z.0 c.b) z.1 t)) r in
    let v = cnt_select (downs c.a) (holds c) (λ z t. holds_a c z.0 (and_l (member z.0 c.a) (not z.1) t)) r in
    omega arith

-- a unit move keeps the balance of each constraint, exactly
pub move_balance : (g : List Constraint) (counts : List ℕ) (r : List Change) → UnitMove g counts r
    → (i : ℕ) → Distinct (constraint g i).a → Distinct (constraint g i).b → Apart (constraint g i)
    → side_sum (apply_changes r counts) (constraint g i).a + side_sum counts (constraint g i).b
    ≡ side_sum (apply_changes r counts) (constraint g i).b + side_sum counts (constraint g i).a
move_balance g counts r m i da db o =
    let e = even_change (constraint g i) r o (m.two i) in
    let p = total_apply r counts (constraint g i).a da (doable_move m) in
    let q = total_apply r counts (constraint g i).b db (doable_move m) in
    omega arith
