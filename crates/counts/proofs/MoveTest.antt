-- The test of specs/MoveTest passes just where there is a unit move: `unit_move_test`, for all constraints, counts and changes.
--
-- Part by part. Three parts of `UnitMove` are tests already; that edges are distinct and that a constraint is settled are tests once they are
-- written with Booleans (`distinct_test`, `settled_test`). `two` speaks of constraints of every number, the test of those in the list: past its end
-- a constraint has no sides and holds no edge, so that it is settled (`two_test`).
-- What is left is that the edges are joined (`joined_test`). The test goes out from the first edge and keeps the edges reached and the rest. A
-- turn moves those of the rest that are near, that is, share a constraint with a reached one, over to the reached.
-- * If the rest is empty in the end, all are joined. Whatever is reached is joined to the first edge (`near_joined`, turn by turn `reached_joined`), and
--   from any edge to any other there is a way over the first, since a way can be gone back (`joined_back`).
-- * If all are joined, the rest is empty in the end. While an edge is in the rest, go along a way from the first edge to it. The way begins at a
--   reached edge and ends at one that is not, so somewhere it steps from a reached edge to one of the rest, and that one is near (`crossing`). So
--   every turn makes the rest shorter (`fewer_left`), and as many turns as it had edges leave none (`joined_reached`).
-- An edge of the rest that is reached already counts as near, so that nothing here asks for distinct edges. Assumes nothing.
use mathlib.Core.Logic.{◌↔◌, ◌⊎◌, inl, inr}
use mathlib.Core.Path.{◌≡◌, refl}
use mathlib.Core.Bool.{Bool, false, not, ◌&&◌}
use mathlib.Core.List.{List, [], ◌∷◌, ◌++◌}
use Prim.Native.Nat.{ℕ, zero, suc, ◌≤◌, ◌<◌}
use native.Mathlib.Omega.{arith}
use lib.ListN.{length}
use lib.Dec.{T, ltb, ltb→lt, lt→ltb}
use lib.Ieee.Fits.{and_i, and_l, and_r}
use Rattle.base.specs.Lists.{In, member, any, all, filter, Distinct}
use Rattle.regions.specs.Region.{Constraint, constraint, holds}
use Rattle.counts.specs.Move.{Change, edges, select, is_allowed, Settled, share, Joined, same, next, UnitMove}
use Rattle.counts.specs.MoveTest.{is_distinct, is_settled, is_near, reaches_all, is_joined, is_unit_move}
use Rattle.base.proofs.BoolLaws.{by_cases, by_truth, or_split, or_left, or_right, T_true}
use Rattle.base.proofs.ListLaws.{member→in, in→member, in_left, in_right, in_split, in_filter, filter_in, any_in, in_any}
use Rattle.counts.proofs.MoveLaws.{join, joined_back}

-- ---- distinct edges, settled constraints

distinct_test : (l : List ℕ) → T (is_distinct l) ↔ Distinct l
distinct_test [] = ((λ t. t), λ d. d)
distinct_test (x ∷ l) = (
  (λ t. (and_l (not (member x l)) (is_distinct l) t, (distinct_test l).0 (and_r (not (member x l)) (is_distinct l) t))),
  λ d. and_i (not (member x l)) (is_distinct l) d.0 ((distinct_test l).1 d.1),
)

settled_test : (c : Constraint) (l : List Change) → T (is_settled c l) ↔ Settled c l
settled_test c [] = ((λ t. t), λ s. s)
settled_test c (z ∷ []) = ((λ t. t), λ s. s)
settled_test c (z ∷ w ∷ []) = ((λ t. t), λ s. s)
settled_test c (z ∷ w ∷ v ∷ l) = ((λ t. t), λ s. s)

-- what a constraint past the end of the list holds
select_nothing : (r : List Change) → select (λ (x : ℕ). false) r ≡ []
select_nothing [] = refl
select_nothing (z ∷ r) = select_nothing r

-- the constraints of the list, and all of them by their number
two_test : (g : List Constraint) (r : List Change)
    → T (all (λ (c : Constraint). is_settled c (select (holds c) r)) g) ↔ ((i : ℕ) → Settled (constraint g i) (select (holds (constraint g i)) r))
two_test g r = (by_number g, of_all g)
  where
    passes : Constraint → Bool
    passes c = is_settled c (select (holds c) r)

    by_number : (g : List Constraint) → T (all passes g) → (i : ℕ) → Settled (constraint g i) (select (holds (constraint g i)) r)
    by_number [] t i = rw select_nothing tt
    by_number (c ∷ g) t zero = (settled_test c (select (holds c) r)).0 (and_l (passes c) (all passes g) t)
    by_number (c ∷ g) t (suc i) = by_number g (and_r (passes c) (all passes g) t) i

    of_all : (g : List Constraint) → ((i : ℕ) → Settled (constraint g i) (select (holds (constraint g i)) r)) → T (all passes g)
    of_all [] s = tt
    of_all (c ∷ g) s = and_i (passes c) (all passes g) ((settled_test c (select (holds c) r)).1 (s 0)) (of_all g (λ i. s (suc i)))

-- ---- lists

-- what does not pass is left, and it is less than there was if something passes
length_left : (p : ℕ → Bool) (l : List ℕ) → length (filter (λ (z : ℕ). not (p z)) l) ≤ length l
length_left p [] = omega arith
length_left p (x ∷ l) = let h = length_left p l in by_truth (p x) (λ t. rw t (omega arith)) (λ t. rw t (omega arith))

fewer_left : (p : ℕ → Bool) (l : List ℕ) (y : ℕ) → In y l → T (p y) → length (filter (λ (z : ℕ). not (p z)) l) < length l
fewer_left p [] y i t = absurd i
fewer_left p (x ∷ l) y (inl e) t = let h = length_left p l in rw (T_true (p x) (rw e at t)) (omega arith)
fewer_left p (x ∷ l) y (inr i) t = let h = fewer_left p l y i t in by_truth (p x) (λ t. rw t (omega arith)) (λ t. rw t (omega arith))

-- ---- joined edges

module _ (g : List Constraint) (l : List ℕ) (x0 : ℕ) where
  -- what is near to edges that are joined to x0 is joined to x0
  near_joined : (reached : List ℕ) → ((x : ℕ) → In x reached → Joined g l x0 x) → (y : ℕ) → T (member y l) → T (is_near g reached y) → Joined g l x0 y
  near_joined reached j y m t = elim (or_split (member y reached) (any (λ (x : ℕ). share g x y) reached) t) [
    | inl u ↦ j y (member→in y reached u)
    | inr u ↦ (let w = any_in (λ (x : ℕ). share g x y) reached u in next x0 w.0 y (j w.0 w.1) m w.2)
  ]

  -- those of the rest that a turn moves over to the reached, and those that it leaves
  abbrev near : List ℕ → List ℕ → List ℕ
  near reached rest = filter (is_near g reached) rest

  abbrev far : List ℕ → List ℕ → List ℕ
  far reached rest = filter (λ (z : ℕ). not (is_near g reached z)) rest

  -- if nothing is left in the end, all of the rest are joined to x0
  reached_joined : (n : ℕ) (reached rest : List ℕ) → ((x : ℕ) → In x reached → Joined g l x0 x) → ((y : ℕ) → In y rest → T (member y l))
      → T (reaches_all g n reached rest) → (y : ℕ) → In y rest → Joined g l x0 y
  reached_joined zero reached [] j m t y i = absurd i
  reached_joined zero reached (z ∷ rest) j m t y i = absurd t
  reached_joined (suc n) reached rest j m t y i =
      let j' : (x : ℕ) → In x (near reached rest ++ reached) → Joined g l x0 x = λ x k. elim (in_split x (near reached rest) reached k) [
        | inl a ↦ (let f = filter_in (is_near g reached) x rest a in near_joined reached j x (m x f.0) f.1)
        | inr b ↦ j x b
      ] in
      let m' : (z : ℕ) → In z (far reached rest) → T (member z l) = λ z k. m z (filter_in (λ (z : ℕ). not (is_near g reached z)) z rest k).0 in
      by_cases (is_near g reached y)
      (near_joined reached j y (m y i))
      (λ u. reached_joined n (near reached rest ++ reached) (far reached rest) j' m' t y (in_filter (λ (z : ℕ). not (is_near g reached z)) y rest i u))

  -- on a way from a reached edge some edge of the rest is near, or the way ends at a reached edge
  crossing : (reached rest : List ℕ) → In x0 reached → ((y : ℕ) → T (member y l) → In y reached ⊎ In y rest) → (y : ℕ) → Joined g l x0 y
      → ((z : ℕ) × In z rest × T (is_near g reached z)) ⊎ In y reached
  crossing reached rest i c y (same _) = inr i
  crossing reached rest i c y (next _ w _ p m s) = elim (crossing reached rest i c w p) [
    | inl a ↦ inl a
    | inr b ↦ elim (c y m) [
      | inl r ↦ inr r
      | inr r ↦ inl (y, r, or_right (member y reached) (any (λ (x : ℕ). share g x y) reached) (in_any (λ (x : ℕ). share g x y) reached w b s))
    ]
  ]

  -- if all of the rest are joined to x0, each turn finds one of them, so that as many turns as there are leave none
  joined_reached : (n : ℕ) (reached rest : List ℕ) → length rest ≤ n → In x0 reached → ((y : ℕ) → T (member y l) → In y reached ⊎ In y rest)
      → ((y : ℕ) → In y rest → Joined g l x0 y) → T (reaches_all g n reached rest)
  joined_reached zero reached [] h i c j = tt
  joined_reached zero reached (z ∷ rest) h i c j = absurd (omega arith)
  joined_reached (suc n) reached rest h i c j =
      joined_reached n (near reached rest ++ reached) (far reached rest)
      (fewer rest h (λ y k. crossing reached rest i c y (j y k)))
      (in_right x0 (near reached rest) reached i)
      (λ y m. elim (c y m) [
        | inl r ↦ inl (in_right y (near reached rest) reached r)
        | inr r ↦ by_cases (is_near g reached y)
            (λ u. inl (in_left y (near reached rest) reached (in_filter (is_near g reached) y rest r u)))
            (λ u. inr (in_filter (λ (z : ℕ). not (is_near g reached z)) y rest r u))
      ])
      (λ y k. j y (filter_in (λ (z : ℕ). not (is_near g reached z)) y rest k).0)
    where
      fewer : (rest : List ℕ) → length rest ≤ suc n → ((y : ℕ) → In y rest → ((z : ℕ) × In z rest × T (is_near g reached z)) ⊎ In y reached)
          → length (far reached rest) ≤ n
      fewer [] h f = omega arith
      fewer (y ∷ rest) h f = elim (f y (inl refl)) [
        | inl w ↦ (let k = fewer_left (is_near g reached) (y ∷ rest) w.0 w.1 w.2 in omega arith)
        | inr r ↦ (
            let u = or_left (member y reached) (any (λ (x : ℕ). share g x y) reached) (in→member y reached r) in
            let k = fewer_left (is_near g reached) (y ∷ rest) y (inl refl) u in
            omega arith)
      ]

joined_test : (g : List Constraint) (l : List ℕ) → T (is_joined g l) ↔ ((x y : ℕ) → T (member x l) → T (member y l) → Joined g l x y)
joined_test g [] = ((λ t x y m n. absurd m), λ j. tt)
joined_test g (x0 ∷ l) = (
  (λ t x y m n. join (joined_back first (from_first t x m)) (from_first t y n)),
  λ j. joined_reached g (x0 ∷ l) x0 (length l) (x0 ∷ []) l (omega arith) (inl refl)
      (λ y m. elim (member→in y (x0 ∷ l) m) [ inl e ↦ inl (inl e) | inr i ↦ inr i ])
      (λ y i. j x0 y first (in→member y (x0 ∷ l) (inr i))),
)
  where
    first : T (member x0 (x0 ∷ l))
    first = in→member x0 (x0 ∷ l) (inl refl)

    from_first : T (is_joined g (x0 ∷ l)) → (y : ℕ) → T (member y (x0 ∷ l)) → Joined g (x0 ∷ l) x0 y
    from_first t y m = elim (member→in y (x0 ∷ l) m) [
      | inl e ↦ rw e (same x0)
      | inr i ↦ reached_joined g (x0 ∷ l) x0 (length l) (x0 ∷ []) l
          (λ x k. elim k [ inl e ↦ rw e (same x0) | inr k ↦ absurd k ])
          (λ z k. in→member z (x0 ∷ l) (inr k)) t y i
    ]

-- ---- the whole test

pub unit_move_test : (g : List Constraint) (counts : List ℕ) (r : List Change) → T (is_unit_move g counts r) ↔ UnitMove g counts r
unit_move_test g counts r = (
  (λ t.
      let t1 = and_r some_part (distinct_part && (there_part && (down_part && (two_part && joined_part)))) t in
      let t2 = and_r distinct_part (there_part && (down_part && (two_part && joined_part))) t1 in
      let t3 = and_r there_part (down_part && (two_part && joined_part)) t2 in
      let t4 = and_r down_part (two_part && joined_part) t3 in
      record {
        some = ltb→lt 0 (length r) (and_l some_part (distinct_part && (there_part && (down_part && (two_part && joined_part)))) t);
        distinct = (distinct_test (edges r)).0 (and_l distinct_part (there_part && (down_part && (two_part && joined_part))) t1);
        there = and_l there_part (down_part && (two_part && joined_part)) t2;
        down = and_l down_part (two_part && joined_part) t3;
        two = (two_test g r).0 (and_l two_part joined_part t4);
        joined = (joined_test g (edges r)).0 (and_r two_part joined_part t4);
      }),
  λ m.
      and_i some_part _ (lt→ltb 0 (length r) m.some)
      (and_i distinct_part _ ((distinct_test (edges r)).1 m.distinct)
      (and_i there_part _ m.there
      (and_i down_part _ m.down
      (and_i two_part _ ((two_test g r).1 m.two)
      ((joined_test g (edges r)).1 m.joined))))),
)
  where
    some_part : Bool
    some_part = ltb 0 (length r)

    distinct_part : Bool
    distinct_part = is_distinct (edges r)

    there_part : Bool
    there_part = all (λ (z : Change). ltb z.0 (length counts)) r

    down_part : Bool
    down_part = all (λ (z : Change). is_allowed counts z.0 z.1) r

    two_part : Bool
    two_part = all (λ (c : Constraint). is_settled c (select (holds c) r)) g

    joined_part : Bool
    joined_part = is_joined g (edges r)
