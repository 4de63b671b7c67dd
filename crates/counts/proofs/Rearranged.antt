-- Changes listed in another order: laws of Rearranged, distinct edges that stay so, and that a unit move stays one.
--
-- Proof idea. Two lists are rearranged if they have the same members, so refl, sym and trans are those of "just if", and the rest are facts on
-- members of p ++ q. Distinct edges are kept where one change is moved within the list, and any turn or swap of a list is made of such moves.
-- Of a unit move, that the second list has distinct edges is given, and all else but `two` speaks of members alone. `two`: what a constraint holds
-- of the one list and what it holds of the other are rearranged too, and have distinct edges. The first has no change, or two that balance.
-- If none, then the other has none. If two, then the other has just these two, in this order or turned: a list of one has not both of them,
-- and of three distinct edges in a list of two, two would be the same. To balance is symmetric. Assumes nothing.
use mathlib.Core.Logic.{◌≢◌, inl, inr}
use mathlib.Core.Path.{◌≡◌, refl, sym, ap, ◌∙◌}
use mathlib.Core.Bool.{Bool, true, false, beq}
use mathlib.Core.List.{List, [], ◌∷◌, ◌++◌, append-nil, reverse, reverse_aux}
use Prim.Native.Nat.{ℕ, ◌≤◌, ◌<◌}
use native.Mathlib.Omega.{arith}
use lib.ListN.{length}
use lib.Dec.{T, ltb}
use Rattle.base.specs.Lists.{In, member, Distinct}
use Rattle.regions.specs.Region.{Constraint, constraint, holds}
use Rattle.counts.specs.Move.{Change, edges, select, is_allowed, balances, Settled, Linked, Joined, same, next, UnitMove, Rearranged}
use Rattle.base.proofs.BoolLaws.{by_truth}
use Rattle.base.proofs.ListLaws.{member→in, in→member, in_left, in_right, in_split, every, every_in}
use Rattle.counts.proofs.MoveLaws.{distinct_cons, edges_in, edge_of, later_differs, select_in, in_select, share_sym}
use Rattle.counts.proofs.Accepted.{three}

-- ---- the same members
pub rearranged_refl : (r : List Change) → Rearranged r r
rearranged_refl r z = (λ i. i, λ i. i)

pub rearranged_sym : (r q : List Change) → Rearranged r q → Rearranged q r
rearranged_sym r q e z = ((e z).1, (e z).0)

pub rearranged_trans : (r q p : List Change) → Rearranged r q → Rearranged q p → Rearranged r p
rearranged_trans r q p e f z = (λ i. (f z).0 ((e z).0 i), λ i. (e z).1 ((f z).1 i))

-- one change moved to the front
pub rearranged_front : (a : List Change) (z : Change) (b : List Change) → Rearranged (a ++ z ∷ b) (z ∷ a ++ b)
rearranged_front a z b w = (
  λ i. elim (in_split w a (z ∷ b) i) [ inl j ↦ inr (in_left w a b j) | inr j ↦ elim j [ inl q ↦ inl q | inr k ↦ inr (in_right w a b k) ] ],
  λ i. elim i [ inl q ↦ in_right w a (z ∷ b) (inl q) | inr j ↦ elim (in_split w a b j) [ inl k ↦ in_left w a (z ∷ b) k | inr k ↦ in_right w a (z ∷ b) (inr k) ] ],
)

in_swapped : (p q : List Change) (w : Change) → In w (p ++ q) → In w (q ++ p)
in_swapped p q w i = elim (in_split w p q i) [ inl j ↦ in_right w q p j | inr j ↦ in_left w q p j ]

pub rearranged_swap : (p q : List Change) → Rearranged (p ++ q) (q ++ p)
rearranged_swap p q w = (in_swapped p q w, in_swapped q p w)

-- a turned round, before b
pub rearranged_turn : (a b : List Change) → Rearranged (a ++ b) (reverse_aux a b)
rearranged_turn [] b = rearranged_refl b
rearranged_turn (x ∷ a) b =
    rearranged_trans (x ∷ a ++ b) (a ++ x ∷ b) (reverse_aux a (x ∷ b)) (rearranged_sym (a ++ x ∷ b) (x ∷ a ++ b) (rearranged_front a x b)) (rearranged_turn a (x ∷ b))

pub rearranged_reverse : (r : List Change) → Rearranged r (reverse r)
rearranged_reverse r = rw append-nil at (rearranged_turn r [])

-- ---- distinct edges
pub distinct_front : (a : List Change) (z : Change) (b : List Change) → Distinct (edges (a ++ z ∷ b)) → Distinct (edges (z ∷ a ++ b))
distinct_front [] z b d = d
distinct_front (x ∷ a) z b d =
    let ih = distinct_front a z b d.1 in
    distinct_cons z (x ∷ a ++ b)
    (λ w i e. elim i [
      | inl q ↦ later_differs x (a ++ z ∷ b) d z (in_right z a (z ∷ b) (inl refl)) (sym e ∙ ap (λ (k : Change). k.0) q)
      | inr j ↦ later_differs z (a ++ b) ih w j e
    ])
    (distinct_cons x (a ++ b) (λ w i. later_differs x (a ++ z ∷ b) d w ((rearranged_front a z b w).1 (inr i))) ih.1)

-- the first change moved back
pub distinct_back : (a : List Change) (z : Change) (b : List Change) → Distinct (edges (z ∷ a ++ b)) → Distinct (edges (a ++ z ∷ b))
distinct_back [] z b d = d
distinct_back (x ∷ a) z b d =
    distinct_cons x (a ++ z ∷ b)
    (λ w i e. elim ((rearranged_front a z b w).0 i) [
      | inl q ↦ later_differs z (x ∷ a ++ b) d x (inl refl) (sym e ∙ ap (λ (k : Change). k.0) q)
      | inr j ↦ later_differs x (a ++ b) d.1 w j e
    ])
    (distinct_back a z b (distinct_cons z (a ++ b) (λ w i. later_differs z (x ∷ a ++ b) d w (inr i)) d.1.1))

pub distinct_swap : (p q : List Change) → Distinct (edges (p ++ q)) → Distinct (edges (q ++ p))
distinct_swap [] q d = rw append-nil d
distinct_swap (x ∷ p) q d = distinct_back q x p (distinct_cons x (q ++ p) (λ w i. later_differs x (p ++ q) d w (in_swapped q p w i)) (distinct_swap p q d.1))

pub distinct_turn : (a b : List Change) → Distinct (edges (a ++ b)) → Distinct (edges (reverse_aux a b))
distinct_turn [] b d = d
distinct_turn (x ∷ a) b d = distinct_turn a (x ∷ b) (distinct_back a x b d)

pub distinct_reverse : (r : List Change) → Distinct (edges r) → Distinct (edges (reverse r))
distinct_reverse r d = distinct_turn r [] (rw append-nil d)

pub distinct_left : (p q : List Change) → Distinct (edges (p ++ q)) → Distinct (edges p)
distinct_left [] q d = tt
distinct_left (x ∷ p) q d = distinct_cons x p (λ w i. later_differs x (p ++ q) d w (in_left w p q i)) (distinct_left p q d.1)

pub parts_differ : (p q : List Change) → Distinct (edges (p ++ q)) → (a b : Change) → In a p → In b q → a.0 ≢ b.0
parts_differ [] q d a b i j e = i
parts_differ (x ∷ p) q d a b (inl u) j e = later_differs x (p ++ q) d b (in_right b p q j) (sym e ∙ ap (λ (k : Change). k.0) u)
parts_differ (x ∷ p) q d a b (inr i) j e = parts_differ p q d.1 a b i j e

-- ---- neighbours share a constraint from the other end too
linked_turn : (g : List Constraint) (f : Change) (m t : List Change) → Linked g (f ∷ m) → Linked g (f ∷ t) → Linked g (reverse_aux m (f ∷ t))
linked_turn g f [] t l k = k
linked_turn g f (y ∷ m) t l k = linked_turn g y m (f ∷ t) l.1 (share_sym g f.0 y.0 l.0, k)

pub linked_reverse : (g : List Constraint) (r : List Change) → Linked g r → Linked g (reverse r)
linked_reverse g [] l = tt
linked_reverse g (z ∷ r) l = linked_turn g z r [] l tt

-- ---- what a constraint holds of it
in_selected : (p : ℕ → Bool) (r q : List Change) → Rearranged r q → (z : Change) → In z (select p r) → In z (select p q)
in_selected p r q e z i = let u = in_select p z r i in select_in p z q ((e z).0 u.0) u.1

pub rearranged_select : (p : ℕ → Bool) (r q : List Change) → Rearranged r q → Rearranged (select p r) (select p q)
rearranged_select p r q e z = (in_selected p r q e z, in_selected p q r (rearranged_sym r q e) z)

pub distinct_select : (p : ℕ → Bool) (l : List Change) → Distinct (edges l) → Distinct (edges (select p l))
distinct_select p [] d = d
distinct_select p (z ∷ l) d =
    let ih = distinct_select p l d.1 in
    by_truth (p z.0) (λ t. rw t (distinct_cons z (select p l) (λ w i. later_differs z l d w (in_select p w l i).0) ih)) (λ t. rw t ih)

beq_sym : (a b : Bool) → beq a b ≡ beq b a
beq_sym true true = refl
beq_sym true false = refl
beq_sym false true = refl
beq_sym false false = refl

pub balances_sym : (c : Constraint) (z w : Change) → T (balances c z w) → T (balances c w z)
balances_sym c z w t = rw (beq_sym (member z.0 c.a) (member w.0 c.a)) at (rw (beq_sym z.1 w.1) at t)

-- a settled constraint holds two changed edges at the most
pub settled_few : (c : Constraint) (s : List Change) → Settled c s → length (edges s) ≤ 2
settled_few c [] f = omega arith
settled_few c (z ∷ []) f = absurd f
settled_few c (z ∷ w ∷ []) f = omega arith
settled_few c (z ∷ w ∷ v ∷ s) f = absurd f

-- two different changes of a list of two are those two
balanced_two : (c : Constraint) (z w x y : Change) → In x (z ∷ w ∷ []) → In y (z ∷ w ∷ []) → y.0 ≢ x.0 → T (balances c z w) → T (balances c x y)
balanced_two c z w x y (inl p) (inl q) n f = absurd (n (ap (λ (k : Change). k.0) (q ∙ sym p)))
balanced_two c z w x y (inl p) (inr (inl q)) n f = rw p (rw q f)
balanced_two c z w x y (inl p) (inr (inr q)) n f = absurd q
balanced_two c z w x y (inr (inl p)) (inl q) n f = rw p (rw q (balances_sym c z w f))
balanced_two c z w x y (inr (inl p)) (inr (inl q)) n f = absurd (n (ap (λ (k : Change). k.0) (q ∙ sym p)))
balanced_two c z w x y (inr (inl p)) (inr (inr q)) n f = absurd q
balanced_two c z w x y (inr (inr p)) j n f = absurd p

pub settled_rearranged : (c : Constraint) (s t : List Change) → Distinct (edges s) → Distinct (edges t) → Rearranged s t → Settled c s → Settled c t
settled_rearranged c s [] ds dt e f = tt
settled_rearranged c [] (x ∷ t) ds dt e f = absurd ((e x).1 (inl refl))
settled_rearranged c (z ∷ []) (x ∷ t) ds dt e f = absurd f
settled_rearranged c (z ∷ w ∷ []) (x ∷ []) ds dt e f =
    later_differs z (w ∷ []) ds w (inl refl) (ap (λ (k : Change). k.0) (only w ((e w).0 (inr (inl refl))) ∙ sym (only z ((e z).0 (inl refl)))))
  where
    only : (v : Change) → In v (x ∷ []) → v ≡ x
    only v (inl q) = q
    only v (inr q) = absurd q
settled_rearranged c (z ∷ w ∷ []) (x ∷ y ∷ []) ds dt e f =
    balanced_two c z w x y ((e x).1 (inl refl)) ((e y).1 (inr (inl refl))) (later_differs x (y ∷ []) dt y (inl refl)) f
settled_rearranged c (z ∷ w ∷ []) (x ∷ y ∷ v ∷ t) ds dt e f =
    three (z.0 ∷ w.0 ∷ []) (omega arith) v.0 y.0 x.0
    (edges_in v (z ∷ w ∷ []) ((e v).1 (inr (inr (inl refl))))) (edges_in y (z ∷ w ∷ []) ((e y).1 (inr (inl refl)))) (edges_in x (z ∷ w ∷ []) ((e x).1 (inl refl)))
    (later_differs y (v ∷ t) dt.1 v (inl refl)) (later_differs x (y ∷ v ∷ t) dt y (inl refl)) (later_differs x (y ∷ v ∷ t) dt v (inr (inl refl)))
settled_rearranged c (z ∷ w ∷ u ∷ s) (x ∷ t) ds dt e f = absurd f

-- ---- a unit move
edges_rearranged : (r q : List Change) → Rearranged r q → (x : ℕ) → T (member x (edges r)) → T (member x (edges q))
edges_rearranged r q e x t =
    let w = edge_of x r (member→in x (edges r) t) in
    rw w.2 at (in→member w.0.0 (edges q) (edges_in w.0 q ((e w.0).0 w.1)))

pub joined_rearranged : (g : List Constraint) (r q : List Change) → Rearranged r q → (x y : ℕ) → Joined g (edges r) x y → Joined g (edges q) x y
joined_rearranged g r q e x y (same _) = same x
joined_rearranged g r q e x y (next _ w _ j m s) = next x w y (joined_rearranged g r q e x w j) (edges_rearranged r q e y m) s

some_rearranged : (r q : List Change) → Rearranged r q → 0 < length r → 0 < length q
some_rearranged [] q e h = absurd (omega arith)
some_rearranged (z ∷ r) [] e h = absurd ((e z).0 (inl refl))
some_rearranged (z ∷ r) (w ∷ q) e h = omega arith

pub move_rearranged : {g : List Constraint} {counts : List ℕ} {r q : List Change} → UnitMove g counts r → Rearranged r q → Distinct (edges q) → UnitMove g counts q
move_rearranged {g} {counts} {r} {q} m e d =
    record {
      some = some_rearranged r q e m.some;
      distinct = d;
      there = every (λ (z : Change). ltb z.0 (length counts)) q (λ z i. every_in (λ (w : Change). ltb w.0 (length counts)) r m.there z ((e z).1 i));
      down = every (λ (z : Change). is_allowed counts z.0 z.1) q (λ z i. every_in (λ (w : Change). is_allowed counts w.0 w.1) r m.down z ((e z).1 i));
      two = λ i.
          let p = holds (constraint g i) in
          settled_rearranged (constraint g i) (select p r) (select p q) (distinct_select p r m.distinct) (distinct_select p q d)
          (rearranged_select p r q e) (m.two i);
      joined = λ x y t u.
          let f = rearranged_sym r q e in
          joined_rearranged g r q e x y (m.joined x y (edges_rearranged q r f x t) (edges_rearranged q r f y u));
    }
