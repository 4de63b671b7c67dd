-- Laws of specs/Move and of the partners of specs/Search: changes selected by their edge, settled constraints, distinct edges, changes that can
-- be made one after the other, partners, and edges that share a constraint or are joined. Assumes nothing.
use mathlib.Core.Logic.{◌≢◌, ◌⊎◌, inl, inr}
use mathlib.Core.Path.{◌≡◌, refl, sym, ap, subst, ◌∙◌}
use mathlib.Core.Bool.{Bool, true, false, not, ◌&&◌, beq, and_comm}
use mathlib.Core.List.{List, [], ◌∷◌, ◌++◌}
use Prim.Native.Nat.{ℕ, zero, suc, ◌<◌}
use lib.ListN.{length, get_or, set, length-set}
use lib.Seq.{get_or-set_other}
use lib.Dec.{T, ltb, ltb→lt, not_T}
use lib.Ieee.Fits.{and_i, and_l, and_r}
use Rattle.base.specs.Lists.{member, filter, Distinct, In, differs}
use Rattle.counts.specs.Move.{Change, select, edges, balances, Settled, is_allowed, share, Joined, same, next, UnitMove, changed}
use Rattle.regions.specs.Region.{Constraint, constraint, holds, own_side, opposite_side}
use Rattle.counts.specs.Search.{signed, partners}
use Rattle.base.proofs.BoolLaws.{by_truth, clash, ne→differs, or_split, or_left, or_right, or_other, T_true, T_false, true_T, false_T, not_T_false}
use Rattle.regions.proofs.region.Constraints.{holds_a, holds_b}
use Rattle.base.proofs.ListLaws.{member→in, in→member, in_left, in_right, in_split, in_snoc, in_front, in_behind, front_or_behind, in_filter, filter_in, every_in, nothing_in, any_same}

-- ---- signed edges
pub in_at_sign : (s : Bool) (y : ℕ) (l : List ℕ) → In y l → In (y, s) (signed s l)
in_at_sign s y [] i = i
in_at_sign s y (x ∷ l) (inl e) = inl (ap (λ (z : ℕ). (z, s)) e)
in_at_sign s y (x ∷ l) (inr i) = inr (in_at_sign s y l i)

pub at_sign_out : (s : Bool) (z : Change) (l : List ℕ) → In z (signed s l) → In z.0 l × (z.1 ≡ s)
at_sign_out s z [] i = absurd i
at_sign_out s z (y ∷ l) (inl e) = (inl (ap (λ (k : Change). k.0) e), ap (λ (k : Change). k.1) e)
at_sign_out s z (y ∷ l) (inr i) = let r = at_sign_out s z l i in (inr r.0, r.1)

-- ---- the changes whose edge passes a test
-- those that constraint i holds
abbrev pub held : List Constraint → ℕ → List Change → List Change
held g i l = select (holds (constraint g i)) l

pub select_yes : (p : ℕ → Bool) (z : Change) (zs : List Change) → T (p z.0) → select p (z ∷ zs) ≡ z ∷ select p zs
select_yes p z zs t = rw (T_true (p z.0) t)

pub select_no : (p : ℕ → Bool) (z : Change) (zs : List Change) → T (not (p z.0)) → select p (z ∷ zs) ≡ select p zs
select_no p z zs t = rw (T_false (p z.0) t)

pub select_append : (p : ℕ → Bool) (a b : List Change) → select p (a ++ b) ≡ select p a ++ select p b
select_append p [] b = refl
select_append p (z ∷ a) b = by_truth (p z.0) (λ t. rw (t, select_append p a b)) (λ t. rw (t, select_append p a b))

-- an element that passes is found
pub select_in : (p : ℕ → Bool) (z : Change) (l : List Change) → In z l → T (p z.0) → In z (select p l)
select_in p z [] i t = i
select_in p z (w ∷ l) (inl e) t = in_front (p w.0) w (select p l) z (rw e at t) e
select_in p z (w ∷ l) (inr i) t = in_behind (p w.0) w (select p l) z (select_in p z l i t)

-- what is found is an element that passes
pub in_select : (p : ℕ → Bool) (z : Change) (l : List Change) → In z (select p l) → In z l × T (p z.0)
in_select p z [] i = absurd i
in_select p z (w ∷ l) i =
    elim (front_or_behind (p w.0) w (select p l) z i) [
      | inl f ↦ (inl f.1, rw f.1 f.0)
      | inr j ↦ (let r = in_select p z l j in (inr r.0, r.1))
    ]

pub select_none : (p : ℕ → Bool) (l : List Change) → ((z : Change) → In z l → T (p z.0) → ⊥) → select p l ≡ []
select_none p [] h = refl
select_none p (z ∷ l) h = select_no p z l (not_T (p z.0) (h z (inl refl))) ∙ select_none p l (λ w i. h w (inr i))

-- and back
pub none_selected : (p : ℕ → Bool) (l : List Change) → select p l ≡ [] → (z : Change) → In z l → T (p z.0) → ⊥
none_selected p l e z i t = nothing_in z (select p l) (select_in p z l i t) e

-- ---- what a settled constraint holds
pub settled_mid : (c : Constraint) (P : List Change) (u v : Change) (Q : List Change) → Settled c (P ++ u ∷ v ∷ Q) → (P ≡ []) × (Q ≡ []) × T (balances c u v)
settled_mid c [] u v [] f = (refl, refl, f)
settled_mid c [] u v (q ∷ Q) f = absurd f
settled_mid c (p ∷ []) u v Q f = absurd f
settled_mid c (p ∷ p' ∷ []) u v Q f = absurd f
settled_mid c (p ∷ p' ∷ p'' ∷ P) u v Q f = absurd f

-- ---- edges
pub edges_in : (z : Change) (l : List Change) → In z l → In z.0 (edges l)
edges_in z [] i = i
edges_in z (w ∷ l) (inl e) = inl (ap (λ (k : Change). k.0) e)
edges_in z (w ∷ l) (inr i) = inr (edges_in z l i)

pub edge_of : (x : ℕ) (l : List Change) → In x (edges l) → (z : Change) × In z l × (z.0 ≡ x)
edge_of x [] i = absurd i
edge_of x (z ∷ l) (inl e) = (z, inl refl, sym e)
edge_of x (z ∷ l) (inr i) = let w = edge_of x l i in (w.0, inr w.1, w.2)

-- distinct ones
pub later_differs : (z : Change) (l : List Change) → Distinct (edges (z ∷ l)) → (w : Change) → In w l → w.0 ≢ z.0
later_differs z l d w i e = clash (member z.0 (edges l)) (in→member z.0 (edges l) (rw e at (edges_in w l i))) d.0

pub earlier_differs : (A : List Change) (z : Change) (B : List Change) → Distinct (edges (A ++ z ∷ B)) → (w : Change) → In w A → w.0 ≢ z.0
earlier_differs [] z B d w i e = absurd i
earlier_differs (a ∷ A) z B d w (inl q) e = later_differs a (A ++ z ∷ B) d z (in_right z A (z ∷ B) (inl refl)) (sym e ∙ ap (λ (k : Change). k.0) q)
earlier_differs (a ∷ A) z B d w (inr i) e = earlier_differs A z B d.1 w i e

pub distinct_cons : (z : Change) (l : List Change) → ((w : Change) → In w l → w.0 ≢ z.0) → Distinct (edges l) → Distinct (edges (z ∷ l))
distinct_cons z l n d = (not_T (member z.0 (edges l)) (λ t. let w = edge_of z.0 l (member→in z.0 (edges l) t) in n w.0 w.1 w.2), d)

pub distinct_snoc : (l : List Change) (z : Change) → Distinct (edges l) → ((w : Change) → In w l → w.0 ≢ z.0) → Distinct (edges (l ++ z ∷ []))
distinct_snoc [] z d n = (tt, tt)
distinct_snoc (a ∷ l) z d n =
    distinct_cons a (l ++ z ∷ [])
    (λ w i e. elim (in_snoc w l z i) [ inl j ↦ later_differs a l d w j e | inr q ↦ n a (inl refl) (sym e ∙ ap (λ (k : Change). k.0) q) ])
    (distinct_snoc l z d.1 (λ w i. n w (inr i)))

-- ---- changes made one after the other
-- the counts after one change
abbrev pub after : Change → List ℕ → List ℕ
after z counts = set counts z.0 (changed z.1 (get_or counts z.0 0))

pub after_other : (z : Change) (counts : List ℕ) (x : ℕ) → x ≢ z.0 → get_or (after z counts) x 0 ≡ get_or counts x 0
after_other z counts x n = get_or-set_other counts z.0 x (changed z.1 (get_or counts z.0 0)) 0 n

-- changes that can be made: distinct edges that have counts, and no -1 at count 0
pub record Doable (counts : List ℕ) (r : List Change) : Type 0 where
  pub distinct : Distinct (edges r)
  pub there : (z : Change) → In z r → z.0 < length counts
  pub allowed : (z : Change) → In z r → T (is_allowed counts z.0 z.1)

-- so can the others after the first
pub doable_rest : {counts : List ℕ} {z : Change} {r : List Change} → Doable counts (z ∷ r) → Doable (after z counts) r
doable_rest {counts} {z} {r} d =
    record {
      distinct = d.distinct.1;
      there = λ w i. rw length-set (d.there w (inr i));
      allowed = λ w i. rw (after_other z counts w.0 (later_differs z r d.distinct w i)) (d.allowed w (inr i));
    }

pub doable_move : {g : List Constraint} {counts : List ℕ} {r : List Change} → UnitMove g counts r → Doable counts r
doable_move {counts = counts} {r = r} m =
    record {
      distinct = m.distinct;
      there = λ z i. ltb→lt z.0 (length counts) (every_in (λ (w : Change). ltb w.0 (length counts)) r m.there z i);
      allowed = every_in (λ (w : Change). is_allowed counts w.0 w.1) r m.down;
    }

-- ---- partners
-- no edge is on both sides
abbrev pub Apart : Constraint → Type 0
Apart c = (x : ℕ) → T (member x c.a) → T (member x c.b) → ⊥

-- two changes balance: on one side with unlike signs, on opposite sides with like signs
pub unlike : (s t : Bool) → T (beq true (not (beq s t))) → t ≡ not s
unlike true true u = absurd u
unlike true false u = refl
unlike false true u = refl
unlike false false u = absurd u

pub like : (s t : Bool) → T (beq false (not (beq s t))) → t ≡ s
like true true u = refl
like true false u = absurd u
like false true u = absurd u
like false false u = refl

unlike_balance : (s : Bool) → T (beq true (not (beq s (not s))))
unlike_balance true = tt
unlike_balance false = tt

like_balance : (s : Bool) → T (beq false (not (beq s s)))
like_balance true = tt
like_balance false = tt

pub in_partners : (c : Constraint) (x z : Change) → T (holds c z.0) → T (holds c x.0) → z.0 ≢ x.0 → T (balances c x z) → In z (partners c x.0 x.1)
in_partners c x z hz hx n t = by_truth (member x.0 c.a) x_on_a x_on_b
  where
    z_on_a : member z.0 c.a ≡ true → In z.0 c.a
    z_on_a q = member→in z.0 c.a (true_T _ q)

    z_on_b : member z.0 c.a ≡ false → In z.0 c.b
    z_on_b q = member→in z.0 c.b (or_other (member z.0 c.a) (member z.0 c.b) (false_T _ q) hz)

    other_side : (opposite own : List ℕ) → In z.0 opposite → z.1 ≡ x.1 → In z (signed x.1 opposite ++ signed (not x.1) (filter (differs x.0) own))
    other_side opposite own i e = in_left z (signed x.1 opposite) _ (rw (← e) (in_at_sign z.1 z.0 opposite i))

    same_side : (opposite own : List ℕ) → In z.0 own → z.1 ≡ not x.1 → In z (signed x.1 opposite ++ signed (not x.1) (filter (differs x.0) own))
    same_side opposite own i e =
        let j = in_filter (differs x.0) z.0 own i (ne→differs x.0 z.0 n) in
        in_right z (signed x.1 opposite) _ (rw (← e) (in_at_sign z.1 z.0 (filter (differs x.0) own) j))

    x_on_a : member x.0 c.a ≡ true → In z (partners c x.0 x.1)
    x_on_a p =
        by_truth (member z.0 c.a)
        (λ q. rw p (same_side c.b c.a (z_on_a q) (unlike x.1 z.1 (rw (p, q) at t))))
        (λ q. rw p (other_side c.b c.a (z_on_b q) (like x.1 z.1 (rw (p, q) at t))))

    x_on_b : member x.0 c.a ≡ false → In z (partners c x.0 x.1)
    x_on_b p =
        by_truth (member z.0 c.a)
        (λ q. rw p (other_side c.a c.b (z_on_a q) (like x.1 z.1 (rw (p, q) at t))))
        (λ q. rw p (same_side c.a c.b (z_on_b q) (unlike x.1 z.1 (rw (p, q) at t))))

-- a partner is an opposite edge with the same sign, or one of the own side with the opposite sign
partner_cases : (c : Constraint) (x : ℕ) (s : Bool) (z : Change) → In z (partners c x s)
    → (In z.0 (opposite_side c x) × (z.1 ≡ s)) ⊎ (In z.0 (own_side c x) × (z.1 ≡ not s))
partner_cases c x s z i = elim (in_split z (signed s (opposite_side c x)) (signed (not s) (filter (differs x) (own_side c x))) i) [
  | inl j ↦ inl (at_sign_out s z (opposite_side c x) j)
  | inr j ↦ (let r = at_sign_out (not s) z (filter (differs x) (own_side c x)) j in inr ((filter_in (differs x) z.0 (own_side c x) r.0).0, r.1))
]

-- the constraint holds it
pub partner_holds : (c : Constraint) (x : ℕ) (s : Bool) (z : Change) → In z (partners c x s) → T (holds c z.0)
partner_holds c x s z i = elim (partner_cases c x s z i) [
  | inl r ↦ by_truth (member x c.a) (λ p. in_b (rw p at r.0)) (λ p. in_a (rw p at r.0))
  | inr r ↦ by_truth (member x c.a) (λ p. in_a (rw p at r.0)) (λ p. in_b (rw p at r.0))
]
  where
    in_a : In z.0 c.a → T (holds c z.0)
    in_a j = holds_a c z.0 (in→member z.0 c.a j)

    in_b : In z.0 c.b → T (holds c z.0)
    in_b j = holds_b c z.0 (in→member z.0 c.b j)

-- and it balances x
pub partner_balances : (c : Constraint) (x z : Change) → Apart c → In z (partners c x.0 x.1) → T (balances c x z)
partner_balances c x z o i = elim (partner_cases c x.0 x.1 z i) [
  | inl r ↦ by_truth (member x.0 c.a)
      (λ p. rw (p, off_a (rw p at r.0), r.1) (like_balance x.1))
      (λ p. rw (p, on_a (rw p at r.0), r.1) (like_balance x.1))
  | inr r ↦ by_truth (member x.0 c.a)
      (λ p. rw (p, on_a (rw p at r.0), r.1) (unlike_balance x.1))
      (λ p. rw (p, off_a (rw p at r.0), r.1) (unlike_balance x.1))
]
  where
    on_a : In z.0 c.a → member z.0 c.a ≡ true
    on_a j = T_true _ (in→member z.0 c.a j)

    off_a : In z.0 c.b → member z.0 c.a ≡ false
    off_a j = not_T_false _ (λ t. o z.0 t (in→member z.0 c.b j))

-- ---- edges that share a constraint
pub share_sym : (g : List Constraint) (x y : ℕ) → T (share g x y) → T (share g y x)
share_sym g x y = subst T (any_same (λ c. holds c x && holds c y) (λ c. holds c y && holds c x) g (λ c i. and_comm (holds c x) (holds c y)))

pub link : (g : List Constraint) (x y : ℕ) → T (share g x y) → (i : ℕ) × T (holds (constraint g i) x) × T (holds (constraint g i) y)
link [] x y t = absurd t
link (c ∷ g) x y t = elim (or_split (holds c x && holds c y) (share g x y) t) [
  | inl u ↦ (0, and_l (holds c x) (holds c y) u, and_r (holds c x) (holds c y) u)
  | inr u ↦ (let r = link g x y u in (suc r.0, r.1, r.2))
]

pub unlink : (g : List Constraint) (i x y : ℕ) → T (holds (constraint g i) x) → T (holds (constraint g i) y) → T (share g x y)
unlink [] i x y t u = absurd t
unlink (c ∷ g) zero x y t u = or_left (holds c x && holds c y) (share g x y) (and_i (holds c x) (holds c y) t u)
unlink (c ∷ g) (suc i) x y t u = or_right (holds c x && holds c y) (share g x y) (unlink g i x y t u)

-- ---- edges joined by shared constraints
pub join : {g : List Constraint} {l : List ℕ} {x y z : ℕ} → Joined g l x y → Joined g l y z → Joined g l x z
join p (same _) = p
join {x = x} p (next _ w z q m s) = next x w z (join p q) m s

-- the same way back
joined_in : {g : List Constraint} {l : List ℕ} {x y : ℕ} → T (member x l) → Joined g l x y → T (member y l)
joined_in m (same _) = m
joined_in m (next _ _ _ p n s) = n

pub joined_back : {g : List Constraint} {l : List ℕ} {x y : ℕ} → T (member x l) → Joined g l x y → Joined g l y x
joined_back m (same x) = same x
joined_back {g} m (next x w y p n s) = join (next y y w (same y) (joined_in m p) (share_sym g w y s)) (joined_back m p)
