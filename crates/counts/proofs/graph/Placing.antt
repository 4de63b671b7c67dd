-- Laws of filling the tables: one edge, one side, one constraint after the other. Assumes nothing.
-- An edge of which u constraints are placed gets its next one at its slot u, if u is below 2. So two lists of edges placed one after the
-- other are placed like their sum, as long as no edge is in both; and the slots of an edge hold the list of its constraints.
use mathlib.Core.Logic.{inl, inr}
use mathlib.Core.Path.{◌≡◌, refl, sym, ap, subst, ◌∙◌}
use mathlib.Core.Bool.{Bool, true, false, not, ◌&&◌, ◌||◌, cond}
use mathlib.Core.List.{List, [], ◌∷◌, ◌++◌}
use Prim.Native.Nat.{ℕ, ◌+◌, ◌*◌, ◌≤◌, ◌<◌}
use native.Mathlib.Nat.{add-zero}
use native.Mathlib.Omega.{arith}
use lib.ListN.{length, get_or, set, take, replicate, length-take, length-set, length-replicate, get_or-replicate}
use lib.Seq.{get_or-set_same, get_or-set_other}
use lib.Dec.{T, eqb, eqb→eq}
use lib.Ieee.Fits.{and_i, and_l, and_r}
use Rattle.base.specs.Lists.{member}
use Rattle.regions.specs.Region.{Constraint, constraint, holds, incidence}
use Rattle.counts.specs.inner.Tables.{no_constraint, edge_slots}
use Rattle.counts.specs.inner.Graph.{first_side, second_side, side_of, Sized, Placed, Filled, MayPlaceEdge}
use Rattle.regions.specs.Accept.{max_edges}
use Rattle.base.proofs.BoolLaws.{T_or_not, clash, eq→eqb, cond_yes, cond_no}
use Rattle.base.proofs.ListLaws.{member_append, one_in, in_one, length_grown, getD_grown}
use Rattle.regions.proofs.region.Constraints.{incidence_take, length_incidence}

-- ---- one edge

-- a table read at slot k of y, once v stands at slot n of e; u is n if y is e
set_slot : (table : List ℕ) (e n v y k u : ℕ) → length table ≡ edge_slots → e < max_edges → n < 2 → k < 2 → (y ≡ e → u ≡ n)
    → get_or (set table (e * 2 + n) v) (y * 2 + k) 0 ≡ cond (member y (e ∷ []) && eqb u k) v (get_or table (y * 2 + k) 0)
set_slot table e n v y k u size le ln lk un = elim (T_or_not (member y (e ∷ []) && eqb u k)) [ inl t ↦ here t | inr t ↦ there t ]
  where
    here : T (member y (e ∷ []) && eqb u k) → get_or (set table (e * 2 + n) v) (y * 2 + k) 0 ≡ cond (member y (e ∷ []) && eqb u k) v
        (get_or table (y * 2 + k) 0)
    here t =
        let ye : y ≡ e = one_in y e (and_l (member y (e ∷ [])) (eqb u k) t) in
        let uk : u ≡ k = eqb→eq u k (and_r (member y (e ∷ [])) (eqb u k) t) in
        let q = un ye in
        let at : y * 2 + k ≡ e * 2 + n = omega arith in
        ap (λ (p : ℕ). get_or (set table (e * 2 + n) v) p 0) at
        ∙ get_or-set_same table (e * 2 + n) v 0 (omega arith)
        ∙ sym (cond_yes (member y (e ∷ []) && eqb u k) v (get_or table (y * 2 + k) 0) t)

    there : T (not (member y (e ∷ []) && eqb u k)) → get_or (set table (e * 2 + n) v) (y * 2 + k) 0 ≡ cond (member y (e ∷ []) && eqb u k) v
        (get_or table (y * 2 + k) 0)
    there t =
        get_or-set_other table (e * 2 + n) (y * 2 + k) v 0
        (λ at.
        let ye : y ≡ e = omega arith in
        let q = un ye in
        clash (member y (e ∷ []) && eqb u k) (and_i (member y (e ∷ [])) (eqb u k) (in_one y e ye) (eq→eqb u k (omega arith))) t)
        ∙ sym (cond_no (member y (e ∷ []) && eqb u k) v (get_or table (y * 2 + k) 0) (λ q. clash (member y (e ∷ []) && eqb u k) q t))

count_one : (uses : List ℕ) (e n y : ℕ) → e < length uses → n ≡ get_or uses e 0
    → get_or (set uses e (n + 1)) y 0 ≡ get_or uses y 0 + cond (member y (e ∷ [])) 1 0
count_one uses e n y le en = elim (T_or_not (member y (e ∷ []))) [ inl t ↦ here t | inr t ↦ there t ]
  where
    here : T (member y (e ∷ [])) → get_or (set uses e (n + 1)) y 0 ≡ get_or uses y 0 + cond (member y (e ∷ [])) 1 0
    here t =
        let ye = one_in y e t in
        ap (λ (p : ℕ). get_or (set uses e (n + 1)) p 0) ye
        ∙ get_or-set_same uses e (n + 1) 0 le
        ∙ ap (λ (p : ℕ). p + 1) (en ∙ ap (λ (p : ℕ). get_or uses p 0) (sym ye))
        ∙ ap (λ (p : ℕ). get_or uses y 0 + p) (sym (cond_yes (member y (e ∷ [])) 1 0 t))

    there : T (not (member y (e ∷ []))) → get_or (set uses e (n + 1)) y 0 ≡ get_or uses y 0 + cond (member y (e ∷ [])) 1 0
    there t =
        get_or-set_other uses e y (n + 1) 0 (λ q. clash (member y (e ∷ [])) (in_one y e q) t)
        ∙ sym (add-zero (get_or uses y 0))
        ∙ ap (λ (p : ℕ). get_or uses y 0 + p) (sym (cond_no (member y (e ∷ [])) 1 0 (λ q. clash (member y (e ∷ [])) q t)))

module _ {i s e n : ℕ} {incident own uses : List ℕ} (may : MayPlaceEdge incident own uses i s e) (en : n ≡ get_or uses e 0) where
  size : Sized incident own uses
  size = may.sized

  le : e < max_edges
  le = may.edge_below

  has : (y : ℕ) → y ≡ e → get_or uses y 0 ≡ n
  has y q = ap (λ (p : ℕ). get_or uses p 0) q ∙ sym en

  pub placed_edge : n < 2 → Placed i s (e ∷ []) incident own uses (set incident (e * 2 + n) i) (set own (e * 2 + n) s) (set uses e (n + 1))
  placed_edge ln =
      record {
        sized =
            record {
              incident_size = length-set incident (e * 2 + n) i ∙ size.incident_size;
              own_size = length-set own (e * 2 + n) s ∙ size.own_size;
              uses_size = length-set uses e (n + 1) ∙ size.uses_size;
            };
        counted = λ y ly. count_one uses e n y (omega (arith, size.uses_size)) en;
        incident_at = λ y k ly lk. set_slot incident e n i y k (get_or uses y 0) size.incident_size le ln lk (has y);
        own_at = λ y k ly lk. set_slot own e n s y k (get_or uses y 0) size.own_size le ln lk (has y);
      }

  no_slot : 2 ≤ n → (y k : ℕ) → k < 2 → T (member y (e ∷ []) && eqb (get_or uses y 0) k) → ⊥
  no_slot ln y k lk t =
      let q = has y (one_in y e (and_l (member y (e ∷ [])) (eqb (get_or uses y 0) k) t)) in
      let r = eqb→eq (get_or uses y 0) k (and_r (member y (e ∷ [])) (eqb (get_or uses y 0) k) t) in
      omega arith

  pub counted_edge : 2 ≤ n → Placed i s (e ∷ []) incident own uses incident own (set uses e (n + 1))
  counted_edge ln =
      record {
        sized =
            record {
              incident_size = size.incident_size;
              own_size = size.own_size;
              uses_size = length-set uses e (n + 1) ∙ size.uses_size;
            };
        counted = λ y ly. count_one uses e n y (omega (arith, size.uses_size)) en;
        incident_at = λ y k ly lk. sym (cond_no (member y (e ∷ []) && eqb (get_or uses y 0) k) i (get_or incident (y * 2 + k) 0) (no_slot ln y k lk));
        own_at = λ y k ly lk. sym (cond_no (member y (e ∷ []) && eqb (get_or uses y 0) k) s (get_or own (y * 2 + k) 0) (no_slot ln y k lk));
      }

-- ---- one list of edges after the other: y is in the first (p) or in the second (q), and has u constraints before

both_counted : (p q : Bool) (u : ℕ) → (T p → T q → ⊥) → u + cond p 1 0 + cond q 1 0 ≡ u + cond (p || q) 1 0
both_counted true true u n = absurd (n tt tt)
both_counted true false u n = add-zero (u + 1)
both_counted false q u n = ap (λ (k : ℕ). k + cond q 1 0) (add-zero u)

both_placed : (p q : Bool) (u k v t : ℕ) → (T p → T q → ⊥)
    → cond (q && eqb (u + cond p 1 0) k) v (cond (p && eqb u k) v t) ≡ cond ((p || q) && eqb u k) v t
both_placed true true u k v t n = absurd (n tt tt)
both_placed true false u k v t n = refl
both_placed false q u k v t n = ap (λ (w : ℕ). cond (q && eqb w k) v t) (add-zero u)

pub placed_none : {i s : ℕ} {incident own uses : List ℕ} → Sized incident own uses → Placed i s [] incident own uses incident own uses
placed_none {uses = uses} size =
    record {
      sized = size;
      counted = λ y ly. sym (add-zero (get_or uses y 0));
      incident_at = λ y k ly lk. refl;
      own_at = λ y k ly lk. refl;
    }

-- an edge that is not among those placed has as many uses as before
pub not_counted : {i s y : ℕ} {l incident own uses incident1 own1 uses1 : List ℕ} → Placed i s l incident own uses incident1 own1 uses1
    → y < max_edges
    → (T (member y l) → ⊥) → get_or uses1 y 0 ≡ get_or uses y 0
not_counted {y = y} {l = l} {uses = uses} a ly n = a.counted y ly ∙ ap (λ (k : ℕ). get_or uses y 0 + k) (cond_no (member y l) 1 0 n)
    ∙ add-zero (get_or uses y 0)

pub counted_once : {i s y : ℕ} {l incident own uses incident1 own1 uses1 : List ℕ} → Placed i s l incident own uses incident1 own1 uses1
    → y < max_edges
    → get_or uses1 y 0 ≤ get_or uses y 0 + 1
counted_once {y = y} {l = l} a ly = let e = a.counted y ly in let h = at_most_one (member y l) in omega (arith, e, h)
  where
    at_most_one : (b : Bool) → cond b 1 0 ≤ 1
    at_most_one true = omega arith
    at_most_one false = omega arith

-- both lists placed, at the same side: the two are placed like their sum
pub placed_more : (i s : ℕ) (l m incident own uses incident1 own1 uses1 incident2 own2 uses2 : List ℕ)
    → ((y : ℕ) → T (member y l) → T (member y m) → ⊥)
    → Placed i s l incident own uses incident1 own1 uses1
    → Placed i s m incident1 own1 uses1 incident2 own2 uses2
    → Placed i s (l ++ m) incident own uses incident2 own2 uses2
placed_more i s l m incident own uses incident1 own1 uses1 incident2 own2 uses2 apart a b =
    record {
      sized = b.sized;
      counted = λ y ly.
          b.counted y ly
          ∙ ap (λ (u : ℕ). u + cond (member y m) 1 0) (a.counted y ly)
          ∙ both_counted (member y l) (member y m) (get_or uses y 0) (apart y)
          ∙ ap (λ (q : Bool). get_or uses y 0 + cond q 1 0) (sym (member_append y l m));
      incident_at = λ y k ly lk. at y k ly i (get_or incident (y * 2 + k) 0) (a.incident_at y k ly lk) (b.incident_at y k ly lk);
      own_at = λ y k ly lk. at y k ly s (get_or own (y * 2 + k) 0) (a.own_at y k ly lk) (b.own_at y k ly lk);
    }
  where
    at : (y k : ℕ) → y < max_edges → (v t : ℕ) {t1 t2 : ℕ} → t1 ≡ cond (member y l && eqb (get_or uses y 0) k) v t
        → t2 ≡ cond (member y m && eqb (get_or uses1 y 0) k) v t1
        → t2 ≡ cond (member y (l ++ m) && eqb (get_or uses y 0) k) v t
    at y k ly v t p q =
        q
        ∙ ap (λ (w : ℕ). cond (member y m && eqb (get_or uses1 y 0) k) v w) p
        ∙ ap (λ (u : ℕ). cond (member y m && eqb u k) v (cond (member y l && eqb (get_or uses y 0) k) v t)) (a.counted y ly)
        ∙ both_placed (member y l) (member y m) (get_or uses y 0) k v t (apart y)
        ∙ ap (λ (r : Bool). cond (r && eqb (get_or uses y 0) k) v t) (sym (member_append y l m))

-- ---- one constraint after the other

pub uses_few : {g : List Constraint} (i : ℕ) {incident own uses : List ℕ} → Filled g (take i g) incident own uses → (y : ℕ) → y < max_edges
    → get_or uses y 0 ≤ i
uses_few {g} i f y ly = let e = f.counted y ly in let h = length_incidence 0 (take i g) y in let k = length-take i g in omega (arith, e, h, k)

-- the side that stands beside a constraint is the one on which the edge stands in it
own_kept : (f : ℕ → ℕ) (i s s' n o : ℕ) (p q : Bool) → (T p → s ≡ f i) → (T q → s' ≡ f i) → (n < no_constraint → o ≡ f n)
    → cond q i (cond p i n) < no_constraint → cond q s' (cond p s o) ≡ f (cond q i (cond p i n))
own_kept f i s s' n o p true hp hq h l = hq tt
own_kept f i s s' n o true false hp hq h l = hp tt
own_kept f i s s' n o false false hp hq h l = h l

pub filled_none : {g : List Constraint} {incident own uses : List ℕ} → incident ≡ replicate edge_slots no_constraint → length own ≡ edge_slots
    → uses ≡ replicate max_edges 0 → Filled g [] incident own uses
filled_none {incident = incident} ei size eu =
    record {
      sized =
          record {
            incident_size = ap length ei ∙ length-replicate {A = ℕ} edge_slots no_constraint;
            own_size = size;
            uses_size = ap length eu ∙ length-replicate {A = ℕ} max_edges 0;
          };
      counted = λ y ly. ap (λ (l : List ℕ). get_or l y 0) eu ∙ get_or-replicate max_edges y 0 0 ly;
      incident_is = empty;
      own_is = λ y k ly lk h. let e = empty y k ly lk in absurd (omega (arith, e));
    }
  where
    empty : (y k : ℕ) → y < max_edges → k < 2 → get_or incident (y * 2 + k) 0 ≡ no_constraint
    empty y k ly lk = ap (λ (l : List ℕ). get_or l (y * 2 + k) 0) ei ∙ get_or-replicate edge_slots (y * 2 + k) no_constraint 0 (omega arith)

pub filled_more : (g : List Constraint) (i : ℕ) (incident own uses incident1 own1 uses1 incident2 own2 uses2 : List ℕ) → i < length g
    → ((y : ℕ) → T (member y (constraint g i).a) → T (member y (constraint g i).b) → ⊥)
    → Filled g (take i g) incident own uses
    → Placed i (first_side i) (constraint g i).a incident own uses incident1 own1 uses1
    → Placed i (second_side i) (constraint g i).b incident1 own1 uses1 incident2 own2 uses2
    → Filled g (take (i + 1) g) incident2 own2 uses2
filled_more g i incident own uses incident1 own1 uses1 incident2 own2 uses2 li apart f a b =
    record {
      sized = b.sized;
      counted = λ y ly.
          b.counted y ly
          ∙ ap (λ (u : ℕ). u + cond (in_b y) 1 0) (count1 y ly)
          ∙ both_counted (in_a y) (in_b y) (length (before y)) (apart y)
          ∙ length_grown (before y) i (holds (constraint g i) y)
          ∙ ap (λ (l : List ℕ). length l) (sym (incidence_take g i y li));
      incident_is = λ y k ly lk.
          incident_now y k ly lk
          ∙ both_placed (in_a y) (in_b y) (length (before y)) k i (get_or (before y) k no_constraint) (apart y)
          ∙ getD_grown (before y) i k no_constraint (holds (constraint g i) y)
          ∙ ap (λ (l : List ℕ). get_or l k no_constraint) (sym (incidence_take g i y li));
      own_is = own_now;
    }
  where
    in_a : ℕ → Bool
    in_a y = member y (constraint g i).a

    in_b : ℕ → Bool
    in_b y = member y (constraint g i).b

    before : ℕ → List ℕ
    before y = incidence (take i g) y

    count1 : (y : ℕ) → y < max_edges → get_or uses1 y 0 ≡ length (before y) + cond (in_a y) 1 0
    count1 y ly = a.counted y ly ∙ ap (λ (u : ℕ). u + cond (in_a y) 1 0) (f.counted y ly)

    incident_now : (y k : ℕ) → y < max_edges → k < 2
        → get_or incident2 (y * 2 + k) 0
        ≡ cond (in_b y && eqb (length (before y) + cond (in_a y) 1 0) k) i
        (cond (in_a y && eqb (length (before y)) k) i (get_or (before y) k no_constraint))
    incident_now y k ly lk =
        b.incident_at y k ly lk
        ∙ ap (λ (u : ℕ). cond (in_b y && eqb u k) i (get_or incident1 (y * 2 + k) 0)) (count1 y ly)
        ∙ ap (λ (w : ℕ). cond (in_b y && eqb (length (before y) + cond (in_a y) 1 0) k) i w)
        (a.incident_at y k ly lk
        ∙ ap (λ (u : ℕ). cond (in_a y && eqb u k) i (get_or incident (y * 2 + k) 0)) (f.counted y ly)
        ∙ ap (λ (w : ℕ). cond (in_a y && eqb (length (before y)) k) i w) (f.incident_is y k ly lk))

    own_now : (y k : ℕ) → y < max_edges → k < 2 → get_or incident2 (y * 2 + k) 0 < no_constraint
        → get_or own2 (y * 2 + k) 0 ≡ side_of g y (get_or incident2 (y * 2 + k) 0)
    own_now y k ly lk h =
        let p = in_a y && eqb (get_or uses y 0) k in
        let q = in_b y && eqb (get_or uses1 y 0) k in
        let e : get_or incident2 (y * 2 + k) 0 ≡ cond q i (cond p i (get_or incident (y * 2 + k) 0)) = b.incident_at y k ly lk
        ∙ ap (λ (w : ℕ). cond q i w) (a.incident_at y k ly lk) in
        b.own_at y k ly lk
        ∙ ap (λ (w : ℕ). cond q (second_side i) w) (a.own_at y k ly lk)
        ∙ own_kept (side_of g y) i (first_side i) (second_side i) (get_or incident (y * 2 + k) 0) (get_or own (y * 2 + k) 0) p q
        (λ t. sym (ap (λ (w : ℕ). first_side i + w) (cond_yes (in_a y) 0 2 (and_l (in_a y) (eqb (get_or uses y 0) k) t)) ∙ add-zero (first_side i)))
        (λ t. sym (ap (λ (w : ℕ). first_side i + w) (cond_no (in_a y) 0 2 (λ u. apart y u (and_l (in_b y) (eqb (get_or uses1 y 0) k) t)))))
        (f.own_is y k ly lk)
        (subst (λ (n : ℕ). n < no_constraint) e h)
        ∙ ap (side_of g y) (sym e)
