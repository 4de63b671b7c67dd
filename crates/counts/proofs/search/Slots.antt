-- Packed changes, paths copied change by change, and what the tables say of an edge's constraints at its two slots.
-- `incident_is` lists an edge's constraints in region order. So a constraint that holds the edge stands at one of its two slots, the two differ, and
-- the entry at the other slot is the edge's other constraint, or none. Assumes nothing.
use mathlib.Core.Logic.{◌≢◌, ◌⊎◌, inl, inr}
use mathlib.Core.Path.{◌≡◌, refl, sym, ap, subst, ◌∙◌}
use mathlib.Core.Bool.{Bool, true, false, cond}
use mathlib.Core.List.{List, [], ◌∷◌, ◌++◌, nil≢cons, head-eq_of_cons-eq, tail-eq_of_cons-eq}
use Prim.Native.Nat.{ℕ, zero, suc, ◌+◌, ◌*◌, ◌/◌, ◌%◌, ◌≤◌, ◌<◌}
use native.Mathlib.Omega.{arith}
use native.Mathlib.Numerals.{add-one}
use lib.ListN.{length, get_or, take, set, length-set}
use lib.Seq.{take-suc, take-suc-set, get_or-take}
use lib.Dec.{eqb, T, eqb→eq}
use lib.Ieee.{Float, nan}
use Rattle.base.specs.Lists.{In}
use Rattle.regions.specs.Region.{Constraint, constraint, holds, incidence, incidence_from}
use Rattle.counts.specs.Move.{Change}
use Rattle.counts.specs.inner.Tables.{Other, Tables, after, all_decoded, alone, before, cost_in, decoded, encoded, no_constraint}
use Rattle.counts.specs.inner.Tables.{path_of, the_graph, edge_slots}
use Rattle.counts.specs.inner.SearchContract.{OtherSlot, SlotOf}
use Rattle.regions.specs.Accept.{max_edges}
use Rattle.regions.proofs.region.Constraints.{holds→incidence, incidence_out, incidence→holds}

-- ---- packed changes

pub decoded_append : (a b : List ℕ) → all_decoded (a ++ b) ≡ all_decoded a ++ all_decoded b
decoded_append [] b = refl
decoded_append (x ∷ a) b = ap {B = List Change} (λ l. decoded x ∷ l) (decoded_append a b)

pub encoded_decoded : (d : ℕ) → encoded (d / 2) (eqb (d % 2) 1) ≡ d
encoded_decoded d = go (eqb (d % 2) 1) (λ u. eqb→eq (d % 2) 1 u) (λ e. subst (λ (k : ℕ). T (eqb k 1)) (sym e) tt)
  where
    go : (b : Bool) → (T b → d % 2 ≡ 1) → (d % 2 ≡ 1 → T b) → d / 2 * 2 + cond b 1 0 ≡ d
    go true f f' = let e = f tt in omega (arith, e)
    go false f f' = let n : (d % 2 ≡ 1 → ⊥) = λ e. f' e in omega (arith, n)

pub same_entry : (n : ℕ) (l m : List ℕ) (i : ℕ) → take n l ≡ take n m → i < n → get_or l i 0 ≡ get_or m i 0
same_entry n l m i e h = sym (get_or-take n l i 0 h) ∙ ap (λ (k : List ℕ). get_or k i 0) e ∙ get_or-take n m i 0 h

pub start_in : (l : List ℕ) (n : ℕ) → 1 ≤ n → 1 ≤ length l → In (decoded (get_or l 0 0)) (path_of n l)
start_in [] n h h' = absurd (omega (arith, h'))
start_in (x ∷ l) zero h h' = absurd (omega (arith, h))
start_in (x ∷ l) (suc n) h h' = inl refl

-- the cost of a packed change
pub cost_at : (costs : List Float) (d : ℕ) (v : Float) → v ≡ get_or costs d nan → v ≡ cost_in costs (d / 2) (eqb (d % 2) 1)
cost_at costs d v e = e ∙ ap (λ (k : ℕ). get_or costs k nan) (sym (encoded_decoded d))

-- a path with one more change
pub path_longer : (l : List ℕ) (n d : ℕ) → n < length l → path_of (n + 1) (set l n d) ≡ path_of n l ++ decoded d ∷ []
path_longer l n d h = ap (λ (m : ℕ). path_of m (set l n d)) (add-one n) ∙ ap all_decoded (take-suc-set l n d h) ∙ decoded_append (take n l) (d ∷ [])

-- a path of one change
pub one_change : {c : ℕ} (l : List ℕ) → 0 < length l → get_or l 0 0 ≡ c → take 1 l ≡ c ∷ []
one_change l h e = take-suc l 0 0 h ∙ ap {B = List ℕ} (λ (k : ℕ). k ∷ []) e

-- ---- entries and sides

pub get_d_default : (l : List Bool) (i : ℕ) (a b : Bool) → i < length l → get_or l i a ≡ get_or l i b
get_d_default [] i a b h = absurd (omega (arith, h))
get_d_default (x ∷ l) zero a b h = refl
get_d_default (x ∷ l) (suc i) a b h = get_d_default l i a b (omega (arith, h))

-- ---- a path copied change by change

-- the first i of n changes stand in `to`, which was to₀
pub record Copied (from to₀ : List ℕ) (n : ℕ) (to : List ℕ) (i : ℕ) : Type 0 where
  pub below : i ≤ n
  pub long : length to ≡ length to₀
  pub same : take i to ≡ take i from

pub copied_next : {from to₀ : List ℕ} {n : ℕ} {to : List ℕ} {i : ℕ} → Copied from to₀ n to i → i < n → n ≤ length from → n ≤ length to₀
    → Copied from to₀ n (set to i (get_or from i 0)) (i + 1)
copied_next {from} {to₀} {n} {to} {i} c h fits fits' =
    record {
      below = omega (arith, h);
      long = length-set to i (get_or from i 0) ∙ c.long;
      same = ap (λ (k : ℕ). take k (set to i (get_or from i 0))) (add-one i) ∙ take-suc-set to i (get_or from i 0) (omega (arith, h, fits', c.long))
          ∙ ap (λ (l : List ℕ). l ++ get_or from i 0 ∷ []) c.same ∙ sym (take-suc from i 0 (omega (arith, h, fits)))
          ∙ ap (λ (k : ℕ). take k from) (sym (add-one i));
    }

pub copied_all : {from to₀ : List ℕ} {n : ℕ} {to : List ℕ} {i : ℕ} → Copied from to₀ n to i → n ≤ i → take n to ≡ take n from
copied_all {from} {to₀} {n} {to} {i} c h =
    let q : i ≡ n = omega (arith, h, c.below) in
    subst (λ (k : ℕ). take k to ≡ take k from) q c.same

-- ---- the constraints of an edge, as the tables have them

rising : (k : ℕ) (g : List Constraint) (x a b : ℕ) (r : List ℕ) → incidence_from k g x ≡ a ∷ b ∷ r → a < b
rising k [] x a b r e = absurd (nil≢cons e)
rising k (c ∷ g) x a b r e = go (holds c x) (rising (suc k) g x a b r) e
  where
    go : (h : Bool) → (incidence_from (suc k) g x ≡ a ∷ b ∷ r → a < b)
        → cond h (k ∷ incidence_from (suc k) g x) (incidence_from (suc k) g x) ≡ a ∷ b ∷ r → a < b
    go true f q =
        let m = incidence_out (suc k) g b x (subst (λ (l : List ℕ). In b l) (sym (tail-eq_of_cons-eq q)) (inl refl)) in
        let s = m.1 in
        let t = head-eq_of_cons-eq q in
        omega (arith, s, t)
    go false f q = f q

in_or_none : (l : List ℕ) (k : ℕ) → In (get_or l k no_constraint) l ⊎ (get_or l k no_constraint ≡ no_constraint)
in_or_none [] k = inr refl
in_or_none (x ∷ l) zero = inl (inl refl)
in_or_none (x ∷ l) (suc k) = elim (in_or_none l k) [ inl i ↦ inl (inr i) | inr e ↦ inr e ]

module _ (regions incident own : List ℕ) (tables : Tables regions incident own) where
  entry_is : (p : ℕ) → p < edge_slots → get_or incident p 0 ≡ get_or (incidence (the_graph regions) (p / 2)) (p % 2) no_constraint
  entry_is p h = ap (λ (k : ℕ). get_or incident k 0) (let q : p ≡ p / 2 * 2 + p % 2 = omega arith in q)
      ∙ tables.incident_is (p / 2) (p % 2) (omega (arith, h)) (omega arith)

  pub entry_most : (p : ℕ) → p < edge_slots → get_or incident p 0 ≤ no_constraint
  entry_most p h = subst (λ (k : ℕ). k ≤ no_constraint) (sym (entry_is p h)) (go (in_or_none (incidence (the_graph regions) (p / 2)) (p % 2)))
    where
      go : {i : ℕ} → In i (incidence (the_graph regions) (p / 2)) ⊎ (i ≡ no_constraint) → i ≤ no_constraint
      go {i} (inl m) = let b = tables.numbered i (p / 2) (incidence→holds (the_graph regions) i (p / 2) m) in omega (arith, b)
      go {i} (inr e) = omega (arith, e)

  pub entry_holds : (p : ℕ) → p < edge_slots → get_or incident p 0 < no_constraint
      → T (holds (constraint (the_graph regions) (get_or incident p 0)) (p / 2))
  entry_holds p h l = incidence→holds (the_graph regions) (get_or incident p 0) (p / 2)
      (subst (λ (k : ℕ). In k (incidence (the_graph regions) (p / 2))) (sym (entry_is p h))
      (go (in_or_none (incidence (the_graph regions) (p / 2)) (p % 2))))
    where
      go : In (get_or (incidence (the_graph regions) (p / 2)) (p % 2) no_constraint) (incidence (the_graph regions) (p / 2))
          ⊎ (get_or (incidence (the_graph regions) (p / 2)) (p % 2) no_constraint ≡ no_constraint)
          → In (get_or (incidence (the_graph regions) (p / 2)) (p % 2) no_constraint) (incidence (the_graph regions) (p / 2))
      go (inl m) = m
      go (inr e) = let q = entry_is p h in absurd (omega (arith, e, q, l))

  -- the constraints of an edge, by the entries at its two slots
  module _ (y : ℕ) (h : y < max_edges) where
    first_is : get_or incident (y * 2) 0 ≡ get_or (incidence (the_graph regions) y) 0 no_constraint
    first_is = ap (λ (k : ℕ). get_or incident k 0) (let q : y * 2 ≡ y * 2 + 0 = omega arith in q) ∙ tables.incident_is y 0 h (omega arith)

    second_is : get_or incident (y * 2 + 1) 0 ≡ get_or (incidence (the_graph regions) y) 1 no_constraint
    second_is = tables.incident_is y 1 h (omega arith)

    low_in : (l : List ℕ) → incidence (the_graph regions) y ≡ l → (k : ℕ) → In k l → k < no_constraint
    low_in l e k m = tables.numbered k y (incidence→holds (the_graph regions) k y (subst (λ (s : List ℕ). In k s) (sym e) m))

    pub in_none : get_or incident (y * 2) 0 ≡ no_constraint → incidence (the_graph regions) y ≡ []
    in_none q = go (incidence (the_graph regions) y) refl
      where
        go : (l : List ℕ) → incidence (the_graph regions) y ≡ l → l ≡ []
        go [] e = refl
        go (a ∷ l) e =
            let b = low_in (a ∷ l) e a (inl refl) in
            let f = sym q ∙ first_is ∙ ap (λ (s : List ℕ). get_or s 0 no_constraint) e in
            absurd (omega (arith, b, f))

    pub some_constraint : get_or incident (y * 2) 0 ≢ no_constraint → incidence (the_graph regions) y ≢ []
    some_constraint n e = n (first_is ∙ ap (λ (s : List ℕ). get_or s 0 no_constraint) e)

    pub one_constraint : get_or incident (y * 2) 0 < no_constraint → get_or incident (y * 2 + 1) 0 ≡ no_constraint
        → incidence (the_graph regions) y ≡ get_or incident (y * 2) 0 ∷ []
    one_constraint p q = go (incidence (the_graph regions) y) refl
      where
        go : (l : List ℕ) → incidence (the_graph regions) y ≡ l → l ≡ get_or incident (y * 2) 0 ∷ []
        go [] e = let f = first_is ∙ ap (λ (s : List ℕ). get_or s 0 no_constraint) e in absurd (omega (arith, p, f))
        go (a ∷ []) e = ap {B = List ℕ} (λ (k : ℕ). k ∷ []) (sym (first_is ∙ ap (λ (s : List ℕ). get_or s 0 no_constraint) e))
        go (a ∷ b ∷ l) e =
            let c = low_in (a ∷ b ∷ l) e b (inr (inl refl)) in
            let f = sym q ∙ second_is ∙ ap (λ (s : List ℕ). get_or s 1 no_constraint) e in
            absurd (omega (arith, c, f))

    pub two_constraints : get_or incident (y * 2 + 1) 0 < no_constraint
        → incidence (the_graph regions) y ≡ get_or incident (y * 2) 0 ∷ get_or incident (y * 2 + 1) 0 ∷ []
    two_constraints p = go (incidence (the_graph regions) y) refl
      where
        go : (l : List ℕ) → incidence (the_graph regions) y ≡ l → l ≡ get_or incident (y * 2) 0 ∷ get_or incident (y * 2 + 1) 0 ∷ []
        go [] e = let f = second_is ∙ ap (λ (s : List ℕ). get_or s 1 no_constraint) e in absurd (omega (arith, p, f))
        go (a ∷ []) e = let f = second_is ∙ ap (λ (s : List ℕ). get_or s 1 no_constraint) e in absurd (omega (arith, p, f))
        go (a ∷ b ∷ []) e =
            ap {B = List ℕ} (λ (k : ℕ). k ∷ b ∷ []) (sym (first_is ∙ ap (λ (s : List ℕ). get_or s 0 no_constraint) e))
            ∙ ap {B = List ℕ} (λ (k : ℕ). get_or incident (y * 2) 0 ∷ k ∷ []) (sym (second_is ∙ ap (λ (s : List ℕ). get_or s 1 no_constraint) e))
        go (a ∷ b ∷ c ∷ l) e = let q = tables.thin y in let r = ap length e in absurd (omega (arith, q, r))

  -- constraint i of edge y stands at its first slot or at its second, and the other one at the other
  abbrev TwoPlaces : ℕ → ℕ → Type 0
  TwoPlaces i y =
      ((get_or incident (y * 2) 0 ≡ i) × Other (the_graph regions) y i (get_or incident (y * 2 + 1) 0))
      ⊎ ((get_or incident (y * 2 + 1) 0 ≡ i) × (get_or incident (y * 2) 0 ≢ i) × Other (the_graph regions) y i (get_or incident (y * 2) 0))

  pub two_slots : (i y : ℕ) → T (holds (constraint (the_graph regions) i) y) → TwoPlaces i y
  two_slots i y h = go (incidence (the_graph regions) y) refl (holds→incidence (the_graph regions) i y h)
    where
      low : y < max_edges
      low = tables.few i y h

      go : (l : List ℕ) → incidence (the_graph regions) y ≡ l → In i l → TwoPlaces i y
      go [] e m = absurd m
      go (a ∷ []) e (inl q) = inl (
        first_is y low ∙ ap (λ (s : List ℕ). get_or s 0 no_constraint) e ∙ sym q,
        alone (second_is y low ∙ ap (λ (s : List ℕ). get_or s 1 no_constraint) e) (e ∙ ap {B = List ℕ} (λ (k : ℕ). k ∷ []) (sym q)),
      )
      go (a ∷ []) e (inr m) = absurd m
      go (a ∷ b ∷ []) e (inl q) =
          let one = second_is y low ∙ ap (λ (s : List ℕ). get_or s 1 no_constraint) e in
          let up = rising 0 (the_graph regions) y a b [] e in
          inl (
            first_is y low ∙ ap (λ (s : List ℕ). get_or s 0 no_constraint) e ∙ sym q,
            subst (λ (k : ℕ). Other (the_graph regions) y i k) (sym one)
                (after (low_in y low (a ∷ b ∷ []) e b (inr (inl refl))) (λ r. omega (arith, up, q, r))
                (e ∙ ap {B = List ℕ} (λ (k : ℕ). k ∷ b ∷ []) (sym q))),
          )
      go (a ∷ b ∷ []) e (inr (inl q)) =
          let zeroth = first_is y low ∙ ap (λ (s : List ℕ). get_or s 0 no_constraint) e in
          let up = rising 0 (the_graph regions) y a b [] e in
          inr (
            second_is y low ∙ ap (λ (s : List ℕ). get_or s 1 no_constraint) e ∙ sym q,
            (λ r. omega (arith, up, q, zeroth, r)),
            subst (λ (k : ℕ). Other (the_graph regions) y i k) (sym zeroth)
                (before (low_in y low (a ∷ b ∷ []) e a (inl refl)) (λ r. omega (arith, up, q, r))
                (e ∙ ap {B = List ℕ} (λ (k : ℕ). a ∷ k ∷ []) (sym q))),
          )
      go (a ∷ b ∷ []) e (inr (inr m)) = absurd m
      go (a ∷ b ∷ c ∷ l) e m = let q = tables.thin y in let r = ap length e in absurd (omega (arith, q, r))

-- ---- the other constraint of an edge

pub other_same : {g : List Constraint} {y i o o' : ℕ} → o' ≡ o → Other g y i o → Other g y i o'
other_same {g} {y} {i} {o} {o'} e w = subst (λ (k : ℕ). Other g y i k) (sym e) w

pub other_in : {g : List Constraint} {y i o j : ℕ} → Other g y i o → In j (incidence g y) → (j ≡ i) ⊎ (j ≡ o)
other_in (alone e q) m = elim (rw q at m) [ inl a ↦ inl a | inr a ↦ absurd a ]
other_in (after l n q) m = elim (rw q at m) [ inl a ↦ inl a | inr (inl a) ↦ inr a | inr (inr a) ↦ absurd a ]
other_in (before l n q) m = elim (rw q at m) [ inl a ↦ inr a | inr (inl a) ↦ inl a | inr (inr a) ↦ absurd a ]

pub other_held : {g : List Constraint} {y i o : ℕ} → Other g y i o → o ≢ no_constraint → T (holds (constraint g o) y)
other_held (alone e q) n = absurd (n e)
other_held {g} {y} {i} {o} (after l d q) n = incidence→holds g o y (rw q (inr (inl refl)))
other_held {g} {y} {i} {o} (before l d q) n = incidence→holds g o y (rw q (inl refl))

pub other_differs : {g : List Constraint} {y i o : ℕ} → Other g y i o → i < no_constraint → i ≢ o
other_differs (alone e q) l = λ r. omega (arith, e, l, r)
other_differs (after h n q) l = λ r. n (sym r)
other_differs (before h n q) l = λ r. n (sym r)

-- ---- the slot of a constraint, and of the other one

pub other_most : {g : List Constraint} {y i o : ℕ} → Other g y i o → o ≤ no_constraint
other_most (alone e q) = omega (arith, e)
other_most (after l n q) = omega (arith, l)
other_most (before l n q) = omega (arith, l)

pub other_real : {g : List Constraint} {y i o : ℕ} → Other g y i o → o ≢ no_constraint → o < no_constraint
other_real w n = let m = other_most w in omega (arith, m, n)

-- by whether the constraint stands at the edge's first slot
module _ {incident : List ℕ} {x i : ℕ} (low : x < max_edges) where
  pub other_second : get_or incident (x * 2) 0 ≡ i → OtherSlot incident x i (x * 2 + 1)
  other_second e =
      record {
        below = omega arith;
        of_edge = omega arith;
        other_is = λ tables held. elim (two_slots _ incident _ tables i x held) [ inl w ↦ w.1 | inr w ↦ absurd (w.1 e) ];
      }

  pub other_first : get_or incident (x * 2) 0 ≢ i → OtherSlot incident x i (x * 2)
  other_first n =
      record {
        below = omega arith;
        of_edge = omega arith;
        other_is = λ tables held. elim (two_slots _ incident _ tables i x held) [ inl w ↦ absurd (n w.0) | inr w ↦ w.2 ];
      }

  pub slot_first : get_or incident (x * 2) 0 ≡ i → SlotOf incident x i (x * 2)
  slot_first e = record { below = omega arith; of_edge = omega arith; entry_is = λ tables held. e }

  pub slot_second : get_or incident (x * 2) 0 ≢ i → SlotOf incident x i (x * 2 + 1)
  slot_second n =
      record {
        below = omega arith;
        of_edge = omega arith;
        entry_is = λ tables held. elim (two_slots _ incident _ tables i x held) [ inl w ↦ absurd (n w.0) | inr w ↦ w.0 ];
      }
