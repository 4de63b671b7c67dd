-- Tested records and the tables filled from them: what the tests give, the loop over the constraints, test 6 counted in the tables, and
-- the record `Tables` that the search asks for. Assumes nothing.
use mathlib.Core.Logic.{inl, inr}
use mathlib.Core.Path.{◌≡◌, refl, sym, ap, subst, ◌∙◌}
use mathlib.Core.Bool.{Bool, true, false, not, ◌&&◌}
use mathlib.Core.List.{List, [], ◌∷◌}
use Prim.Native.Nat.{ℕ, suc, ◌+◌, ◌-◌, ◌*◌, ◌/◌, ◌%◌, ◌≤◌, ◌<◌}
use native.Mathlib.Nat.{zero-add}
use native.Mathlib.Numerals.{add-one}
use native.Mathlib.Omega.{arith}
use lib.ListN.{length, get_or, take}
use lib.Seq.{take_all}
use lib.Dec.{T, leb, ltb, eqb, leb→le, lt→ltb, ltb→lt}
use lib.Ieee.Fits.{and_l, and_r}
use Rattle.base.specs.Lists.{In, member, Distinct}
use Rattle.base.specs.declared.verdict.Verdict.{Verdict}
use Rattle.base.specs.Refusal.{passed, refused, verdict_of, then_test, refuse_if, is_passed}
use Rattle.regions.specs.Region.{Constraint, places, region_count, constraint, holds, incidence, side_size, record_size, across}
use Rattle.regions.specs.Accept.{records_whole, sides_fit, limits_test, overused_test, max_regions, max_edges}
use Rattle.counts.specs.inner.Tables.{the_graph, no_constraint, edges_on, StandsOn, Tables, edge_slots}
use Rattle.counts.specs.inner.Graph.{first_side, second_side, side_of, PairTested, Tested, Placed, Filled, MayBuild}
use Rattle.base.specs.declared.refusal.Refusal.TheVariants.{EdgeOverused}
use Rattle.counts.proofs.Accepted.{ConstraintOk, pairs_ok, overused_ok}
use Rattle.base.proofs.BoolLaws.{T_or_not, clash, or_left, or_right, T_true, not_T_false, cond_yes, cond_no}
use Rattle.base.proofs.ListLaws.{getD_in}
use Rattle.regions.proofs.region.Constraints.{holds_numbered, incidence→holds}
use Rattle.counts.proofs.graph.Placing.{filled_more}
use Rattle.base.proofs.TestLaws.{not_refused}
use Rattle.counts.proofs.graph.Sides.{sides_are, sides_few, length_constraints}

-- ---- what the tests give

pub record Limits (n : ℕ) (regions : List ℕ) : Type 0 where
  pub edges_few : n ≤ max_edges
  pub regions_few : region_count places regions ≤ max_regions
  pub fit : T (sides_fit places (region_count places regions) regions)

pub limits : {n : ℕ} {regions incident own : List ℕ} → MayBuild n regions incident own → Limits n regions
unfolding limits_test records_whole
limits {n} {regions} may =
    let m = region_count places regions in
    let whole = eqb (length regions % record_size places) 0 && (leb m max_regions && sides_fit places m regions) in
    let t1 = not_not (leb n max_edges && whole) (not_refused (not (leb n max_edges && whole)) 0 0 0 may.limits_pass) in
    let t2 =
    and_r (eqb (length regions % record_size places) 0) (leb m max_regions && sides_fit places m regions) (and_r (leb n max_edges) whole t1) in
    record {
      edges_few = leb→le n max_edges (and_l (leb n max_edges) whole t1);
      regions_few = leb→le m max_regions (and_l (leb m max_regions) (sides_fit places m regions) t2);
      fit = and_r (leb m max_regions) (sides_fit places m regions) t2;
    }
  where
    not_not : (b : Bool) → T (not (not b)) → T b
    not_not true u = tt
    not_not false u = absurd u

pub tested : {n : ℕ} {regions incident own : List ℕ} → MayBuild n regions incident own → Tested regions
tested {n} {regions} may = record { few = lim.regions_few; pair_tested = pair }
  where
    lim : Limits n regions
    lim = limits may

    ok : (i : ℕ) → ConstraintOk n (constraint (the_graph regions) i)
    ok = pairs_ok places n 0 (region_count places regions) regions may.pairs_pass

    inside : (i y : ℕ) → T (holds (constraint (the_graph regions) i) y) → y < max_edges
    inside i y h = let l = ltb→lt y n ((ok i).inside y h) in let k = lim.edges_few in omega (arith, l, k)

    pair : (i : ℕ) → i < region_count places regions * 2 → PairTested regions i
    pair i h =
        let c = constraint (the_graph regions) i in
        let are = sides_are (region_count places regions) i regions h in
        let few = sides_few (region_count places regions) i regions lim.fit h in
        let k = lim.regions_few in
        record {
          first =
              record {
                numbered = omega (arith, k);
                fits = omega arith;
                few = few.0;
                inside = λ y t. inside i y (or_left (member y c.a) (member y c.b) (subst (λ (l : List ℕ). T (member y l)) (sym are.0) t));
                once = subst Distinct are.0 (ok i).once_a;
              };
          second =
              record {
                numbered = omega (arith, k);
                fits = omega arith;
                few = few.1;
                inside = λ y t. inside i y (or_right (member y c.a) (member y c.b) (subst (λ (l : List ℕ). T (member y l)) (sym are.1) t));
                once = subst Distinct are.1 (ok i).once_b;
              };
          parted = λ y t u.
              (ok i).sided y (subst (λ (l : List ℕ). T (member y l)) (sym are.0) t) (subst (λ (l : List ℕ). T (member y l)) (sym are.1) u);
        }

-- ---- the loop over the constraints

pub constraint_more : {i : ℕ} {regions incident own uses incident1 own1 uses1 incident2 own2 uses2 : List ℕ} → Tested regions
    → i < region_count places regions * 2
    → Filled (the_graph regions) (take i (the_graph regions)) incident own uses
    → Placed i (first_side i) (edges_on regions (first_side i)) incident own uses incident1 own1 uses1
    → Placed i (second_side i) (edges_on regions (second_side i)) incident1 own1 uses1 incident2 own2 uses2
    → Filled (the_graph regions) (take (i + 1) (the_graph regions)) incident2 own2 uses2
constraint_more {i} {regions} {incident} {own} {uses} {incident1} {own1} {uses1} {incident2} {own2} {uses2} ok h f a b =
    let g = the_graph regions in
    let are = sides_are (region_count places regions) i regions h in
    let len = length_constraints places (region_count places regions) regions in
    filled_more g i incident own uses incident1 own1 uses1 incident2 own2 uses2 (omega (arith, len))
    (λ y t u. (ok.pair_tested i h).parted y (subst (λ (l : List ℕ). T (member y l)) are.0 t) (subst (λ (l : List ℕ). T (member y l)) are.1 u))
    f
    (subst (λ (l : List ℕ). Placed i (first_side i) l incident own uses incident1 own1 uses1) (sym are.0) a)
    (subst (λ (l : List ℕ). Placed i (second_side i) l incident1 own1 uses1 incident2 own2 uses2) (sym are.1) b)

pub constraints_done : (i : ℕ) (regions : List ℕ) {incident own uses : List ℕ} → region_count places regions * 2 ≤ i
    → Filled (the_graph regions) (take i (the_graph regions)) incident own uses
    → Filled (the_graph regions) (the_graph regions) incident own uses
constraints_done i regions {incident} {own} {uses} h f =
    let len = length_constraints places (region_count places regions) regions in
    subst (λ (l : List Constraint). Filled (the_graph regions) l incident own uses) (take_all i (the_graph regions) (omega (arith, len))) f

-- ---- 6, edge by edge

overused_from : (g : List Constraint) (e n : ℕ) → e < n
    → overused_test g e (n - e) ≡ then_test (refuse_if (ltb 2 (length (incidence g e))) (refused 6 e 0)) (overused_test g (e + 1) (n - (e + 1)))
unfolding overused_test
overused_from g e n h =
    let q : n - e ≡ suc (n - (e + 1)) = omega arith in
    ap (overused_test g e) q
    ∙ ap (λ (k : ℕ). then_test (refuse_if (ltb 2 (length (incidence g e))) (refused 6 e 0)) (overused_test g k (n - (e + 1)))) (sym (add-one e))

pub overused_here : (g : List Constraint) {e n : ℕ} → e < n → 2 < length (incidence g e)
    → overused_test g e (n - e) ≡ verdict_of (EdgeOverused e)
unfolding verdict_of
overused_here g {e} {n} h l =
    overused_from g e n h
    ∙ ap (λ (v : Verdict). then_test v (overused_test g (e + 1) (n - (e + 1))))
    (cond_yes (ltb 2 (length (incidence g e))) (refused 6 e 0) passed (lt→ltb 2 (length (incidence g e)) l))

pub overused_next : (g : List Constraint) {e n : ℕ} → e < n → length (incidence g e) ≤ 2
    → overused_test g e (n - e) ≡ overused_test g (e + 1) (n - (e + 1))
overused_next g {e} {n} h l =
    overused_from g e n h
    ∙ ap (λ (v : Verdict). then_test v (overused_test g (e + 1) (n - (e + 1))))
    (cond_no (ltb 2 (length (incidence g e))) (refused 6 e 0) passed (λ t. let k = ltb→lt 2 (length (incidence g e)) t in omega arith))

pub overused_done : (g : List Constraint) {e n : ℕ} → n ≤ e → overused_test g e (n - e) ≡ passed
unfolding overused_test
overused_done g {e} {n} h = let q : n - e ≡ 0 = omega arith in ap (overused_test g e) q

-- ---- the tables

short : (l : List ℕ) → ((i : ℕ) → In i l → ⊥) → length l ≤ 2
short [] n = omega arith
short (x ∷ l) n = absurd (n x (inl refl))

module _ (regions : List ℕ) (i y : ℕ) (ok : PairTested regions i) (h : i < region_count places regions * 2) where
  -- y on the first side, and on the second
  stands_first : T (member y (constraint (the_graph regions) i).a) → StandsOn regions i y (first_side i)
  stands_first t =
      let c = constraint (the_graph regions) i in
      let are = sides_are (region_count places regions) i regions h in
      let first : T (ltb (first_side i % 4) 2) = lt→ltb (first_side i % 4) 2 (omega arith) in
      let over : across (first_side i) ≡ second_side i = cond_yes (ltb (first_side i % 4) 2) (second_side i) (first_side i - 2) first in
      record {
        below = ok.first.numbered;
        own_is = cond_yes (member y c.a) c.a c.b t ∙ are.0;
        opposite_is = cond_yes (member y c.a) c.b c.a t ∙ are.1 ∙ ap (edges_on regions) (sym over);
        own_fits = ok.first.fits;
        opposite_fits = subst (λ (s : ℕ). s * side_size places + side_size places ≤ length regions) (sym over) ok.second.fits;
        own_few = ok.first.few;
        opposite_few = subst (λ (s : ℕ). get_or regions (s * side_size places) 0 ≤ places) (sym over) ok.second.few;
        first = T_true (member y c.a) t ∙ sym (T_true (ltb (first_side i % 4) 2) first);
      }

  stands_second : (T (member y (constraint (the_graph regions) i).a) → ⊥) → StandsOn regions i y (second_side i)
  stands_second n =
      let c = constraint (the_graph regions) i in
      let are = sides_are (region_count places regions) i regions h in
      let second : T (ltb (second_side i % 4) 2) → ⊥ = λ t. let l = ltb→lt (second_side i % 4) 2 t in omega arith in
      let back : second_side i - 2 ≡ first_side i = omega arith in
      let over : across (second_side i) ≡ first_side i = cond_no (ltb (second_side i % 4) 2) (second_side i + 2) (second_side i - 2) second ∙ back in
      record {
        below = ok.second.numbered;
        own_is = cond_no (member y c.a) c.a c.b n ∙ are.1;
        opposite_is = cond_no (member y c.a) c.b c.a n ∙ are.0 ∙ ap (edges_on regions) (sym over);
        own_fits = ok.second.fits;
        opposite_fits = subst (λ (s : ℕ). s * side_size places + side_size places ≤ length regions) (sym over) ok.first.fits;
        own_few = ok.second.few;
        opposite_few = subst (λ (s : ℕ). get_or regions (s * side_size places) 0 ≤ places) (sym over) ok.first.few;
        first = not_T_false (member y c.a) n ∙ sym (not_T_false (ltb (second_side i % 4) 2) second);
      }

  stands_on : StandsOn regions i y (side_of (the_graph regions) y i)
  stands_on =
      let b = member y (constraint (the_graph regions) i).a in
      elim (T_or_not b) [
        | inl t ↦ (let q = cond_yes {A = ℕ} b 0 2 t in
            let e : first_side i ≡ side_of (the_graph regions) y i = omega (arith, q) in
            subst (StandsOn regions i y) e (stands_first t))
        | inr t ↦ (let n : T b → ⊥ = λ u. clash b u t in
            let q = cond_no {A = ℕ} b 0 2 n in
            let e : second_side i ≡ side_of (the_graph regions) y i = omega (arith, q) in
            subst (StandsOn regions i y) e (stands_second n))
      ]

pub tables : {n : ℕ} {regions incident₀ own₀ incident own uses : List ℕ} → MayBuild n regions incident₀ own₀
    → T (is_passed (overused_test (the_graph regions) 0 n)) → Filled (the_graph regions) (the_graph regions) incident own uses
    → Tables regions incident own
tables {n} {regions} {incident = incident} {own = own} may t6 f =
    record {
      parted = λ i. (ok i).sided;
      few = λ i y h. let l = below i y h in let k = lim.edges_few in omega (arith, l, k);
      numbered = λ i y h. let l = in_range i y h in let k = lim.regions_few in omega (arith, l, k);
      incident_is = f.incident_is;
      thin = thin;
      stands = stands;
    }
  where
    lim : Limits n regions
    lim = limits may

    ok : (i : ℕ) → ConstraintOk n (constraint (the_graph regions) i)
    ok = pairs_ok places n 0 (region_count places regions) regions may.pairs_pass

    below : (i y : ℕ) → T (holds (constraint (the_graph regions) i) y) → y < n
    below i y h = ltb→lt y n ((ok i).inside y h)

    in_range : (i y : ℕ) → T (holds (constraint (the_graph regions) i) y) → i < region_count places regions * 2
    in_range i y h =
        let l = holds_numbered (the_graph regions) i y h in
        let len = length_constraints places (region_count places regions) regions in
        omega (arith, l, len)

    -- an edge that is none of the n is in no constraint
    thin : (y : ℕ) → length (incidence (the_graph regions) y) ≤ 2
    thin y =
        elim (T_or_not (ltb y n)) [
          | inl t ↦ subst (λ (m : ℕ). length (incidence (the_graph regions) m) ≤ 2) (zero-add y)
              (overused_ok (the_graph regions) 0 n t6 y (ltb→lt y n t))
          | inr t ↦ short (incidence (the_graph regions) y) (λ i j. clash (ltb y n) ((ok i).inside y (incidence→holds (the_graph regions) i y j)) t)
        ]

    stands_at : (y k : ℕ) → y < max_edges → k < 2 → get_or incident (y * 2 + k) 0 < no_constraint
        → StandsOn regions (get_or incident (y * 2 + k) 0) y (get_or own (y * 2 + k) 0)
    stands_at y k ly lk h =
        let i = get_or incident (y * 2 + k) 0 in
        let e = f.incident_is y k ly lk in
        let j = getD_in (incidence (the_graph regions) y) k no_constraint (subst (λ (m : ℕ). m < no_constraint) e h) in
        let held = incidence→holds (the_graph regions) i y (subst (λ (m : ℕ). In m (incidence (the_graph regions) y)) (sym e) j) in
        let r = in_range i y held in
        subst (StandsOn regions i y) (sym (f.own_is y k ly lk h)) (stands_on regions i y ((tested may).pair_tested i r) r)

    stands : (p : ℕ) → p < edge_slots → get_or incident p 0 < no_constraint → StandsOn regions (get_or incident p 0) (p / 2) (get_or own p 0)
    stands p l h =
        let e : p / 2 * 2 + p % 2 ≡ p = omega arith in
        subst (λ (q : ℕ). StandsOn regions (get_or incident q 0) (p / 2) (get_or own q 0)) e
        (stands_at (p / 2) (p % 2) (omega arith) (omega arith) (subst (λ (q : ℕ). get_or incident q 0 < no_constraint) (sym e) h))
