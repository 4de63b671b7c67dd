-- Laws of the sides of the records, read one edge after the other, and as sides of the constraints. Assumes nothing.
use mathlib.Core.Path.{◌≡◌, refl, sym, ap, subst, ◌∙◌}
use mathlib.Core.List.{List, [], ◌∷◌, ◌++◌}
use Prim.Native.Nat.{ℕ, zero, suc, ◌+◌, ◌*◌, ◌≤◌, ◌<◌}
use native.Mathlib.Numerals.{add-one}
use native.Mathlib.Omega.{arith}
use lib.ListN.{length, get_or, take, drop, length-drop}
use lib.Seq.{take_all, take-suc, length-take-le, get_or-take, get_or-drop, drop-drop}
use lib.Dec.{T}
use Rattle.base.specs.Lists.{member}
use Rattle.regions.specs.Region.{places, constraint, constraints, side_size, record_size}
use Rattle.regions.specs.Accept.{sides_fit, max_edges}
use Rattle.counts.specs.inner.Tables.{edges_on}
use Rattle.counts.specs.inner.Graph.{first_side, second_side, SideTested, Placed}
use Rattle.base.proofs.ListLaws.{one_in, member_getD, distinct_before}
use Rattle.regions.proofs.accept.Laws.{sides_rest, side_few}
use Rattle.counts.proofs.graph.Placing.{placed_more}

-- ---- one edge of a side after the other

-- edge e is read at j, after the edges before it
pub record Next (regions : List ℕ) (s j e : ℕ) : Type 0 where
  pub inside : e < max_edges
  pub fresh : T (member e (take j (edges_on regions s))) → ⊥
  pub reached : take (j + 1) (edges_on regions s) ≡ take j (edges_on regions s) ++ e ∷ []

module _ {regions : List ℕ} {s : ℕ} (ok : SideTested regions s) where
  pub length_edges : length (edges_on regions s) ≡ get_or regions (s * side_size places) 0
  length_edges =
      length-take-le (get_or regions (s * side_size places) 0) (drop (s * side_size places + 1) regions)
      (simp length-drop (let f = ok.fits in let g = ok.few in omega (arith, f, g)))

  pub next_edge : {j e : ℕ} → j < get_or regions (s * side_size places) 0 → e ≡ get_or regions (s * side_size places + 1 + j) 0 → Next regions s j e
  next_edge {j} {e} h q =
      let l = edges_on regions s in
      let hl : j < length l = omega (arith, length_edges) in
      let at : get_or l j 0 ≡ e =
      get_or-take (get_or regions (s * side_size places) 0) (drop (s * side_size places + 1) regions) j 0 h
      ∙ get_or-drop (s * side_size places + 1) regions j 0
      ∙ sym q in
      record {
        inside = ok.inside e (subst (λ (x : ℕ). T (member x l)) at (member_getD l j hl));
        fresh = λ t. distinct_before l j ok.once hl (subst (λ (x : ℕ). T (member x (take j l))) (sym at) t);
        reached = ap (λ (n : ℕ). take n l) (add-one j) ∙ take-suc l j 0 hl ∙ ap (λ (x : ℕ). take j l ++ x ∷ []) at;
      }

-- a turn of the loop over a side's edges, and its end
pub side_more : {i s j e : ℕ} {regions incident own uses incident1 own1 uses1 incident2 own2 uses2 : List ℕ} → Next regions s j e
    → Placed i s (take j (edges_on regions s)) incident own uses incident1 own1 uses1
    → Placed i s (e ∷ []) incident1 own1 uses1 incident2 own2 uses2
    → Placed i s (take (j + 1) (edges_on regions s)) incident own uses incident2 own2 uses2
side_more {i} {s} {j} {e} {regions} {incident} {own} {uses} {incident1} {own1} {uses1} {incident2} {own2} {uses2} x a b =
    subst (λ (l : List ℕ). Placed i s l incident own uses incident2 own2 uses2) (sym x.reached)
    (placed_more i s (take j (edges_on regions s)) (e ∷ []) incident own uses incident1 own1 uses1 incident2 own2 uses2
    (λ y t u. x.fresh (subst (λ (z : ℕ). T (member z (take j (edges_on regions s)))) (one_in y e u) t)) a b)

pub side_done : {i s j : ℕ} {regions incident own uses incident1 own1 uses1 : List ℕ} → SideTested regions s
    → get_or regions (s * side_size places) 0 ≤ j
    → Placed i s (take j (edges_on regions s)) incident own uses incident1 own1 uses1
    → Placed i s (edges_on regions s) incident own uses incident1 own1 uses1
side_done {i} {s} {j} {regions} {incident} {own} {uses} {incident1} {own1} {uses1} ok h a =
    subst (λ (l : List ℕ). Placed i s l incident own uses incident1 own1 uses1) (take_all j (edges_on regions s) (omega (arith, length_edges ok))) a

-- ---- the sides of the constraints

edges_drop : (l : List ℕ) (s s' : ℕ) → s' ≡ s + 4 → edges_on (drop (record_size places) l) s ≡ edges_on l s'
edges_drop l s s' e =
    let p : (record_size places) + s * side_size places ≡ s' * side_size places = omega arith in
    let q : (record_size places) + (s * side_size places + 1) ≡ s' * side_size places + 1 = omega arith in
    ap (λ (n : ℕ). take n (drop (s * side_size places + 1) (drop (record_size places) l)))
    (get_or-drop (record_size places) l (s * side_size places) 0 ∙ ap (λ (n : ℕ). get_or l n 0) p)
    ∙ ap (λ (m : List ℕ). take (get_or l (s' * side_size places) 0) m)
    (drop-drop (s * side_size places + 1) (record_size places) l ∙ ap (λ (n : ℕ). drop n l) q)

pub sides_are : (m i : ℕ) (l : List ℕ) → i < m * 2
    → ((constraint (constraints places m l) i).a ≡ edges_on l (first_side i)) × ((constraint (constraints places m l) i).b ≡ edges_on l (second_side i))
unfolding constraints
sides_are zero i l h = absurd (omega arith)
sides_are (suc m) zero l h = (refl, refl)
sides_are (suc m) (suc zero) l h = (refl, refl)
sides_are (suc m) (suc (suc i)) l h =
    let r = sides_are m i (drop (record_size places) l) (omega arith) in (
      r.0 ∙ edges_drop l (first_side i) (first_side (suc (suc i))) (omega arith),
      r.1
          ∙ edges_drop l (second_side i) (second_side (suc (suc i))) (omega arith),
    )

pub length_constraints : (p m : ℕ) (l : List ℕ) → length (constraints p m l) ≡ m * 2
unfolding constraints
length_constraints p zero l = refl
length_constraints p (suc m) l = let h = length_constraints p m (drop (record_size p) l) in omega arith

pub sides_few : (m i : ℕ) (l : List ℕ) → T (sides_fit places m l) → i < m * 2
    → (get_or l (first_side i * side_size places) 0 ≤ places) × (get_or l (second_side i * side_size places) 0 ≤ places)
sides_few zero i l t h = absurd (omega arith)
sides_few (suc m) zero l t h = (side_few places m l t 0 (omega arith), side_few places m l t 2 (omega arith))
sides_few (suc m) (suc zero) l t h = (side_few places m l t 1 (omega arith), side_few places m l t 3 (omega arith))
sides_few (suc m) (suc (suc i)) l t h =
    let r = sides_few m i (drop (record_size places) l) (sides_rest places m l t) (omega arith) in
    let p : (record_size places) + first_side i * side_size places ≡ first_side (suc (suc i)) * side_size places = omega arith in
    let q : (record_size places) + second_side i * side_size places ≡ second_side (suc (suc i)) * side_size places = omega arith in (
      subst (λ (n : ℕ). n ≤ places) (get_or-drop (record_size places) l (first_side i * side_size places) 0 ∙ ap (λ (n : ℕ). get_or l n 0) p) r.0,
      subst (λ (n : ℕ). n ≤ places) (get_or-drop (record_size places) l (second_side i * side_size places) 0 ∙ ap (λ (n : ℕ). get_or l n 0) q) r.1,
    )
