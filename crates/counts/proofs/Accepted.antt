-- What accepted regions give: in each constraint every edge is below n, none stands twice in a side and none on both sides; and no edge is
-- in three constraints. Assumes nothing.
use mathlib.Core.Logic.{◌≢◌, inl, inr}
use mathlib.Core.Path.{◌≡◌, refl, sym, ◌∙◌}
use mathlib.Core.Bool.{true, false}
use mathlib.Core.List.{List, [], ◌∷◌}
use Prim.Native.Nat.{ℕ, zero, suc, ◌+◌, ◌≤◌, ◌<◌}
use native.Mathlib.Nat.{add-zero, zero-add, suc-add, add-suc}
use native.Mathlib.Omega.{arith}
use lib.ListN.{length, drop}
use lib.Dec.{T, ltb, eqb, not_T, ltb→lt, nltb→le}
use Rattle.base.specs.Lists.{In, member, Distinct}
use Rattle.base.specs.Refusal.{is_passed, refused, then_test, refuse_if}
use Rattle.regions.specs.Region.{Constraint, constraint, constraints, graph, holds, incidence, no_sides, record_size, region_count, side}
use Rattle.regions.specs.Accept.{accepted, limits_test, regions_test, pairs_test, region_test, pair_test, side_test, overused_test, shared_edge}
use Rattle.base.proofs.BoolLaws.{by_truth, clash, or_split, or_left, or_right, eq→eqb, true_T, false_T}
use Rattle.counts.proofs.MoveLaws.{Apart}
use Rattle.counts.proofs.Complete.{Thin}
use Rattle.base.proofs.ListLaws.{member→in, none_out}
use Rattle.regions.proofs.region.Constraints.{holds→incidence}
use Rattle.base.proofs.TestLaws.{then_left, then_right, not_refused}

-- ---- one side

pub record SideOk (n : ℕ) (seen l : List ℕ) : Type 0 where
  pub below : (x : ℕ) → In x l → T (ltb x n)
  pub once : Distinct l
  pub apart : (x : ℕ) → In x l → T (member x seen) → ⊥

side_ok : (n r k : ℕ) (seen l : List ℕ) → T (is_passed (side_test n r k seen l)) → SideOk n seen l
unfolding side_test
side_ok n r k seen [] t = record { below = λ x i. absurd i; once = tt; apart = λ x i. absurd i }
side_ok n r k seen (e ∷ es) t =
    let inside : ltb e n ≡ true = by_truth (ltb e n) (λ q. q) (λ q. absurd (rw q at t)) in
    let new : member e seen ≡ false = by_truth (member e seen) (λ q. absurd (rw (inside, q) at t)) (λ q. q) in
    let w = side_ok n r k (e ∷ seen) es (rw (inside, new) at t) in
    record {
      below = λ x i. elim i [ inl q ↦ rw q (true_T _ inside) | inr j ↦ w.below x j ];
      once = (not_T (member e es) (λ u. w.apart e (member→in e es u) (or_left (eqb e e) (member e seen) (eq→eqb e e refl))), w.once);
      apart = λ x i u. elim i [ inl q ↦ clash (member e seen) (rw q at u) (false_T _ new) | inr j ↦ w.apart x j (or_right (eqb x e) (member x seen) u) ];
    }

-- ---- one constraint

pub record ConstraintOk (n : ℕ) (c : Constraint) : Type 0 where
  pub inside : (x : ℕ) → T (holds c x) → T (ltb x n)
  pub once_a : Distinct c.a
  pub once_b : Distinct c.b
  pub sided : Apart c

pair_ok : (n r j k : ℕ) (a b : List ℕ) → T (is_passed (pair_test n r j k a b)) → ConstraintOk n (record { a = a; b = b })
unfolding pair_test
pair_ok n r j k a b t =
    let sides = then_test (side_test n r j [] a) (side_test n r k [] b) in
    let both = then_left sides (refuse_if (shared_edge a b) (refused 5 r j)) t in
    let t5 = then_right sides (refuse_if (shared_edge a b) (refused 5 r j)) t in
    let sa = side_ok n r j [] a (then_left (side_test n r j [] a) (side_test n r k [] b) both) in
    let sb = side_ok n r k [] b (then_right (side_test n r j [] a) (side_test n r k [] b) both) in
    record {
      inside = λ x h. elim (or_split (member x a) (member x b) h) [
        | inl u ↦ sa.below x (member→in x a u)
        | inr u ↦ sb.below x (member→in x b u)
      ];
      once_a = sa.once;
      once_b = sb.once;
      sided = λ x u v. none_out (λ (e : ℕ). member e b) a (not_refused (shared_edge a b) 4 r j t5) x (member→in x a u) v;
    }

no_sides_ok : (n : ℕ) → ConstraintOk n no_sides
no_sides_ok n = record { inside = λ x h. absurd h; once_a = tt; once_b = tt; sided = λ x u v. u }

pub pairs_ok : (p n r m : ℕ) (l : List ℕ) → T (is_passed (pairs_test p n r m l)) → (i : ℕ) → ConstraintOk n (constraint (constraints p m l) i)
unfolding pairs_test constraints
pairs_ok p n r zero l t i = no_sides_ok n
pairs_ok p n r (suc m) l t zero =
    let now = then_left (region_test p n r l) (pairs_test p n (suc r) m (drop (record_size p) l)) t in
    pair_ok n r 0 2 (side p l 0) (side p l 2) (then_left (pair_test n r 0 2 (side p l 0) (side p l 2)) (pair_test n r 1 3 (side p l 1) (side p l 3)) now)
pairs_ok p n r (suc m) l t (suc zero) =
    let now = then_left (region_test p n r l) (pairs_test p n (suc r) m (drop (record_size p) l)) t in
    pair_ok n r 1 3 (side p l 1) (side p l 3) (then_right (pair_test n r 0 2 (side p l 0) (side p l 2)) (pair_test n r 1 3 (side p l 1) (side p l 3)) now)
pairs_ok p n r (suc m) l t (suc (suc i)) =
    pairs_ok p n (suc r) m (drop (record_size p) l) (then_right (region_test p n r l) (pairs_test p n (suc r) m (drop (record_size p) l)) t) i

-- ---- no edge in three constraints

pub overused_ok : (g : List Constraint) (e m : ℕ) → T (is_passed (overused_test g e m)) → (d : ℕ) → d < m → length (incidence g (e + d)) ≤ 2
unfolding overused_test
overused_ok g e zero t d h = absurd (omega arith)
overused_ok g e (suc m) t zero h =
    let six = refuse_if (ltb 2 (length (incidence g e))) (refused 6 e 0) in
    rw add-zero (nltb→le 2 (length (incidence g e)) (not_refused (ltb 2 (length (incidence g e))) 5 e 0 (then_left six (overused_test g (suc e) m) t)))
overused_ok g e (suc m) t (suc d) h =
    let six = refuse_if (ltb 2 (length (incidence g e))) (refused 6 e 0) in
    rw (suc-add, ← add-suc) at (overused_ok g (suc e) m (then_right six (overused_test g (suc e) m) t) d (omega arith))

-- of three numbers in a list of two, two are the same
pub three : (l : List ℕ) → length l ≤ 2 → (i j k : ℕ) → In i l → In j l → In k l → i ≢ j → j ≢ k → i ≢ k → ⊥
three [] b i j k p q r ij jk ik = p
three (a ∷ []) b i j k (inl p) (inl q) r ij jk ik = ij (p ∙ sym q)
three (a ∷ []) b i j k (inl p) (inr q) r ij jk ik = q
three (a ∷ []) b i j k (inr p) q r ij jk ik = p
three (a ∷ c ∷ []) b i j k (inl p) (inl q) r ij jk ik = ij (p ∙ sym q)
three (a ∷ c ∷ []) b i j k (inl p) (inr (inl q)) (inl r) ij jk ik = ik (p ∙ sym r)
three (a ∷ c ∷ []) b i j k (inl p) (inr (inl q)) (inr (inl r)) ij jk ik = jk (q ∙ sym r)
three (a ∷ c ∷ []) b i j k (inl p) (inr (inl q)) (inr (inr r)) ij jk ik = r
three (a ∷ c ∷ []) b i j k (inl p) (inr (inr q)) r ij jk ik = q
three (a ∷ c ∷ []) b i j k (inr (inl p)) (inl q) (inl r) ij jk ik = jk (q ∙ sym r)
three (a ∷ c ∷ []) b i j k (inr (inl p)) (inl q) (inr (inl r)) ij jk ik = ik (p ∙ sym r)
three (a ∷ c ∷ []) b i j k (inr (inl p)) (inl q) (inr (inr r)) ij jk ik = r
three (a ∷ c ∷ []) b i j k (inr (inl p)) (inr (inl q)) r ij jk ik = ij (p ∙ sym q)
three (a ∷ c ∷ []) b i j k (inr (inl p)) (inr (inr q)) r ij jk ik = q
three (a ∷ c ∷ []) b i j k (inr (inr p)) q r ij jk ik = p
three (a ∷ c ∷ d ∷ l) b i j k p q r ij jk ik = omega arith

-- ---- accepted regions

pub record Accepted (n : ℕ) (g : List Constraint) : Type 0 where
  pub constraint_ok : (i : ℕ) → ConstraintOk n (constraint g i)
  pub thin : Thin g

pub regions_ok : (p n : ℕ) (regions : List ℕ) → T (is_passed (regions_test p n regions)) → Accepted n (graph p regions)
unfolding regions_test
regions_ok p n regions t =
    let g = graph p regions in
    let ok = pairs_ok p n 0 (region_count p regions) regions (then_left (pairs_test p n 0 (region_count p regions) regions) (overused_test g 0 n) t) in
    let few = overused_ok g 0 n (then_right (pairs_test p n 0 (region_count p regions) regions) (overused_test g 0 n) t) in
    record {
      constraint_ok = ok;
      thin = λ x i j k hi hj hk.
          three (incidence g x) (rw zero-add at (few x (ltb→lt x n ((ok i).inside x hi)))) i j k
          (holds→incidence g i x hi) (holds→incidence g j x hj) (holds→incidence g k x hk);
    }

pub accepted_ok : (p n : ℕ) (regions : List ℕ) → T (accepted p n regions) → Accepted n (graph p regions)
unfolding accepted
accepted_ok p n regions t = regions_ok p n regions (then_right (limits_test p n regions) (regions_test p n regions) t)
