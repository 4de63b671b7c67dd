-- What the tests of a patch let by, and what follows them, by their outcomes. Assumes nothing.
use mathlib.Core.Path.{◌≡◌, refl, sym, ap, subst, ◌∙◌}
use mathlib.Core.Bool.{Bool, true, false, not}
use mathlib.Core.List.{List}
use Prim.Native.Nat.{ℕ, ◌*◌, ◌≤◌, ◌<◌}
use native.Mathlib.Nat.{mul-le-mul_right}
use native.Mathlib.Omega.{arith}
use lib.ListN.{length}
use lib.Dec.{T, T_not, ltb, eqb, eqb→eq}
use lib.Ieee.{Float}
use borrow.Author.Tests.{lt-ltb, le-ltb, ltb-false}
use Rattle.base.specs.declared.verdict.Verdict.{Verdict}
use Rattle.base.specs.Refusal.{passed, refused, verdict_of, is_passed, then_test, refuse_if}
use Rattle.std.specs.Prelude.{Result, Ok, Err, IsErrAnd}
use Rattle.std.proofs.lemmas.Result.{err_from_is_err_and}
use Rattle.base.specs.declared.refusal.Refusal.{Refusal}
use Rattle.base.specs.declared.refusal.Refusal.TheVariants as because
use Rattle.base.proofs.BoolLaws.{not_T_false, by_truth, clash, false_T}
use Rattle.base.proofs.TestLaws.{then_left, then_right, not_refused, was_passed, chain_stops, chain_goes_on, both_passed, follows, refuses}
use Rattle.curves.specs.Boundary.{BoundaryCurves}
use Rattle.curves.specs.inner.Grids.{ShortSeams, PairedSeams, Gridded}
use Rattle.curves.specs.Seam.{seam_test, pair_test, seams_test}
use Rattle.curves.specs.Grid.{Seams, n_u, n_v, Grid, grid_of, grid_test, needed}
use Rattle.curves.specs.Coons.{Outcome, outcome_of, refusal, unless, filled, seams_and_room_test, grid_stage}
use Rattle.curves.specs.declared.rows.Layout.{Layout}
use Rattle.curves.proofs.grid.Filled.{good_grid, no_grid}
use Rattle.curves.specs.Limits.{max_cells}

-- ---- an answer, by the tests before it

pub turned_away : (out : List Float) (rest : Outcome) (r : Refusal) {v : Verdict} → verdict_of r ≡ v → outcome_of (Err r) out ≡ unless v out rest
unfolding outcome_of
turned_away out rest r {v} e = refuses rest (refusal out) r v e

-- the exit of a `?`
pub exit_leaves : (o : Result ℕ Refusal) (r : Refusal) (out : List Float) → IsErrAnd o (λ (e : Refusal). e ≡ r) → outcome_of o out ≡ outcome_of (Err r) out
exit_leaves o r out h = let p = err_from_is_err_and o h in rw (p.1, p.2)

pub exit_refuses : (out : List Float) (rest : Outcome) (o : Result ℕ Refusal) (r : Refusal) {v : Verdict} → IsErrAnd o (λ (e : Refusal). e ≡ r) → verdict_of r ≡ v
    → outcome_of o out ≡ unless v out rest
exit_refuses out rest o r h e = exit_leaves o r out h ∙ turned_away out rest r e

pub goes_on : (out : List Float) (rest : Outcome) (v : Verdict) → is_passed v ≡ true → rest ≡ unless v out rest
goes_on out rest v e = ap (λ (b : Bool). elim b [
  | true ↦ rest
  | false ↦ refusal out v
]) (sym e)

stays : (out : List Float) (rest : Outcome) (v : Verdict) → is_passed v ≡ false → refusal out v ≡ unless v out rest
stays out rest v e = ap (λ (b : Bool). elim b [
  | true ↦ rest
  | false ↦ refusal out v
]) (sym e)

-- an answer that is no refusal is what follows
pub went_on : (out : List Float) (rest : Outcome) (v : Verdict) → T (is_passed (unless v out rest).verdict) → unless v out rest ≡ rest
went_on out rest v t =
    by_truth (is_passed v) (λ e. sym (goes_on out rest v e)) (λ e.
    let u : T (is_passed v) = subst (λ (o : Outcome). T (is_passed o.verdict)) (sym (stays out rest v e)) t in
    absurd (clash (is_passed v) u (false_T (is_passed v) e)))

pub let_by : (out : List Float) (rest : Outcome) {v : Verdict} → passed ≡ v → rest ≡ unless v out rest
let_by out rest {v} e = goes_on out rest v (was_passed e)

-- two tests in a row were passed
pub limits_passed : (u v : Verdict) → passed ≡ then_test u v → T (is_passed u) × T (is_passed v)
limits_passed u v e = both_passed passed u v e tt

-- ---- the grid

module _ {layout : Layout} {f : Grid} {n m : ℕ} {out left : List Float} where
  made : Gridded layout f n m out left passed → outcome_of (Ok (m * n)) left ≡ filled layout f n m out
  unfolding outcome_of filled
  made g =
      let q = follows (good_grid f n m layout out) (no_grid f n m layout out) (grid_test f n m) g.told in
      ap (λ (l : List Float). record { verdict = passed; quads = m * n; out = l }) (g.left ∙ ap (λ (x : Outcome). x.out) (sym q)) ∙ q

  not_made : (r : Refusal) → Gridded layout f n m out left (verdict_of r) → outcome_of (Err r) left ≡ filled layout f n m out
  unfolding outcome_of filled
  not_made r g =
      let q = refuses (good_grid f n m layout out) (no_grid f n m layout out) r (grid_test f n m) g.told in
      ap (λ (l : List Float). refusal l (verdict_of r)) (g.left ∙ ap (λ (x : Outcome). x.out) (sym q)) ∙ q

-- ---- the seams and the room

abbrev pub seams_tested : Seams → Verdict
seams_tested s = seams_test s.bottom s.top s.left s.right

long_enough : (xs : List Float) (k : ℕ) → T (is_passed (seam_test xs k)) → 2 ≤ length xs
unfolding seam_test
long_enough xs k q = let short = ltb (length xs) 2 in ltb-false (length xs) 2
    (not_T_false short (T_not short (not_refused short 17 k 0 (then_left (refuse_if short (refused 18 k 0)) _ q))))

equally_long : (xs ys : List Float) (k : ℕ) → T (is_passed (pair_test xs ys k)) → length xs ≡ length ys
unfolding pair_test
equally_long xs ys k q = go (eqb (length xs) (length ys)) refl q
  where
    go : (d : Bool) → eqb (length xs) (length ys) ≡ d → T (is_passed (refuse_if (not d) (refused 22 k 0))) → length xs ≡ length ys
    go true e u = eqb→eq (length xs) (length ys) (subst T (sym e) tt)
    go false e u = absurd u

-- what seams that are let by are like
pub seams_paired : {s : Seams} → ShortSeams s → passed ≡ seams_tested s → PairedSeams s
unfolding seams_test
seams_paired {s} short o =
    let b = s.bottom in
    let t = s.top in
    let l = s.left in
    let r = s.right in
    let v1 = then_test (pair_test b t 0) (pair_test l r 1) in
    let v2 = then_test (seam_test r 1) v1 in
    let v3 = then_test (seam_test l 3) v2 in
    let v4 = then_test (seam_test t 2) v3 in
    let p = subst (λ (v : Verdict). T (is_passed v)) o tt in
    let p3 = then_right (seam_test t 2) v3 (then_right (seam_test b 0) v4 p) in
    let p1 = then_right (seam_test r 1) v1 (then_right (seam_test l 3) v2 p3) in
    record {
      u = record {
        two = long_enough b 0 (then_left (seam_test b 0) v4 p);
        short = short.bottom;
        same = equally_long b t 0 (then_left (pair_test b t 0) (pair_test l r 1) p1);
      };
      v = record {
        two = long_enough l 3 (then_left (seam_test l 3) v2 p3);
        short = short.left;
        same = equally_long l r 1 (then_right (pair_test b t 0) (pair_test l r 1) p1);
      };
    }

pub cells_fit : (n m : ℕ) → n ≤ max_cells → m ≤ max_cells → m * n ≤ 1048576
cells_fit n m h k = let e : m * n ≤ max_cells * n = mul-le-mul_right n k in omega arith

module _ (layout : Layout) (c : BoundaryCurves) (s : Seams) (out : List Float) where
  abbrev rest : Outcome
  rest = filled layout (grid_of c s) (n_u s) (n_v s) out

  pub bad_seams : (o : Result ℕ Refusal) (r : Refusal) → IsErrAnd o (λ (e : Refusal). e ≡ r) → verdict_of r ≡ seams_tested s
      → outcome_of o out ≡ grid_stage layout c s out
  unfolding grid_stage seams_and_room_test
  bad_seams o r h e = exit_refuses out rest o r h (chain_stops r (refuse_if (ltb (length out) (needed layout (n_u s) (n_v s))) (refused 11 0 0)) e)

  module _ (o : passed ≡ seams_tested s) where
    -- the chain, once the seams are let by
    room_only : (d : Bool) → ltb (length out) (needed layout (n_u s) (n_v s)) ≡ d → refuse_if d (refused 11 0 0) ≡ seams_and_room_test false layout s (length out)
    unfolding seams_and_room_test
    room_only d h = ap (λ (x : Bool). refuse_if x (refused 11 0 0)) (sym h) ∙ chain_goes_on o

    pub no_room : length out < needed layout (n_u s) (n_v s) → outcome_of (Err because.OutputTooShort) out ≡ grid_stage layout c s out
    unfolding grid_stage verdict_of
    no_room h = turned_away out rest because.OutputTooShort (room_only true (lt-ltb (length out) (needed layout (n_u s) (n_v s)) h))

    to_the_grid : (x : Outcome) → needed layout (n_u s) (n_v s) ≤ length out → x ≡ rest → x ≡ grid_stage layout c s out
    unfolding grid_stage
    to_the_grid x h q =
        q ∙ goes_on out rest (seams_and_room_test false layout s (length out))
        (ap is_passed (sym (room_only false (le-ltb (length out) (needed layout (n_u s) (n_v s)) h))))

    module _ {left : List Float} (h : needed layout (n_u s) (n_v s) ≤ length out) where
      pub grid_made : Gridded layout (grid_of c s) (n_u s) (n_v s) out left passed → outcome_of (Ok (n_v s * n_u s)) left ≡ grid_stage layout c s out
      grid_made w = to_the_grid _ h (made w)

      pub grid_refused : (o : Result ℕ Refusal) (r : Refusal) → IsErrAnd o (λ (e : Refusal). e ≡ r)
          → Gridded layout (grid_of c s) (n_u s) (n_v s) out left (verdict_of r) → outcome_of o left ≡ grid_stage layout c s out
      grid_refused o r k w = to_the_grid _ h (exit_leaves o r left k ∙ not_made r w)
