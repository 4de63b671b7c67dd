-- 02, item 2: nothing of unread breaks shows in what lay answers or leaves, and a strip has one cell across. Assumes nothing.
use mathlib.Core.Path.{◌≡◌, refl, sym, ap, subst, ◌∙◌}
use mathlib.Core.Bool.{true, false}
use mathlib.Core.List.{List}
use Prim.Native.Nat.{ℕ, ◌-◌, ◌*◌}
use native.Mathlib.Omega.{arith}
use lib.Dec.{T}
use lib.ListN.{length}
use lib.Ieee.{Float}
use Rattle.base.specs.declared.verdict.Verdict.{Verdict}
use Rattle.base.specs.Refusal.{passed, is_passed, then_test}
use Rattle.base.proofs.BoolLaws.{by_truth}
use Rattle.regions.specs.Region.{places, side, side_sum, empty_pair}
use Rattle.base.specs.Buffers.{splice}
use Rattle.curves.specs.Boundary.{boundary_of, checked_curves}
use Rattle.curves.specs.Quad.{zeros}
use Rattle.curves.specs.Grid.{Seams, seams, n_u, n_v, Grid, grid_of, grid_test, grid_values, needed}
use Rattle.curves.specs.Coons.{Outcome, unless, filled, seams_and_room_test, grid_stage, patch, curves_limit, seams_limit, coons_from_parameters}
use Rattle.curves.specs.Lay.{TileInput, seam_of, seams_of, record_test, edges_test, breaks_test, sides_test, lay_test, lay}
use Rattle.curves.specs.Strips.{with_breaks, ReadAlike, StripQuads}
use Rattle.curves.specs.declared.rows.Layout.TheVariants.{Quads}
use Rattle.curves.proofs.lay.Laws.{seam_by, length_seam, breaks_read}
use Rattle.curves.proofs.stage.Laws.{went_on}

-- ---- unread breaks

module _ (region : List ℕ) (k : ℕ) {breaks others : List Float} (same : empty_pair places region k ≡ false → breaks ≡ others) where
  test_alike : breaks_test region breaks k ≡ breaks_test region others k
  test_alike =
      by_truth (empty_pair places region k) (λ e. breaks_read region breaks k e ∙ sym (breaks_read region others k e))
      (λ e. ap (λ (l : List Float). breaks_test region l k) (same e))

  seam_alike : (counts : List ℕ) → seam_of region counts k breaks ≡ seam_of region counts k others
  seam_alike counts =
      by_truth (empty_pair places region k) (λ e. seam_by region counts k breaks e ∙ sym (seam_by region counts k others e))
      (λ e. ap (seam_of region counts k) (same e))

-- neither answer nor output depends on breaks that are not read
pub breaks_not_read : (region counts : List ℕ) (f : TileInput) (breaks0 breaks1 breaks2 breaks3 out : List Float)
    → ReadAlike region f breaks0 breaks1 breaks2 breaks3
    → lay region counts (with_breaks f breaks0 breaks1 breaks2 breaks3) out ≡ lay region counts f out
unfolding lay lay_test sides_test
breaks_not_read region counts f breaks0 breaks1 breaks2 breaks3 out r =
    λ i. unless (tests i) out (coons_from_parameters Quads f.bottom f.right f.top f.left (made i) out)
  where
    n : ℕ
    n = length counts

    tests : lay_test region n (with_breaks f breaks0 breaks1 breaks2 breaks3) ≡ lay_test region n f
    tests = λ i.
        then_test (record_test region n) (then_test (curves_limit f.bottom f.right f.top f.left)
        (then_test
        (then_test (edges_test region n 0) (then_test (edges_test region n 1) (then_test (edges_test region n 2) (edges_test region n 3))))
        (then_test (test_alike region 0 r.bottom i)
        (then_test (test_alike region 1 r.right i) (then_test (test_alike region 2 r.top i) (test_alike region 3 r.left i))))))

    made : seams_of region counts (with_breaks f breaks0 breaks1 breaks2 breaks3) ≡ seams_of region counts f
    made = λ i.
        seams (seam_alike region 0 r.bottom counts i) (seam_alike region 2 r.top counts i)
        (seam_alike region 3 r.left counts i) (seam_alike region 1 r.right counts i)

-- ---- one cell across

-- an answer that is no refusal has n quads
record HasQuads (n : ℕ) (o : Outcome) : Type 0 where
  pub answered : T (is_passed o.verdict) → o.quads ≡ n

unless_quads : {n : ℕ} (v : Verdict) (out : List Float) (rest : Outcome) → HasQuads n rest → HasQuads n (unless v out rest)
unless_quads v out rest h = record {
  answered = λ t.
      let e = went_on out rest v t in
      ap (λ (o : Outcome). o.quads) e ∙ h.answered (subst (λ (o : Outcome). T (is_passed o.verdict)) e t);
}

-- as many as the seams give
grid_quads : (g : Grid) (n m : ℕ) (out : List Float) → HasQuads (m * n) (filled Quads g n m out)
unfolding filled
grid_quads g n m out =
    unless_quads (grid_test g n m) (splice out 0 (zeros (needed Quads n m)))
    (record { verdict = passed; quads = m * n; out = splice out 0 (grid_values Quads g n m) }) (record { answered = λ t. refl })

patch_quads : (bottom right top left : List Float) (s : Seams) (out : List Float)
    → HasQuads (n_v s * n_u s) (coons_from_parameters Quads bottom right top left s out)
unfolding coons_from_parameters patch grid_stage
patch_quads bottom right top left s out =
    let c = boundary_of bottom right top left in
    unless_quads (then_test (curves_limit bottom right top left) (seams_limit s)) out (patch Quads bottom right top left s out)
    (unless_quads (checked_curves bottom right top left) out (grid_stage Quads c s out)
    (unless_quads (seams_and_room_test false Quads s (length out)) out (filled Quads (grid_of c s) (n_u s) (n_v s) out)
    (grid_quads (grid_of c s) (n_u s) (n_v s) out)))

module _ (region counts : List ℕ) (f : TileInput) (out : List Float) where
  abbrev s : Seams
  s = seams_of region counts f

  lay_quads : HasQuads (n_v s * n_u s) (lay region counts f out)
  unfolding lay
  lay_quads =
      unless_quads (lay_test region (length counts) f) out (coons_from_parameters Quads f.bottom f.right f.top f.left s out)
      (patch_quads f.bottom f.right f.top f.left s out)

  -- across an empty pair there is one cell, along the other sides there are as many as they add up to
  one_across : (k : ℕ) (breaks : List Float) → empty_pair places region k ≡ true → length (seam_of region counts k breaks) - 1 ≡ 1
  one_across k breaks e = ap (λ (l : List Float). length l - 1) (seam_by region counts k breaks e)

  counted_along : (k : ℕ) (breaks : List Float) → empty_pair places region k ≡ false
      → length (seam_of region counts k breaks) - 1 ≡ side_sum counts (side places region k)
  counted_along k breaks e = let l = length_seam region counts k breaks e in omega (arith, l)

  cells : {n m : ℕ} → T (is_passed (lay region counts f out).verdict) → n_u s ≡ n → n_v s ≡ m → (lay region counts f out).quads ≡ m * n
  cells {n} t u v = lay_quads.answered t ∙ ap (λ (k : ℕ). n_v s * k) u ∙ ap (λ (k : ℕ). k * n) v

  pub strip_quads : T (is_passed (lay region counts f out).verdict) → StripQuads region counts (lay region counts f out).quads
  strip_quads t = record {
    bottom_top_empty = λ e h. let q = cells t (one_across 0 f.breaks0 e) (counted_along 3 f.breaks3 h) in omega (arith, q);
    left_right_empty = λ e h. let q = cells t (counted_along 0 f.breaks0 h) (one_across 3 f.breaks3 e) in omega (arith, q);
    all_empty = λ e h. cells t (one_across 0 f.breaks0 e) (one_across 3 f.breaks3 h);
  }
