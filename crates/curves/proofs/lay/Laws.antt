-- Laws of lay: how long its seams are, its tests one by one, what they let by, and its answer by them. Assumes nothing.
use mathlib.Core.Path.{◌≡◌, refl, sym, ap, subst, ◌∙◌}
use mathlib.Core.Bool.{Bool, true, false, true≢false, not, ◌||◌, cond}
use mathlib.Core.List.{List, [], ◌∷◌}
use Prim.Native.Nat.{ℕ, zero, suc, ◌+◌, ◌/◌, ◌≤◌, ◌<◌}
use native.Mathlib.Nat.{add-suc}
use native.Mathlib.Omega.{arith}
use lib.Dec.{T, ltb, eqb, eqb→eq}
use lib.Ieee.{Float}
use lib.ListN.{length, get_or, set, take, drop, length-append}
use lib.Seq.{take_all}
use Rattle.base.specs.Lists.{all}
use Rattle.base.specs.declared.verdict.Verdict.{Verdict}
use Rattle.std.specs.Prelude.{Result, Err, IsErrAnd}
use Rattle.base.specs.Refusal.{passed, refused, verdict_of, is_passed, then_test, refuse_if}
use Rattle.regions.specs.Region.{places, side, side_sum, record_size, empty_pair}
use Rattle.regions.specs.Accept.{sides_fit, limits_test}
use Rattle.base.specs.declared.refusal.Refusal.{Refusal}
use Rattle.base.specs.declared.refusal.Refusal.TheVariants as because
use Rattle.base.proofs.BoolLaws.{T_true, by_truth}
use Rattle.base.proofs.TestLaws.{then_left, then_right, not_refused, four_passed}
use Rattle.regions.proofs.accept.Laws.{limits_passed, whole_sides, side_short}
use Rattle.base.proofs.Turns.{drop_at}
use Rattle.base.specs.Buffers.{splice}
use Rattle.curves.specs.Seam.{edge_values, seam_from, side_seam}
use Rattle.curves.specs.Grid.{Seams, seams}
use Rattle.curves.specs.Coons.{Outcome, outcome_of, curves_limit, seam_limit, seams_limit, coons_from_parameters}
use Rattle.curves.specs.Lay.{TileInput, counts_along, one_cell, seam_of, seams_of, record_test, edges_test, breaks_test, sides_test, lay_test, lay}
use Rattle.curves.specs.declared.rows.Layout.TheVariants.{Quads}
use Rattle.base.proofs.BufferLaws.{part_written, set_splice, take_splice}
use Rattle.curves.proofs.stage.Laws.{turned_away, exit_refuses, goes_on}
use Rattle.curves.proofs.seam.Laws.{length_edge}
use Rattle.curves.specs.Limits.{max_seam}
use Rattle.curves.specs.declared.sides.Sides.{Sides}
use Rattle.curves.specs.inner.Lays.{Counted, SidePassed, SideLaid, FourShort}

-- ---- the seam of a side, by whether its pair is empty

pub seam_by : (region counts : List ℕ) (k : ℕ) (breaks : List Float) {b : Bool} → empty_pair places region k ≡ b
    → seam_of region counts k breaks ≡ cond b one_cell (side_seam breaks (counts_along counts (side places region k)))
unfolding seam_of
seam_by region counts k breaks e = ap (λ (b : Bool). cond b one_cell (side_seam breaks (counts_along counts (side places region k)))) e

-- what is written across an empty pair
pub two_written : (l : List Float) (x y : Float) → 2 ≤ length l → take 2 (set (set l 0 x) 1 y) ≡ x ∷ y ∷ []
two_written [] x y h = absurd (omega (arith, h))
two_written (u ∷ []) x y h = absurd (omega (arith, h))
two_written (u ∷ v ∷ l) x y h = refl

-- ---- how long it is: one more than its side adds up to, or two

length_from : (breaks : List Float) (i : ℕ) (counts edges : List ℕ) → length (seam_from breaks i (counts_along counts edges)) ≡ suc (side_sum counts edges)
unfolding seam_from
length_from breaks i counts [] = refl
length_from breaks i counts (e ∷ edges) =
    let n = get_or counts e 0 in
    length-append (edge_values breaks i n) (seam_from breaks (suc i) (counts_along counts edges))
    ∙ ap (λ (k : ℕ). k + length (seam_from breaks (suc i) (counts_along counts edges))) (length_edge breaks i n)
    ∙ ap (λ (k : ℕ). n + k) (length_from breaks (suc i) counts edges)
    ∙ add-suc n (side_sum counts edges)

pub length_seam : (region counts : List ℕ) (k : ℕ) (breaks : List Float) → empty_pair places region k ≡ false
    → length (seam_of region counts k breaks) ≡ suc (side_sum counts (side places region k))
unfolding side_seam
length_seam region counts k breaks e = ap length (seam_by region counts k breaks e) ∙ length_from breaks 0 counts (side places region k)

-- two sides of one pair that add up to the same have seams of one length
pub equally_long : (region counts : List ℕ) (j k : ℕ) (breaks others : List Float) → empty_pair places region j ≡ empty_pair places region k
    → side_sum counts (side places region j) ≡ side_sum counts (side places region k)
    → length (seam_of region counts j breaks) ≡ length (seam_of region counts k others)
equally_long region counts j k breaks others same even =
    by_truth (empty_pair places region k)
    (λ e. ap length (seam_by region counts j breaks (same ∙ e)) ∙ sym (ap length (seam_by region counts k others e)))
    (λ e. length_seam region counts j breaks (same ∙ e) ∙ ap suc even ∙ sym (length_seam region counts k others e))

-- ---- the counts of a side's edges

pub length_along : (counts edges : List ℕ) → length (counts_along counts edges) ≡ length edges
length_along counts [] = refl
length_along counts (e ∷ edges) = ap suc (length_along counts edges)

along_drop : (counts edges : List ℕ) (i : ℕ) → drop i (counts_along counts edges) ≡ counts_along counts (drop i edges)
along_drop counts edges zero = refl
along_drop counts [] (suc i) = refl
along_drop counts (e ∷ edges) (suc i) = along_drop counts edges i

-- the front of the buffer that they were written to
pub along_front : {counts edges before after : List ℕ} {total : ℕ} → Counted edges counts before after total → take (length edges) after ≡ counts_along counts edges
along_front {counts} {edges} {before} c =
    ap (take (length edges)) c.written ∙ take_splice before (counts_along counts edges) (length edges) (length_along counts edges)

-- a turn of the loop that writes them to a buffer d, and its end
module _ (counts edges d : List ℕ) where
  pub along_more : {out : List ℕ} {v : ℕ} (i : ℕ) → out ≡ splice d 0 (take i (counts_along counts edges)) → i < length edges → length edges ≤ length d
      → length out ≡ length d → v ≡ get_or counts (get_or edges i 0) 0 → set out i v ≡ splice d 0 (take (i + 1) (counts_along counts edges))
  along_more {out} {v} i o h g l e =
      let n = length_along counts edges in
      part_written d out (counts_along counts edges) (v ∷ []) (counts_along counts (drop (i + 1) edges)) i (set out i v) (omega (arith, n)) (omega (arith, n))
      (along_drop counts edges i
      ∙ ap (counts_along counts) (drop_at edges 0 i h)
      ∙ ap (λ (x : ℕ). x ∷ counts_along counts (drop (i + 1) edges)) (sym e)) o (set_splice out i v (omega arith))

  pub along_done : {out : List ℕ} (i : ℕ) → out ≡ splice d 0 (take i (counts_along counts edges)) → length edges ≤ i → out ≡ splice d 0 (counts_along counts edges)
  along_done i o h = o ∙ ap (splice d 0) (take_all i (counts_along counts edges) (let n = length_along counts edges in omega (arith, n)))

-- ---- the tests, by what the code finds

module _ (region : List ℕ) (n : ℕ) where
  pub record_by : (b : Bool) → eqb (length region) (record_size places) ≡ b
      → then_test (refuse_if (not b) (refused 1 0 0)) (limits_test places n region) ≡ record_test region n
  unfolding record_test
  record_by b e = ap (λ (x : Bool). then_test (refuse_if (not x) (refused 1 0 0)) (limits_test places n region)) (sym e)

  pub edges_by : (k : ℕ) {edges : List ℕ} (b : Bool) → edges ≡ side places region k → all (λ (e : ℕ). ltb e n) edges ≡ b
      → refuse_if (not b) (refused 3 0 k) ≡ edges_test region n k
  unfolding edges_test
  edges_by k b s e = ap (λ (x : Bool). refuse_if (not x) (refused 3 0 k)) (sym e ∙ ap (all (λ (x : ℕ). ltb x n)) s)

module _ (region : List ℕ) (breaks : List Float) (k : ℕ) where
  abbrev breaks_fit : Bool
  breaks_fit = eqb (length breaks) (suc (length (side places region k)))

  -- by whether the pair is empty
  pub breaks_read : {b : Bool} → empty_pair places region k ≡ b → breaks_test region breaks k ≡ cond b passed (refuse_if (not breaks_fit) (refused 27 k 0))
  unfolding breaks_test
  breaks_read e = ap (λ (b : Bool). cond b passed (refuse_if (not breaks_fit) (refused 27 k 0))) e

  -- and, where it is not, by whether they fit
  pub breaks_by : {edges : List ℕ} (b : Bool) → empty_pair places region k ≡ false → edges ≡ side places region k
      → eqb (length breaks) (suc (length edges)) ≡ b → refuse_if (not b) (refused 27 k 0) ≡ breaks_test region breaks k
  breaks_by b r s e =
      ap (λ (x : Bool). refuse_if (not x) (refused 27 k 0)) (sym e ∙ ap (λ (l : List ℕ). eqb (length breaks) (suc (length l))) s) ∙ sym (breaks_read r)

-- ---- what they let by

not_not : (b : Bool) → T (not (not b)) → T b
not_not true t = tt
not_not false t = absurd t

pub edges_known : (region : List ℕ) (n k : ℕ) → T (is_passed (edges_test region n k)) → T (all (λ (e : ℕ). ltb e n) (side places region k))
unfolding edges_test
edges_known region n k t = let b = all (λ (e : ℕ). ltb e n) (side places region k) in not_not b (not_refused (not b) 2 0 k t)

pub breaks_known : (region : List ℕ) (breaks : List Float) (k : ℕ) → empty_pair places region k ≡ false → T (is_passed (breaks_test region breaks k))
    → length breaks ≡ suc (length (side places region k))
breaks_known region breaks k r t =
    let b = breaks_fit region breaks k in
    let u = subst (λ (v : Verdict). T (is_passed v)) (breaks_read region breaks k r) t in
    eqb→eq (length breaks) (suc (length (side places region k))) (not_not b (not_refused (not b) 26 k 0 u))

-- a record that is let by has no more edges on a side than places
pub sides_short : (region : List ℕ) (n : ℕ) → T (is_passed (record_test region n)) → (k : ℕ) → k < 4 → length (side places region k) ≤ places
unfolding record_test
sides_short region n t k h =
    let v : Verdict = refuse_if (not (eqb (length region) (record_size places))) (refused 1 0 0) in
    let e : length region ≡ record_size places = eqb→eq (length region) (record_size places)
    (not_not (eqb (length region) (record_size places))
    (not_refused (not (eqb (length region) (record_size places))) 0 0 0 (then_left v (limits_test places n region) t))) in
    let w = (limits_passed places n region (T_true (is_passed (limits_test places n region)) (then_right v (limits_test places n region) t))).1 in
    side_short places region (subst (λ (m : ℕ). T (sides_fit places (m / record_size places) region)) e (whole_sides places region w)) k h

-- what they let by of the whole
pub record Known (region : List ℕ) (n : ℕ) (f : TileInput) : Type 0 where
  pub passed : T (is_passed (lay_test region n f))
  pub curves : T (is_passed (curves_limit f.bottom f.right f.top f.left))
  pub side0 : SidePassed region n 0 f.breaks0
  pub side1 : SidePassed region n 1 f.breaks1
  pub side2 : SidePassed region n 2 f.breaks2
  pub side3 : SidePassed region n 3 f.breaks3

pub known : {region : List ℕ} {n : ℕ} {f : TileInput} → passed ≡ lay_test region n f → Known region n f
unfolding lay_test sides_test
known {region} {n} {f} o =
    let t : T (is_passed (lay_test region n f)) = subst (λ (v : Verdict). T (is_passed v)) o tt in
    let limit = curves_limit f.bottom f.right f.top f.left in
    let s = then_right (record_test region n) (then_test limit (sides_test region n f)) t in
    let r = then_right limit (sides_test region n f) s in
    let short = sides_short region n (then_left (record_test region n) (then_test limit (sides_test region n f)) t) in
    let of_edges = then_test (edges_test region n 0) (then_test (edges_test region n 1) (then_test (edges_test region n 2) (edges_test region n 3))) in
    let of_breaks = then_test (breaks_test region f.breaks0 0) (then_test (breaks_test region f.breaks1 1)
    (then_test (breaks_test region f.breaks2 2) (breaks_test region f.breaks3 3))) in
    let e = four_passed (edges_test region n 0) (edges_test region n 1) (edges_test region n 2) (edges_test region n 3) (then_left of_edges of_breaks r) in
    let b = four_passed (breaks_test region f.breaks0 0) (breaks_test region f.breaks1 1) (breaks_test region f.breaks2 2)
    (breaks_test region f.breaks3 3) (then_right of_edges of_breaks r) in
    record {
      passed = t;
      curves = then_left limit (sides_test region n f) s;
      side0 = record { few = short 0 (omega arith); edges_known = e.0; breaks_fit = b.0 };
      side1 = record { few = short 1 (omega arith); edges_known = e.1; breaks_fit = b.1 };
      side2 = record { few = short 2 (omega arith); edges_known = e.2; breaks_fit = b.2 };
      side3 = record { few = short 3 (omega arith); edges_known = e.3; breaks_fit = b.3 };
    }

-- ---- the limit of the seams, by their lengths

module _ (s : Seams) where
  abbrev limits : Bool → Bool → Bool → Bool → Verdict
  limits b t l r =
      then_test (refuse_if b (refused 1 0 0)) (then_test (refuse_if t (refused 1 0 0)) (then_test (refuse_if l (refused 1 0 0)) (refuse_if r (refused 1 0 0))))

  limits_by : (n : Sides ℕ) → n.bottom ≡ length s.bottom → n.top ≡ length s.top → n.left ≡ length s.left → n.right ≡ length s.right
      → limits (ltb max_seam n.bottom) (ltb max_seam n.top) (ltb max_seam n.left) (ltb max_seam n.right) ≡ seams_limit s
  unfolding seams_limit seam_limit
  limits_by n b t l r = rw (b, t, l, r)

  some_limit : (b t l r : Bool) → (b || (t || (l || r))) ≡ true → refused 1 0 0 ≡ limits b t l r
  some_limit true t l r h = refl
  some_limit false true l r h = refl
  some_limit false false true r h = refl
  some_limit false false false true h = refl
  some_limit false false false false h = absurd (true≢false (sym h))

  -- one of the seams is too long
  limit_passed : (n : Sides ℕ) → n.bottom ≡ length s.bottom → n.top ≡ length s.top → n.left ≡ length s.left → n.right ≡ length s.right
      → (ltb max_seam n.bottom || (ltb max_seam n.top || (ltb max_seam n.left || ltb max_seam n.right))) ≡ true → refused 1 0 0 ≡ seams_limit s
  limit_passed n b t l r h =
      some_limit (ltb max_seam n.bottom) (ltb max_seam n.top) (ltb max_seam n.left) (ltb max_seam n.right) h ∙ limits_by n b t l r

-- ---- lay's answer, by its tests

-- each side is laid in its buffer
pub record SidesLaid (region counts : List ℕ) (f : TileInput) (a : Sides (List Float)) (n : Sides ℕ) : Type 0 where
  pub bottom : SideLaid region counts 0 f.breaks0 a.bottom n.bottom
  pub right : SideLaid region counts 1 f.breaks1 a.right n.right
  pub top : SideLaid region counts 2 f.breaks2 a.top n.top
  pub left : SideLaid region counts 3 f.breaks3 a.left n.left

module _ (region counts : List ℕ) (f : TileInput) (out : List Float) where
  abbrev grid_by : Seams → Outcome
  grid_by s = coons_from_parameters Quads f.bottom f.right f.top f.left s out

  pub lay_refused : (o : Result ℕ Refusal) (r : Refusal) → IsErrAnd o (λ (e : Refusal). e ≡ r) → verdict_of r ≡ lay_test region (length counts) f
      → outcome_of o out ≡ lay region counts f out
  unfolding lay
  lay_refused o r h e = exit_refuses out (grid_by (seams_of region counts f)) o r h e

  laid : Known region (length counts) f → grid_by (seams_of region counts f) ≡ lay region counts f out
  unfolding lay
  laid k = goes_on out (grid_by (seams_of region counts f)) (lay_test region (length counts) f) (T_true (is_passed (lay_test region (length counts) f)) k.passed)

  -- once its tests are passed and its sides are laid
  module _ (k : Known region (length counts) f) (a : Sides (List Float)) (n : Sides ℕ) (s : SidesLaid region counts f a n) where
    pub laid_by : {x : Outcome} → FourShort n
        → x ≡ grid_by (seams (take n.bottom a.bottom) (take n.top a.top) (take n.left a.left) (take n.right a.right)) → x ≡ lay region counts f out
    laid_by short q =
        let b = s.bottom.written short.bottom_short in
        let t = s.top.written short.top_short in
        let l = s.left.written short.left_short in
        let r = s.right.written short.right_short in
        (rw (b, t, l, r) at q) ∙ laid k

    -- "1 for a seam too long": where the curves are within their limit, that of the seams decides
    pub seam_too_long : (ltb max_seam n.bottom || (ltb max_seam n.top || (ltb max_seam n.left || ltb max_seam n.right))) ≡ true
        → outcome_of (Err because.Malformed) out ≡ lay region counts f out
    unfolding coons_from_parameters verdict_of
    seam_too_long h =
        let limit = curves_limit f.bottom f.right f.top f.left in
        let limit_of_seams = seams_limit (seams_of region counts f) in
        let e = limit_passed (seams_of region counts f) n s.bottom.long s.top.long s.left.long s.right.long h in
        let q : verdict_of because.Malformed ≡ then_test limit limit_of_seams =
        e ∙ ap (λ (b : Bool). cond b limit_of_seams limit) (sym (T_true (is_passed limit) k.curves)) in
        turned_away out _ because.Malformed q ∙ laid k
