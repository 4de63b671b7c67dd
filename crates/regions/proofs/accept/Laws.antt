-- Laws of the tests of regions, turn by turn, as the code makes them. Assumes nothing.
use mathlib.Core.Path.{◌≡◌, refl, sym, ap}
use mathlib.Core.Bool.{Bool, true, false, not, ◌&&◌, ◌||◌, cond, or_assoc, or_comm}
use mathlib.Core.List.{List, [], ◌∷◌, ◌++◌}
use Prim.Native.Nat.{ℕ, zero, suc, ◌+◌, ◌-◌, ◌*◌, ◌%◌, ◌<◌, ◌≤◌}
use native.Mathlib.Numerals.{add-one}
use native.Mathlib.Nat.{add-zero, zero-mul, one-mul, suc-mul}
use native.Mathlib.Omega.{arith}
use borrow.Author.Tests.{not-false}
use lib.ListN.{length, get_or, take, drop, length-take, length-drop, drop_of_length-le}
use lib.Dec.{T, leb, ltb, eqb, leb→le}
use lib.Seq.{take-suc, take_all, get_or-drop, drop-drop}
use lib.Ieee.Fits.{and_i, and_l, and_r}
use Rattle.base.specs.Lists.{member}
use Rattle.regions.specs.Region.{side, side_size, record_size, region_count, from_region}
use Rattle.base.specs.Refusal.{passed, refused, is_passed, then_test, refuse_if}
use Rattle.regions.specs.Accept.{sides_fit, records_whole, limits_test, shared_edge, side_test, pair_test, region_test, pairs_test, max_regions, max_edges, records_test}
use Rattle.base.proofs.BoolLaws.{true_T}
use Rattle.base.proofs.TestLaws.{then_test_assoc, lets_by}
use Rattle.base.proofs.Turns.{drop_at}

-- ---- along a side: the edges before index i are those seen
member_last : (x y : ℕ) (l : List ℕ) → member x (l ++ (y ∷ [])) ≡ member x (y ∷ l)
member_last x y [] = refl
member_last x y (z ∷ l) = rw (member_last x y l, ← or_assoc, or_comm (eqb x z) (eqb x y), or_assoc)

-- of the edges seen only which they are matters
side_same : (n r k : ℕ) (s s' es : List ℕ) → ((x : ℕ) → member x s ≡ member x s') → side_test n r k s es ≡ side_test n r k s' es
unfolding side_test
side_same n r k s s' [] h = refl
side_same n r k s s' (e ∷ es) h = rw (h, side_same n r k (e ∷ s) (e ∷ s') es (λ x. ap (λ b. eqb x e || b) (h x)))

module _ (n r k : ℕ) (es : List ℕ) (i : ℕ) (h : i < length es) where
  side_turn : (a b : Bool) → ltb (get_or es i 0) n ≡ a → member (get_or es i 0) (take i es) ≡ b
      → side_test n r k (take i es) (drop i es) ≡ cond a (cond b (refused 4 r k) (side_test n r k (take (i + 1) es) (drop (i + 1) es)))
      (refused 3 r k)
  unfolding side_test
  side_turn a b p q = rw (drop_at es 0 i h, p, q, side_same n r k (get_or es i 0 ∷ take i es) (take (i + 1) es) (drop (i + 1) es) seen)
    where
      seen : (x : ℕ) → member x (get_or es i 0 ∷ take i es) ≡ member x (take (i + 1) es)
      seen x = rw (add-one, take-suc es i 0 h) (sym (member_last x (get_or es i 0) (take i es)))

  pub side_out_of_range : ltb (get_or es i 0) n ≡ false → side_test n r k (take i es) (drop i es) ≡ refused 3 r k
  side_out_of_range p = side_turn false (member (get_or es i 0) (take i es)) p refl

  pub side_repeated : ltb (get_or es i 0) n ≡ true → member (get_or es i 0) (take i es) ≡ true → side_test n r k (take i es) (drop i es) ≡ refused 4 r k
  side_repeated p q = side_turn true true p q

  pub side_next : ltb (get_or es i 0) n ≡ true → member (get_or es i 0) (take i es) ≡ false
      → side_test n r k (take i es) (drop i es) ≡ side_test n r k (take (i + 1) es) (drop (i + 1) es)
  side_next p q = side_turn true false p q

pub side_end : (n r k : ℕ) (s es : List ℕ) (i : ℕ) → length es ≤ i → side_test n r k s (drop i es) ≡ passed
unfolding side_test
side_end n r k s es i h = rw drop_of_length-le

-- ---- the sides' numbers of edges, one side after the other
-- From here on a side has any number p of places.

abbrev pub each_fits : ℕ → ℕ → List ℕ → Bool
each_fits p zero l = true
each_fits p (suc m) l = leb (get_or l 0 0) p && each_fits p m (drop (side_size p) l)

pub next_side : (p k : ℕ) (l : List ℕ) → drop (side_size p) (drop (k * side_size p) l) ≡ drop (suc k * side_size p) l
next_side p k l = rw (drop-drop, ← suc-mul)

-- the number of edges of side k, with the sides before it dropped
number_of_side : (p k : ℕ) (l : List ℕ) → get_or (drop (k * side_size p) l) 0 0 ≡ get_or l (k * side_size p) 0
number_of_side p k l = rw (get_or-drop, add-zero)

pub sides_one_by_one : (p m : ℕ) (l : List ℕ) → sides_fit p m l ≡ each_fits p (m * 4) l
unfolding sides_fit
sides_one_by_one p zero l = refl
sides_one_by_one p (suc m) l =
    let e : suc m * 4 ≡ suc (suc (suc (suc (m * 4)))) = omega arith in
    let d1 : drop (side_size p) l ≡ drop (1 * side_size p) l = ap (λ (n : ℕ). drop n l) (sym (one-mul (side_size p))) in
    simp (e, d1, next_side, number_of_side, sides_one_by_one p m (drop (record_size p) l))

-- a turn of the loop, with suc m sides left from `at` on
module _ (p m : ℕ) (l : List ℕ) (at : ℕ) where
  fits_turn : (b : Bool) → leb (get_or l at 0) p ≡ b → each_fits p (suc m) (drop at l) ≡ b && each_fits p m (drop (at + side_size p) l)
  fits_turn b t = rw (get_or-drop, add-zero, drop-drop, t)

  pub fits_next : leb (get_or l at 0) p ≡ true → each_fits p (suc m) (drop at l) ≡ each_fits p m (drop (at + side_size p) l)
  fits_next t = fits_turn true t

  pub fits_not : leb (get_or l at 0) p ≡ false → each_fits p (suc m) (drop at l) ≡ false
  fits_not t = fits_turn false t

-- ---- region by region

-- what test 1 says of the record that stands first, and of those behind it
record FirstFits (p m : ℕ) (l : List ℕ) : Type 0 where
  fits_0 : T (leb (get_or l 0 0) p)
  fits_1 : T (leb (get_or l (1 * side_size p) 0) p)
  fits_2 : T (leb (get_or l (2 * side_size p) 0) p)
  fits_3 : T (leb (get_or l (3 * side_size p) 0) p)
  others : T (sides_fit p m (drop (record_size p) l))

first_fits : (p m : ℕ) (l : List ℕ) → T (sides_fit p (suc m) l) → FirstFits p m l
unfolding sides_fit
first_fits p m l t =
    let fits : ℕ → Bool = λ i. leb (get_or l i 0) p in
    let t1 = and_r (fits 0) _ t in
    let t2 = and_r (fits (1 * side_size p)) _ t1 in
    let t3 = and_r (fits (2 * side_size p)) _ t2 in
    record {
      fits_0 = and_l (fits 0) _ t;
      fits_1 = and_l (fits (1 * side_size p)) _ t1;
      fits_2 = and_l (fits (2 * side_size p)) _ t2;
      fits_3 = and_l (fits (3 * side_size p)) _ t3;
      others = and_r (fits (3 * side_size p)) _ t3;
    }

pub sides_first : (p m : ℕ) (l : List ℕ) → T (sides_fit p (suc m) l) → T (sides_fit p 1 l)
unfolding sides_fit
sides_first p m l t =
    let f = first_fits p m l t in
    let fits : ℕ → Bool = λ i. leb (get_or l i 0) p in
    and_i (fits 0) _ f.fits_0
    (and_i (fits (1 * side_size p)) _ f.fits_1 (and_i (fits (2 * side_size p)) _ f.fits_2 (and_i (fits (3 * side_size p)) true f.fits_3 tt)))

pub sides_rest : (p m : ℕ) (l : List ℕ) → T (sides_fit p (suc m) l) → T (sides_fit p m (drop (record_size p) l))
sides_rest p m l t = (first_fits p m l t).others

-- no side of the record that stands first has more edges than places
pub side_few : (p m : ℕ) (l : List ℕ) → T (sides_fit p (suc m) l) → (k : ℕ) → k < 4 → get_or l (k * side_size p) 0 ≤ p
side_few p m l t zero h = rw zero-mul (leb→le _ p (first_fits p m l t).fits_0)
side_few p m l t (suc zero) h = leb→le _ p (first_fits p m l t).fits_1
side_few p m l t (suc (suc zero)) h = leb→le _ p (first_fits p m l t).fits_2
side_few p m l t (suc (suc (suc zero))) h = leb→le _ p (first_fits p m l t).fits_3
side_few p m l t (suc (suc (suc (suc k)))) h = absurd (omega arith)

-- a side has no more edges than its number says
pub side_within : (p : ℕ) (l : List ℕ) (k : ℕ) → get_or l (k * side_size p) 0 ≤ p → length (side p l k) ≤ p
side_within p l k h = let e = length-take (get_or l (k * side_size p) 0) (drop (suc (k * side_size p)) l) in omega arith

-- so none of the record's sides is longer
pub side_short : (p : ℕ) (l : List ℕ) → T (sides_fit p 1 l) → (k : ℕ) → k < 4 → length (side p l k) ≤ p
side_short p l t k h = side_within p l k (side_few p 0 l t k h)

-- ---- whole records
module _ (p : ℕ) (l : List ℕ) (t : T (records_whole p l)) where
  pub whole_few : region_count p l ≤ max_regions
  unfolding records_whole
  whole_few = leb→le (region_count p l) max_regions (and_l (leb (region_count p l) max_regions) _ (and_r (eqb (length l % record_size p) 0) _ t))

  pub whole_sides : T (sides_fit p (region_count p l) l)
  unfolding records_whole
  whole_sides = and_r (leb (region_count p l) max_regions) _ (and_r (eqb (length l % record_size p) 0) _ t)

-- what test 1 lets by
pub limits_passed : (p n : ℕ) (l : List ℕ) → is_passed (limits_test p n l) ≡ true → (n ≤ max_edges) × T (records_whole p l)
unfolding limits_test
limits_passed p n l e =
    let few = leb n max_edges in
    let t = true_T _ (not-false (few && records_whole p l) (lets_by (not (few && records_whole p l)) 0 0 0 e)) in
    (leb→le n max_edges (and_l few (records_whole p l) t), and_r few (records_whole p l) t)

-- what is left of a list from an index on
pub rest : {A : Type 0} (at : ℕ) (l : List A) → take (length l - at) (drop at l) ≡ drop at l
rest at l = take_all (length l - at) (drop at l) (let e = length-drop at l in omega arith)

-- record r behind the first
pub from_next : (p r : ℕ) (l : List ℕ) → from_region p (drop (record_size p) l) r ≡ from_region p l (suc r)
from_next p r l =
    let q = suc-mul r (record_size p) in
    let e : record_size p + r * record_size p ≡ suc r * record_size p = omega (arith, q) in
    rw (drop-drop, e)

-- a turn of a loop over m records, at record r
module _ (p m r : ℕ) (l : List ℕ) (h : r < m) where
  pub count_down : m - r ≡ suc (m - (r + 1))
  count_down = omega arith

  pub next_record : drop (record_size p) (from_region p l r) ≡ from_region p l (r + 1)
  next_record = rw (drop-drop, add-one, suc-mul r)

  pub sides_now : T (sides_fit p (m - r) (from_region p l r)) → T (sides_fit p 1 (from_region p l r))
  sides_now t = sides_first p (m - (r + 1)) (from_region p l r) (rw count_down at t)

  pub sides_after : T (sides_fit p (m - r) (from_region p l r)) → T (sides_fit p (m - (r + 1)) (from_region p l (r + 1)))
  sides_after t = rw next_record at (sides_rest p (m - (r + 1)) (from_region p l r) (rw count_down at t))

  pub pairs_turn : (n : ℕ)
      → pairs_test p n r (m - r) (from_region p l r)
      ≡ then_test (region_test p n r (from_region p l r)) (pairs_test p n (r + 1) (m - (r + 1)) (from_region p l (r + 1)))
  unfolding pairs_test
  pairs_turn n = rw (count_down, next_record, add-one)

pub pairs_end : (p n m r : ℕ) (l : List ℕ) → m ≤ r → pairs_test p n r (m - r) l ≡ passed
unfolding pairs_test
pairs_end p n m r l h = let e : m - r ≡ 0 = omega arith in rw e

-- a pair's tests as one chain
pub pair_chain : (n r j k : ℕ) (a b : List ℕ)
    → pair_test n r j k a b ≡ then_test (side_test n r j [] a) (then_test (side_test n r k [] b) (refuse_if (shared_edge a b) (refused 5 r j)))
unfolding pair_test
pair_chain n r j k a b = then_test_assoc (side_test n r j [] a) (side_test n r k [] b) (refuse_if (shared_edge a b) (refused 5 r j))

-- ---- the limits known, the pairs are left
pub limits_known : (p n : ℕ) (l : List ℕ) → is_passed (limits_test p n l) ≡ true → records_test p n l ≡ pairs_test p n 0 (region_count p l) l
unfolding records_test
limits_known p n l e = rw e
