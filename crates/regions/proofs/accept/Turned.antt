-- Opposite sides exchanged (specs/Turned), through the tests of regions. The list is as long as it was, and 1 says the same of it. 3 to 5 pass in
-- both lists or in neither: an edge out of range or repeated on a side is so on whichever side it stands, and 5 takes two sides as they come. The
-- constraints are those of before, some with their sides exchanged (`graph_turned`), so that every edge is in the same ones, and 6 says the same.
-- Assumes nothing.
use mathlib.Core.Path.{◌≡◌, refl, sym, ap, ◌∙◌}
use mathlib.Core.Bool.{Bool, true, false, ◌&&◌, cond, and_comm}
use mathlib.Core.List.{List, [], ◌∷◌, ◌++◌, append_assoc, append-nil}
use Prim.Native.Nat.{ℕ, zero, suc, ◌*◌, ◌≤◌, ◌<◌}
use native.Mathlib.Nat.{zero-mul, suc-mul, div-mul-le_self}
use native.Mathlib.Omega.{arith}
use lib.ListN.{length, drop, length-append, length-drop}
use lib.Dec.{T, leb, ltb}
use Rattle.base.specs.Lists.{member}
use Rattle.base.specs.Refusal.{is_passed, then_test, refuse_if, refused}
use Rattle.regions.specs.Region.{Constraint, places, side_size, record_size, region_count, side, constraints, graph}
use Rattle.regions.specs.Accept.{sides_fit, records_whole, limits_test, side_test, shared_edge, pair_test, pairs_test, overused_test}
use Rattle.regions.specs.Accept.{regions_test, accepted}
use Rattle.regions.specs.Turned.{Turn, written, turned, number_on, ReadAlike, SameFault, same}
use Rattle.regions.specs.Written.{side_record, region, alone}
use Rattle.base.proofs.BoolLaws.{by_truth, T_true, same_truth}
use Rattle.base.proofs.TestLaws.{then_left, then_right, then_is, then_test_assoc}
use Rattle.base.proofs.ListLaws.{any_in, in_any, member→in, in→member}
use Rattle.regions.proofs.accept.Laws.{sides_rest, side_few, whole_sides, limits_passed}
use Rattle.regions.proofs.accept.Sides.{row, in_sides, InRow, in_row, number_written, edges_written, written_full, side_record_full}
use Rattle.regions.proofs.accept.Faults.{pair_fault, same_passes, same_then, same_before}
use Rattle.regions.proofs.accept.ReadAlike.{limits_alike, graph_alike, regions_test_alike}
use Rattle.regions.proofs.region.Exchanged.{each_exchanged, incidence_exchanged}

-- ---- a list with sides exchanged

-- the first record, its sides as they are written now, and what comes behind it
module _ (p : ℕ) (turn : Turn) (turns : List Turn) (l : List ℕ) where
  abbrev bottom : List ℕ
  bottom = cond turn.bottom_top (written p l 2) (written p l 0)

  abbrev right : List ℕ
  right = cond turn.right_left (written p l 3) (written p l 1)

  abbrev top : List ℕ
  top = cond turn.bottom_top (written p l 0) (written p l 2)

  abbrev left : List ℕ
  left = cond turn.right_left (written p l 1) (written p l 3)

  abbrev behind : List ℕ
  behind = turned p turns (drop (record_size p) l)

  turned_is : turned p (turn ∷ turns) l ≡ row bottom right top left behind
  turned_is = simp append_assoc

length_turned : (p : ℕ) (turns : List Turn) (l : List ℕ) → length (turned p turns l) ≡ length l
length_turned p [] l = refl
length_turned p (turn ∷ turns) l =
    let ih = length_turned p turns (drop (record_size p) l) in
    let n = simp length-append at (ap length (in_sides p l)) in
    simp length-append
    (by_truth turn.bottom_top
    (λ t. rw t (by_truth turn.right_left (λ u. rw u (omega (arith, n, ih))) (λ u. rw u (omega (arith, n, ih)))))
    (λ t. rw t (by_truth turn.right_left (λ u. rw u (omega (arith, n, ih))) (λ u. rw u (omega (arith, n, ih))))))

-- ---- number and edges of a side that is exchanged

-- a side written as side i, or as side j where they are exchanged
module _ (p : ℕ) (l l' : List ℕ) (x : Bool) (k i j : ℕ) (e : written p l' k ≡ cond x (written p l j) (written p l i)) where
  number_exchanged : number_on p l' k ≡ cond x (number_on p l j) (number_on p l i)
  number_exchanged =
      sym (number_written p l' k) ∙ rw e (by_truth x (λ t. rw t (number_written p l j)) (λ t. rw t (number_written p l i)))

  side_exchanged : number_on p l i ≤ p → number_on p l j ≤ p → side p l' k ≡ cond x (side p l j) (side p l i)
  side_exchanged fi fj =
      sym (edges_written p l' k (rw number_exchanged (by_truth x (λ t. rw t fj) (λ t. rw t fi))))
      ∙ rw (number_exchanged, e) (by_truth x (λ t. rw t (edges_written p l j fj)) (λ t. rw t (edges_written p l i fi)))

-- ---- what 3 to 5 say of a pair of sides

-- whether a side passes does not hang on where it stands
side_anywhere : (n r k k' : ℕ) (seen l : List ℕ) → is_passed (side_test n r k seen l) ≡ is_passed (side_test n r k' seen l)
unfolding side_test
side_anywhere n r k k' seen [] = refl
side_anywhere n r k k' seen (e ∷ l) =
    by_truth (ltb e n) (λ t. rw t (by_truth (member e seen) (λ u. rw u) (λ u. rw u (side_anywhere n r k k' (e ∷ seen) l)))) (λ t. rw t)

shared→ : (a b : List ℕ) → T (shared_edge a b) → T (shared_edge b a)
shared→ a b t =
    let e = any_in (λ (e : ℕ). member e b) a t in
    in_any (λ (e : ℕ). member e a) b e.0 (member→in e.0 b e.2) (in→member e.0 a e.1)

shared_both : (a b : List ℕ) → shared_edge a b ≡ shared_edge b a
shared_both a b = same_truth (shared_edge a b) (shared_edge b a) (shared→ a b) (shared→ b a)

pair_exchanged : (n r j k : ℕ) (x : Bool) (a b : List ℕ) → is_passed (pair_test n r j k (cond x b a) (cond x a b)) ≡ is_passed (pair_test n r j k a b)
unfolding pair_test
pair_exchanged n r j k false a b = refl
pair_exchanged n r j k true a b =
    rw (then_is, then_is, then_is, then_is, shared_both b a, side_anywhere n r j k [] b, side_anywhere n r k j [] a)
    (ap (λ (q : Bool). q && is_passed (refuse_if (shared_edge a b) (refused 5 r j))) (and_comm (is_passed (side_test n r k [] b)) (is_passed (side_test n r j [] a))))

-- ---- one region: l' starts with the record that l starts with, sides exchanged

record TurnedFirst (p : ℕ) (turn : Turn) (l l' rest : List ℕ) : Type 0 where
  now : InRow p l' (cond turn.bottom_top (written p l 2) (written p l 0)) (cond turn.right_left (written p l 3) (written p l 1))
      (cond turn.bottom_top (written p l 0) (written p l 2)) (cond turn.right_left (written p l 1) (written p l 3)) rest

turned_first : (p : ℕ) (turn : Turn) (turns : List Turn) (l : List ℕ) → record_size p ≤ length l
    → TurnedFirst p turn l (turned p (turn ∷ turns) l) (turned p turns (drop (record_size p) l))
turned_first p turn turns l whole =
    rw (turned_is p turn turns l) (record {
      now = in_row p (bottom p turn turns l) (right p turn turns l) (top p turn turns l) (left p turn turns l) (behind p turn turns l)
          (either turn.bottom_top 0 2 (omega arith) (omega arith)) (either turn.right_left 1 3 (omega arith) (omega arith))
          (either turn.bottom_top 2 0 (omega arith) (omega arith)) (either turn.right_left 3 1 (omega arith) (omega arith));
    })
  where
    either : (x : Bool) (i j : ℕ) → i < 4 → j < 4 → length (cond x (written p l j) (written p l i)) ≡ side_size p
    either x i j hi hj = by_truth x (λ t. rw t (written_full p l whole j hj)) (λ t. rw t (written_full p l whole i hi))

-- of three tests the first and the third change places
outer_first : (a b c d : Bool) → a && (b && (c && d)) ≡ c && (b && (a && d))
outer_first true b true d = refl
outer_first true true false d = refl
outer_first true false false d = refl
outer_first false true true d = refl
outer_first false false true d = refl
outer_first false b false d = refl

four_exchanged : (f : ℕ → Bool) (x y : Bool) (a b c d : ℕ) (e : Bool)
    → f (cond x c a) && (f (cond y d b) && (f (cond x a c) && (f (cond y b d) && e))) ≡ f a && (f b && (f c && (f d && e)))
four_exchanged f false false a b c d e = refl
four_exchanged f false true a b c d e = ap (λ (q : Bool). f a && q) (outer_first (f d) (f c) (f b) e)
four_exchanged f true false a b c d e = outer_first (f c) (f b) (f a) (f d && e)
four_exchanged f true true a b c d e = outer_first (f c) (f d) (f a) (f b && e) ∙ ap (λ (q : Bool). f a && q) (outer_first (f d) (f c) (f b) e)

module _ {p : ℕ} {turn : Turn} {l l' rest : List ℕ} (first : TurnedFirst p turn l l' rest) where
  -- all its numbers fit or not
  fits_first : (m : ℕ) → sides_fit p m rest ≡ sides_fit p m (drop (record_size p) l) → sides_fit p (suc m) l' ≡ sides_fit p (suc m) l
  unfolding sides_fit
  fits_first m ih =
      rw (
        rw zero-mul at (number_exchanged p l l' turn.bottom_top 0 0 2 first.now.side_0),
        number_exchanged p l l' turn.right_left 1 1 3 first.now.side_1,
        rw zero-mul at (number_exchanged p l l' turn.bottom_top 2 2 0 first.now.side_2),
        number_exchanged p l l' turn.right_left 3 3 1 first.now.side_3,
        first.now.others,
        ih,
      )
      (rw zero-mul at (four_exchanged (λ (n : ℕ). leb n p) turn.bottom_top turn.right_left (number_on p l 0) (number_on p l 1) (number_on p l 2) (number_on p l 3)
      (sides_fit p m (drop (record_size p) l))))

  -- no side has more edges than places
  module _ (few : (k : ℕ) → k < 4 → number_on p l k ≤ p) where
    new_0 : side p l' 0 ≡ cond turn.bottom_top (side p l 2) (side p l 0)
    new_0 = side_exchanged p l l' turn.bottom_top 0 0 2 first.now.side_0 (few 0 (omega arith)) (few 2 (omega arith))

    new_1 : side p l' 1 ≡ cond turn.right_left (side p l 3) (side p l 1)
    new_1 = side_exchanged p l l' turn.right_left 1 1 3 first.now.side_1 (few 1 (omega arith)) (few 3 (omega arith))

    new_2 : side p l' 2 ≡ cond turn.bottom_top (side p l 0) (side p l 2)
    new_2 = side_exchanged p l l' turn.bottom_top 2 2 0 first.now.side_2 (few 2 (omega arith)) (few 0 (omega arith))

    new_3 : side p l' 3 ≡ cond turn.right_left (side p l 1) (side p l 3)
    new_3 = side_exchanged p l l' turn.right_left 3 3 1 first.now.side_3 (few 3 (omega arith)) (few 1 (omega arith))

    -- 3 to 5 refuse something of the same pair, or nothing
    pairs_first : (n r m : ℕ) → SameFault (pairs_test p n (suc r) m rest) (pairs_test p n (suc r) m (drop (record_size p) l))
        → SameFault (pairs_test p n r (suc m) l') (pairs_test p n r (suc m) l)
    unfolding pairs_test
    pairs_first n r m ih =
        let x = turn.bottom_top in
        let y = turn.right_left in
        let level = pair_test n r 0 2 (side p l 0) (side p l 2) in
        let upright = pair_test n r 1 3 (side p l 1) (side p l 3) in
        let level' = pair_test n r 0 2 (cond x (side p l 2) (side p l 0)) (cond x (side p l 0) (side p l 2)) in
        let upright' = pair_test n r 1 3 (cond y (side p l 3) (side p l 1)) (cond y (side p l 1) (side p l 3)) in
        let others = pairs_test p n (suc r) m (drop (record_size p) l) in
        let others' = pairs_test p n (suc r) m rest in
        rw (new_0, new_1, new_2, new_3, first.now.others, then_test_assoc level' upright' others', then_test_assoc level upright others)
        (same_then r 0 level level' (then_test upright others) (then_test upright' others') (pair_exchanged n r 0 2 x (side p l 0) (side p l 2))
        (pair_fault n r 0 2 (side p l 0) (side p l 2) refl) (pair_fault n r 0 2 (cond x (side p l 2) (side p l 0)) (cond x (side p l 0) (side p l 2)) refl)
        (same_then r 1 upright upright' others others' (pair_exchanged n r 1 3 y (side p l 1) (side p l 3))
        (pair_fault n r 1 3 (side p l 1) (side p l 3) refl) (pair_fault n r 1 3 (cond y (side p l 3) (side p l 1)) (cond y (side p l 1) (side p l 3)) refl) ih))

    constraints_first : (m : ℕ) (xs : List Bool) → constraints p m rest ≡ each_exchanged xs (constraints p m (drop (record_size p) l))
        → constraints p (suc m) l' ≡ each_exchanged (turn.bottom_top ∷ turn.right_left ∷ xs) (constraints p (suc m) l)
    unfolding constraints
    constraints_first m xs ih = rw (new_0, new_1, new_2, new_3, first.now.others, ih)

-- ---- 1

-- m records behind the first
one_less : (p m : ℕ) (l : List ℕ) → suc m * record_size p ≤ length l → (record_size p ≤ length l) × (m * record_size p ≤ length (drop (record_size p) l))
one_less p m l h = let e = suc-mul m (record_size p) in (omega (arith, e, h), rw length-drop (omega (arith, e, h)))

fits_turned : (p m : ℕ) (turns : List Turn) (l : List ℕ) → m * record_size p ≤ length l → sides_fit p m (turned p turns l) ≡ sides_fit p m l
unfolding sides_fit
fits_turned p zero turns l h = refl
fits_turned p (suc m) [] l h = refl
fits_turned p (suc m) (turn ∷ turns) l h =
    let o = one_less p m l h in
    fits_first (turned_first p turn turns l o.0) m (fits_turned p m turns (drop (record_size p) l) o.1)

pub limits_turned : (p n : ℕ) (turns : List Turn) (l : List ℕ) → limits_test p n (turned p turns l) ≡ limits_test p n l
unfolding limits_test records_whole
limits_turned p n turns l = rw (length_turned p turns l, fits_turned p (region_count p l) turns l (div-mul-le_self (length l) (record_size p)))

-- ---- 3 to 5

pairs_turned : (p n r m : ℕ) (turns : List Turn) (l : List ℕ) → m * record_size p ≤ length l → T (sides_fit p m l)
    → SameFault (pairs_test p n r m (turned p turns l)) (pairs_test p n r m l)
unfolding pairs_test
pairs_turned p n r zero turns l h t = same refl
pairs_turned p n r (suc m) [] l h t = same refl
pairs_turned p n r (suc m) (turn ∷ turns) l h t =
    let o = one_less p m l h in
    pairs_first (turned_first p turn turns l o.0) (side_few p m l t) n r m
    (pairs_turned p n (suc r) m turns (drop (record_size p) l) o.1 (sides_rest p m l t))

-- ---- the constraints, and 6

-- the choices of a list of turns, constraint by constraint
abbrev pub choices : List Turn → List Bool
choices [] = []
choices (turn ∷ turns) = turn.bottom_top ∷ turn.right_left ∷ choices turns

constraints_turned : (p m : ℕ) (turns : List Turn) (l : List ℕ) → m * record_size p ≤ length l → T (sides_fit p m l)
    → constraints p m (turned p turns l) ≡ each_exchanged (choices turns) (constraints p m l)
unfolding constraints
constraints_turned p zero [] l h t = refl
constraints_turned p zero (turn ∷ turns) l h t = refl
constraints_turned p (suc m) [] l h t = refl
constraints_turned p (suc m) (turn ∷ turns) l h t =
    let o = one_less p m l h in
    constraints_first (turned_first p turn turns l o.0) (side_few p m l t) m (choices turns)
    (constraints_turned p m turns (drop (record_size p) l) o.1 (sides_rest p m l t))

overused_exchanged : (xs : List Bool) (g : List Constraint) (e m : ℕ) → overused_test (each_exchanged xs g) e m ≡ overused_test g e m
unfolding overused_test
overused_exchanged xs g e zero = refl
overused_exchanged xs g e (suc m) = rw (incidence_exchanged 0 xs g e, overused_exchanged xs g (suc e) m)

-- ---- whole records

module _ (p : ℕ) (turns : List Turn) (l : List ℕ) (whole : T (records_whole p l)) where
  pub graph_turned : graph p (turned p turns l) ≡ each_exchanged (choices turns) (graph p l)
  graph_turned =
      rw (length_turned p turns l)
      (constraints_turned p (region_count p l) turns l (div-mul-le_self (length l) (record_size p)) (whole_sides p l whole))

  -- 3 to 6
  pub regions_turned : (n : ℕ) → SameFault (regions_test p n (turned p turns l)) (regions_test p n l)
  unfolding regions_test
  regions_turned n =
      rw (graph_turned, overused_exchanged (choices turns) (graph p l) 0 n, length_turned p turns l)
      (same_before (pairs_test p n 0 (region_count p l) l) (pairs_test p n 0 (region_count p l) (turned p turns l)) (overused_test (graph p l) 0 n)
      (pairs_turned p n 0 (region_count p l) turns l (div-mul-le_self (length l) (record_size p)) (whole_sides p l whole)))

pub accepted_whole : (p n : ℕ) (l : List ℕ) → T (accepted p n l) → T (records_whole p l)
unfolding accepted
accepted_whole p n l t = (limits_passed p n l (T_true _ (then_left (limits_test p n l) (regions_test p n l) t))).1

pub accepted_regions : (p n : ℕ) (l : List ℕ) → T (accepted p n l) → T (is_passed (regions_test p n l))
unfolding accepted
accepted_regions p n l t = then_right (limits_test p n l) (regions_test p n l) t

-- ---- any list, read alike to the exchanged one

module _ (p : ℕ) (turns : List Turn) (l l' : List ℕ) (sheet : ReadAlike p (turned p turns l) l') where
  pub limits_same : (n : ℕ) → limits_test p n l' ≡ limits_test p n l
  limits_same n = sym (limits_alike sheet n) ∙ limits_turned p n turns l

  pub graph_same : T (records_whole p l) → graph p l' ≡ each_exchanged (choices turns) (graph p l)
  graph_same whole = sym (graph_alike sheet) ∙ graph_turned p turns l whole

  pub faults_same : (n : ℕ) → is_passed (limits_test p n l) ≡ true → SameFault (regions_test p n l') (regions_test p n l)
  faults_same n e = rw (← regions_test_alike sheet n) (regions_turned p turns l (limits_passed p n l e).1 n)

  pub tests_same : (n : ℕ) → is_passed (limits_test p n l) ≡ true → is_passed (regions_test p n l') ≡ is_passed (regions_test p n l)
  tests_same n e = same_passes (faults_same n e)

  pub accepted_same : (n : ℕ) → accepted p n l' ≡ accepted p n l
  unfolding accepted
  accepted_same n =
      rw (limits_same n, then_is (limits_test p n l) (regions_test p n l'), then_is (limits_test p n l) (regions_test p n l))
      (by_truth (is_passed (limits_test p n l)) (λ e. rw (e, tests_same n e)) (λ e. rw e))

-- ---- what the definitions say of a region written down

four_in_row : (a b c d : List ℕ) → a ++ b ++ c ++ d ≡ row a b c d []
four_in_row a b c d = simp (append_assoc, append-nil)

-- four sides as they are written
turned_row : (p : ℕ) (turn : Turn) (a b c d : List ℕ) → length a ≡ side_size p → length b ≡ side_size p → length c ≡ side_size p → length d ≡ side_size p
    → turned p (turn ∷ []) (a ++ b ++ c ++ d)
    ≡ cond turn.bottom_top c a ++ cond turn.right_left d b ++ cond turn.bottom_top a c ++ cond turn.right_left b d
turned_row p turn a b c d la lb lc ld =
    let r = in_row p a b c d [] la lb lc ld in
    ap (turned p (turn ∷ [])) (four_in_row a b c d)
    ∙ rw (r.side_0, r.side_1, r.side_2, r.side_3, r.others)
    (append-nil (cond turn.bottom_top c a ++ cond turn.right_left d b ++ cond turn.bottom_top a c ++ cond turn.right_left b d))

-- a region of any edges, as many as there are places for, has its sides exchanged
pub turned_written : (turn : Turn) (a b c d : List ℕ) → length a ≤ places → length b ≤ places → length c ≤ places → length d ≤ places
    → turned places (turn ∷ []) (region a b c d)
    ≡ region (cond turn.bottom_top c a) (cond turn.right_left d b) (cond turn.bottom_top a c) (cond turn.right_left b d)
turned_written turn a b c d fa fb fc fd =
    turned_row places turn (side_record a) (side_record b) (side_record c) (side_record d)
    (side_record_full a fa) (side_record_full b fb) (side_record_full c fc) (side_record_full d fd)
    ∙ by turn.bottom_top turn.right_left
  where
    by : (x y : Bool)
        → cond x (side_record c) (side_record a) ++ cond y (side_record d) (side_record b) ++ cond x (side_record a) (side_record c) ++ cond y (side_record b) (side_record d)
        ≡ region (cond x c a) (cond y d b) (cond x a c) (cond y b d)
    by true true = refl
    by true false = refl
    by false true = refl
    by false false = refl

-- of regions that are not accepted, number and places may differ: with edge 0 alone, edge 1 on the bottom is 3, edge 0 twice on the top is 4
abbrev pub twice_on_top : List ℕ
twice_on_top = region (alone 1) [] (0 ∷ 0 ∷ []) []

pub refusals_differ : (regions_test places 1 twice_on_top ≡ refused 3 0 0)
    × (regions_test places 1 (turned places (record { bottom_top = true; right_left = false } ∷ []) twice_on_top) ≡ refused 4 0 0)
unfolding regions_test
refusals_differ = (refl, refl)
