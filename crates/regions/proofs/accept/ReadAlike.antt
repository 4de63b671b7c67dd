-- "places past that number are never read": lists of records that read alike (specs/Turned) have the same constraints, and the tests of regions say the
-- same of both, number and places. Assumes nothing.
use mathlib.Core.Path.{◌≡◌, refl}
use mathlib.Core.List.{List}
use Prim.Native.Nat.{ℕ, zero, suc, ◌<◌}
use native.Mathlib.Nat.{zero-mul}
use native.Mathlib.Omega.{arith}
use lib.ListN.{drop}
use Rattle.regions.specs.Region.{record_size, region_count, from_region, side, constraints, graph}
use Rattle.regions.specs.Accept.{sides_fit, records_whole, limits_test, pairs_test, regions_test}
use Rattle.regions.specs.Turned.{number_on, ReadAlike}
use Rattle.regions.proofs.accept.Laws.{from_next}

pub read_itself : (p : ℕ) (l : List ℕ) → ReadAlike p l l
read_itself p l = record { as_long = refl; numbers = λ r k b h. refl; edges = λ r k b h. refl }

-- in each of the first m records
record FirstAlike (p m : ℕ) (l l' : List ℕ) : Type 0 where
  numbers : (r k : ℕ) → r < m → k < 4 → number_on p (from_region p l r) k ≡ number_on p (from_region p l' r) k
  edges : (r k : ℕ) → r < m → k < 4 → side p (from_region p l r) k ≡ side p (from_region p l' r) k

module _ {p m : ℕ} {l l' : List ℕ} (same : FirstAlike p (suc m) l l') where
  number_now : (k : ℕ) → k < 4 → number_on p l k ≡ number_on p l' k
  number_now k h = rw zero-mul at (same.numbers 0 k (omega arith) h)

  side_now : (k : ℕ) → k < 4 → side p l k ≡ side p l' k
  side_now k h = rw zero-mul at (same.edges 0 k (omega arith) h)

  alike_behind : FirstAlike p m (drop (record_size p) l) (drop (record_size p) l')
  alike_behind =
      record {
        numbers = λ r k b h. rw (from_next, from_next) (same.numbers (suc r) k (omega arith) h);
        edges = λ r k b h. rw (from_next, from_next) (same.edges (suc r) k (omega arith) h);
      }

fits_alike : (p m : ℕ) (l l' : List ℕ) → FirstAlike p m l l' → sides_fit p m l ≡ sides_fit p m l'
unfolding sides_fit
fits_alike p zero l l' same = refl
fits_alike p (suc m) l l' same =
    rw (
      rw zero-mul at (number_now same 0 (omega arith)),
      number_now same 1 (omega arith),
      number_now same 2 (omega arith),
      number_now same 3 (omega arith),
      fits_alike p m (drop (record_size p) l) (drop (record_size p) l') (alike_behind same),
    )

constraints_alike : (p m : ℕ) (l l' : List ℕ) → FirstAlike p m l l' → constraints p m l ≡ constraints p m l'
unfolding constraints
constraints_alike p zero l l' same = refl
constraints_alike p (suc m) l l' same =
    rw (
      side_now same 0 (omega arith),
      side_now same 1 (omega arith),
      side_now same 2 (omega arith),
      side_now same 3 (omega arith),
      constraints_alike p m (drop (record_size p) l) (drop (record_size p) l') (alike_behind same),
    )

pairs_alike : (p n r m : ℕ) (l l' : List ℕ) → FirstAlike p m l l' → pairs_test p n r m l ≡ pairs_test p n r m l'
unfolding pairs_test
pairs_alike p n r zero l l' same = refl
pairs_alike p n r (suc m) l l' same =
    rw (
      side_now same 0 (omega arith),
      side_now same 1 (omega arith),
      side_now same 2 (omega arith),
      side_now same 3 (omega arith),
      pairs_alike p n (suc r) m (drop (record_size p) l) (drop (record_size p) l') (alike_behind same),
    )

module _ {p : ℕ} {regions regions' : List ℕ} (same : ReadAlike p regions regions') where
  first_alike : FirstAlike p (region_count p regions) regions regions'
  first_alike = record { numbers = same.numbers; edges = same.edges }

  as_many : region_count p regions ≡ region_count p regions'
  as_many = rw same.as_long

  pub graph_alike : graph p regions ≡ graph p regions'
  graph_alike = rw (← as_many) (constraints_alike p (region_count p regions) regions regions' first_alike)

  pub limits_alike : (n : ℕ) → limits_test p n regions ≡ limits_test p n regions'
  unfolding limits_test records_whole
  limits_alike n = rw (fits_alike p (region_count p regions) regions regions' first_alike, same.as_long)

  pub regions_test_alike : (n : ℕ) → regions_test p n regions ≡ regions_test p n regions'
  unfolding regions_test
  regions_test_alike n = rw (graph_alike, pairs_alike p n 0 (region_count p regions) regions regions' first_alike, as_many)
