-- 01, "Turned-away input": the tests of regions, 1 and 3 to 6, in their order. A side has p places. Assumes nothing.
use Rattle.std.specs.Prelude.{Bool, true, not, ◌&&◌, cond, List, [], ◌∷◌, ℕ, zero, suc, ◌*◌, ◌%◌, length, get_or, drop, leb, ltb, eqb}
use Rattle.base.specs.Lists.{member, any}
use Rattle.base.specs.declared.verdict.Verdict.{Verdict}
use Rattle.base.specs.Refusal.{passed, refused, then_test, refuse_if, is_passed}
use Rattle.regions.specs.Region.{Constraint, side_size, record_size, region_count, side, graph, incidence}

-- ---- 1: "a limit above exceeded, or a broken record or list"

-- "At most 128 regions, 256 edges"
abbrev pub max_regions : ℕ
max_regions = 128

abbrev pub max_edges : ℕ
max_edges = 256

-- "A number above" that of the places "(..) is broken": of the first m records none
unfoldable pub sides_fit : ℕ → ℕ → List ℕ → Bool
sides_fit p zero regions = true
sides_fit p (suc m) regions =
    leb (get_or regions 0 0) p
    && (leb (get_or regions (1 * side_size p) 0) p
    && (leb (get_or regions (2 * side_size p) 0) p
    && (leb (get_or regions (3 * side_size p) 0) p && sides_fit p m (drop (record_size p) regions))))

-- "or a list that is not whole records"
unfoldable pub records_whole : ℕ → List ℕ → Bool
unfolding sides_fit
records_whole p regions =
    eqb (length regions % record_size p) 0
    && (leb (region_count p regions) max_regions && sides_fit p (region_count p regions) regions)

-- for lists of n entries, one for each edge
unfoldable pub limits_test : ℕ → ℕ → List ℕ → Verdict
unfolding records_whole
limits_test p n regions = refuse_if (not (leb n max_edges && records_whole p regions)) (refused 1 0 0)

-- ---- 3 to 6: "then by region and pair: each side's edges (3, 4), 5; then 6"

-- 3 and 4 along side k of region r, `seen` being the edges before
unfoldable pub side_test : ℕ → ℕ → ℕ → List ℕ → List ℕ → Verdict
side_test n r k seen [] = passed
side_test n r k seen (e ∷ es) = cond (ltb e n) (cond (member e seen) (refused 4 r k) (side_test n r k (e ∷ seen) es)) (refused 3 r k)

-- 5: "edge on both sides of a constraint"
abbrev pub shared_edge : List ℕ → List ℕ → Bool
shared_edge a b = any (λ (e : ℕ). member e b) a

unfoldable pub pair_test : ℕ → ℕ → ℕ → ℕ → List ℕ → List ℕ → Verdict
unfolding side_test
pair_test n r j k a b =
    then_test (then_test (side_test n r j [] a) (side_test n r k [] b)) (refuse_if (shared_edge a b) (refused 5 r j))

-- region r, whose record stands first: both pairs of sides
abbrev pub region_test : ℕ → ℕ → ℕ → List ℕ → Verdict
region_test p n r regions =
    then_test (pair_test n r 0 2 (side p regions 0) (side p regions 2)) (pair_test n r 1 3 (side p regions 1) (side p regions 3))

-- m records, of which the first is region r
unfoldable pub pairs_test : ℕ → ℕ → ℕ → ℕ → List ℕ → Verdict
unfolding pair_test
pairs_test p n r zero regions = passed
pairs_test p n r (suc m) regions = then_test (region_test p n r regions) (pairs_test p n (suc r) m (drop (record_size p) regions))

-- "1, .. then by region and pair": what is tested of the records before 6, with no test of other lists between
unfoldable pub records_test : ℕ → ℕ → List ℕ → Verdict
unfolding limits_test pairs_test
records_test p n regions = then_test (limits_test p n regions) (pairs_test p n 0 (region_count p regions) regions)

-- 6: "edge in over two constraints (lowest)", of m edges from e on
unfoldable pub overused_test : List Constraint → ℕ → ℕ → Verdict
overused_test g e zero = passed
overused_test g e (suc m) =
    then_test (refuse_if (ltb 2 (length (incidence g e))) (refused 6 e 0)) (overused_test g (suc e) m)

unfoldable pub regions_test : ℕ → ℕ → List ℕ → Verdict
unfolding pairs_test overused_test
regions_test p n regions = then_test (pairs_test p n 0 (region_count p regions) regions) (overused_test (graph p regions) 0 n)

-- "Regions are accepted, for as many edges as there are counts, if 1 and 3 to 6 find nothing in them with that many ideals"
unfoldable pub accepted : ℕ → ℕ → List ℕ → Bool
unfolding limits_test regions_test
accepted p n regions = is_passed (then_test (limits_test p n regions) (regions_test p n regions))
