-- `regions::accept::check_pairs` meets its contract, record after record. Assumes nothing.
use Rattle.std.proofs.Common.{◌≡◌, ◌∙◌, sym, ap, subst, ℕ, ◌-◌, ◌*◌, ◌/◌, length, drop, length-drop, arith}
use lib.Dec.{T}
use Rattle.base.specs.Refusal.{passed, verdict_of}
use Rattle.regions.specs.Region.{places, record_size}
use Rattle.regions.specs.Accept.{sides_fit, region_test, pairs_test}
use Rattle.regions.proofs.accept.Laws.{whole_few, whole_sides, rest, sides_now, sides_after, pairs_turn, pairs_end}
use Rattle.base.proofs.TestLaws.{exit_stops, chain_goes_on}
use Rattle.regions.proofs.accept.check_pairs.Goals as goal

pub loop-r-init : goal.loop-r-init
loop-r-init c =
    let l = c.args.regions.now in
    let m : ℕ = length l / record_size places in
    let e : m ≡ m - 0 = omega arith in
    record { fit = subst (λ (k : ℕ). T (sides_fit places k l)) e (whole_sides places l c.requires); whole = ap (λ (k : ℕ). pairs_test places c.args.n 0 k l) e }

pub overflow_cast-r : goal.overflow_cast-r
overflow_cast-r c = omega (arith, whole_few places _ c.requires)

pub check_region-requires : goal.check_region-requires
check_region-requires c =
    let l = c.args.regions.now in
    let m : ℕ = length l / record_size places in
    let r = c.loop-r.r in
    simp (rest (r * record_size places) l) (record {
      places_in_bounds = simp length-drop (omega arith);
      sides_fit = sides_now places m r l c.loop-r-test.true c.loop-r.invariant.fit;
    })

pub returns-in_err-check_region : goal.returns-in_err-check_region
returns-in_err-check_region c =
    let a = c.args in
    let l = a.regions.now in
    let m : ℕ = length l / record_size places in
    let r = c.loop-r.r in
    let p : verdict_of c.in_err-check_region.field-0.0 ≡ region_test places a.n r (drop (r * record_size places) l) =
    simp (rest (r * record_size places) l) at c.in_err-check_region.ensures in
    exit_stops _ _ _ c.from_residual.ensures.1 p ∙ sym (c.loop-r.invariant.whole ∙ pairs_turn places m r l c.loop-r-test.true a.n)

pub loop-r-preserved : goal.loop-r-preserved
loop-r-preserved c =
    let a = c.args in
    let l = a.regions.now in
    let m : ℕ = length l / record_size places in
    let r = c.loop-r.r in
    let p : passed ≡ region_test places a.n r (drop (r * record_size places) l) =
    simp (rest (r * record_size places) l) at c.in_ok-check_region.ensures in
    record {
      fit = sides_after places m r l c.loop-r-test.true c.loop-r.invariant.fit;
      whole = c.loop-r.invariant.whole ∙ pairs_turn places m r l c.loop-r-test.true a.n ∙ sym (chain_goes_on p);
    }

pub returns : goal.returns
returns c =
    let a = c.args in
    let l = a.regions.now in
    let m : ℕ = length l / record_size places in
    let r = c.loop-r.r in
    sym (c.loop-r.invariant.whole ∙ pairs_end places a.n m r (drop (r * record_size places) l) c.loop-r-test.false)
