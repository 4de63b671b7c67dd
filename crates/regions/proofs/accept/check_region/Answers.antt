-- `regions::accept::check_region` meets its contract. A chain of two tests, on the sides that `side` lends. Assumes nothing.
use Rattle.std.proofs.Common.{◌≡◌, ◌∙◌}
use Rattle.base.specs.Refusal.{passed, verdict_of}
use Rattle.base.proofs.TestLaws.{exit_stops, chain_goes_on}
use Rattle.regions.specs.Region.{places, side}
use Rattle.regions.specs.Accept.{pair_test}
use Rattle.regions.proofs.accept.check_region.Goals as goal

pub returns-in_err-check_pair : goal.returns-in_err-check_pair
returns-in_err-check_pair c =
    let a = c.args in
    let l = a.records.now in
    let p : verdict_of c.in_err-check_pair.field-0.0 ≡ pair_test a.n a.region 0 2 (side places l 0) (side places l 2) =
    simp (c.side.ensures, c.side-2.ensures) at c.in_err-check_pair.ensures in
    exit_stops _ _ _ c.from_residual.ensures.1 p

pub returns : goal.returns
returns c =
    let a = c.args in
    let l = a.records.now in
    let p : passed ≡ pair_test a.n a.region 0 2 (side places l 0) (side places l 2) =
    simp (c.side.ensures, c.side-2.ensures) at c.in_ok-check_pair.ensures in
    (simp (c.side-3.ensures, c.side-4.ensures) at c.check_pair-2.ensures) ∙ chain_goes_on p
