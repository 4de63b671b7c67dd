-- `regions::accept::check_limits` meets its contract: what the four conditions say is what the definition's four tests say. Assumes nothing.
use Rattle.std.proofs.Common.{◌/◌, ◌%◌, length}
use borrow.Author.Tests.{le-leb, lt-leb, eq-eqb, ne_eqb}
use Rattle.base.specs.Refusal.{verdict_of}
use Rattle.regions.specs.Accept.{records_whole, limits_test, max_regions, max_edges}
use Rattle.regions.specs.Region.{places, record_size}
use Rattle.regions.proofs.accept.check_limits.Goals as goal
use Rattle.regions.proofs.accept.check_limits.Goals.{
  then-n-gt-MAX_EDGES-via-then-n-gt-MAX_EDGES as edges,
  then-n-gt-MAX_EDGES-via-else-n-gt-MAX_EDGES+then-regions-ne0 as whole,
  then-n-gt-MAX_EDGES-via-else-n-gt-MAX_EDGES+else-regions-ne0+then-regions-gt-MAX_REGIONS as number,
  then-n-gt-MAX_EDGES-via-else-n-gt-MAX_EDGES+else-regions-ne0+else-regions-gt-MAX_REGIONS+then-not-sides_fit as sides,
}

pub returns-then-n-gt-MAX_EDGES : goal.returns-then-n-gt-MAX_EDGES
unfolding verdict_of limits_test records_whole
returns-then-n-gt-MAX_EDGES c =
    let l = c.args.regions.now in
    let n = c.args.n in
    elim c.then-n-gt-MAX_EDGES.branch [
      | edges w ↦ simp (lt-leb n max_edges w.if-n-gt-MAX_EDGES.true)
      | whole w ↦ simp (le-leb n max_edges w.if-n-gt-MAX_EDGES.false, ne_eqb (length l % record_size places) 0 w.if-regions-ne0.true)
      | number w ↦
          simp (
            le-leb n max_edges w.if-n-gt-MAX_EDGES.false,
            eq-eqb (length l % record_size places) 0 w.if-regions-ne0.false,
            lt-leb (length l / record_size places) max_regions w.if-regions-gt-MAX_REGIONS.true,
          )
      | sides w ↦
          simp (
            le-leb n max_edges w.if-n-gt-MAX_EDGES.false,
            eq-eqb (length l % record_size places) 0 w.if-regions-ne0.false,
            le-leb (length l / record_size places) max_regions w.if-regions-gt-MAX_REGIONS.false,
            ← w.sides_fit.ensures,
            w.if-not-sides_fit.true,
          )
    ]

pub returns : goal.returns
unfolding limits_test records_whole
returns c =
    let l = c.args.regions.now in
    let n = c.args.n in
    simp (
      le-leb n max_edges c.if-n-gt-MAX_EDGES.false,
      eq-eqb (length l % record_size places) 0 c.if-regions-ne0.false,
      le-leb (length l / record_size places) max_regions c.if-regions-gt-MAX_REGIONS.false,
      ← c.sides_fit.ensures,
      c.if-not-sides_fit.false,
    )
