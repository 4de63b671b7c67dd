-- `lay::lay_side` meets its contract: a seam has one value more than its side adds up to, or two across an empty pair. Assumes nothing.
use Rattle.std.proofs.Common.{◌≡◌, ◌∙◌, sym, ap, subst, List, ℕ, suc, ◌≤◌, length, take, arith}
use lib.Dec.{T, ltb}
use lib.Ieee.{Float}
use Rattle.base.specs.Lists.{all}
use Rattle.base.specs.Buffers.{splice}
use Rattle.base.proofs.BufferLaws.{take_splice}
use Rattle.regions.specs.Region.{places, side, side_sum}
use Rattle.floats.specs.Scalar.{nought, one}
use Rattle.curves.specs.Seam.{side_seam}
use Rattle.curves.specs.Lay.{counts_along, seam_of}
use Rattle.curves.proofs.lay.Laws.{seam_by, two_written, length_seam, length_along, along_front, edges_known, breaks_known}
use Rattle.curves.proofs.lay.lay_side.Goals as goal
use Rattle.curves.proofs.lay.lay_side.Goals.{After-counts_along-total}

pub returns-then-empty_pair : goal.returns-then-empty_pair
returns-then-empty_pair c =
    let a = c.args in
    let e = seam_by a.region.now a.counts.now a.k a.breaks.now (sym c.empty_pair.ensures ∙ c.if-empty_pair.true) in
    record { long = sym (ap length e); written = λ h. two_written a.out.now nought one (omega (arith, c.requires.room)) ∙ sym e }

pub counts_along-total-requires : goal.counts_along-total-requires
counts_along-total-requires c =
    let a = c.args in
    let passed = c.requires.passed in
    let few : length c.side-edges.result.now ≤ places = subst (λ (l : List ℕ). length l ≤ places) (sym c.side-edges.ensures) passed.few in
    let known = edges_known a.region.now (length a.counts.now) a.k passed.edges_known in
    record {
      few = few;
      counted = subst (λ (l : List ℕ). T (all (λ (x : ℕ). ltb x (length a.counts.now)) l)) (sym c.side-edges.ensures) known;
      room = few;
    }

-- ---- once the counts are written, where the pair is not empty

-- the definition's seam
abbrev seam : After-counts_along-total → List Float
seam c = let a = c.args in seam_of a.region.now a.counts.now a.k a.breaks.now

total_is : (c : After-counts_along-total) → suc c.counts_along-total.result ≡ length (seam c)
total_is c =
    let a = c.args in
    ap suc (c.counts_along-total.ensures.sum ∙ ap (side_sum a.counts.now) c.side-edges.ensures)
    ∙ sym (length_seam a.region.now a.counts.now a.k a.breaks.now (sym c.empty_pair.ensures ∙ c.if-empty_pair.false))

-- the counts that are lent on, from the front of their buffer
abbrev counts_lent : After-counts_along-total → List ℕ
counts_lent c = take (length c.side-edges.result.now) c.counts_along-total.new.out

along : (c : After-counts_along-total) → let a = c.args in counts_lent c ≡ counts_along a.counts.now (side places a.region.now a.k)
along c = along_front c.counts_along-total.ensures ∙ ap (counts_along c.args.counts.now) c.side-edges.ensures

seam_lent : (c : After-counts_along-total) → side_seam c.args.breaks.now (counts_lent c) ≡ seam c
seam_lent c =
    let a = c.args in
    ap (side_seam a.breaks.now) (along c)
    ∙ sym (seam_by a.region.now a.counts.now a.k a.breaks.now (sym c.empty_pair.ensures ∙ c.if-empty_pair.false))

pub returns-then-total-ge-MAX_SEAM : goal.returns-then-total-ge-MAX_SEAM
returns-then-total-ge-MAX_SEAM c =
    let e = total_is (goal.at.returns-then-total-ge-MAX_SEAM c).After-counts_along-total in
    record { long = omega (arith, e); written = λ h. absurd (omega (arith, c.if-total-ge-MAX_SEAM.true, h)) }

pub side_seam-requires : goal.side_seam-requires
side_seam-requires c =
    let a = c.args in
    let at = (goal.at.side_seam-requires c).After-counts_along-total in
    let few = ap length (along at) ∙ length_along a.counts.now (side places a.region.now a.k) in
    let breaks = breaks_known a.region.now a.breaks.now a.k (sym c.empty_pair.ensures ∙ c.if-empty_pair.false) c.requires.passed.breaks_fit in
    let long = ap length (seam_lent at) in
    record {
      breaks_more = omega (arith, few, breaks);
      room = omega (arith, long, total_is at, c.requires.room, c.if-total-ge-MAX_SEAM.false);
    }

pub returns : goal.returns
returns c =
    let made = c.side_seam in
    let e = seam_lent (goal.at.returns c).After-counts_along-total in
    let long = made.ensures.value ∙ ap length e in
    record {
      long = long;
      written = λ h. ap (take made.result) (made.ensures.out_after ∙ ap (splice c.args.out.now 0) e)
          ∙ take_splice c.args.out.now _ made.result (sym long);
    }
