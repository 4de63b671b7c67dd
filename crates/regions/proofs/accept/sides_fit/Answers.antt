-- `regions::accept::sides_fit` meets its contract. The loop goes side by side, so the definition is first put that way. Assumes nothing.
use Rattle.std.proofs.Common.{◌≡◌, ◌∙◌, sym, ap, ℕ, suc, ◌+◌, ◌-◌, ◌*◌, ◌/◌, ◌<◌, length, get_or, drop, arith}
use borrow.Author.Tests.{le-leb, lt-leb}
use Rattle.regions.specs.Region.{places, side_size, record_size}
use Rattle.regions.proofs.accept.Laws.{each_fits, sides_one_by_one, fits_next, fits_not}
use Rattle.regions.proofs.accept.sides_fit.Goals as goal

pub loop-s-init : goal.loop-s-init
loop-s-init c =
    let l = c.args.regions.now in
    let e : length l / record_size places * 4 ≡ length l / side_size places - 0 = omega arith in
    sides_one_by_one places (length l / record_size places) l ∙ ap (λ (k : ℕ). each_fits places k l) e

-- side s, and those behind it
one_more : (m s : ℕ) → s < m → m - s ≡ suc (m - (s + 1))
one_more m s h = omega arith

pub returns-then-regions-s-gt-PLACES : goal.returns-then-regions-s-gt-PLACES
returns-then-regions-s-gt-PLACES c =
    let l = c.args.regions.now in
    let s = c.loop-s.s in
    let m = length l / side_size places in
    let at = s * side_size places in
    sym
    (c.loop-s.invariant
    ∙ ap (λ (k : ℕ). each_fits places k (drop at l)) (one_more m s c.loop-s-test.true)
    ∙ fits_not places (m - (s + 1)) l at (lt-leb (get_or l at 0) places c.if-regions-s-gt-PLACES.true))

pub loop-s-preserved : goal.loop-s-preserved
loop-s-preserved c =
    let l = c.args.regions.now in
    let s = c.loop-s.s in
    let m = length l / side_size places in
    let at = s * side_size places in
    let e : at + side_size places ≡ (s + 1) * side_size places = omega arith in
    c.loop-s.invariant
    ∙ ap (λ (k : ℕ). each_fits places k (drop at l)) (one_more m s c.loop-s-test.true)
    ∙ fits_next places (m - (s + 1)) l at (le-leb (get_or l at 0) places c.if-regions-s-gt-PLACES.false)
    ∙ ap (λ (k : ℕ). each_fits places (m - (s + 1)) (drop k l)) e

pub returns : goal.returns
returns c =
    let l = c.args.regions.now in
    let s = c.loop-s.s in
    let m = length l / side_size places in
    let e : m - s ≡ 0 = omega arith in
    sym (c.loop-s.invariant ∙ ap (λ (k : ℕ). each_fits places k (drop (s * side_size places) l)) e)
