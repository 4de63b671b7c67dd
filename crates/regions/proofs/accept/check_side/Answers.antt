-- `regions::accept::check_side` meets its contract. The loop's invariant: what is left of the test, with the edges before i as those seen,
-- is the whole test. Assumes nothing.
use Rattle.std.proofs.Common.{◌≡◌, ◌∙◌, sym, get_or, take, true, false}
use borrow.Author.Tests.{lt-ltb, le-ltb}
use Rattle.base.specs.Lists.{member}
use Rattle.base.specs.Refusal.{verdict_of}
use Rattle.base.proofs.Turns.{contains_is}
use Rattle.regions.proofs.accept.Laws.{side_out_of_range, side_repeated, side_next, side_end}
use Rattle.regions.proofs.accept.check_side.Goals as goal

pub returns-then-from-n : goal.returns-then-from-n
unfolding verdict_of
returns-then-from-n c =
    let a = c.args in
    let es = a.edges.now in
    let i = c.loop-i.i in
    sym (c.loop-i.invariant ∙ side_out_of_range a.n a.region a.side es i c.loop-i-test.true (le-ltb (get_or es i 0) a.n (rw c.from.ensures at c.if-from-n.true)))

pub returns-then-contains : goal.returns-then-contains
unfolding verdict_of
returns-then-contains c =
    let a = c.args in
    let es = a.edges.now in
    let i = c.loop-i.i in
    let seen : member (get_or es i 0) (take i es) ≡ true = sym (contains_is (get_or es i 0) (take i es)) ∙ sym c.contains.ensures.value ∙ c.if-contains.true in
    sym (c.loop-i.invariant ∙ side_repeated a.n a.region a.side es i c.loop-i-test.true (lt-ltb (get_or es i 0) a.n (rw c.from.ensures at c.if-from-n.false)) seen)

pub loop-i-preserved : goal.loop-i-preserved
loop-i-preserved c =
    let a = c.args in
    let es = a.edges.now in
    let i = c.loop-i.i in
    let new : member (get_or es i 0) (take i es) ≡ false = sym (contains_is (get_or es i 0) (take i es)) ∙ sym c.contains.ensures.value ∙ c.if-contains.false in
    c.loop-i.invariant ∙ side_next a.n a.region a.side es i c.loop-i-test.true (lt-ltb (get_or es i 0) a.n (rw c.from.ensures at c.if-from-n.false)) new

pub returns : goal.returns
returns c =
    let a = c.args in
    let es = a.edges.now in
    let i = c.loop-i.i in
    sym (c.loop-i.invariant ∙ side_end a.n a.region a.side (take i es) es i c.loop-i-test.false)
