-- `augment::changed_count` meets its contract, by the sign. Assumes nothing.
use mathlib.Core.Path.{sym, ap, subst, ◌∙◌}
use mathlib.Core.Bool.{Bool, ◌||◌}
use native.Mathlib.Numerals.{add-one}
use native.Mathlib.Omega.{arith}
use lib.Dec.{T, ltb, ltb→lt}
use Rattle.counts.specs.Move.{changed}
use Rattle.counts.proofs.augment.changed_count.Goals as goal

pub returns-then-plus : goal.returns-then-plus
returns-then-plus c = add-one c.args.s ∙ ap (λ (b : Bool). changed b c.args.s) (sym c.if-plus.true)

pub overflow_sub-result : goal.overflow_sub-result
overflow_sub-result c =
    let s = c.args.s in
    omega (arith, ltb→lt 0 s (subst (λ (b : Bool). T (b || ltb 0 s)) c.if-plus.false c.requires.down))

pub returns : goal.returns
returns c = ap (λ (b : Bool). changed b c.args.s) (sym c.if-plus.false)
