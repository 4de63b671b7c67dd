-- `components::renamed` meets its contract, by whether the label is the one that changes. Assumes nothing.
use mathlib.Core.Path.{sym}
use lib.Dec.{eqb, eqb→eq}
use Rattle.base.proofs.BoolLaws.{cond_yes, cond_no, eq→eqb}
use Rattle.counts.proofs.components.renamed.Goals as goal

pub returns-then-label-from : goal.returns-then-label-from
returns-then-label-from c = let s = c.args in sym (cond_yes (eqb s.label s.from) s.to s.label (eq→eqb s.label s.from c.if-label-from.true))

pub returns : goal.returns
returns c = let s = c.args in sym (cond_no (eqb s.label s.from) s.to s.label
    (λ t. c.if-label-from.false (eqb→eq s.label s.from t)))
