-- `grid::clear_refused` meets its contract. Assumes nothing.
use Rattle.std.proofs.Common.{◌≡◌, ◌∙◌, sym, ap, true, false, true≢false, Bool, cond, ℕ}
use Rattle.std.specs.Prelude.{Result, Ok, Err}
use Rattle.std.specs.Result.{is_err}
use Rattle.base.specs.declared.refusal.Refusal.{Refusal}
use Rattle.base.specs.Refusal.{outcome, is_passed}
use Rattle.base.specs.Buffers.{splice}
use Rattle.base.proofs.TestLaws.{refusal_number}
use Rattle.curves.specs.Quad.{zeros}
use Rattle.curves.specs.Grid.{needed}
use Rattle.curves.proofs.grid.clear_refused.Goals as goal

not_passed : {A : Type 0} (o : Result A Refusal) → is_err o ≡ true → is_passed (outcome o) ≡ false
not_passed (Ok x) e = absurd (true≢false (sym e))
not_passed (Err r) e = refusal_number r

pub returns-then-is_err : goal.returns-then-is_err
returns-then-is_err c =
    let out = c.args.out.now in
    let cleared = splice out 0 (zeros (needed c.args.layout c.args.n c.args.m)) in
    c.clear.ensures
    ∙ ap (λ (k : ℕ). splice out 0 (zeros k)) c.needed.ensures
    ∙ ap (λ (b : Bool). cond b out cleared) (sym (not_passed c.args.answer (sym c.is_err.ensures.value ∙ c.if-is_err.true)))
