-- `quad::clear` meets its contract: the n values that are lent on are filled, and those past them stay. Assumes nothing.
use Rattle.std.proofs.Common.{◌≡◌, ◌∙◌, refl, ap, List, ◌∷◌, ◌++◌, ℕ, zero, suc, ◌+◌, ◌≤◌, length, take, drop, arith}
use lib.Ieee.{Float}
use lib.ListN.{replicate}
use lib.Seq.{length-take-le}
use Rattle.base.specs.Buffers.{tabulate, splice}
use Rattle.base.proofs.BufferLaws.{length_tabulate}
use Rattle.floats.specs.Scalar.{nought}
use Rattle.curves.specs.Quad.{zeros}
use Rattle.curves.proofs.quad.clear.Goals as goal

all_alike : (x : Float) (k n : ℕ) → replicate n x ≡ tabulate (λ (i : ℕ). x) k n
all_alike x k zero = refl
all_alike x k (suc n) = ap (λ (l : List Float). x ∷ l) (all_alike x (suc k) n)

cleared : (n : ℕ) (d xs : List Float) → n ≤ length d → xs ≡ replicate (length (take n d)) nought → xs ++ drop n d ≡ splice d 0 (zeros n)
cleared n d xs h e =
    let m : n ≡ 0 + length (zeros n) = omega (arith, length_tabulate (λ (i : ℕ). nought) 0 n) in
    ap (λ (l : List Float). l ++ drop n d) (e ∙ ap (λ (k : ℕ). replicate k nought) (length-take-le n d h) ∙ all_alike nought 0 n)
    ∙ ap (λ (k : ℕ). zeros n ++ drop k d) m

pub returns : goal.returns
returns c = cleared c.args.n c.args.out.now c.fill.new.self c.requires (c.fill.ensures.after (λ y h. h))
