-- `Scaled::whole_root` meets its contract. Assumes nothing.
use Prim.Native.Nat.{ℕ, ◌*◌, ◌-◌, ◌/◌, ◌%◌, ◌^◌}
use native.Mathlib.Omega.{arith}
use Rattle.floats.proofs.root.Karatsuba.{Long, long, Mended, mended, few_square}
use Rattle.floats.proofs.root.Scaled.whole_root.Goals as goal
use Rattle.floats.proofs.root.Scaled.whole_root.Goals.{After-short_root-s, After-from-over}

abbrev quot : ℕ → ℕ → ℕ
quot n s = (n - s * s) * 2 ^ 27 / (s * 2)

abbrev left_over : ℕ → ℕ → ℕ
left_over n s = (n - s * s) * 2 ^ 27 % (s * 2)

-- what the long division gives
facts : (c : After-short_root-s) → (let n = c.args.self.n in let s = c.short_root-s.result in Long n s (quot n s) (left_over n s))
facts c = let self = c.args.self in long self.n c.short_root-s.result self.lead self.full c.short_root-s.ensures

after : (c : After-from-over) → (let n = c.args.self.n in let s = c.short_root-s.result in Mended n s (quot n s) (left_over n s) c.from-over.result)
after c = mended _ _ _ _ _ (facts (goal.at.After-from-over c).After-short_root-s) c.from-over.ensures

pub overflow_mul-q : goal.overflow_mul-q
overflow_mul-q c = let l = facts (goal.at.overflow_mul-q c).After-short_root-s in omega (arith, few_square _ l.few)

pub overflow_mul-rest : goal.overflow_mul-rest
overflow_mul-rest c = let l = facts (goal.at.overflow_mul-rest c).After-short_root-s in omega (arith, few_square _ l.few)

pub overflow_sub-rest : goal.overflow_sub-rest
overflow_sub-rest c = (after (goal.at.overflow_sub-rest c).After-from-over).room

pub returns : goal.returns
returns c = (after (goal.at.returns c).After-from-over).splits
