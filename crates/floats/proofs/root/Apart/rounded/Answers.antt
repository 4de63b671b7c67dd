-- `Apart::rounded` meets its contract. Assumes nothing.
use Prim.Native.Nat.{◌+◌, ◌*◌, ◌/◌, ◌%◌}
use native.Mathlib.Omega.{arith}
use Rattle.std.proofs.lemmas.Float.{not_nan_f64_bits}
use Rattle.floats.proofs.root.Assembled.{Keeps, keeps_rest, keeps_no_rest, rounded_bits}
use Rattle.floats.proofs.root.Apart.rounded.Goals as goal
use Rattle.floats.proofs.root.Apart.rounded.Goals.{Joined-self-gt0, then-self-gt0, else-self-gt0}

keeps : (c : Joined-self-gt0) → Keeps c.args.self.whole c.args.self.rest (c.args.self.whole / 2 + c.args.self.whole % 2 * c.if-self-gt0.up)
keeps c =
    let s = c.args.self.whole in
    let r = c.args.self.rest in
    elim c.if-self-gt0.branch [
      | then-self-gt0 w ↦ rw w.up-is (keeps_rest s r w.if-self-gt0.true)
      | else-self-gt0 w ↦ rw w.up-is (keeps_no_rest s r w.if-self-gt0.false)
    ]

pub float_from_bits-result : goal.float_from_bits-result
float_from_bits-result c = let k = keeps (goal.at.float_from_bits-result c).Joined-self-gt0 in not_nan_f64_bits _ (omega (arith, k.most))

pub returns : goal.returns
returns c =
    let a = c.args.self in
    rounded_bits a.exponent a.whole a.rest _ a.lead a.full (omega (arith, a.reach)) (keeps (goal.at.returns c).Joined-self-gt0)
