-- `Scaled::nearest` meets its contract. Assumes nothing.
use Prim.Native.Nat.{◌-◌, ◌*◌, ◌^◌}
use native.Mathlib.Omega.{arith}
use Rattle.floats.proofs.root.Quick.{quotient, to_nearest}
use Rattle.floats.proofs.root.Scaled.nearest.Goals as goal

pub returns : goal.returns
returns c =
    let n = c.args.self.n in
    let s = c.args.s in
    to_nearest n s _ _ _ (quotient n s (n * 2 ^ 10 - s * s) c.requires.0 (omega arith) c.if-left-s.false) c.if-u-lt8388608.false
