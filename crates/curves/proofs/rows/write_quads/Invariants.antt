use Rattle.std.proofs.Common.{◌≡◌, Bool, true, List, ℕ}
use lib.Ieee.{Float}
use Rattle.base.specs.Refusal.{passed}
use Rattle.base.specs.Tests.{first_of}
use Rattle.curves.specs.inner.Rows.{cell_test}
use Rattle.curves.specs.declared.point.Point.{Point}
use Rattle.curves.proofs.rows.Laws.{QuadsTo}
use Rattle.curves.proofs.rows.write_quads.Given as goal

pub record Turn (low high : List Point) (from : ℕ) (out₀ out : List Float) (i : ℕ) (sound : Bool) : Type 0 where
  pub quads : QuadsTo low high from out₀ i out
  pub passes : sound ≡ true → (j : ℕ) → first_of (cell_test low high j) 0 i ≡ passed

abbrev pub invariant-loop-i : goal.invariant-loop-i
invariant-loop-i l = Turn l.low l.high l.from l.initial.out l.out l.i l.sound
