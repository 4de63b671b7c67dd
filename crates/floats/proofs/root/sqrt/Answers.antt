-- `root::sqrt` meets its contract. Assumes nothing.
use mathlib.Core.Path.{◌≡◌, sym, ap, ◌∙◌}
use native.Mathlib.Omega.{arith}
use denote.Floats.{passes}
use lib.Ieee.{binary64, to_bits}
use lib.Ieee.Bits.{of_bits-to_bits}
use Rattle.floats.specs.Root.{rounded, root}
use Rattle.floats.specs.inner.RootSteps.{apart_of}
use Rattle.floats.proofs.root.Special.{root_nan, root_zero, root_minus_zero, root_infinity, root_below, nan_constant, pattern_below}
use Rattle.floats.proofs.root.Correct.{root_above}
use Rattle.floats.proofs.root.Patterns.{positive_pattern}
use Rattle.floats.proofs.root.sqrt.Goals as goal
use Rattle.floats.proofs.root.sqrt.Goals.{Else-bits-eq0, then-bits-via-then-bits, then-bits-via-else-bits+then-bits-eq9218868437227405312}

pub returns-then-is_nan : goal.returns-then-is_nan
returns-then-is_nan c = root_nan c.args.x (sym c.if-is_nan.ensures.value)

pub returns-then-bits : goal.returns-then-bits
returns-then-bits c =
    let x = c.args.x in
    let h = passes _ c.well_formed.0.1 in
    elim c.then-bits.branch [
      | then-bits-via-then-bits w ↦ root_minus_zero x h w.if-bits.true
      | then-bits-via-else-bits+then-bits-eq9218868437227405312 w ↦ root_infinity x h w.if-bits-eq9218868437227405312.true
    ]

pub returns-then-e-ge2047 : goal.returns-then-e-ge2047
returns-then-e-ge2047 c =
    let x = c.args.x in
    let h = passes _ c.well_formed.0.1 in
    nan_constant ∙ root_below x h
    (pattern_below x h (sym c.if-is_nan.ensures.value) (omega arith) c.if-bits.false c.if-bits-eq9218868437227405312.false)

pub returns-then-bits-eq0 : goal.returns-then-bits-eq0
returns-then-bits-eq0 c = root_zero c.args.x (passes _ c.well_formed.0.1) c.if-bits-eq0.true

-- rounding the exact root of the operand gives its root
root_is : (c : Else-bits-eq0) → rounded binary64 (apart_of (to_bits binary64 c.args.x)) ≡ root binary64 c.args.x
root_is c =
    let x = c.args.x in
    let p = positive_pattern (to_bits binary64 x) (omega arith) (omega arith) in
    root_above binary64 _ p.held p.above ∙ ap (root binary64) (of_bits-to_bits binary64 x (passes _ c.well_formed.0.1))

pub returns-in-Some : goal.returns-in-Some
returns-in-Some c = c.in-Some.ensures ∙ root_is (goal.at.returns-in-Some c).Else-bits-eq0

pub returns-in-None : goal.returns-in-None
returns-in-None c = c.rounded.ensures ∙ ap (rounded binary64) c.take_apart.ensures ∙ root_is (goal.at.returns-in-None c).Else-bits-eq0
