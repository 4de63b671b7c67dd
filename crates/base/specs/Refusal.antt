-- 01's table "Turned-away input": the number and the two places that each refusal returns, and tests made one after the other.
-- Assumes nothing.
use Rattle.std.specs.Prelude.{Bool, cond, ℕ, eqb, Result, Ok, Err}
use Rattle.base.specs.declared.refusal.Refusal.{Refusal}
use Rattle.base.specs.declared.refusal.Refusal.TheVariants.{
  Malformed,
  BadIdeal,
  EdgeOutOfRange,
  EdgeRepeated,
  EdgeOnBothSides,
  EdgeOverused,
  TooManyMoves,
  LengthsDiffer,
  CountTooLarge,
  LimitTooLarge,
  OutputTooShort,
  BadLoop,
  CurveTooShort,
  PointNotFinite,
  BadCurveLength,
  CurvesApart,
  CornersClockwise,
  SeamTooShort,
  SeamOutOfRange,
  SeamFalling,
  SeamEnds,
  SeamsUnequal,
  LinesParallel,
  CrossingOutside,
  BadQuadArea,
  NoCells,
  BreaksMismatch,
  RootUndefined,
  RangeReversed,
}
use Rattle.base.specs.declared.verdict.Verdict.{Verdict}

-- "A refusal returns its number and two places, 0 where none is named." Number 0 stands for no refusal.
abbrev pub passed : Verdict
passed = record { number = 0; first = 0; second = 0 }

abbrev pub refused : ℕ → ℕ → ℕ → Verdict
refused n p q = record { number = n; first = p; second = q }

-- the table's columns "No." and "places"
unfoldable pub verdict_of : Refusal → Verdict
verdict_of Malformed = refused 1 0 0
verdict_of (BadIdeal edge) = refused 2 edge 0
verdict_of (EdgeOutOfRange region side) = refused 3 region side
verdict_of (EdgeRepeated region side) = refused 4 region side
verdict_of (EdgeOnBothSides region side) = refused 5 region side
verdict_of (EdgeOverused edge) = refused 6 edge 0
verdict_of TooManyMoves = refused 7 0 0
verdict_of LengthsDiffer = refused 8 0 0
verdict_of (CountTooLarge edge) = refused 9 edge 0
verdict_of LimitTooLarge = refused 10 0 0
verdict_of OutputTooShort = refused 11 0 0
verdict_of BadLoop = refused 12 0 0
verdict_of (CurveTooShort curve) = refused 13 curve 0
verdict_of (PointNotFinite curve) = refused 14 curve 0
verdict_of (BadCurveLength curve) = refused 15 curve 0
verdict_of (CurvesApart corner) = refused 16 corner 0
verdict_of CornersClockwise = refused 17 0 0
verdict_of (SeamTooShort seam) = refused 18 seam 0
verdict_of (SeamOutOfRange seam index) = refused 19 seam index
verdict_of (SeamFalling seam index) = refused 20 seam index
verdict_of (SeamEnds seam) = refused 21 seam 0
verdict_of (SeamsUnequal pair) = refused 22 pair 0
verdict_of (LinesParallel i j) = refused 23 i j
verdict_of (CrossingOutside i j) = refused 24 i j
verdict_of (BadQuadArea i j) = refused 25 i j
verdict_of NoCells = refused 26 0 0
verdict_of (BreaksMismatch side) = refused 27 side 0
verdict_of RootUndefined = refused 28 0 0
verdict_of (RangeReversed edge) = refused 35 edge 0

-- the outcome of one test, or of a call that gives a value where it is accepted
abbrev pub outcome : {A : Type 0} → Result A Refusal → Verdict
outcome (Ok _) = passed
outcome (Err r) = verdict_of r

abbrev pub is_passed : Verdict → Bool
is_passed v = eqb v.number 0

-- 01's "Order": the first test that refuses
abbrev pub then_test : Verdict → Verdict → Verdict
then_test v w = cond (is_passed v) w v

abbrev pub refuse_if : Bool → Verdict → Verdict
refuse_if b v = cond b v passed
