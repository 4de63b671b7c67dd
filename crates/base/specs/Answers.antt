-- 01's answers: "a curve point or a move's cost stands in the good case", else a refusal with its number and two places. A function answers
-- with a `Result` whose error is the `Refusal`, and `answered` gives 01's number, places and values of each of its cases. Assumes nothing.
use Rattle.std.specs.Prelude.{Result, Ok, Err}
use Rattle.base.specs.declared.refusal.Refusal.{Refusal}
use Rattle.base.specs.Refusal.{passed, verdict_of}
use Rattle.base.specs.declared.verdict.Verdict.{Verdict}

-- what stands in the good case, or the refusal
pub data Answer (A : Type 0) : Type 0 where
  good : A → Answer A
  turned_away : Verdict → Answer A

-- its number and places; number 0 in the good case
abbrev pub verdict : {A : Type 0} → Answer A → Verdict
verdict (good x) = passed
verdict (turned_away v) = v

-- 01's number, places and values of each case
abbrev pub answered : {A : Type 0} → Result A Refusal → Answer A
answered (Ok x) = good x
answered (Err r) = turned_away (verdict_of r)
