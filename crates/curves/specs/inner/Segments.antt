-- A curve as its knots: what lets a hint stand for the halving, and a length that shows that a curve passes. Assumes nothing.
use Rattle.std.specs.Prelude.{◌≡◌, true, ℕ, ◌+◌, ◌%◌, ◌<◌, ◌≤◌, length, Float}
use Rattle.std.specs.Float.{binary64}
use Rattle.std.specs.Float.Ieee.{add, le, lt}
use Rattle.curves.specs.Point.{point}
use Rattle.curves.specs.Curve.{ArcCurve, distance, knot_count, length_at}
use Rattle.floats.specs.Scalar.{is_positive}
use Rattle.curves.specs.declared.point.Point.{Point}
use Rattle.curves.specs.declared.curve.Knot.{Knot}

-- the knot at the next point
abbrev pub next_knot : Knot → Point → Knot
next_knot k p = record { x = p.x; y = p.y; length = add binary64 k.length (distance (point k.x k.y) p) }

-- no length is above the next
abbrev pub Rising : ArcCurve → Type 0
Rising c = (i : ℕ) → i + 1 < knot_count c → le (length_at c i) (length_at c (i + 1)) ≡ true

-- one that can be asked with a hint: a number past the list is none, and then the lengths may be any
pub record Hinted (c : ArcCurve) (near : ℕ) : Type 0 where
  pub two : 2 ≤ knot_count c
  pub rising : near < length c → Rising c

-- the target lies in the segment k: no other one is found by halving, where the lengths rise
pub record InSegment (c : ArcCurve) (k : ℕ) (target : Float) : Type 0 where
  pub has_end : k + 1 < knot_count c
  pub from_start : le (length_at c k) target ≡ true
  pub below_end : lt target (length_at c (k + 1)) ≡ true

-- a length that is finite and above zero, of a curve with an even number of values
pub record SoundLength (total : Float) (values : ℕ) : Type 0 where
  pub positive : is_positive total ≡ true
  pub even : values % 2 ≡ 0
