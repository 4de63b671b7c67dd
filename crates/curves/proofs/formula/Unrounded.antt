-- The blend of two points rounds nothing at 0 and at 1, of coordinates that binary64 holds and that are neither NaN nor infinite nor -0. Assumes
-- nothing.
use mathlib.Core.Path.{◌≡◌}
use lib.Dec.{T}
use lib.Ieee.{binary64, fits}
use Rattle.floats.specs.Scalar.{nought, one}
use Rattle.floats.proofs.scalar.Blends.{ordinary, ordinary_finite, at_nought, at_one}
use Rattle.curves.specs.Patch.{lerp2}
use Rattle.curves.specs.declared.point.Point.{Point}

-- a point that binary64 holds
pub record Held (p : Point) : Type 0 where
  pub x : T (fits binary64 p.x)
  pub y : T (fits binary64 p.y)

pub record Ordinary (p : Point) : Type 0 where
  pub held : Held p
  pub x : T (ordinary p.x)
  pub y : T (ordinary p.y)

pub lerp2_nought : {a b : Point} → Ordinary a → Ordinary b → lerp2 nought a b ≡ a
unfolding lerp2
lerp2_nought {a = a} {b = b} p q = λ i. record {
  x = at_nought a.x b.x p.held.x p.x (ordinary_finite b.x q.x) i;
  y = at_nought a.y b.y p.held.y p.y (ordinary_finite b.y q.y) i;
}

pub lerp2_one : {a b : Point} → Ordinary a → Ordinary b → lerp2 one a b ≡ b
unfolding lerp2
lerp2_one {a = a} {b = b} p q = λ i. record {
  x = at_one a.x b.x q.held.x (ordinary_finite a.x p.x) q.x i;
  y = at_one a.y b.y q.held.y (ordinary_finite a.y p.y) q.y i;
}
