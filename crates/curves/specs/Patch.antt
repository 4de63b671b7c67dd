-- 000's `lerp2` and `coons_point`: "the patch is Coons' formula: the two ruled patches added, the bilinear one taken off, rounded in 000's order". Assumes nothing.
use Rattle.std.specs.Prelude.{Float}
use Rattle.std.specs.Float.{binary64}
use Rattle.std.specs.Float.Ieee.{add, sub, mul}
use Rattle.floats.specs.Scalar.{nought, one}
use Rattle.curves.specs.CoonsFormula.{Operations, Curves, lerp, ruled_v, ruled_u, bilinear, coons, around}
use Rattle.curves.specs.Point.{point}
use Rattle.curves.specs.Curve.{curve_at}
use Rattle.curves.specs.Boundary.{BoundaryCurves}
use Rattle.curves.specs.declared.point.Point.{Point}

-- each operation rounded once, x and y alike
abbrev pub rounded : Operations Float Point
rounded = record {
  zero = nought;
  one = one;
  less = sub binary64;
  add = λ p q. point (add binary64 p.x q.x) (add binary64 p.y q.y);
  sub = λ p q. point (sub binary64 p.x q.x) (sub binary64 p.y q.y);
  scale = λ t p. point (mul binary64 t p.x) (mul binary64 t p.y);
}

-- the four curves, each as a function of its parameter
abbrev pub curves_of : BoundaryCurves → Curves Float Point
curves_of c = record { bottom = curve_at c.bottom; right = curve_at c.right; top = curve_at c.top; left = curve_at c.left }

unfoldable pub coons_point : BoundaryCurves → Float → Float → Point
unfolding add sub mul curve_at lerp ruled_v ruled_u bilinear coons
coons_point c = coons rounded (around rounded (curves_of c))

-- ---- the steps that the code makes it of

unfoldable pub lerp2 : Float → Point → Point → Point
unfolding add sub mul lerp
lerp2 = lerp rounded

-- one ruled patch and the other, less the bilinear one
unfoldable pub combined : Point → Point → Point → Point
unfolding add sub
combined p q r = rounded.sub (rounded.add p q) r
